-- What a message leaves of the session.
use Rattle.std.proofs.Common.{◌≡◌, ℕ, List, [], ◌∷◌, ◌++◌, ◌-◌, Bool, true, false, length, Option, Some, None, Result, Ok, codes, ◌∙◌}
use Rattle.serde_json.specs.Data.{Members}
use Rattle.phx_message.specs.declared.message.Message.{Message}
use Rattle.phx_message.specs.declared.message.MsgRef.{MsgRef}
use Rattle.tracker_shard.specs.declared.shard.Sub.{Sub}
use Rattle.channel_rules.specs.Asks.{Ask, Answer}
use Rattle.channel_rules.specs.InForce.{InForce, Joined, without_topic}
use Rattle.channel_rules.specs.Rules.{End, answers, join_ref_of, join_asked, rejoins, left, on_leave, on_topic, says_ok, says_error, empty, unmatched, join_at, join_rule, leave_rule, kind_rule}
use Rattle.channel_rules.specs.InForce.{added}
use Rattle.channel_session.specs.Joining.{joined_by}
use Rattle.channel_rules.specs.Outcome.{Follows}
use Rattle.channel_rules.specs.Replies.{Acts, ActsBy, RepliesWith}
use Rattle.channel_rules.specs.Said.{message, Worded}
use Rattle.channel_rules.specs.declared.asked.Asked.{Asked}
use Rattle.channel_rules.specs.declared.kind.EventKind.{EventKind}
use Rattle.channel_rules.specs.declared.kind.EventKind.TheVariants as kinds_are
use Rattle.channel_rules.specs.declared.kind.TopicEvent.{TopicEvent}
use Rattle.channel_rules.specs.declared.replies.Reply.{Reply}
use Rattle.channel_rules.specs.declared.stop.Stop.{Stop}
use Rattle.channel_rules.proofs.Saying.{acted, replied_acted}

-- the session but for its topics
pub record Same (s after : InForce) : Type 0 where
  pub pid : after.pid ≡ s.pid
  pub failed : after.failed ≡ s.failed
  pub cut_short : after.cut_short ≡ s.cut_short

pub equal_sessions : (s after : InForce) → Same s after → after.joined ≡ s.joined → after ≡ s
equal_sessions s after h j = λ i. record { pid = h.pid i; failed = h.failed i; joined = j i; cut_short = h.cut_short i }

pub left_so : (s after : InForce) (t : List ℕ) → Same s after → after.joined ≡ without_topic t s.joined → after ≡ left s t
left_so s after t h j = λ i. record { pid = h.pid i; failed = h.failed i; joined = j i; cut_short = h.cut_short i }

pub joined_so : (s after : InForce) (m : Message) (t : List ℕ) (kind : ℕ) (r : Option MsgRef) (sub : Option Sub) → Same s after → t ≡ m.topic → r ≡ join_ref_of m → after.joined ≡ added s.joined t kind r sub → after ≡ joined_by kind s m sub
joined_so s after m t kind r None h e f j = equal_sessions s after h j
joined_so s after m t kind r (Some sub) h e f j =
    let k : after.joined ≡ s.joined ++ record { topic = m.topic; kind = kind; join_ref = join_ref_of m; sub = sub } ∷ [] = j ∙ (λ i. s.joined ++ record { topic = e i; kind = kind; join_ref = f i; sub = sub } ∷ []) in
    λ i. record { pid = h.pid i; failed = h.failed i; joined = k i; cut_short = h.cut_short i }

module _ {P : Type 0} (steps : ℕ → P → (q : Ask) → Answer q → P → Type 0) (s : InForce) (m : Message) (a : Asked) (kind pid count : ℕ) (pid_is : pid ≡ s.pid) (count_is : count ≡ length s.joined) where
  pub join_script : (old new : P) (r : Result End Stop) → Follows (steps pid) (join_asked count true [] kind s m a) old new r → Follows (steps s.pid) (join_asked (length s.joined) true [] kind s m a) old new r
  join_script old new r f = rw (pid_is, count_is) at f

  pub join_ran : (after : InForce) (t : List ℕ) (r : Option MsgRef) (sub : Option Sub) (reply : Message) (old new : P) → Same s after → t ≡ m.topic → r ≡ join_ref_of m → after.joined ≡ added s.joined t kind r sub
      → Follows (steps pid) (join_asked count true [] kind s m a) old new (Ok (answers (message reply ∷ []) (joined_by kind s m sub)))
      → Follows (steps s.pid) (join_asked (length s.joined) true [] kind s m a) old new (Ok (answers (message reply ∷ []) after))
  join_ran after t r sub reply old new h e f j g = rw (joined_so s after m t kind r sub h e f j) (join_script old new _ g)

module _ {P : Type 0} (steps : ℕ → P → (q : Ask) → Answer q → P → Type 0) (s : InForce) (m : Message) (a : Asked) (kind pid others : ℕ) (pid_is : pid ≡ s.pid) (others_is : others ≡ length s.joined - 1) where
  pub rejoin_script : (j : Joined) (old new : P) (r : Result End Stop) → Follows (steps pid) (rejoins others j kind (left s m.topic) m a) old new r → Follows (steps s.pid) (rejoins (length s.joined - 1) j kind (left s m.topic) m a) old new r
  rejoin_script j old new r f = rw (pid_is, others_is) at f

  pub rejoin_ran : (j : Joined) (after : InForce) (t : List ℕ) (r : Option MsgRef) (sub : Option Sub) (close reply : Message) (old new : P) → Same s after → t ≡ m.topic → r ≡ join_ref_of m → after.joined ≡ added (without_topic m.topic s.joined) t kind r sub
      → Follows (steps pid) (rejoins others j kind (left s m.topic) m a) old new (Ok (answers (message close ∷ message reply ∷ []) (joined_by kind (left s m.topic) m sub)))
      → Follows (steps s.pid) (rejoins (length s.joined - 1) j kind (left s m.topic) m a) old new (Ok (answers (message close ∷ message reply ∷ []) after))
  rejoin_ran j after t r sub close reply old new h e f k g =
      let same : Same (left s m.topic) after = record { pid = h.pid; failed = h.failed; cut_short = h.cut_short } in
      rw (joined_so (left s m.topic) after m t kind r sub same e f k) (rejoin_script j old new _ g)

pub leave_script : {P : Type 0} (steps : ℕ → P → (q : Ask) → Answer q → P → Type 0) (s : InForce) (m : Message) (pid : ℕ) → pid ≡ s.pid → (j : Joined) (old new : P) (r : Result End Stop)
    → Follows (steps pid) (on_leave s (Some j) m) old new r → Follows (steps s.pid) (on_leave s (Some j) m) old new r
leave_script steps s m pid pid_is j old new r f = rw pid_is at f

-- ---- rules whose replies are of their own messages

module _ (fetched : ℕ → List ℕ → List ℕ → Members → Type 0) (plain : Bool) {P : Type 0} (step : P → (q : Ask) → Answer q → P → Type 0) (s : InForce) (m : Message) (old : P) (r : Result Reply Stop) where
  unmatched_so : RepliesWith (says_error m.join_ref m (codes "unmatched topic")) false r → ActsBy (Worded fetched plain) step (unmatched s m) old old s r
  unmatched_so h = replied_acted fetched plain step (says_error m.join_ref m (codes "unmatched topic")) s old r h

  pub unmatched_acted : (event : TopicEvent) (j : Option Joined) → j ≡ None → RepliesWith (says_error m.join_ref m (codes "unmatched topic")) false r → ActsBy (Worded fetched plain) step (on_topic s j m event) old old s r
  unmatched_acted event j is h = rw is (unmatched_so h)

  module _ (phoenix : Bool) (route : Option ℕ) (event : EventKind) where
    pub heartbeat_acted : event ≡ kinds_are.Heartbeat → phoenix ≡ true → RepliesWith (says_ok None m empty) false r → ActsBy (Worded fetched plain) step (kind_rule phoenix route s m event) old old s r
    heartbeat_acted e b h = rw (e, b) (replied_acted fetched plain step (says_ok None m empty) s old r h)

    pub no_route_acted : event ≡ kinds_are.Join → route ≡ None → RepliesWith (says_error m.join_ref m (codes "unmatched topic")) false r → ActsBy (Worded fetched plain) step (kind_rule phoenix route s m event) old old s r
    no_route_acted e q h = rw (e, q) (unmatched_so h)

    pub join_acted : (kind : ℕ) (new : P) (after : InForce) → event ≡ kinds_are.Join → route ≡ Some kind → Acts step (join_rule kind s (join_at s m) m) old new after r → ActsBy (Worded fetched plain) step (kind_rule phoenix route s m event) old new after r
    join_acted kind new after e q h = rw (e, q) (acted fetched plain step (join_rule kind s (join_at s m) m) old new after r h)

    pub leave_acted : (new : P) (after : InForce) → event ≡ kinds_are.Leave → Acts step (leave_rule s (join_at s m) m) old new after r → ActsBy (Worded fetched plain) step (kind_rule phoenix route s m event) old new after r
    leave_acted new after e h = rw e (acted fetched plain step (leave_rule s (join_at s m) m) old new after r h)
