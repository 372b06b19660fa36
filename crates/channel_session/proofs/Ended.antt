-- The two calls that end a join.
use Rattle.std.proofs.Common.{◌≡◌, ℕ, List, [], ◌∷◌, false, true, Some, Result, Ok, Err, refl, subst}
use Rattle.phx_message.specs.declared.message.Message.{Message}
use Rattle.phx_message.specs.Making.{closing}
use Rattle.tracker_shard.specs.declared.shard.Sub.{Sub}
use Rattle.channel_rules.specs.declared.refusal.Refusal.{Refusal}
use Rattle.channel_rules.specs.Asks.{Ask, Answer, unsubscribe, untrack_all}
use Rattle.channel_rules.specs.Script.{ask, done}
use Rattle.channel_rules.specs.InForce.{InForce, Joined}
use Rattle.channel_rules.specs.Rules.{End, answers, says, ok, empty, rejoins, join_asked, ended, then_next, unsaid, on_leave, left}
use Rattle.channel_rules.specs.Said.{message}
use Rattle.channel_rules.specs.declared.asked.Asked.{Asked}
use Rattle.channel_rules.specs.Outcome.{Follows, GivesEnd, spoilt}
use Rattle.channel_session.specs.Joining.{Leads}
use Rattle.channel_rules.specs.declared.stop.Stop.{Stop}
use Rattle.channel_rules.proofs.Once.{at_once, once, more}

spoilt_same : (stop : Stop) → stop.spoiled ≡ true → spoilt (Err stop) ≡ Err stop
spoilt_same stop h = rw (← h) refl

spoilt_twice : (r : Result End Stop) → spoilt (spoilt r) ≡ spoilt r
spoilt_twice (Ok e) = refl
spoilt_twice (Err s) = refl

module _ {P : Type 0} (step : P → (q : Ask) → Answer q → P → Type 0) (topic : List ℕ) (sub : Sub) where
  pub first_refused : (e : Refusal) (stop : Stop) (old new : P)
      → step old (unsubscribe topic sub) (Err e) new → GivesEnd (unsaid e) true (Err stop) → Leads step topic sub old new (Err stop)
  first_refused e stop old new h g = λ next. once step (unsubscribe topic sub) (then_next (ask (untrack_all topic) (then_next next))) (Err e) (unsaid e) old new (Err stop) h refl refl g

  pub second_refused : (u : Unit {0}) (e : Refusal) (stop : Stop) (old mid new : P)
      → step old (unsubscribe topic sub) (Ok u) mid → step mid (untrack_all topic) (Err e) new → GivesEnd (unsaid e) true (Err stop) → Leads step topic sub old new (Err stop)
  second_refused u e stop old mid new h h2 g = λ next.
      let second : Follows step (ask (untrack_all topic) (then_next next)) mid new (Err stop) = once step (untrack_all topic) (then_next next) (Err e) (unsaid e) mid new (Err stop) h2 refl refl g in
      subst (λ (r : Result End Stop). Follows step (ended topic sub next) old new r) (spoilt_same stop g.1)
      (more step (unsubscribe topic sub) (then_next (ask (untrack_all topic) (then_next next))) (Ok u) old mid new (Err stop) h refl refl second)

  pub both_accepted : (u v : Unit {0}) (old mid new : P)
      → step old (unsubscribe topic sub) (Ok u) mid → step mid (untrack_all topic) (Ok v) new → Leads step topic sub old new (Ok tt)
  both_accepted u v old mid new h h2 = λ next last r f.
      let second : Follows step (ask (untrack_all topic) (then_next next)) mid last (spoilt r) = more step (untrack_all topic) (then_next next) (Ok v) mid new last r h2 refl refl f in
      subst (λ (q : Result End Stop). Follows step (ended topic sub next) old last q) (spoilt_twice r)
      (more step (unsubscribe topic sub) (then_next (ask (untrack_all topic) (then_next next))) (Ok u) old mid last (spoilt r) h refl refl second)

pub leaves_so : {P : Type 0} (step : P → (q : Ask) → Answer q → P → Type 0) (j : Joined) (m : Message) (s after : InForce) (u : Unit {0}) (given : End) (old new : P)
    → Leads step m.topic j.sub old new (Ok u) → after ≡ left s m.topic
    → given ≡ answers (message (ok j.join_ref m empty) ∷ message (closing j.join_ref m.topic) ∷ []) after
    → Follows step (on_leave s (Some j) m) old new (Ok given)
leaves_so step j m s after u given old new l is h =
    let end : given ≡ answers (message (ok j.join_ref m empty) ∷ message (closing j.join_ref m.topic) ∷ []) (left s m.topic) = rw (← is) h in
    rw end (l (done (says (ok j.join_ref m empty ∷ closing j.join_ref m.topic ∷ []) (left s m.topic))) new (Ok (says (ok j.join_ref m empty ∷ closing j.join_ref m.topic ∷ []) (left s m.topic))) (at_once step _ new _ refl))

pub rejoins_so : {P : Type 0} (step : P → (q : Ask) → Answer q → P → Type 0) (count : ℕ) (j : Joined) (kind : ℕ) (s : InForce) (m : Message) (u : Unit {0}) (close : Message) (asks wanted : Asked) (old mid new : P) (r : Result End Stop)
    → Leads step m.topic j.sub old mid (Ok u) → close ≡ closing j.join_ref m.topic → asks ≡ wanted
    → Follows step (join_asked count false (message close ∷ []) kind s m asks) mid new r → Follows step (rejoins count j kind s m wanted) old new (spoilt r)
rejoins_so step count j kind s m u close asks wanted old mid new r l h1 h2 f = l _ new r (rw (h1, h2) at f)
