-- What a message leaves in force, whatever the port answers: the topics that it asks out are gone, and its join is there where it was answered ok.
use Rattle.std.proofs.Common.{◌≡◌, ◌-◌, ◌&&◌, ◌||◌, ℕ, Bool, true, false, not, cond, nat_le, length, List, [], ◌∷◌, ◌++◌, Option, Some, None, Result, Ok, Err, codes, refl, sym, ◌∙◌, ap, subst, append-nil}
use Rattle.std.specs.List.{AllByRecursion, filter}
use Rattle.std.specs.Str.{bytes_eq}
use Rattle.std.proofs.lemmas.List.Folds.{list_any-append}
use Rattle.std.proofs.lemmas.Slice.Eq.{bytes_eq-Decides}
use Rattle.serde_json.specs.Data.{Data}
use Rattle.presence_base.specs.Order.{same_text}
use Rattle.presence_base.specs.declared.dots.Dot.{Dot}
use Rattle.phx_message.specs.Making.{closing}
use Rattle.phx_message.specs.declared.message.Message.{Message}
use Rattle.phx_message.specs.declared.message.MsgRef.{MsgRef}
use Rattle.hook_registry.specs.Routes.{first_kind}
use Rattle.presence_journal.proofs.Same.{same_text-true}
use Rattle.channel_rules.specs.declared.refusal.Refusal.{Refusal}
use Rattle.tracker_shard.specs.declared.fault.ShardFault.TheVariants as shard_faults_are
use Rattle.channel_rules.specs.declared.refusal.Refusal.TheVariants.{Table}
use Rattle.tracker_shard.specs.declared.shard.Sub.{Sub}
use Rattle.channel_rules.specs.Asked.{asked, key_asked}
use Rattle.channel_rules.specs.Asks.{Answer, Call, untrack_all, subscribe}
use Rattle.channel_rules.specs.InForce.{Joined, InForce, find, without_topic}
use Rattle.channel_rules.specs.Rules.{End, answers, full, memory, says, ok, error, empty, told_ref, full_reason, subscribe_reason, track_reason, update_reason, unsaid, said, replied, on_event, on_topic, on_track, on_update, on_untrack, on_get, ended, on_leave, on_heartbeat, after_subscribe, subscribes, then_subscribe, join_asked, on_join, left, joins, join_ref_of, refuses, is_phoenix, by_route, route_of, topic_event_of, kind_of, by_kind, rules, then_next}
use Rattle.channel_rules.specs.Said.{Said, message, listed, plainly}
use Rattle.channel_rules.specs.Script.{Script, done, ask, Plays}
use Rattle.channel_rules.specs.declared.asked.Asked.{Asked}
use Rattle.channel_rules.specs.declared.asked.Asked.TheVariants.{Nothing, Bad, Wants}
use Rattle.channel_rules.specs.declared.topics.TheConstants.{MAX_TOPICS}
use Rattle.channel_rules.specs.declared.kind.EventKind.{EventKind}
use Rattle.channel_rules.specs.declared.kind.EventKind.TheVariants as kinds_are
use Rattle.channel_rules.specs.declared.kind.TopicEvent.{TopicEvent}
use Rattle.channel_rules.specs.declared.kind.TopicEvent.TheVariants as events_are
use Rattle.session_laws.specs.Keeping.{AreApart}
use Rattle.session_laws.specs.Turns.{heard, is_join, is_leave, is_ok_reply, answered_ok, given_or, sub_given, joined_as, joined_by}
use Rattle.session_laws.proofs.KeptAsks.{IsOf, all_others, all_more, without_all, gone, apart_without, apart_more}

-- ---- what scripts lead to

-- whatever is answered, this holds of the end and of the subscriber that was given
abbrev pub Leads : (Option Sub → End → Type 0) → Script End → Type 0
Leads Q (done e) = Q None e
Leads Q (ask q next) = (a : Answer q) → Leads (λ o e. Q (given_or q a o) e) (next a)

pub leads_to : (Q : Option Sub → End → Type 0) (script : Script End) → Leads Q script → (calls : List Call) (e : End) → Plays script calls e → Q (sub_given calls) e
leads_to Q (done x) l [] e p = subst (Q None) p l
leads_to Q (done x) l (c ∷ calls) e p = absurd p
leads_to Q (ask q next) l [] e p = absurd p
leads_to Q (ask q next) l (c ∷ calls) e p =
    subst (λ (x : Call). Q (given_or x.ask x.answer (sub_given calls)) e) (sym p.1) (leads_to (λ o f. Q (given_or q p.0 o) f) (next p.0) (l p.0) calls e p.2)

-- this holds of what is answered
abbrev pub Answered : (Option Sub → List Said → InForce → Type 0) → Option Sub → End → Type 0
Answered A o (answers said t) = A o said t
Answered A o full = Unit {0}
Answered A o memory = Unit {0}

answered_weaker : (A B : Option Sub → List Said → InForce → Type 0) → ((o : Option Sub) (said : List Said) (t : InForce) → A o said t → B o said t) → (o : Option Sub) (e : End) → Answered A o e → Answered B o e
answered_weaker A B f o (answers said t) h = f o said t h
answered_weaker A B f o full h = tt
answered_weaker A B f o memory h = tt

leads_weaker : (P Q : Option Sub → End → Type 0) → ((o : Option Sub) (e : End) → P o e → Q o e) → (script : Script End) → Leads P script → Leads Q script
leads_weaker P Q f (done e) l = f None e l
leads_weaker P Q f (ask q next) l = λ a. leads_weaker (λ o e. P (given_or q a o) e) (λ o e. Q (given_or q a o) e) (λ o e. f (given_or q a o) e) (next a) (l a)

module _ (A : Option Sub → List Said → InForce → Type 0) where
  pub unsaid_leads : (o : Option Sub) (e : Refusal) → Answered A o (unsaid e)
  unsaid_leads o (Table shard_faults_are.OutOfMemory) = tt
  unsaid_leads o _ = tt

  said_leads : (o : Option Sub) (answer : List ℕ → End) (e : Refusal) → ((t : List ℕ) → Answered A o (answer t)) → (r : Option (List ℕ)) → Answered A o (said answer e r)
  said_leads o answer e f (Some t) = f t
  said_leads o answer e f None = unsaid_leads o e

  next_leads : (next : Script End) → Leads (Answered A) next → (a : Result (Unit {0}) Refusal) → Leads (Answered A) (then_next next a)
  next_leads next l (Ok u) = l
  next_leads next l (Err e) = unsaid_leads None e

  -- both calls that end a join give no subscriber
  ended_leads : (topic : List ℕ) (sub : Sub) (next : Script End) → Leads (Answered A) next → Leads (Answered A) (ended topic sub next)
  ended_leads topic sub next l = λ a. next_leads (ask (untrack_all topic) (then_next next)) (λ b. next_leads next l b) a

  -- A join is refused, or accepted with the subscriber that was given.
  module _ (before : List Said) (kind : ℕ) (s : InForce) (m : Message) (refused : (reason : List ℕ) → A None (before ++ message (error (join_ref_of m) m reason) ∷ []) s) (accepted : (response : Data) (sub : Sub) → A (Some sub) (before ++ message (ok (join_ref_of m) m response) ∷ []) (joins kind s m sub)) where
    subscribed_leads : (first : Option Bool) (response : Data) (a : Result Sub Refusal) → Answered A (given_or (subscribe m.topic) a None) (after_subscribe first before kind s m response a)
    subscribed_leads first response (Ok sub) = accepted response sub
    subscribed_leads first response (Err e) = said_leads None (refuses before s m) e refused (subscribe_reason first e)

    subscribes_leads : (first : Option Bool) (response : Data) → Leads (Answered A) (subscribes first before kind s m response)
    subscribes_leads first response = λ a. subscribed_leads first response a

    tracked_leads : (first : Bool) (a : Result Dot Refusal) → Leads (Answered A) (then_subscribe first before kind s m a)
    tracked_leads first (Ok d) = subscribes_leads None (told_ref d)
    tracked_leads first (Err e) = said_leads None (refuses before s m) e refused (track_reason first e)

    within_leads : (b : Bool) (next : Script End) → Leads (Answered A) next → Leads (Answered A) (cond b (done (refuses before s m (codes "too many topics"))) next)
    within_leads true next l = refused (codes "too many topics")
    within_leads false next l = l

    join_leads : (count : ℕ) (first : Bool) (a : Asked) → Leads (Answered A) (join_asked count first before kind s m a)
    join_leads count first Bad = refused (codes "bad payload")
    join_leads count first Nothing = within_leads (nat_le MAX_TOPICS count) _ (subscribes_leads (Some first) empty)
    join_leads count first (Wants key meta) = within_leads (nat_le MAX_TOPICS count) _ (λ a. tracked_leads first a)

-- ---- events leave the session as it was

abbrev pub Same : InForce → Option Sub → List Said → InForce → Type 0
Same s o said t = t ≡ s

abbrev pub Keeps : InForce → Script End → Type 0
Keeps s script = Leads (Answered (Same s)) script

replied_keeps : {A : Type 0} (s : InForce) (r : Option MsgRef) (m : Message) (reason : Refusal → Option (List ℕ)) (reply : A → List Said) (a : Result A Refusal) → Answered (Same s) None (replied s r m reason reply a)
replied_keeps s r m reason reply (Ok x) = refl
replied_keeps s r m reason reply (Err e) = said_leads (Same s) None (λ t. says (error r m t ∷ []) s) e (λ t. refl) (reason e)

track_keeps : (s : InForce) (r : Option MsgRef) (m : Message) (a : Asked) → Keeps s (on_track s r m a)
track_keeps s r m Nothing = refl
track_keeps s r m Bad = refl
track_keeps s r m (Wants key meta) = λ a. replied_keeps s r m (track_reason true) (λ d. message (ok r m (told_ref d)) ∷ []) a

update_keeps : (s : InForce) (r : Option MsgRef) (m : Message) (a : Asked) → Keeps s (on_update s r m a)
update_keeps s r m Nothing = refl
update_keeps s r m Bad = refl
update_keeps s r m (Wants key meta) = λ a. replied_keeps s r m update_reason (λ d. message (ok r m (told_ref d)) ∷ []) a

untrack_keeps : (s : InForce) (r : Option MsgRef) (m : Message) (key : Option (List ℕ)) → Keeps s (on_untrack s r m key)
untrack_keeps s r m None = refl
untrack_keeps s r m (Some key) = λ a. replied_keeps s r m (full_reason true) (λ u. message (ok r m empty) ∷ []) a

get_keeps : (kind : ℕ) (s : InForce) (r : Option MsgRef) (m : Message) (key : Option (List ℕ)) → Keeps s (on_get kind s r m key)
get_keeps kind s r m None = refl
get_keeps kind s r m (Some key) = λ a. replied_keeps s r m (full_reason true) (λ rows. listed kind r m rows ∷ []) a

event_keeps : (kind : ℕ) (s : InForce) (r : Option MsgRef) (m : Message) (event : TopicEvent) → Keeps s (on_event kind s r m event)
event_keeps kind s r m events_are.Ping = refl
event_keeps kind s r m events_are.Shout = λ a. replied_keeps s r m (full_reason true) (λ u. []) a
event_keeps kind s r m events_are.Track = track_keeps s r m (asked m.payload)
event_keeps kind s r m events_are.Update = update_keeps s r m (asked m.payload)
event_keeps kind s r m events_are.Untrack = untrack_keeps s r m (key_asked m.payload)
event_keeps kind s r m events_are.List = λ a. replied_keeps s r m (full_reason true) (λ rows. listed kind r m rows ∷ []) a
event_keeps kind s r m events_are.Get = get_keeps kind s r m (key_asked m.payload)
event_keeps kind s r m events_are.Unknown = refl

topic_keeps : (s : InForce) (j : Option Joined) (m : Message) (event : TopicEvent) → Keeps s (on_topic s j m event)
topic_keeps s None m event = refl
topic_keeps s (Some j) m event = event_keeps j.kind s j.join_ref m event

heartbeat_keeps : (phoenix : Bool) (x y : Script End) (s : InForce) → Keeps s x → Keeps s y → Keeps s (cond phoenix x y)
heartbeat_keeps true x y s k l = k
heartbeat_keeps false x y s k l = l

-- ---- lists of joins

-- each but those of the topic
abbrev pub others : List ℕ → List Joined → List Joined
others t js = filter (λ j. not (same_text t j.topic)) js

pub all_kept : (js : List Joined) → filter (λ j. true) js ≡ js
all_kept [] = refl
all_kept (j ∷ js) = ap (λ ks. j ∷ ks) (all_kept js)

others_all : (t : List ℕ) (js : List Joined) → AllByRecursion (IsOf t) js → others t js ≡ js
others_all t [] h = refl
others_all t (j ∷ js) h = (λ i. cond (not (h.0 i)) (j ∷ others t js) (others t js)) ∙ ap (λ ks. j ∷ ks) (others_all t js h.1)

-- a topic that isn't there
absent_others : (t : List ℕ) (js : List Joined) → find t js ≡ None → others t js ≡ js
absent_others t js e = others_all t js (all_others t js e)

without_others : (t : List ℕ) (js : List Joined) → AreApart js → without_topic t js ≡ others t js
without_others t [] h = refl
without_others t (j ∷ js) h = go (same_text t j.topic) refl (without_others t js h.1)
  where
    go : (b : Bool) → same_text t j.topic ≡ b → without_topic t js ≡ others t js → cond b js (j ∷ without_topic t js) ≡ cond (not b) (j ∷ others t js) (others t js)
    go true p rest = sym (absent_others t js (ap (λ u. find u js) (same_text-true t j.topic p) ∙ h.0))
    go false p rest = ap (λ ks. j ∷ ks) rest

-- ---- what is in force has a kind, and each topic once

abbrev IsRouted : List (List ℕ × ℕ) → Joined → Type 0
IsRouted routes j = route_of (is_phoenix j.topic) routes j.topic ≡ Some j.kind

pub record Ordered (routes : List (List ℕ × ℕ)) (js : List Joined) : Type 0 where
  pub apart : AreApart js
  pub routed : AllByRecursion (IsRouted routes) js

pub none_ordered : (routes : List (List ℕ × ℕ)) → Ordered routes []
none_ordered routes = record { apart = tt; routed = tt }

ordered_without : (routes : List (List ℕ × ℕ)) (t : List ℕ) (js : List Joined) → Ordered routes js → Ordered routes (without_topic t js)
ordered_without routes t js h = record { apart = apart_without t js h.apart; routed = without_all (IsRouted routes) t js h.routed }

ordered_more : (routes : List (List ℕ × ℕ)) (js : List Joined) (j : Joined) → Ordered routes js → find j.topic js ≡ None → IsRouted routes j → Ordered routes (js ++ j ∷ [])
ordered_more routes js j h none is = record { apart = apart_more js j h.apart none; routed = all_more (IsRouted routes) js j h.routed is }

some_none : (kind : ℕ) → ◌≡◌ {A = Option ℕ} (Some kind) None → ⊥
some_none kind e = cc

false_true : false ≡ true → ⊥
false_true e = cc

-- a topic without a kind isn't there
unrouted_absent : (routes : List (List ℕ × ℕ)) (t : List ℕ) → route_of (is_phoenix t) routes t ≡ None → (js : List Joined) → AllByRecursion (IsRouted routes) js → find t js ≡ None
unrouted_absent routes t e [] h = refl
unrouted_absent routes t e (j ∷ js) h = go (same_text t j.topic) refl (unrouted_absent routes t e js h.1)
  where
    go : (b : Bool) → same_text t j.topic ≡ b → find t js ≡ None → cond b (Some j) (find t js) ≡ None
    go true p rest = absurd (some_none j.kind (sym h.0 ∙ (ap (λ u. route_of (is_phoenix u) routes u) (sym (same_text-true t j.topic p)) ∙ e)))
    go false p rest = rest

kind_routed : (phoenix : Bool) (o : Option ℕ) (kind : ℕ) → cond phoenix None o ≡ Some kind → o ≡ Some kind
kind_routed true o kind e = absurd (some_none kind (sym e))
kind_routed false o kind e = e

-- ---- a message

-- With these answers to what it asks: joins or leaves, the message leaves this.
pub record LeavesBy (routes : List (List ℕ × ℕ)) (m : Message) (s : InForce) (join leave : Bool) (o : Option Sub) (said : List Said) (t : InForce) : Type 0 where
  pub joined : t.joined ≡ filter (λ j. not ((join || leave) && same_text m.topic j.topic)) s.joined ++ cond (join && answered_ok said) (joined_as (first_kind m.topic routes) o m) []
  pub ordered : Ordered routes t.joined

-- one more word that was said is what tells it
answered_with : (before : List Said) (x : Said) (b : Bool) → answered_ok before ≡ false → (is_ok_reply (plainly x) || false) ≡ b → answered_ok (before ++ x ∷ []) ≡ b
answered_with before x b quiet e = list_any-append (λ y. is_ok_reply (plainly y)) before (x ∷ []) ∙ (ap (λ c. c || (is_ok_reply (plainly x) || false)) quiet ∙ e)

module _ (routes : List (List ℕ × ℕ)) (m : Message) (s : InForce) (st : Ordered routes s.joined) where
  same_leaves : (o : Option Sub) (said : List Said) (t : InForce) → t ≡ s → LeavesBy routes m s false false o said t
  same_leaves o said t e = record {
    joined = ap (λ (x : InForce). x.joined) e ∙ (sym (all_kept s.joined) ∙ sym (append-nil (filter (λ j. true) s.joined)));
    ordered = subst (λ (x : InForce). Ordered routes x.joined) (sym e) st;
  }

  others_leave : (script : Script End) → Keeps s script → Leads (Answered (LeavesBy routes m s false false)) script
  others_leave script k = leads_weaker (Answered (Same s)) (Answered (LeavesBy routes m s false false)) (answered_weaker (Same s) (LeavesBy routes m s false false) same_leaves) script k

  -- the others and no more
  no_more : (js : List Joined) → js ≡ others m.topic s.joined → js ≡ others m.topic s.joined ++ []
  no_more js e = e ∙ sym (append-nil (others m.topic s.joined))

  leave_leads : (j : Option Joined) → find m.topic s.joined ≡ j → Leads (Answered (LeavesBy routes m s false true)) (on_leave s j m)
  leave_leads None is = record { joined = no_more s.joined (sym (absent_others m.topic s.joined is)); ordered = st }
  leave_leads (Some j) is = ended_leads (LeavesBy routes m s false true) m.topic j.sub (done (says (ok j.join_ref m empty ∷ closing j.join_ref m.topic ∷ []) (left s m.topic))) (record {
    joined = no_more (without_topic m.topic s.joined) (without_others m.topic s.joined st.apart);
    ordered = ordered_without routes m.topic s.joined st;
  })

  module _ (kind : ℕ) (is : route_of (is_phoenix m.topic) routes m.topic ≡ Some kind) where
    -- the join where nothing of its topic is there, behind what said no ok
    here_leads : (before : List Said) → answered_ok before ≡ false → (u : InForce) → u.joined ≡ others m.topic s.joined → Ordered routes u.joined → find m.topic u.joined ≡ None
        → (count : ℕ) (first : Bool) (a : Asked) → Leads (Answered (LeavesBy routes m s true false)) (join_asked count first before kind u m a)
    here_leads before quiet u same now none = join_leads (LeavesBy routes m s true false) before kind u m
        (λ reason. record {
          joined = no_more u.joined same ∙ ap (λ b. others m.topic s.joined ++ cond b (joined_as (first_kind m.topic routes) None m) [])
              (sym (answered_with before (message (error (join_ref_of m) m reason)) false quiet refl));
          ordered = now;
        })
        (λ response sub. record {
          joined = ap (λ js. js ++ one sub ∷ []) same ∙ ap (λ js. others m.topic s.joined ++ js)
              (sym (ap (λ b. cond b (joined_as (first_kind m.topic routes) (Some sub) m) []) (answered_with before (message (ok (join_ref_of m) m response)) true quiet refl)
              ∙ ap (λ k. joined_as k (Some sub) m) (kind_routed (is_phoenix m.topic) (first_kind m.topic routes) kind is)));
          ordered = ordered_more routes u.joined (one sub) now none is;
        })
      where
        one : Sub → Joined
        one sub = record { topic = m.topic; kind = kind; join_ref = join_ref_of m; sub = sub }

    join_leaves : (count : ℕ) (j : Option Joined) → find m.topic s.joined ≡ j → (a : Asked) → Leads (Answered (LeavesBy routes m s true false)) (on_join count kind s j m a)
    join_leaves count None none a = here_leads [] refl s (sym (absent_others m.topic s.joined none)) st none count true a
    join_leaves count (Some j) here a =
        ended_leads (LeavesBy routes m s true false) m.topic j.sub _
        (here_leads (message (closing j.join_ref m.topic) ∷ []) refl (left s m.topic) (without_others m.topic s.joined st.apart)
        (ordered_without routes m.topic s.joined st) (gone m.topic s.joined st.apart) (count - 1) false a)

  route_leads : (count : ℕ) (j : Option Joined) → find m.topic s.joined ≡ j → (route : Option ℕ) → route_of (is_phoenix m.topic) routes m.topic ≡ route → Leads (Answered (LeavesBy routes m s true false)) (by_route count s j m route)
  route_leads count j here None is = record {
    joined = no_more s.joined (sym (absent_others m.topic s.joined (unrouted_absent routes m.topic is s.joined st.routed)));
    ordered = st;
  }
  route_leads count j here (Some kind) is = join_leaves kind is count j here (asked m.payload)

-- ---- the kind of an event tells whether it joins or leaves

abbrev KindIs : EventKind → Bool → Bool → Type 0
KindIs kinds_are.Heartbeat join leave = (false ≡ join) × (false ≡ leave)
KindIs kinds_are.Join join leave = (true ≡ join) × (false ≡ leave)
KindIs kinds_are.Leave join leave = (false ≡ join) × (true ≡ leave)
KindIs (kinds_are.Topic event) join leave = (false ≡ join) × (false ≡ leave)

-- of equal events one test has one answer
test_of : (event word other : List ℕ) (b : Bool) → bytes_eq event word ≡ true → bytes_eq event other ≡ b → bytes_eq word other ≡ b
test_of event word other b e f = ap (λ x. bytes_eq x other) (sym ((bytes_eq-Decides event word).0 e)) ∙ f

kind_is : (event : List ℕ) → KindIs (kind_of event) (bytes_eq event (codes "phx_join")) (bytes_eq event (codes "phx_leave"))
kind_is event = go (bytes_eq event (codes "heartbeat")) (bytes_eq event (codes "phx_join")) (bytes_eq event (codes "phx_leave")) refl refl refl
  where
    go : (b join leave : Bool) → bytes_eq event (codes "heartbeat") ≡ b → bytes_eq event (codes "phx_join") ≡ join → bytes_eq event (codes "phx_leave") ≡ leave
        → KindIs (cond b kinds_are.Heartbeat (cond join kinds_are.Join (cond leave kinds_are.Leave (kinds_are.Topic (topic_event_of event))))) join leave
    go true join leave e f g = (test_of event (codes "heartbeat") (codes "phx_join") join e f, test_of event (codes "heartbeat") (codes "phx_leave") leave e g)
    go false true leave e f g = (refl, test_of event (codes "phx_join") (codes "phx_leave") leave f g)
    go false false true e f g = (refl, refl)
    go false false false e f g = (refl, refl)

module _ (routes : List (List ℕ × ℕ)) (m : Message) (s : InForce) (st : Ordered routes s.joined) where
  abbrev Leaving : Script End → Bool → Bool → Type 0
  Leaving script join leave = Leads (Answered (LeavesBy routes m s join leave)) script

  leaving_at : (script : Script End) (join leave is_joining is_leaving : Bool) → (join ≡ is_joining) × (leave ≡ is_leaving) → Leaving script join leave → Leaving script is_joining is_leaving
  leaving_at script join leave is_joining is_leaving e l = subst (λ b. Leaving script b is_leaving) e.0 (subst (Leaving script join) e.1 l)

  abbrev At : EventKind → Script End
  At k = by_kind (is_phoenix m.topic) (route_of (is_phoenix m.topic) routes m.topic) (length s.joined) s (find m.topic s.joined) m k

  kind_leads : (k : EventKind) (join leave : Bool) → KindIs k join leave → Leaving (At k) join leave
  kind_leads kinds_are.Heartbeat join leave is =
      leaving_at (At kinds_are.Heartbeat) false false join leave is
      (others_leave routes m s st (At kinds_are.Heartbeat)
      (heartbeat_keeps (is_phoenix m.topic) (on_heartbeat s m) (on_topic s (find m.topic s.joined) m events_are.Unknown) s refl (topic_keeps s (find m.topic s.joined) m events_are.Unknown)))
  kind_leads kinds_are.Join join leave is =
      leaving_at (At kinds_are.Join) true false join leave is (route_leads routes m s st (length s.joined) (find m.topic s.joined) refl (route_of (is_phoenix m.topic) routes m.topic) refl)
  kind_leads kinds_are.Leave join leave is = leaving_at (At kinds_are.Leave) false true join leave is (leave_leads routes m s st (find m.topic s.joined) refl)
  kind_leads (kinds_are.Topic event) join leave is =
      leaving_at (At (kinds_are.Topic event)) false false join leave is (others_leave routes m s st (At (kinds_are.Topic event)) (topic_keeps s (find m.topic s.joined) m event))

  rules_lead : Leaving (rules routes s m) (is_join m) (is_leave m)
  unfolding rules
  rules_lead = kind_leads (kind_of m.event) (is_join m) (is_leave m) (kind_is m.event)

  pub message_leaves : (calls : List Call) (said : List Said) (t : InForce) → Plays (rules routes s m) calls (answers said t) → LeavesBy routes m s (is_join m) (is_leave m) (sub_given calls) said t
  message_leaves calls said t p = leads_to (Answered (LeavesBy routes m s (is_join m) (is_leave m))) (rules routes s m) rules_lead calls (answers said t) p

-- ---- a join that was answered ok

-- The topic has a kind, and a subscriber was given.
abbrev IsGiven : List (List ℕ × ℕ) → Message → Option Sub → List Said → InForce → Type 0
IsGiven routes m o said t = answered_ok said ≡ true → (j : Joined) × (joined_as (first_kind m.topic routes) o m ≡ j ∷ [])

module _ (routes : List (List ℕ × ℕ)) (m : Message) where
  -- what says no ok
  not_given : (o : Option Sub) (said : List Said) (t : InForce) → answered_ok said ≡ false → IsGiven routes m o said t
  not_given o said t quiet e = absurd (false_true (sym quiet ∙ e))

  module _ (kind : ℕ) (is : first_kind m.topic routes ≡ Some kind) where
    asked_gives : (before : List Said) → answered_ok before ≡ false → (s : InForce) (count : ℕ) (first : Bool) (a : Asked) → Leads (Answered (IsGiven routes m)) (join_asked count first before kind s m a)
    asked_gives before quiet s = join_leads (IsGiven routes m) before kind s m
        (λ reason. not_given None (before ++ message (error (join_ref_of m) m reason) ∷ []) s (answered_with before (message (error (join_ref_of m) m reason)) false quiet refl))
        (λ response sub e. (record { topic = m.topic; kind = kind; join_ref = join_ref_of m; sub = sub }, ap (λ k. joined_as k (Some sub) m) is))

    join_gives : (s : InForce) (count : ℕ) (j : Option Joined) (a : Asked) → Leads (Answered (IsGiven routes m)) (on_join count kind s j m a)
    join_gives s count None a = asked_gives [] refl s count true a
    join_gives s count (Some j) a =
        ended_leads (IsGiven routes m) m.topic j.sub _ (asked_gives (message (closing j.join_ref m.topic) ∷ []) refl (left s m.topic) (count - 1) false a)

  route_gives : (s : InForce) (count : ℕ) (j : Option Joined) (route : Option ℕ) → route_of (is_phoenix m.topic) routes m.topic ≡ route → Leads (Answered (IsGiven routes m)) (by_route count s j m route)
  route_gives s count j None is = not_given None (message (error m.join_ref m (codes "unmatched topic")) ∷ []) s refl
  route_gives s count j (Some kind) is = join_gives kind (kind_routed (is_phoenix m.topic) (first_kind m.topic routes) kind is) s count j (asked m.payload)

  join_kind : is_join m ≡ true → kind_of m.event ≡ kinds_are.Join
  join_kind e = ap kind_of ((bytes_eq-Decides m.event (codes "phx_join")).0 e)

  rules_give : (s : InForce) → is_join m ≡ true → Leads (Answered (IsGiven routes m)) (rules routes s m)
  unfolding rules
  rules_give s e =
      subst (λ k. Leads (Answered (IsGiven routes m)) (by_kind (is_phoenix m.topic) (route_of (is_phoenix m.topic) routes m.topic) (length s.joined) s (find m.topic s.joined) m k))
      (sym (join_kind e)) (route_gives s (length s.joined) (find m.topic s.joined) (route_of (is_phoenix m.topic) routes m.topic) refl)

  both_true : (a b : Bool) → (a && b) ≡ true → (a ≡ true) × (b ≡ true)
  both_true true b e = (refl, e)
  both_true false b e = absurd (false_true e)

  pub join_given : (s : InForce) (calls : List Call) (said : List Said) (t : InForce) → Plays (rules routes s m) calls (answers said t) → (is_join m && answered_ok said) ≡ true
      → (j : Joined) × (joined_by routes (heard m calls said) ≡ j ∷ [])
  join_given s calls said t p e =
      let both = both_true (is_join m) (answered_ok said) e in
      let given = leads_to (Answered (IsGiven routes m)) (rules routes s m) (rules_give s both.0) calls (answers said t) p both.1 in
      (given.0, ap (λ b. cond b (joined_as (first_kind m.topic routes) (sub_given calls) m) []) e ∙ given.1)
