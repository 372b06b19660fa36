-- A session names each topic on which a row of its own stands: behind a text, a delivery and an end.
use Rattle.std.proofs.Common.{◌≡◌, ◌++◌, ℕ, Bool, true, false, cond, not, ◌&&◌, ◌||◌, List, [], ◌∷◌, Option, Some, None, Result, Ok, Err, is_ok, refl, sym, ap, ◌∙◌, subst, inl, inr}
use Rattle.std.specs.Prelude.{nat_le, ◌^◌, ◌-◌, length, map as each, option_to_list, codes, if◌then◌else◌}
use Rattle.serde_json.specs.Data.{Data}
use Rattle.presence_base.specs.declared.dots.Dot.{Dot}
use Rattle.presence_base.specs.Order.{same_text}
use Rattle.phx_message.specs.declared.message.MsgRef.{MsgRef}
use Rattle.phx_message.specs.declared.message.Message.{Message}
use Rattle.phx_message.specs.Making.{closing}
use Rattle.presence_journal.specs.History.{History}
use Rattle.presence_journal.specs.Laws.{OnlyNamedLeave}
use Rattle.presence_journal.proofs.Same.{same_text-true, same_text-refl}
use Rattle.tracker_shard.specs.declared.shard.Sub.{Sub}
use Rattle.channel_rules.specs.declared.refusal.Refusal.{Refusal}
use Rattle.channel_rules.specs.declared.refusal.Refusal.TheVariants.{OverRation, NotGranted, Table}
use Rattle.tracker_shard.specs.declared.fault.ShardFault.TheVariants.{AlreadyTracked, NoPresence, ClockFull, JournalFull, NoSub, BadIncarnation, OutOfMemory}
use Rattle.channel_rules.specs.declared.asked.Asked.{Asked}
use Rattle.channel_rules.specs.declared.asked.Asked.TheVariants.{Nothing, Bad, Wants}
use Rattle.channel_rules.specs.declared.kind.EventKind.{EventKind}
use Rattle.channel_rules.specs.declared.kind.EventKind.TheVariants as kinds_are
use Rattle.channel_rules.specs.declared.kind.TopicEvent.{TopicEvent}
use Rattle.channel_rules.specs.declared.kind.TopicEvent.TheVariants as events_are
use Rattle.channel_rules.specs.Asked.{asked, key_asked}
use Rattle.channel_rules.specs.Asks.{Ask, Answer, Call, spoils, some_spoils, track, update, untrack, untrack_all, list, get, subscribe, take, unsubscribe, waits, shout, Made as Chained}
use Rattle.channel_rules.specs.InForce.{Joined, InForce, find, without_topic}
use Rattle.channel_rules.specs.Rules
use Rattle.channel_rules.specs.Rules.{End, answers, full, memory, said, unsaid, full_reason, track_reason, update_reason, replied, refuses, subscribes, tracks, within, join_asked, on_join, on_leave, ended, left, on_event, on_topic, by_kind, rules, join_at, is_phoenix, route_of, kind_of, joins, then_next}
use Rattle.channel_rules.specs.Said.{Said, message, listed}
use Rattle.channel_rules.specs.declared.topics.TheConstants.{MAX_TOPICS}
use Rattle.channel_rules.specs.Script.{Script, done, ask, Plays, Begins}
use Rattle.channel_rules.specs.Delivering.{delivers, then_take, then_told}
use Rattle.presence_stdio.specs.Local.{LocalStep}
use Rattle.channel_session.specs.Ending.{topics_named, Ended, Leaving, ends, ends_topics, ends_cut_short, then_topics, then_rows, staying, left_with}
use Rattle.channel_session.specs.Delivery.{failing, CutShort, delivery}
use Rattle.session_laws.specs.LeftBehind.{is_named}
use Rattle.session_laws.specs.Naming.{NamesItsTopics, TextsKeepNames, DeliveriesKeepNames, EndsKeepNames}
use Rattle.channel_session.specs.Ran.{left_named, failed_at, Faulted, Untouched, MessageRan}
use Rattle.channel_session.specs.declared.fault.SessionFault.{SessionFault}
use Rattle.channel_session.specs.declared.fault.SessionFault.TheVariants as faults
use Rattle.channel_session.specs.declared.fault.SessionFault.TheVariants.{BadMessage, ShardFull, Failed}
use Rattle.channel_rules.specs.Outcome.{EndsSo, Stopped, MayWant}
use Rattle.channel_rules.specs.declared.stop.Stop.{Stop}
use Rattle.channel_rules.specs.declared.stop.StopKind.{StopKind}
use Rattle.channel_rules.specs.declared.stop.StopKind.TheVariants as kinds
use Rattle.presence_journal.specs.Table.{is_mine}
use Rattle.session_laws.proofs.Calls.{Kept, kept_within, and_at, and_not, Within, after_call, Fits, call_keeps}

-- ---- truth values

and_first : (a b : Bool) → (a && b) ≡ true → a ≡ true
and_first true b e = refl
and_first false b e = absurd (cc)

or_none : (a b : Bool) → (a || b) ≡ false → a ≡ false
or_none true b e = absurd (cc)
or_none false b e = refl

or_rest : (a b : Bool) → (a || b) ≡ false → b ≡ false
or_rest true b e = absurd (cc)
or_rest false b e = e

pub or_either : (a b c : Bool) → (a ≡ true → c ≡ true) → (b ≡ true → c ≡ true) → (a || b) ≡ true → c ≡ true
or_either true b c f g e = f refl
or_either false b c f g e = g e

or_truth : (b : Bool) → (b || true) ≡ true
or_truth true = refl
or_truth false = refl

or_behind : (a b : Bool) → b ≡ true → (a || b) ≡ true
or_behind a b e = ap (λ c. a || c) e ∙ or_truth a

pub or_group : (a b c : Bool) → (a || (b || c)) ≡ ((a || b) || c)
or_group true b c = refl
or_group false b c = refl

or_last : (a b c : Bool) → (b || (a || c)) ≡ true → ((a || (b || false)) || c) ≡ true
or_last true b c e = refl
or_last false true c e = refl
or_last false false c e = e

or_first_of : (a b : Bool) → (a || false) ≡ true → (a || b) ≡ true
or_first_of true b e = refl
or_first_of false b e = absurd (cc)

-- in another order
pub or_swap : (a b c : Bool) → (b || (a || c)) ≡ ((a || b) || c)
or_swap true true c = refl
or_swap true false c = refl
or_swap false b c = refl

or_turn : (a b : Bool) → (a || b) ≡ true → (b || (a || false)) ≡ true
or_turn true true e = refl
or_turn true false e = refl
or_turn false true e = refl
or_turn false false e = absurd (cc)

or_turn_back : (a b : Bool) → (a || (b || false)) ≡ true → (b || a) ≡ true
or_turn_back true true e = refl
or_turn_back true false e = refl
or_turn_back false true e = refl
or_turn_back false false e = absurd (cc)

or_drop : (a b : Bool) → b ≡ false → (a || (b || false)) ≡ true → (false || a) ≡ true
or_drop true b f e = refl
or_drop false true f e = absurd (cc)
or_drop false false f e = absurd (cc)

or_nothing : (a : Bool) → (a || false) ≡ true → (false || a) ≡ true
or_nothing true e = refl
or_nothing false e = absurd (cc)

pub or_without : (a b c : Bool) → b ≡ false → (a || (b || c)) ≡ true → (a || c) ≡ true
or_without true b c f e = refl
or_without false true c f e = absurd (cc)
or_without false false c f e = e

pub and_other : (a b : Bool) → (a && not b) ≡ true → b ≡ false
and_other true true e = absurd (cc)
and_other true false e = refl
and_other false b e = absurd (cc)

unlike : (b : Bool) → b ≡ true → b ≡ false → ⊥
unlike b p q = cc

-- a topic like one that is among them is among them
at_topic : (f : List ℕ → Bool) {t : List ℕ} → f t ≡ true → (u : List ℕ) → u ≡ t → Within (and_at u f) f
at_topic f {t} here u e x w = or_either (same_text x u) (f x) (f x) (λ s. ap f (same_text-true x u s ∙ e) ∙ here) (λ g. g) w

-- ---- scripts

-- Whatever is answered, each call of the script is such a one, and at its end the test holds of the topics on which rows may stand then.
abbrev pub Leads : {E : Type 0} → (Ask → Type 0) → ((List ℕ → Bool) → E → Type 0) → (List ℕ → Bool) → Script E → Type 0
Leads F Q f (done e) = Q f e
Leads F Q f (ask q next) = F q × ((a : Answer q) → Leads F Q (after_call f q a) (next a))

-- what a script that leads so leaves
pub record Led {E : Type 0} (pid : ℕ) (Q : (List ℕ → Bool) → E → Type 0) (new : History) (e : E) : Type 0 where
  pub topics : List ℕ → Bool
  pub kept : Kept pid topics new
  pub ends : Q topics e

call_stays : (f : List ℕ → Bool) (pid : ℕ) (q : Ask) (a : Answer q) → spoils q a ≡ false → (h : History) → Kept pid (after_call f q a) h → Kept pid f h
call_stays f pid (track u k m) (Ok d) e h kept = absurd (cc)
call_stays f pid (track u k m) (Err x) e h kept = kept
call_stays f pid (update u k m) (Ok d) e h kept = absurd (cc)
call_stays f pid (update u k m) (Err x) e h kept = kept
call_stays f pid (untrack u k) a e h kept = kept
call_stays f pid (untrack_all u) a e h kept = absurd (cc)
call_stays f pid (list u) a e h kept = kept
call_stays f pid (get u k) a e h kept = kept
call_stays f pid (subscribe u) a e h kept = kept
call_stays f pid (take u s n) a e h kept = kept
call_stays f pid (unsubscribe u s) a e h kept = kept
call_stays f pid (waits u s) a e h kept = kept
call_stays f pid (shout u d) a e h kept = kept

-- what a call that fits a topic leaves, where rows may stand there anyhow
pub call_within : (t : List ℕ) (f : List ℕ → Bool) → f t ≡ true → (q : Ask) (a : Answer q) → Fits t q → Within (after_call f q a) f
call_within t f here (track u k m) (Ok d) fits x e = at_topic f here u fits x e
call_within t f here (track u k m) (Err y) fits x e = e
call_within t f here (update u k m) (Ok d) fits x e = at_topic f here u fits x e
call_within t f here (update u k m) (Err y) fits x e = e
call_within t f here (untrack u k) a fits x e = e
call_within t f here (untrack_all u) (Ok y) fits x e = and_first (f x) (not (same_text x u)) e
call_within t f here (untrack_all u) (Err y) fits x e = e
call_within t f here (list u) a fits x e = e
call_within t f here (get u k) a fits x e = e
call_within t f here (subscribe u) a fits x e = e
call_within t f here (take u s n) a fits x e = e
call_within t f here (unsubscribe u s) a fits x e = e
call_within t f here (waits u s) a fits x e = e
call_within t f here (shout u d) a fits x e = e

module _ (leave : OnlyNamedLeave) (pid : ℕ) (low : nat_le pid (2 ^ 62) ≡ true) (t : List ℕ) (F : Ask → Type 0) (fits : (q : Ask) → F q → Fits t q) where
  call_of : (f : List ℕ → Bool) (old mid : History) (q : Ask) (c : Call) (a : Answer q) → c ≡ record { ask = q; answer = a } → LocalStep pid old c.ask c.answer mid → F q → Kept pid f old → Kept pid (after_call f q a) mid
  call_of f old mid q c a e s is k = call_keeps leave pid low t f old mid q a (fits q is) k (subst (λ x. LocalStep pid old x.ask x.answer mid) e s)

  pub script_leads : {E : Type 0} (Q : (List ℕ → Bool) → E → Type 0) (script : Script E) (f : List ℕ → Bool) (old new : History) (e : E) → Leads F Q f script → Kept pid f old → (cs : List Call) → Chained (LocalStep pid) old cs new → Plays script cs e → Led pid Q new e
  script_leads Q (done x) f old new e l k [] m p = record { topics = f; kept = subst (λ h. Kept pid f h) (sym m) k; ends = subst (Q f) p l }
  script_leads Q (done x) f old new e l k (c ∷ cs) m p = absurd p
  script_leads Q (ask q next) f old new e l k [] m p = absurd p
  script_leads Q (ask q next) f old new e l k (c ∷ cs) m p =
      script_leads Q (next p.0) (after_call f q p.0) m.0 new e (l.1 p.0) (call_of f old m.0 q c p.0 p.1 m.1 l.0 k) cs m.2 p.2

  -- the first calls of a script, where a fault cut it short
  pub first_calls : {E : Type 0} (Q : (List ℕ → Bool) → E → Type 0) (Rest : Script E → Type 0) (script : Script E) (f g : List ℕ → Bool) → ((q : Ask) (a : Answer q) → F q → Within (after_call g q a) g) → (old new : History) → Leads F Q f script → Kept pid g old → (cs : List Call) → Chained (LocalStep pid) old cs new → Begins Rest script cs → Kept pid g new
  first_calls Q Rest script f g here old new l k [] m b = subst (λ h. Kept pid g h) (sym m) k
  first_calls Q Rest (done x) f g here old new l k (c ∷ cs) m b = absurd b
  first_calls Q Rest (ask q next) f g here old new l k (c ∷ cs) m b =
      first_calls Q Rest (next b.0) (after_call f q b.0) g here m.0 new (l.1 b.0)
      (kept_within pid (after_call g q b.0) g m.0 (here q b.0 l.0) (call_of g old m.0 q c b.0 b.1 m.1 l.0 k)) cs m.2 b.2

  -- and where none of them left something behind
  pub first_calls_stay : {E : Type 0} (Q : (List ℕ → Bool) → E → Type 0) (Rest : Script E → Type 0) (script : Script E) (f g : List ℕ → Bool) (old new : History) → Leads F Q f script → Kept pid g old → (cs : List Call) → some_spoils cs ≡ false → Chained (LocalStep pid) old cs new → Begins Rest script cs → Kept pid g new
  first_calls_stay Q Rest script f g old new l k [] s m b = subst (λ h. Kept pid g h) (sym m) k
  first_calls_stay Q Rest (done x) f g old new l k (c ∷ cs) s m b = absurd b
  first_calls_stay Q Rest (ask q next) f g old new l k (c ∷ cs) s m b =
      first_calls_stay Q Rest (next b.0) (after_call f q b.0) g m.0 new (l.1 b.0)
      (call_stays g pid q b.0 (sym (ap (λ x. spoils x.ask x.answer) b.1) ∙ or_none (spoils c.ask c.answer) (some_spoils cs) s) m.0 (call_of g old m.0 q c b.0 b.1 m.1 l.0 k))
      cs (or_rest (spoils c.ask c.answer) (some_spoils cs) s) m.2 b.2

-- calls that come to an end are first calls
pub plays_begin : {E : Type 0} (script : Script E) (cs : List Call) (e : E) → Plays script cs e → Begins (λ _. Unit {0}) script cs
plays_begin (done x) [] e p = tt
plays_begin (done x) (c ∷ cs) e p = absurd p
plays_begin (ask q next) [] e p = absurd p
plays_begin (ask q next) (c ∷ cs) e p = (p.0, p.1, plays_begin (next p.0) cs e p.2)

-- ---- names

abbrev topics : List Joined → List (List ℕ)
topics js = each (λ j. j.topic) js

abbrev names : InForce → List ℕ → Bool
names s x = is_named x (topics_named s)

named_more : (x : List ℕ) (ts us : List (List ℕ)) → is_named x (ts ++ us) ≡ (is_named x ts || is_named x us)
named_more x [] us = refl
named_more x (t ∷ ts) us = ap (λ b. same_text x t || b) (named_more x ts us) ∙ or_group (same_text x t) (is_named x ts) (is_named x us)

named_joined : (x : List ℕ) (js ks : List Joined) → is_named x (topics (js ++ ks)) ≡ (is_named x (topics js) || is_named x (topics ks))
named_joined x [] ks = refl
named_joined x (j ∷ js) ks = ap (λ b. same_text x j.topic || b) (named_joined x js ks) ∙ or_group (same_text x j.topic) (is_named x (topics js)) (is_named x (topics ks))

-- a topic with its join
join_names : (s after : InForce) (t : List ℕ) (j : Joined) → j.topic ≡ t → after.joined ≡ s.joined ++ j ∷ [] → after.cut_short ≡ s.cut_short → Within (and_at t (names s)) (names after)
join_names s after t j is joined cut x w =
    named_more x (topics after.joined) (option_to_list after.cut_short)
    ∙ (λ i. is_named x (topics (joined i)) || is_named x (option_to_list (cut i)))
    ∙ ap (λ b. b || is_named x (option_to_list s.cut_short)) (named_joined x s.joined (j ∷ []) ∙ ap (λ u. is_named x (topics s.joined) || (same_text x u || false)) is)
    ∙ or_last (is_named x (topics s.joined)) (same_text x t) (is_named x (option_to_list s.cut_short)) (ap (λ b. same_text x t || b) (sym (named_more x (topics s.joined) (option_to_list s.cut_short))) ∙ w)

found_named : (t : List ℕ) (js : List Joined) (k : Joined) → find t js ≡ Some k → is_named t (topics js) ≡ true
found_named t [] k e = absurd (cc)
found_named t (j ∷ js) k e = go (same_text t j.topic) (λ f. found_named t js k f) e
  where
    go : (b : Bool) → (find t js ≡ Some k → is_named t (topics js) ≡ true) → (if b then Some j else find t js) ≡ Some k → (b || is_named t (topics js)) ≡ true
    go true f e = refl
    go false f e = f e

-- the topics without one
stay_named : (x t : List ℕ) (js : List Joined) → same_text x t ≡ false → is_named x (topics js) ≡ true → is_named x (topics (without_topic t js)) ≡ true
stay_named x t [] other e = absurd (cc)
stay_named x t (j ∷ js) other e = go (same_text t j.topic) refl (λ f. stay_named x t js other f) e
  where
    go : (b : Bool) → same_text t j.topic ≡ b → (is_named x (topics js) ≡ true → is_named x (topics (without_topic t js)) ≡ true) → (same_text x j.topic || is_named x (topics js)) ≡ true → is_named x (topics (if b then js else j ∷ without_topic t js)) ≡ true
    go true q later e = or_either (same_text x j.topic) (is_named x (topics js)) (is_named x (topics js)) (λ f. absurd (unlike (same_text x j.topic) f (ap (same_text x) (sym (same_text-true t j.topic q)) ∙ other))) (λ f. f) e
    go false q later e = or_either (same_text x j.topic) (is_named x (topics js)) (same_text x j.topic || is_named x (topics (without_topic t js))) (λ f. ap (λ b. b || is_named x (topics (without_topic t js))) f) (λ f. ap (λ b. same_text x j.topic || b) (later f) ∙ or_truth (same_text x j.topic)) e

left_names : (s : InForce) (t : List ℕ) → Within (and_not t (names s)) (names (left s t))
left_names s t x w =
    named_more x (topics (without_topic t s.joined)) (option_to_list s.cut_short)
    ∙ or_either (is_named x (topics s.joined)) (is_named x (option_to_list s.cut_short)) (is_named x (topics (without_topic t s.joined)) || is_named x (option_to_list s.cut_short))
    (λ f. ap (λ b. b || is_named x (option_to_list s.cut_short)) (stay_named x t s.joined (and_other (names s x) (same_text x t) w) f))
    (λ f. ap (λ b. is_named x (topics (without_topic t s.joined)) || b) f ∙ or_truth (is_named x (topics (without_topic t s.joined))))
    (sym (named_more x (topics s.joined) (option_to_list s.cut_short)) ∙ and_first (names s x) (not (same_text x t)) w)

-- ---- the rules

-- at the end of a text's calls: the session is the same but for its topics, which name those on which rows may stand
abbrev TextEnds : InForce → (List ℕ → Bool) → End → Type 0
TextEnds o f (answers said after) = (after.pid ≡ o.pid) × (after.cut_short ≡ o.cut_short) × Within f (names after)
TextEnds o f full = Unit {0}
TextEnds o f memory = Unit {0}

abbrev IsLike : InForce → (List ℕ → Bool) → InForce → Type 0
IsLike o f s = (s.pid ≡ o.pid) × (s.cut_short ≡ o.cut_short) × Within f (names s)

module _ (o : InForce) (m : Message) where
  abbrev L : (List ℕ → Bool) → Script End → Type 0
  L f x = Leads (Fits m.topic) (TextEnds o) f x

  unsaid_ends : (f : List ℕ → Bool) (e : Refusal) → TextEnds o f (unsaid e)
  unsaid_ends f (Table AlreadyTracked) = tt
  unsaid_ends f (Table NoPresence) = tt
  unsaid_ends f (Table ClockFull) = tt
  unsaid_ends f (Table JournalFull) = tt
  unsaid_ends f (Table NoSub) = tt
  unsaid_ends f (Table BadIncarnation) = tt
  unsaid_ends f (Table OutOfMemory) = tt
  unsaid_ends f OverRation = tt
  unsaid_ends f NotGranted = tt

  said_ends : (f : List ℕ → Bool) (answer : List ℕ → End) → ((reason : List ℕ) → TextEnds o f (answer reason)) → (e : Refusal) (r : Option (List ℕ)) → TextEnds o f (said answer e r)
  said_ends f answer h e (Some r) = h r
  said_ends f answer h e None = unsaid_ends f e

  replied_ends : {A : Type 0} (f : List ℕ → Bool) (s : InForce) → IsLike o f s → (r : Option MsgRef) (reason : Refusal → Option (List ℕ)) (reply : A → List Said) (a : Result A Refusal) → TextEnds o f (replied s r m reason reply a)
  replied_ends f s like r reason reply (Ok x) = like
  replied_ends f s like r reason reply (Err e) = said_ends f _ (λ t. like) e (reason e)

  -- ---- events

  module _ (f : List ℕ → Bool) (like : IsLike o f o) (here : names o m.topic ≡ true) where
    like_here : IsLike o (and_at m.topic f) o
    like_here = (refl, refl, λ x w. or_either (same_text x m.topic) (f x) (names o x) (λ s. ap (names o) (same_text-true x m.topic s) ∙ here) (λ g. like.2 x g) w)

    event_leads : (kind : ℕ) (r : Option MsgRef) (event : TopicEvent) → L f (on_event kind o r m event)
    event_leads kind r events_are.Ping = like
    event_leads kind r events_are.Shout = (tt, λ a. replied_ends f o like r (full_reason true) (λ u. []) a)
    event_leads kind r events_are.Track = go (asked m.payload)
      where
        answered : (a : Result Dot Refusal) → TextEnds o (cond (is_ok a) (and_at m.topic f) f) (Rules.after_track o r m a)
        answered (Ok d) = like_here
        answered (Err e) = replied_ends f o like r (track_reason true) (λ (d : Dot). message (Rules.ok r m (Rules.told_ref d)) ∷ []) (Err e)

        go : (a : Asked) → L f (Rules.on_track o r m a)
        go (Wants key meta) = (refl, λ a. answered a)
        go Nothing = like
        go Bad = like
    event_leads kind r events_are.Update = go (asked m.payload)
      where
        answered : (a : Result Dot Refusal) → TextEnds o (cond (is_ok a) (and_at m.topic f) f) (Rules.after_update o r m a)
        answered (Ok d) = like_here
        answered (Err e) = replied_ends f o like r update_reason (λ (d : Dot). message (Rules.ok r m (Rules.told_ref d)) ∷ []) (Err e)

        go : (a : Asked) → L f (Rules.on_update o r m a)
        go (Wants key meta) = (refl, λ a. answered a)
        go Nothing = like
        go Bad = like
    event_leads kind r events_are.Untrack = go (key_asked m.payload)
      where
        go : (k : Option (List ℕ)) → L f (Rules.on_untrack o r m k)
        go (Some key) = (tt, λ a. replied_ends f o like r (full_reason true) (λ u. message (Rules.ok r m Rules.empty) ∷ []) a)
        go None = like
    event_leads kind r events_are.List = (tt, λ a. replied_ends f o like r (full_reason true) (λ rows. listed kind r m rows ∷ []) a)
    event_leads kind r events_are.Get = go (key_asked m.payload)
      where
        go : (k : Option (List ℕ)) → L f (Rules.on_get kind o r m k)
        go (Some key) = (tt, λ a. replied_ends f o like r (full_reason true) (λ rows. listed kind r m rows ∷ []) a)
        go None = like
    event_leads kind r events_are.Unknown = like

  -- ---- joins

  module _ (s : InForce) (pid : s.pid ≡ o.pid) (cut : s.cut_short ≡ o.cut_short) (before : List Said) (kind : ℕ) where
    joined_like : (f : List ℕ → Bool) → Within f (and_at m.topic (names s)) → (sub : Sub) → IsLike o f (joins kind s m sub)
    joined_like f w sub = (pid, cut, λ x e. join_names s (joins kind s m sub) m.topic _ refl refl refl x (w x e))

    subscribe_leads : (f : List ℕ → Bool) → Within f (names s) → (first : Bool) (response : Data) → L f (subscribes (Some first) before kind s m response)
    subscribe_leads f w first response = (tt, λ a. go a)
      where
        go : (a : Result Sub Refusal) → TextEnds o f (Rules.after_subscribe (Some first) before kind s m response a)
        go (Ok sub) = joined_like f (λ x e. or_behind (same_text x m.topic) (names s x) (w x e)) sub
        go (Err e) = said_ends f (refuses before s m) (λ reason. (pid, cut, w)) e (full_reason first e)

    -- behind an accepted track nothing but a fault refuses
    subscribe_later : (f : List ℕ → Bool) → Within f (and_at m.topic (names s)) → (response : Data) → L f (subscribes None before kind s m response)
    subscribe_later f w response = (tt, λ a. go a)
      where
        go : (a : Result Sub Refusal) → TextEnds o f (Rules.after_subscribe None before kind s m response a)
        go (Ok sub) = joined_like f w sub
        go (Err e) = unsaid_ends f e

    track_leads : (f : List ℕ → Bool) → Within f (names s) → (first : Bool) (key : List ℕ) (meta : Data) → L f (tracks first before kind s m key meta)
    track_leads f w first key meta = (refl, λ a. go a)
      where
        go : (a : Result Dot Refusal) → L (cond (is_ok a) (and_at m.topic f) f) (Rules.then_subscribe first before kind s m a)
        go (Ok d) = subscribe_later (and_at m.topic f) (λ x e. or_either (same_text x m.topic) (f x) (same_text x m.topic || names s x) (λ q. ap (λ b. b || names s x) q) (λ q. or_behind (same_text x m.topic) (names s x) (w x q)) e) (Rules.told_ref d)
        go (Err e) = said_ends f (refuses before s m) (λ reason. (pid, cut, w)) e (track_reason first e)

    either_leads : (f : List ℕ → Bool) (b : Bool) (x y : Script End) → L f x → L f y → L f (if b then x else y)
    either_leads f true x y p q = p
    either_leads f false x y p q = q

    asked_leads : (f : List ℕ → Bool) → Within f (names s) → (count : ℕ) (first : Bool) (a : Asked) → L f (join_asked count first before kind s m a)
    asked_leads f w count first Bad = (pid, cut, w)
    asked_leads f w count first Nothing =
        let like : IsLike o f s = (pid, cut, w) in
        either_leads f (nat_le MAX_TOPICS count) (done (refuses before s m (codes "too many topics"))) (subscribes (Some first) before kind s m Rules.empty) like (subscribe_leads f w first Rules.empty)
    asked_leads f w count first (Wants key meta) =
        let like : IsLike o f s = (pid, cut, w) in
        either_leads f (nat_le MAX_TOPICS count) (done (refuses before s m (codes "too many topics"))) (tracks first before kind s m key meta) like (track_leads f w first key meta)

  -- ---- ends of joins

  ended_leads : (f : List ℕ → Bool) (sub : Sub) (next : Script End) → L (and_not m.topic f) next → L f (ended m.topic sub next)
  ended_leads f sub next l = (tt, λ a. first a)
    where
      second : (a : Result (Unit {0}) Refusal) → L (cond (is_ok a) (and_not m.topic f) f) (then_next next a)
      second (Ok u) = l
      second (Err e) = unsaid_ends f e

      first : (a : Result (Unit {0}) Refusal) → L f (then_next (ask (untrack_all m.topic) (then_next next)) a)
      first (Ok u) = (tt, λ a. second a)
      first (Err e) = unsaid_ends f e

  -- ---- the whole table

  same_names : IsLike o (names o) o
  same_names = (refl, refl, λ x e. e)

  leave_leads : (j : Option Joined) → L (names o) (on_leave o j m)
  leave_leads (Some j) = ended_leads (names o) j.sub _ (refl, refl, left_names o m.topic)
  leave_leads None = same_names

  join_leads : (count kind : ℕ) (j : Option Joined) (a : Asked) → L (names o) (on_join count kind o j m a)
  join_leads count kind None a = asked_leads o refl refl [] kind (names o) (λ x e. e) count true a
  join_leads count kind (Some j) a = ended_leads (names o) j.sub _ (asked_leads (left o m.topic) refl refl (message (closing j.join_ref m.topic) ∷ []) kind (and_not m.topic (names o)) (left_names o m.topic) (count - 1) false a)

  topic_leads : (j : Option Joined) → ((k : Joined) → j ≡ Some k → names o m.topic ≡ true) → (event : TopicEvent) → L (names o) (on_topic o j m event)
  topic_leads (Some j) here event = event_leads (names o) same_names (here j refl) j.kind j.join_ref event
  topic_leads None here event = same_names

  kind_leads : (phoenix : Bool) (route : Option ℕ) (count : ℕ) (j : Option Joined) → ((k : Joined) → j ≡ Some k → names o m.topic ≡ true) → (kind : EventKind) → L (names o) (by_kind phoenix route count o j m kind)
  kind_leads true route count j here kinds_are.Heartbeat = same_names
  kind_leads false route count j here kinds_are.Heartbeat = topic_leads j here events_are.Unknown
  kind_leads phoenix None count j here kinds_are.Join = same_names
  kind_leads phoenix (Some kind) count j here kinds_are.Join = join_leads count kind j (asked m.payload)
  kind_leads phoenix route count j here kinds_are.Leave = leave_leads j
  kind_leads phoenix route count j here (kinds_are.Topic event) = topic_leads j here event

  pub rules_lead : (routes : List (List ℕ × ℕ)) → L (names o) (rules routes o m)
  unfolding rules
  rules_lead routes =
      kind_leads (is_phoenix m.topic) (route_of (is_phoenix m.topic) routes m.topic) (length o.joined) (join_at o m)
      (λ k e. named_more m.topic (topics o.joined) (option_to_list o.cut_short) ∙ ap (λ b. b || is_named m.topic (option_to_list o.cut_short)) (found_named m.topic o.joined k e)) (kind_of m.event)

-- ---- texts

pub kept_names : (s : InForce) (h : History) → NamesItsTopics s h → Kept s.pid (names s) h
kept_names s h n = record { legal = n.legal; rows = n.rows }

-- rows on topics that the session names
names_them : (s after : InForce) (f : List ℕ → Bool) (h : History) → nat_le s.pid (2 ^ 62) ≡ true → after.pid ≡ s.pid → Within f (names after) → (after.failed ≡ false → after.cut_short ≡ None) → Kept s.pid f h → NamesItsTopics after h
names_them s after f h low pid w cut k = record {
  legal = k.legal;
  pid = ap (λ n. nat_le n (2 ^ 62)) pid ∙ low;
  rows = λ t p r e mine. w t (k.rows t p r e (ap (λ n. is_mine h n (p.dot, r)) (sym pid) ∙ mine));
  cut_short = cut;
}

-- where nothing was done
untouched : (s after : InForce) (old new : History) → NamesItsTopics s old → Untouched s old new after → NamesItsTopics after new
untouched s after old new n u = subst (λ x. NamesItsTopics x new) (sym u.session) (subst (NamesItsTopics s) (sym u.port) n)

-- a fault names the topic of the message, where it may have rows
failed_names : (s : InForce) (t : List ℕ) → s.cut_short ≡ None → Within (and_at t (names s)) (names (failed_at s t))
failed_names s t none x w = go (find t s.joined) (λ k e. found_named t s.joined k e)
  where
    was : (o : Option (List ℕ)) → s.cut_short ≡ o → names s x ≡ true → is_named x (topics s.joined ++ option_to_list o) ≡ true
    was o e f = ap (λ c. is_named x (topics s.joined ++ option_to_list c)) (sym e) ∙ f

    go : (j : Option Joined) → ((k : Joined) → j ≡ Some k → is_named t (topics s.joined) ≡ true) → is_named x (topics s.joined ++ option_to_list (left_named j s.cut_short t)) ≡ true
    go (Some k) found =
        named_more x (topics s.joined) (option_to_list s.cut_short)
        ∙ or_either (same_text x t) (names s x) (is_named x (topics s.joined) || is_named x (option_to_list s.cut_short))
        (λ q. ap (λ b. b || is_named x (option_to_list s.cut_short)) (ap (λ u. is_named u (topics s.joined)) (same_text-true x t q) ∙ found k refl))
        (λ q. sym (named_more x (topics s.joined) (option_to_list s.cut_short)) ∙ q) w
    go None found =
        named_more x (topics s.joined) (t ∷ [])
        ∙ or_either (same_text x t) (names s x) (is_named x (topics s.joined) || (same_text x t || false))
        (λ q. or_behind (is_named x (topics s.joined)) (same_text x t || false) (ap (λ b. b || false) q))
        (λ q. or_first_of (is_named x (topics s.joined)) (same_text x t || false) (sym (named_more x (topics s.joined) []) ∙ was None none q)) w

module _ (leave : OnlyNamedLeave) (routes : List (List ℕ × ℕ)) (s after : InForce) (old new : History) (n : NamesItsTopics s old) (works : s.failed ≡ false) where
  answered : (m : Message) (texts : List Said) → MessageRan (LocalStep s.pid) routes s m old new after (Ok texts) → NamesItsTopics after new
  answered m texts ran =
      let led = script_leads leave s.pid n.pid m.topic (Fits m.topic) (λ q f. f) (TextEnds s) (rules routes s m) (names s) old new (answers texts after) (rules_lead s m routes) (kept_names s old n) ran.0.made ran.0.calls ran.0.ends in
      names_them s after led.topics new n.pid led.ends.0 led.ends.2 (λ _. led.ends.1 ∙ n.cut_short works) led.kept

  -- the calls up to a fault
  begun : (m : Message) (stop : Stop) (made : List Call) → EndsSo (rules routes s m) made (Err stop) → (Rest : Script End → Type 0) × Begins Rest (rules routes s m) made
  begun m stop made e = go stop.kind e.0
    where
      go : (kind : StopKind) → Stopped kind (rules routes s m) made → (Rest : Script End → Type 0) × Begins Rest (rules routes s m) made
      go kinds.OutOfMemory b = (MayWant, b.0)
      go kinds.ShardFull p = ((λ _. Unit {0}), plays_begin (rules routes s m) made full p)

  faulted : (m : Message) (fault : SessionFault) → Faulted (LocalStep s.pid) (rules routes s m) m.topic s old new after fault → NamesItsTopics after new
  faulted m fault f = go f.stop.spoiled refl f.left
    where
      made : List Call
      made = f.calls.made

      first : (Rest : Script End → Type 0) × Begins Rest (rules routes s m) made
      first = begun m f.stop made f.calls.ends

      go : (b : Bool) → f.stop.spoiled ≡ b → after ≡ (if b then failed_at s m.topic else s) → NamesItsTopics after new
      go true e is = subst (λ x. NamesItsTopics x new) (sym is)
          (names_them s (failed_at s m.topic) (and_at m.topic (names s)) new n.pid refl (failed_names s m.topic (n.cut_short works)) (λ q. absurd (cc))
          (first_calls leave s.pid n.pid m.topic (Fits m.topic) (λ q f. f) (TextEnds s) first.0 (rules routes s m) (names s) (and_at m.topic (names s))
          (λ q a fits. call_within m.topic (and_at m.topic (names s)) (ap (λ b. b || names s m.topic) (same_text-refl m.topic)) q a fits) old new (rules_lead s m routes)
          (kept_within s.pid (names s) (and_at m.topic (names s)) old (λ x q. or_behind (same_text x m.topic) (names s x) q) (kept_names s old n)) made f.calls.calls first.1))
      go false e is = subst (λ x. NamesItsTopics x new) (sym is)
          (names_them s s (names s) new n.pid refl (λ x q. q) n.cut_short
          (first_calls_stay leave s.pid n.pid m.topic (Fits m.topic) (λ q f. f) (TextEnds s) first.0 (rules routes s m) (names s) (names s) old new (rules_lead s m routes) (kept_names s old n) made (sym f.calls.ends.1 ∙ e) f.calls.calls first.1))

pub texts_keep_names : OnlyNamedLeave → TextsKeepNames
texts_keep_names leave routes s after reading old new (Ok texts) n e = answered leave routes s after old new n e.0 e.1.message texts e.1.ran
texts_keep_names leave routes s after reading old new (Err Failed) n e = untouched s after old new n e.1
texts_keep_names leave routes s after reading old new (Err (BadMessage f)) n e = untouched s after old new n e.2
texts_keep_names leave routes s after reading old new (Err ShardFull) n e = faulted leave routes s after old new n e.0 e.1.message ShardFull e.1.ran
texts_keep_names leave routes s after reading old new (Err faults.OutOfMemory) n (works, inl u) = untouched s after old new n u
texts_keep_names leave routes s after reading old new (Err faults.OutOfMemory) n (works, inr r) = faulted leave routes s after old new n works r.message faults.OutOfMemory r.ran

-- ---- deliveries

abbrev IsQuiet : Ask → Type 0
IsQuiet (waits u s) = Unit {0}
IsQuiet (take u s n) = Unit {0}
IsQuiet _ = ⊥

quiet_fits : (q : Ask) → IsQuiet q → Fits [] q
quiet_fits (waits u s) e = tt
quiet_fits (take u s n) e = tt
quiet_fits (track u k m) e = absurd e
quiet_fits (update u k m) e = absurd e
quiet_fits (untrack u k) e = absurd e
quiet_fits (untrack_all u) e = absurd e
quiet_fits (list u) e = absurd e
quiet_fits (get u k) e = absurd e
quiet_fits (subscribe u) e = absurd e
quiet_fits (unsubscribe u s) e = absurd e
quiet_fits (shout u d) e = absurd e

quiet_within : (g : List ℕ → Bool) (q : Ask) (a : Answer q) → IsQuiet q → Within (after_call g q a) g
quiet_within g (waits u s) a e x w = w
quiet_within g (take u s n) a e x w = w
quiet_within g (track u k m) a e x w = absurd e
quiet_within g (update u k m) a e x w = absurd e
quiet_within g (untrack u k) a e x w = absurd e
quiet_within g (untrack_all u) a e x w = absurd e
quiet_within g (list u) a e x w = absurd e
quiet_within g (get u k) a e x w = absurd e
quiet_within g (subscribe u) a e x w = absurd e
quiet_within g (unsubscribe u s) a e x w = absurd e
quiet_within g (shout u d) a e x w = absurd e

module _ (s : InForce) (f : List ℕ → Bool) where
  abbrev D : Script End → Type 0
  D x = Leads IsQuiet (λ g e. Unit {0}) f x

  delivers_lead : (max : ℕ) (js : List Joined) (before : List Said) → D (delivers max s js before)
  delivers_lead max [] before = tt
  delivers_lead max (j ∷ js) before = (tt, λ a. go (λ b. delivers_lead max js b) a)
    where
      took : ((b : List Said) → D (delivers max s js b)) → (a : Answer (take j.topic j.sub max)) → D (then_told j before (delivers max s js) a)
      took next (Ok items) = next _
      took next (Err e) = tt

      go : ((b : List Said) → D (delivers max s js b)) → (a : Answer (waits j.topic j.sub)) → D (then_take max j before (delivers max s js) a)
      go next (Ok true) = (tt, λ a. took next a)
      go next (Ok false) = next before
      go next (Err e) = tt

module _ (leave : OnlyNamedLeave) (max : ℕ) (s : InForce) (old new : History) (n : NamesItsTopics s old) where
  delivered_kept : (Rest : Script End → Type 0) (made : List Call) → Chained (LocalStep s.pid) old made new → Begins Rest (delivers max s s.joined []) made → Kept s.pid (names s) new
  delivered_kept Rest made calls begins =
      first_calls leave s.pid n.pid [] IsQuiet quiet_fits (λ g e. Unit {0}) Rest (delivers max s s.joined []) (names s) (names s) (quiet_within (names s)) old new
      (delivers_lead s (names s) max s.joined []) (kept_names s old n) made calls begins

  named_still : Kept s.pid (names s) new → NamesItsTopics s new
  named_still k = names_them s s (names s) new n.pid refl (λ x q. q) n.cut_short k

  named_failing : Kept s.pid (names s) new → NamesItsTopics (failing s) new
  named_failing k = names_them s (failing s) (names s) new n.pid refl (λ x q. q) (λ q. absurd (cc)) k

  cut_kept : (stop : Stop) (made : List Call) → Chained (LocalStep s.pid) old made new → EndsSo (delivers max s s.joined []) made (Err stop) → Kept s.pid (names s) new
  cut_kept stop made calls e = go stop.kind e.0
    where
      go : (kind : StopKind) → Stopped kind (delivers max s s.joined []) made → Kept s.pid (names s) new
      go kinds.OutOfMemory b = delivered_kept MayWant made calls b.0
      go kinds.ShardFull p = delivered_kept (λ _. Unit {0}) made calls (plays_begin (delivers max s s.joined []) made full p)

  cut_names : (after : InForce) (fault : SessionFault) → CutShort (LocalStep s.pid) (delivery max s) s old new after fault → NamesItsTopics after new
  cut_names after fault f = go f.stop.spoiled f.left
    where
      go : (b : Bool) → after ≡ (if b then failing s else s) → NamesItsTopics after new
      go true is = subst (λ x. NamesItsTopics x new) (sym is) (named_failing (cut_kept f.stop f.calls.made f.calls.calls f.calls.ends))
      go false is = subst (λ x. NamesItsTopics x new) (sym is) (named_still (cut_kept f.stop f.calls.made f.calls.calls f.calls.ends))

pub deliveries_keep_names : OnlyNamedLeave → DeliveriesKeepNames
deliveries_keep_names leave max s after old new (Ok texts) n d =
    subst (λ x. NamesItsTopics x new) (sym d.1)
    (named_still leave max s old new n (delivered_kept leave max s old new n (λ _. Unit {0}) d.0.made d.0.calls (plays_begin (delivers max s s.joined []) d.0.made (answers texts s) d.0.ends)))
deliveries_keep_names leave max s after old new (Err fault) n d = cut_names leave max s old new n after fault d

-- ---- ends

-- at the end of an end's calls
abbrev EndEnds : ℕ → (List ℕ → Bool) → Ended → Type 0
EndEnds pid f e = (e.after.pid ≡ pid) × (e.after.failed ≡ false → e.after.cut_short ≡ None) × Within f (names e.after)

module _ (pid : ℕ) where
  abbrev X : (List ℕ → Bool) → Script Ended → Type 0
  X f x = Leads (Fits []) (EndEnds pid) f x

  -- what comes of topics that stay names them, and these besides
  abbrev Names : (List ℕ → Bool) → Leaving → Type 0
  Names base leaving = (ks : List Joined) (a : Result (Unit {0}) Refusal) → EndEnds pid (λ x. base x || is_named x (topics ks)) (leaving ks a)

  names_behind : (base : List ℕ → Bool) (leaving : Leaving) (j : Joined) (e : Refusal) → Names base leaving → Names (λ x. same_text x j.topic || base x) (λ ks a. leaving (j ∷ ks) (Err e))
  names_behind base leaving j e n ks a =
      let all = n (j ∷ ks) (Err e) in
      (all.0, all.1, λ x w. all.2 x (or_swap (same_text x j.topic) (base x) (is_named x (topics ks)) ∙ w))

  abbrev Later : List Joined → Type 0
  Later js = (leaves : Leaving) (g b : List ℕ → Bool) → Names b leaves → Within g (λ x. b x || is_named x (topics js)) → X g (ends_topics leaves js)

  ends_lead : (js : List Joined) (leaving : Leaving) (f base : List ℕ → Bool) → Names base leaving → Within f (λ x. base x || is_named x (topics js)) → X f (ends_topics leaving js)
  ends_lead [] leaving f base n w = let all = n [] (Ok tt) in (all.0, all.1, λ x e. all.2 x (w x e))
  ends_lead (j ∷ js) leaving f base n w = (tt, λ a. first (λ leaves g b names within. ends_lead js leaves g b names within) a)
    where
      refused : Later js → (e : Refusal) → X f (ends_topics (λ ks a. leaving (j ∷ ks) (Err e)) js)
      refused later e =
          later (λ ks a. leaving (j ∷ ks) (Err e)) f (λ x. same_text x j.topic || base x) (names_behind base leaving j e n)
          (λ x q. sym (or_swap (same_text x j.topic) (base x) (is_named x (topics js))) ∙ w x q)

      second : Later js → (a : Result (Unit {0}) Refusal) → X (cond (is_ok a) (and_not j.topic f) f) (ends_topics (staying j a leaving) js)
      second later (Ok u) = later leaving (and_not j.topic f) base n (λ x q. or_without (base x) (same_text x j.topic) (is_named x (topics js)) (and_other (f x) (same_text x j.topic) q) (w x (and_first (f x) (not (same_text x j.topic)) q)))
      second later (Err e) = refused later e

      first : Later js → (a : Result (Unit {0}) Refusal) → X f (then_rows j.topic (λ r. ends_topics (staying j r leaving) js) a)
      first later (Ok u) = (tt, λ a. second later a)
      first later (Err (Table NoSub)) = (tt, λ a. second later a)
      first later (Err (Table AlreadyTracked)) = refused later (Table AlreadyTracked)
      first later (Err (Table NoPresence)) = refused later (Table NoPresence)
      first later (Err (Table ClockFull)) = refused later (Table ClockFull)
      first later (Err (Table JournalFull)) = refused later (Table JournalFull)
      first later (Err (Table BadIncarnation)) = refused later (Table BadIncarnation)
      first later (Err (Table OutOfMemory)) = refused later (Table OutOfMemory)
      first later (Err OverRation) = refused later OverRation
      first later (Err NotGranted) = refused later NotGranted

module _ (s : InForce) where
  -- none is named beside the topics that stay
  plain_names : Names s.pid (λ x. false) (left_with s None)
  plain_names ks a = (refl, λ q. refl, λ x w. named_more x (topics ks) [] ∙ ap (λ b. b || false) w)

  cut_left : (t : List ℕ) (e : Refusal) → Names s.pid (λ x. same_text x t) (λ ks a. left_with s (Some t) ks (Err e))
  cut_left t e ks a = (refl, λ q. absurd (cc), λ x w. named_more x (topics ks) (t ∷ []) ∙ or_turn (same_text x t) (is_named x (topics ks)) w)

  whole_leads : (o : Option (List ℕ)) → X s.pid (λ x. is_named x (topics s.joined ++ option_to_list o)) (ends_cut_short s o)
  whole_leads None = ends_lead s.pid s.joined (left_with s None) (λ x. is_named x (topics s.joined ++ [])) (λ x. false) plain_names (λ x q. or_nothing (is_named x (topics s.joined)) (sym (named_more x (topics s.joined) []) ∙ q))
  whole_leads (Some t) = (tt, λ a. go a)
    where
      f : List ℕ → Bool
      f x = is_named x (topics s.joined ++ t ∷ [])

      split : (x : List ℕ) → f x ≡ true → (is_named x (topics s.joined) || (same_text x t || false)) ≡ true
      split x q = sym (named_more x (topics s.joined) (t ∷ [])) ∙ q

      go : (a : Result (Unit {0}) Refusal) → X s.pid (cond (is_ok a) (and_not t f) f) (then_topics s t a)
      go (Ok u) = ends_lead s.pid s.joined (left_with s None) (and_not t f) (λ x. false) plain_names
          (λ x q. or_drop (is_named x (topics s.joined)) (same_text x t) (and_other (f x) (same_text x t) q) (split x (and_first (f x) (not (same_text x t)) q)))
      go (Err e) = ends_lead s.pid s.joined (λ ks a. left_with s (Some t) ks (Err e)) f (λ x. same_text x t) (cut_left t e)
          (λ x q. or_turn_back (is_named x (topics s.joined)) (same_text x t) (split x q))

pub ends_keep_names : OnlyNamedLeave → EndsKeepNames
ends_keep_names leave s after old new result n e =
    let led = script_leads leave s.pid n.pid [] (Fits []) (λ q f. f) (EndEnds s.pid) (ends s) (names s) old new (record { after = after; answer = e.answer }) (whole_leads s s.cut_short) (kept_names s old n) e.played.made e.played.calls e.played.plays in
    names_them s after led.topics new n.pid led.ends.0 led.ends.2 led.ends.1 led.kept
