-- Which subscribers may stand, call by call and script by script, over a lent shard.
use Rattle.std.proofs.Common.{◌≡◌, ◌+◌, ℕ, Bool, true, false, cond, not, ◌&&◌, ◌||◌, List, [], ◌∷◌, Option, Some, None, is_some, Result, Ok, Err, refl, sym, ap, ◌∙◌, subst}
use Rattle.std.specs.Prelude.{nat_eq}
use Rattle.std.proofs.lemmas.Bool.{and_from, and_parts, or_left, or_right, or_parts, both_ways, eq-eqb, eqb-true}
use Rattle.presence_journal.specs.declared.entry.Outcome.{Outcome}
use Rattle.presence_journal.specs.declared.entry.Outcome.TheVariants as outcomes_are
use Rattle.presence_journal.specs.declared.step.Step.{Step}
use Rattle.presence_journal.specs.declared.step.Step.TheVariants as steps_are
use Rattle.presence_journal.specs.History.{History, last_number}
use Rattle.presence_journal.specs.Queue.{topic_of}
use Rattle.presence_journal.specs.Table.{outcome_of, accepted, after, next_entry, with_outcome}
use Rattle.presence_journal.proofs.Topics.{topic_of-then}
use Rattle.tracker_shard.specs.declared.shard.Sub.{Sub}
use Rattle.tracker_shard.specs.Steps.{Stepped, Made, Answers, is_found, slot_of}
use Rattle.tracker_shard.specs.declared.fault.ShardFault.{ShardFault}
use Rattle.tracker_shard.specs.declared.fault.ShardFault.TheVariants.{AlreadyTracked, NoPresence, ClockFull, JournalFull, NoSub, BadIncarnation, OutOfMemory}
use Rattle.channel_rules.specs.Asks.{Ask, Given, Answer, Call, enters, some_enters, track, update, untrack, untrack_all, list, get, subscribe, take, unsubscribe, waits, shout, Made as Chained}
use Rattle.channel_rules.specs.Script.{Script, done, ask, Plays}
use Rattle.channel_rules.specs.Seen.{in_table}
use Rattle.channel_rules.specs.declared.refusal.Refusal.{Refusal}
use Rattle.channel_rules.specs.declared.refusal.Refusal.TheVariants.{OverRation, NotGranted, Table}
use Rattle.presence_stdio.specs.Local.{LocalStep, TableStep, IsNext}
use Rattle.session_laws.specs.Subscribed.{same_sub}
use Rattle.session_laws.proofs.Behind.{Fewer, unsubscribe_fewer, over_after, over_now, unknown_is_over, either, same_some}

-- the second have all that the first have
abbrev pub Within : (Sub → Bool) → (Sub → Bool) → Type 0
Within f g = (x : Sub) → f x ≡ true → g x ≡ true

-- these subscribers and this one, and these without it
abbrev pub and_sub : Sub → (Sub → Bool) → Sub → Bool
and_sub sub g x = same_sub x sub || g x

abbrev pub but_sub : Sub → (Sub → Bool) → Sub → Bool
but_sub sub g x = g x && not (same_sub x sub)

-- each subscriber that stands in the history is one of these
abbrev pub Held : (Sub → Bool) → History → Type 0
Held g h = (x : Sub) → is_found h x.slot x.number ≡ true → g x ≡ true

pub held_within : (f g : Sub → Bool) (h : History) → Within f g → Held f h → Held g h
held_within f g h w k x e = w x (k x e)

-- ---- steps

found_same : (h : History) (x y : Sub) → same_sub x y ≡ true → is_found h x.slot x.number ≡ is_found h y.slot y.number
found_same h x y f =
    let p = and_parts (nat_eq x.slot y.slot) (nat_eq x.number y.number) f in
    ap (λ n. is_found h n x.number) (eqb-true x.slot y.slot p.0) ∙ ap (λ n. is_found h y.slot n) (eqb-true x.number y.number p.1)

-- one that is over is none of those that stand
without_sub : (g : Sub → Bool) (h : History) (sub : Sub) → is_found h sub.slot sub.number ≡ false → Held g h → Held (but_sub sub g) h
without_sub g h sub over k x e = and_from (g x) (not (same_sub x sub)) (k x e) (go (same_sub x sub) refl)
  where
    go : (b : Bool) → same_sub x sub ≡ b → not b ≡ true
    go true f = absurd (both_ways (is_found h x.slot x.number) (found_same h x sub f ∙ over) e)
    go false f = refl

subscribed_is : (h : History) (t : List ℕ) (o : Outcome) → outcome_of h (steps_are.Subscribe t) ≡ Some o → o ≡ outcomes_are.Subscribed (last_number h + 1)
unfolding outcome_of
subscribed_is h t o e = same_some o (outcomes_are.Subscribed (last_number h + 1)) (sym e)

not_tracked : (n : ℕ) → outcomes_are.AlreadyTracked ≡ outcomes_are.Subscribed n → ⊥
not_tracked n e = cc

not_absent : (n : ℕ) → outcomes_are.NoPresence ≡ outcomes_are.Subscribed n → ⊥
not_absent n e = cc

module _ (g : Sub → Bool) (old new : History) (k : Held g old) where
  held_after : (s : Step) → Fewer s → Held g (after old s None)
  held_after s fewer x e = go (is_found old x.slot x.number) refl
    where
      go : (b : Bool) → is_found old x.slot x.number ≡ b → g x ≡ true
      go true f = k x f
      go false f = absurd (both_ways (is_found (after old s None) x.slot x.number) (over_after old s fewer x.slot x.number f) e)

  -- a step that makes no subscriber
  stays : {A : Type 0} (s : Step) (a : Result A ShardFault) → Fewer s → Stepped old new None s a → Held g new
  stays s a fewer m = either (λ h. Held g h) old new s a m k (held_after s fewer)

  same : new ≡ old → Held g new
  same e = subst (λ h. Held g h) (sym e) k

  -- what stands behind the entry that makes one
  behind : (t : List ℕ) (sub x : Sub) → IsNext old sub → (b : Bool) → nat_eq (last_number old + 1) x.number ≡ b → (is_some (cond b (Some t) (topic_of old x.number)) && nat_eq x.slot (slot_of x.number)) ≡ true → (same_sub x sub || g x) ≡ true
  behind t sub x next true q f =
      or_left (same_sub x sub) (g x)
      (and_from (nat_eq x.slot sub.slot) (nat_eq x.number sub.number) (ap (nat_eq x.slot) next.1 ∙ f)
      (eq-eqb x.number sub.number (sym (eqb-true (last_number old + 1) x.number q) ∙ sym next.0)))
  behind t sub x next false q f = or_right (same_sub x sub) (g x) (k x f)

  -- an accepted subscription makes this one and no other
  made_one : (t : List ℕ) (sub : Sub) → Made old new None (steps_are.Subscribe t) → IsNext old sub → Held (and_sub sub g) new
  unfolding after
  made_one t sub made next = subst (λ h. Held (and_sub sub g) h) (sym made.journal) (go (accepted old (steps_are.Subscribe t)))
    where
      go : (o : Option Outcome) → Held (and_sub sub g) (with_outcome old (steps_are.Subscribe t) None o)
      go None x e = or_right (same_sub x sub) (g x) (k x e)
      go (Some o) x e =
          behind t sub x next (nat_eq (last_number old + 1) x.number) refl
          (sym (ap (λ (p : Option (List ℕ)). is_some p && nat_eq x.slot (slot_of x.number)) (topic_of-then old (next_entry old (steps_are.Subscribe t) None o) x.number)) ∙ e)

  -- a refused one makes none
  made_none : (t : List ℕ) (x : ShardFault) → Stepped {A = Sub} old new None (steps_are.Subscribe t) (Err x) → Answers (IsNext old) (outcome_of old (steps_are.Subscribe t)) (Err x) → Held g new
  made_none t AlreadyTracked m a = absurd (not_tracked (last_number old + 1) (subscribed_is old t outcomes_are.AlreadyTracked a))
  made_none t NoPresence m a = absurd (not_absent (last_number old + 1) (subscribed_is old t outcomes_are.NoPresence a))
  made_none t ClockFull m a = same m
  made_none t JournalFull m a = same m
  made_none t NoSub m a = same m
  made_none t BadIncarnation m a = same m
  made_none t OutOfMemory m a = same m

-- ---- calls

-- those that may stand after a subscription
abbrev pub if_made : (Sub → Bool) → Result Sub Refusal → Sub → Bool
if_made g (Ok sub) = and_sub sub g
if_made g (Err e) = g

-- and after the end of one: an unknown subscriber is nowhere
abbrev pub if_ended : (Sub → Bool) → Sub → Result (Unit {0}) Refusal → Sub → Bool
if_ended g sub (Ok u) = but_sub sub g
if_ended g sub (Err (Table NoSub)) = but_sub sub g
if_ended g sub (Err e) = g

-- the subscribers that may stand after a call
abbrev pub after_call : (Sub → Bool) → (q : Ask) → Answer q → Sub → Bool
after_call g (subscribe t) a = if_made g a
after_call g (unsubscribe t sub) a = if_ended g sub a
after_call g _ a = g

pub ended_within : (g : Sub → Bool) (sub : Sub) (a : Result (Unit {0}) Refusal) → Within (if_ended g sub a) g
ended_within g sub (Ok u) x e = (and_parts (g x) (not (same_sub x sub)) e).0
ended_within g sub (Err (Table NoSub)) x e = (and_parts (g x) (not (same_sub x sub)) e).0
ended_within g sub (Err (Table AlreadyTracked)) x e = e
ended_within g sub (Err (Table NoPresence)) x e = e
ended_within g sub (Err (Table ClockFull)) x e = e
ended_within g sub (Err (Table JournalFull)) x e = e
ended_within g sub (Err (Table BadIncarnation)) x e = e
ended_within g sub (Err (Table OutOfMemory)) x e = e
ended_within g sub (Err OverRation) x e = e
ended_within g sub (Err NotGranted) x e = e

-- a call that makes no subscriber leaves no more of them
no_more : (g : Sub → Bool) (q : Ask) (a : Answer q) → enters q a ≡ false → Within (after_call g q a) g
no_more g (subscribe t) (Ok sub) n x e = absurd (cc)
no_more g (subscribe t) (Err f) n x e = e
no_more g (unsubscribe t sub) a n x e = ended_within g sub a x e
no_more g _ a n x e = e

module _ (g : Sub → Bool) (old new : History) (k : Held g old) where
  ends_none : (sub : Sub) (a : Result (Unit {0}) ShardFault) → Stepped old new None (steps_are.Unsubscribe sub.number) a → Held g new
  ends_none sub a m = stays g old new k (steps_are.Unsubscribe sub.number) a (unsubscribe_fewer sub.number) m

  unsubscribed : (pid : ℕ) (t : List ℕ) (sub : Sub) (a : Result (Unit {0}) ShardFault) → TableStep pid old (unsubscribe t sub) a new → Held (if_ended g sub (in_table a)) new
  unsubscribed pid t sub (Ok u) s = without_sub g new sub (over_now old new sub.number s.stepped sub.slot) (ends_none sub (Ok u) s.stepped)
  unsubscribed pid t sub (Err NoSub) s =
      without_sub g new sub (ap (λ h. is_found h sub.slot sub.number) s.stepped ∙ unknown_is_over (is_found old sub.slot sub.number) old (steps_are.Unsubscribe sub.number) s.due) (ends_none sub (Err NoSub) s.stepped)
  unsubscribed pid t sub (Err AlreadyTracked) s = ends_none sub (Err AlreadyTracked) s.stepped
  unsubscribed pid t sub (Err NoPresence) s = ends_none sub (Err NoPresence) s.stepped
  unsubscribed pid t sub (Err ClockFull) s = ends_none sub (Err ClockFull) s.stepped
  unsubscribed pid t sub (Err JournalFull) s = ends_none sub (Err JournalFull) s.stepped
  unsubscribed pid t sub (Err BadIncarnation) s = ends_none sub (Err BadIncarnation) s.stepped
  unsubscribed pid t sub (Err OutOfMemory) s = ends_none sub (Err OutOfMemory) s.stepped

table_keeps : (pid : ℕ) (g : Sub → Bool) (old new : History) (q : Ask) (a : Result (Given q) ShardFault) → Held g old → TableStep pid old q a new → Held (after_call g q (in_table a)) new
table_keeps pid g old new (track u d m) a k s = stays g old new k (steps_are.Track pid u d m) a (λ number n o e. e) s.stepped
table_keeps pid g old new (update u d m) a k s = stays g old new k (steps_are.Update pid u d m) a (λ number n o e. e) s.stepped
table_keeps pid g old new (untrack u d) a k s = stays g old new k (steps_are.Untrack pid u d) a (λ number n o e. e) s.stepped
table_keeps pid g old new (untrack_all u) a k s = stays g old new k (steps_are.UntrackAll pid u) a (λ number n o e. e) s.stepped
table_keeps pid g old new (list u) a k s = stays g old new k (steps_are.List u) a (λ number n o e. e) s.stepped
table_keeps pid g old new (get u d) a k s = stays g old new k (steps_are.Get u d) a (λ number n o e. e) s.stepped
table_keeps pid g old new (subscribe u) (Ok sub) k s = made_one g old new k u sub s.stepped s.given
table_keeps pid g old new (subscribe u) (Err x) k s = made_none g old new k u x s.stepped s.given
table_keeps pid g old new (take u sub max) a k s = stays g old new k (steps_are.Take sub.number max) a (λ number n o e. e) s.stepped
table_keeps pid g old new (unsubscribe u sub) a k s = unsubscribed g old new k pid u sub a s
table_keeps pid g old new (waits u sub) a k s = same g old new k s.0
table_keeps pid g old new (shout u d) a k s = stays g old new k (steps_are.Shout u d) a (λ number n o e. e) s.stepped

call_keeps : (pid : ℕ) (g : Sub → Bool) (old new : History) (q : Ask) (a : Answer q) → Held g old → LocalStep pid old q a new → Held (after_call g q a) new
call_keeps pid g old new q (Ok x) k s = table_keeps pid g old new q (Ok x) k s
call_keeps pid g old new q (Err (Table e)) k s = table_keeps pid g old new q (Err e) k s
call_keeps pid g old new q (Err OverRation) k s = absurd s
call_keeps pid g old new q (Err NotGranted) k s = absurd s

-- ---- scripts

-- Whatever is answered, at the end of the script the test holds of the subscribers that may stand then.
abbrev pub Leads : {E : Type 0} → ((Sub → Bool) → E → Type 0) → (Sub → Bool) → Script E → Type 0
Leads Q g (done e) = Q g e
Leads Q g (ask q next) = (a : Answer q) → Leads Q (after_call g q a) (next a)

-- what a script that leads so leaves
pub record Led {E : Type 0} (Q : (Sub → Bool) → E → Type 0) (new : History) (e : E) : Type 0 where
  pub subs : Sub → Bool
  pub held : Held subs new
  pub ends : Q subs e

call_of : (pid : ℕ) (g : Sub → Bool) (old mid : History) (q : Ask) (c : Call) (a : Answer q) → c ≡ record { ask = q; answer = a } → LocalStep pid old c.ask c.answer mid → Held g old → Held (after_call g q a) mid
call_of pid g old mid q c a e s k = call_keeps pid g old mid q a k (subst (λ x. LocalStep pid old x.ask x.answer mid) e s)

pub script_leads : {E : Type 0} (pid : ℕ) (Q : (Sub → Bool) → E → Type 0) (script : Script E) (g : Sub → Bool) (old new : History) (e : E) → Leads Q g script → Held g old → (cs : List Call) → Chained (LocalStep pid) old cs new → Plays script cs e → Led Q new e
script_leads pid Q (done x) g old new e l k [] m p = record { subs = g; held = subst (λ h. Held g h) (sym m) k; ends = subst (Q g) p l }
script_leads pid Q (done x) g old new e l k (c ∷ cs) m p = absurd p
script_leads pid Q (ask q next) g old new e l k [] m p = absurd p
script_leads pid Q (ask q next) g old new e l k (c ∷ cs) m p =
    script_leads pid Q (next p.0) (after_call g q p.0) m.0 new e (l p.0) (call_of pid g old m.0 q c p.0 p.1 m.1 k) cs m.2 p.2

-- calls of which none makes a subscriber
pub none_made : (pid : ℕ) (g : Sub → Bool) (old new : History) → Held g old → (cs : List Call) → some_enters cs ≡ false → Chained (LocalStep pid) old cs new → Held g new
none_made pid g old new k [] s m = subst (λ h. Held g h) (sym m) k
none_made pid g old new k (c ∷ cs) s m =
    let none = or_parts (enters c.ask c.answer) (some_enters cs) s in
    none_made pid g m.0 new (held_within (after_call g c.ask c.answer) g m.0 (no_more g c.ask c.answer none.0) (call_keeps pid g old m.0 c.ask c.answer k m.1)) cs none.1 m.2
