-- What the calls of an end leave behind in a lent shard.
use Rattle.std.proofs.Common.{◌≡◌, ◌++◌, ℕ, Bool, true, false, cond, ◌&&◌, ◌||◌, List, [], ◌∷◌, Option, Some, None, is_some, Result, Ok, Err, refl, sym, ap, ◌∙◌, subst}
use Rattle.std.specs.Prelude.{nat_eq, nat_lt, ◌^◌, map as each, option_to_list}
use Rattle.std.specs.List.{filter, AllByRecursion}
use Rattle.std.specs.Ordering.{eq_by_cmp}
use Rattle.std.specs.FinMap as map
use Rattle.std.specs.FinMap.Entries.{find}
use Rattle.std.proofs.lemmas.Bool.{eq-eqb}
use Rattle.std.proofs.lemmas.List.{append-nil}
use Rattle.presence_base.specs.declared.dots.Dot.{Dot}
use Rattle.presence_base.specs.declared.row.Row.{Row}
use Rattle.presence_base.specs.Order.{same_text, same_dot, same_replica}
use Rattle.presence_journal.specs.declared.entry.Outcome.{Outcome}
use Rattle.presence_journal.specs.declared.entry.Outcome.TheVariants as outcomes_are
use Rattle.presence_journal.specs.declared.step.Step.{Step}
use Rattle.presence_journal.specs.declared.step.Step.TheVariants as steps_are
use Rattle.presence_journal.specs.declared.rows.Place.{Place}
use Rattle.presence_journal.specs.History.{History, Then, own, count, has_dot, is_full}
use Rattle.presence_journal.specs.Present.{place_cmp, present, in_order, dots_of, dots_added, dots_taken}
use Rattle.presence_journal.specs.Queue.{topic_of, topic_after}
use Rattle.presence_journal.specs.Table.{IsLegal, is_mine, rows_of_pid, untracked, for_present, outcome_of, accepted, after, next_entry, with_outcome, is_step}
use Rattle.presence_journal.proofs.Same.{same_text-true, same_dot-true, same_place}
use Rattle.presence_journal.proofs.HistoryLemmas.{own-then, callers_plain}
use Rattle.presence_journal.proofs.FoldOthers.{accepted_is, stays_legal}
use Rattle.presence_journal.specs.Laws.{OnlyNamedLeave, is_callers}
use Rattle.presence_journal.proofs.Topics.{topic_of-then}
use Rattle.tracker_shard.specs.Steps.{Stepped, Made, is_found, slot_of, refusal, cause}
use Rattle.tracker_shard.specs.declared.fault.ShardFault.{ShardFault}
use Rattle.channel_rules.specs.declared.refusal.Refusal.{Refusal}
use Rattle.channel_rules.specs.declared.refusal.Refusal.TheVariants.{OverRation, NotGranted, Table}
use Rattle.tracker_shard.specs.declared.fault.ShardFault.TheVariants.{AlreadyTracked, NoPresence, ClockFull, JournalFull, NoSub, BadIncarnation, OutOfMemory}
use Rattle.tracker_shard.specs.declared.shard.Sub.{Sub}
use Rattle.channel_rules.specs.Asks.{Ask, Answer, Call, unsubscribe, untrack_all, Made as Chained}
use Rattle.channel_rules.specs.InForce.{Joined, InForce}
use Rattle.channel_rules.specs.Script.{Script, done, ask, Plays}
use Rattle.presence_stdio.specs.Local.{LocalStep}
use Rattle.channel_session.specs.Ending.{Played, Ended, Leaving, then_rows, ends_topic, ends_topics, left_with, then_topics, staying, ended_as, ends_cut_short}
use Rattle.session_laws.specs.LeftBehind.{is_named, StandsOn, IsOver, LeavesNothing, EndLeavesNothing}
use Rattle.presence_journal.specs.Walk.{is_rebirth}

-- ---- one step that adds no row

cond_some : (b : Bool) (o : Option Row) (r : Row) → cond b None o ≡ Some r → (b ≡ false) × (o ≡ Some r)
cond_some true o r e = absurd (cc)
cond_some false o r e = (refl, e)

module _ (h : History) (s : Step) (lasts : is_rebirth s ≡ false) where
  own_after : own (after h s None) ≡ own h
  unfolding after
  own_after = go (accepted h s)
    where
      go : (o : Option Outcome) → own (with_outcome h s None o) ≡ own h
      go None = refl
      go (Some o) = own-then h (next_entry h s None o) lasts

  pub mine_after : (pid : ℕ) (x : Dot × Row) → is_mine (after h s None) pid x ≡ is_mine h pid x
  mine_after pid x = ap (λ o. same_replica x.0.replica o && nat_eq x.1.pid pid) own_after

-- The row was there before, and the outcome doesn't name it.
pub record WasThere (h : History) (s : Step) (t : List ℕ) (p : Place) (r : Row) : Type 0 where
  pub before : map.get (present h t) p ≡ Some r
  pub spared : (o : Outcome) → accepted h s ≡ Some o → has_dot (dots_taken o) p.dot ≡ false

abbrev pub AddsNone : History → Step → Type 0
AddsNone h s = (o : Outcome) → outcome_of h s ≡ Some o → dots_added o ≡ []

after_refused : (h : History) (s : Step) → accepted h s ≡ None → after h s None ≡ h
unfolding after
after_refused h s f = ap (with_outcome h s None) f

pub same_some : (o q : Outcome) → ◌≡◌ {A = Option Outcome} (Some o) (Some q) → o ≡ q
same_some o q e = cc

module _ (leave : OnlyNamedLeave) (h : History) (legal : IsLegal h) (s : Step) (callers : is_callers s ≡ true) (adds : AddsNone h s) where
  pub was_there : (t : List ℕ) (p : Place) (r : Row) → map.get (present (after h s None) t) p ≡ Some r → WasThere h s t p r
  was_there t p r e = go (accepted h s) refl
    where
      go : (o : Option Outcome) → accepted h s ≡ o → WasThere h s t p r
      go None a = record { before = sym (ap (λ g. map.get (present g t) p) (after_refused h s a)) ∙ e; spared = λ o f. absurd (none_is o (sym a ∙ f)) }
        where
          none_is : (o : Outcome) → ◌≡◌ {A = Option Outcome} None (Some o) → ⊥
          none_is o f = cc
      go (Some o) a =
          let is = accepted_is h s o a in
          let added : has_dot (dots_added o) p.dot ≡ false = ap (λ ds. has_dot ds p.dot) (adds o is.1) in
          let both = cond_some (has_dot (dots_taken o) p.dot) (map.get (present h t) p) r (sym (leave h legal s None o callers a t p added) ∙ e) in
          record { before = both.1; spared = λ q f. ap (λ x. has_dot (dots_taken x) p.dot) (same_some q o (sym f ∙ a)) ∙ both.0 }

  stands_after : (ts : List (List ℕ)) (pid : ℕ) → StandsOn ts pid h → StandsOn ts pid (after h s None)
  stands_after ts pid on t p r e mine = on t p r (was_there t p r e).before (sym (mine_after h s (callers_plain s callers) pid (p.dot, r)) ∙ mine)

-- what holds before a step and after it holds whatever was answered
pub either : {A : Type 0} (P : History → Type 0) (old new : History) (s : Step) (a : Result A ShardFault) → Stepped old new None s a → P old → P (after old s None) → P new
either P old new s (Ok x) m p q = subst P (sym m.journal) q
either P old new s (Err AlreadyTracked) m p q = subst P (sym m.journal) q
either P old new s (Err NoPresence) m p q = subst P (sym m.journal) q
either P old new s (Err ClockFull) m p q = subst P (sym m) p
either P old new s (Err JournalFull) m p q = subst P (sym m) p
either P old new s (Err NoSub) m p q = subst P (sym m) p
either P old new s (Err BadIncarnation) m p q = subst P (sym m) p
either P old new s (Err OutOfMemory) m p q = subst P (sym m) p

-- ---- the two steps of an end

pub untracked_is : (h : History) (ds : List Dot) (o : Outcome) → untracked h ds ≡ Some o → o ≡ outcomes_are.Removed ds
untracked_is h [] o e = same_some o (outcomes_are.Removed []) (sym e)
untracked_is h (d ∷ ds) o e = go (nat_lt (count h) (2 ^ 62)) e
  where
    go : (b : Bool) → cond b (Some (outcomes_are.Removed (d ∷ ds))) None ≡ Some o → o ≡ outcomes_are.Removed (d ∷ ds)
    go true f = same_some o (outcomes_are.Removed (d ∷ ds)) (sym f)
    go false f = absurd (cc)

pub all_removed : (h : History) (pid : ℕ) (t : List ℕ) (o : Outcome) → outcome_of h (steps_are.UntrackAll pid t) ≡ Some o → o ≡ outcomes_are.Removed (dots_of (rows_of_pid h pid t))
unfolding outcome_of
all_removed h pid t o e = untracked_is h (dots_of (rows_of_pid h pid t)) o e

pub untrack_adds : (h : History) (pid : ℕ) (t : List ℕ) → AddsNone h (steps_are.UntrackAll pid t)
untrack_adds h pid t o e = ap dots_added (all_removed h pid t o e)

ended_is : (t : Option (List ℕ)) (o : Outcome) → for_present t outcomes_are.Ended ≡ Some o → o ≡ outcomes_are.Ended
ended_is None o e = absurd (cc)
ended_is (Some t) o e = same_some o outcomes_are.Ended (sym e)

pub unsubscribe_adds : (h : History) (n : ℕ) → AddsNone h (steps_are.Unsubscribe n)
unfolding outcome_of
unsubscribe_adds h n o e = ap dots_added (ended_is (topic_of h n) o e)

-- ---- rows that pass a test are named by their dots

none_is_some : (r : Row) → ◌≡◌ {A = Option Row} None (Some r) → ⊥
none_is_some r e = cc

same_row : (x y : Row) → ◌≡◌ {A = Option Row} (Some x) (Some y) → x ≡ y
same_row x y e = cc

pub or_true : (b : Bool) → (b || true) ≡ true
or_true true = refl
or_true false = refl

and_second : (a b : Bool) → (a && b) ≡ true → b ≡ true
and_second true b e = e
and_second false b e = absurd (cc)

module _ (test : Dot × Row → Bool) (p : Place) (r : Row) (passes : test (p.dot, r) ≡ true) where
  in_dots : (es : List (Place × Row)) → find place_cmp p es ≡ Some r → has_dot (dots_of (filter test (each (λ e. (e.0.dot, e.1)) es))) p.dot ≡ true
  in_dots [] e = absurd (none_is_some r e)
  in_dots (x ∷ es) e = go (eq_by_cmp place_cmp p x.0) refl e (λ f. in_dots es f)
    where
      rest : List (Dot × Row)
      rest = filter test (each (λ y. (y.0.dot, y.1)) es)

      here : same_dot p.dot x.0.dot ≡ true → x.1 ≡ r → has_dot (dots_of (cond (test (x.0.dot, x.1)) ((x.0.dot, x.1) ∷ rest) rest)) p.dot ≡ true
      here s q =
          let named : test (x.0.dot, x.1) ≡ true = (λ i. test (sym (same_dot-true p.dot x.0.dot s) i, q i)) ∙ passes in
          ap (λ b. has_dot (dots_of (cond b ((x.0.dot, x.1) ∷ rest) rest)) p.dot) named ∙ ap (λ b. b || has_dot (dots_of rest) p.dot) s

      later : (b : Bool) → has_dot (dots_of rest) p.dot ≡ true → has_dot (dots_of (cond b ((x.0.dot, x.1) ∷ rest) rest)) p.dot ≡ true
      later true f = ap (λ b. same_dot p.dot x.0.dot || b) f ∙ or_true (same_dot p.dot x.0.dot)
      later false f = f

      go : (b : Bool) → eq_by_cmp place_cmp p x.0 ≡ b → cond b (Some x.1) (find place_cmp p es) ≡ Some r → (find place_cmp p es ≡ Some r → has_dot (dots_of rest) p.dot ≡ true) → has_dot (dots_of (cond (test (x.0.dot, x.1)) ((x.0.dot, x.1) ∷ rest) rest)) p.dot ≡ true
      go true q f ih = here (and_second (same_text p.key x.0.key) (same_dot p.dot x.0.dot) (sym (same_place p x.0) ∙ q)) (same_row x.1 r f)
      go false q f ih = later (test (x.0.dot, x.1)) (ih f)

pub mine_is_named : (h : History) (pid : ℕ) (t : List ℕ) (p : Place) (r : Row) → map.get (present h t) p ≡ Some r → is_mine h pid (p.dot, r) ≡ true → has_dot (dots_of (rows_of_pid h pid t)) p.dot ≡ true
unfolding rows_of_pid in_order
mine_is_named h pid t p r e mine = in_dots (is_mine h pid) p r mine (map.entries (present h t)) (sym (map.get-entries (present h t) p) ∙ e)

pub no_row : (b : Bool) → b ≡ true → b ≡ false → ⊥
no_row b p q = cc

-- an accepted removal of all leaves the pid no row on the topic
module _ (leave : OnlyNamedLeave) (h new : History) (legal : IsLegal h) (pid : ℕ) (t : List ℕ) (made : Made h new None (steps_are.UntrackAll pid t)) where
  pub is_accepted : (o : Option Outcome) → accepted h (steps_are.UntrackAll pid t) ≡ o → is_some o ≡ true → accepted h (steps_are.UntrackAll pid t) ≡ Some (outcomes_are.Removed (dots_of (rows_of_pid h pid t)))
  is_accepted None e f = absurd (cc)
  is_accepted (Some o) e f = e ∙ ap (λ x. Some x) (all_removed h pid t o (accepted_is h (steps_are.UntrackAll pid t) o e).1)

  rows_gone : (ts : List (List ℕ)) → StandsOn (t ∷ ts) pid h → StandsOn ts pid new
  rows_gone ts on = subst (StandsOn ts pid) (sym made.journal) there
    where
      there : StandsOn ts pid (after h (steps_are.UntrackAll pid t) None)
      there u p r e mine =
          let was = was_there leave h legal (steps_are.UntrackAll pid t) refl (untrack_adds h pid t) u p r e in
          let owned : is_mine h pid (p.dot, r) ≡ true = sym (mine_after h (steps_are.UntrackAll pid t) refl pid (p.dot, r)) ∙ mine in
          let spared = was.spared (outcomes_are.Removed (dots_of (rows_of_pid h pid t))) (is_accepted (accepted h (steps_are.UntrackAll pid t)) refl made.accepted) in
          go (same_text u t) refl was.before owned spared (on u p r was.before owned)
        where
          go : (b : Bool) → same_text u t ≡ b → map.get (present h u) p ≡ Some r → is_mine h pid (p.dot, r) ≡ true → has_dot (dots_of (rows_of_pid h pid t)) p.dot ≡ false → (b || is_named u ts) ≡ true → is_named u ts ≡ true
          go true s f owned spared named =
              absurd (no_row (has_dot (dots_of (rows_of_pid h pid t)) p.dot) (mine_is_named h pid t p r (ap (λ v. map.get (present h v) p) (sym (same_text-true u t s)) ∙ f) owned) spared)
          go false s f owned spared named = named

-- ---- subscribers

abbrev pub Fewer : Step → Type 0
Fewer s = (number n : ℕ) (o : Option (List ℕ)) → is_some o ≡ false → is_some (topic_after s number n o) ≡ false

pub unsubscribe_fewer : (m : ℕ) → Fewer (steps_are.Unsubscribe m)
unsubscribe_fewer m number n o e = go (nat_eq m n)
  where
    go : (b : Bool) → is_some (cond b None o) ≡ false
    go true = refl
    go false = e

untrack_fewer : (pid : ℕ) (t : List ℕ) → Fewer (steps_are.UntrackAll pid t)
untrack_fewer pid t number n o e = e

found_by : (a b c : Bool) → (a && b) ≡ false → (a ≡ false → c ≡ false) → (c && b) ≡ false
found_by true b true e f = e
found_by true b false e f = refl
found_by false b c e f = ap (λ d. d && b) (f refl)

module _ (h : History) (s : Step) (fewer : Fewer s) where
  pub over_after : (slot n : ℕ) → is_found h slot n ≡ false → is_found (after h s None) slot n ≡ false
  unfolding after
  over_after slot n e = go (accepted h s)
    where
      go : (o : Option Outcome) → is_found (with_outcome h s None o) slot n ≡ false
      go None = e
      go (Some o) =
          let x = next_entry h s None o in
          found_by (is_some (topic_of h n)) (nat_eq slot (slot_of n)) (is_some (topic_of (Then h x) n)) e (λ f. ap is_some (topic_of-then h x n) ∙ fewer x.number n (topic_of h n) f)

same_number : (n : ℕ) → nat_eq n n ≡ true
same_number n = eq-eqb n n refl

-- an accepted end of a subscriber leaves it nowhere
module _ (h new : History) (n : ℕ) (made : Made h new None (steps_are.Unsubscribe n)) where
  pub over_now : (slot : ℕ) → is_found new slot n ≡ false
  unfolding after
  over_now slot = ap (λ g. is_found g slot n) made.journal ∙ gone (accepted h (steps_are.Unsubscribe n)) made.accepted
    where
      nowhere : (b : Bool) → b ≡ true → is_some (cond b None (topic_of h n)) ≡ false
      nowhere true e = refl
      nowhere false e = absurd (cc)

      gone : (o : Option Outcome) → is_some o ≡ true → is_found (with_outcome h (steps_are.Unsubscribe n) None o) slot n ≡ false
      gone None e = absurd (cc)
      gone (Some o) e =
          let x = next_entry h (steps_are.Unsubscribe n) None o in
          ap (λ b. b && nat_eq slot (slot_of n)) (ap is_some (topic_of-then h x n) ∙ nowhere (nat_eq n n) (same_number n))

-- one that is answered as unknown is nowhere
pub unknown_is_over : (found : Bool) (h : History) (s : Step) → refusal found h s ≡ Some NoSub → found ≡ false
unknown_is_over false h s e = refl
unknown_is_over true h s e = absurd (full (is_full h) (is_some (outcome_of h s)) e)
  where
    another : (s : Step) → Some (cause s) ≡ Some NoSub → ⊥
    another (steps_are.Rebirth incarnation) f = cc
    another _ f = cc

    full : (a b : Bool) → cond a (Some JournalFull) (cond b None (Some (cause s))) ≡ Some NoSub → ⊥
    full true b f = cc
    full false true f = cc
    full false false f = another s f

-- ---- the calls of an end

-- what a call of an end leaves as it was
record Keeps (pid : ℕ) (old new : History) : Type 0 where
  legal : IsLegal new
  rows : (ts : List (List ℕ)) → StandsOn ts pid old → StandsOn ts pid new
  over : (slot n : ℕ) → is_found old slot n ≡ false → is_found new slot n ≡ false

keeps_all : (pid : ℕ) (a b c : History) → Keeps pid a b → Keeps pid b c → Keeps pid a c
keeps_all pid a b c p q = record { legal = q.legal; rows = λ ts f. q.rows ts (p.rows ts f); over = λ slot n e. q.over slot n (p.over slot n e) }

module _ (leave : OnlyNamedLeave) (pid : ℕ) (old new : History) (legal : IsLegal old) where
  by_step : {A : Type 0} (s : Step) (a : Result A ShardFault) → is_step s ≡ true → is_callers s ≡ true → AddsNone old s → Fewer s → Stepped old new None s a → Keeps pid old new
  by_step s a limits callers adds fewer m =
      either (λ g. Keeps pid old g) old new s a m
      (record { legal = legal; rows = λ ts f. f; over = λ slot n e. e })
      (record { legal = stays_legal old legal s None limits; rows = λ ts f. stands_after leave old legal s callers adds ts pid f; over = λ slot n e. over_after old s fewer slot n e })

  by_unsubscribe : (t : List ℕ) (sub : Sub) (a : Answer (unsubscribe t sub)) → LocalStep pid old (unsubscribe t sub) a new → Keeps pid old new
  by_unsubscribe t sub (Ok u) k = by_step (steps_are.Unsubscribe sub.number) (Ok u) refl refl (unsubscribe_adds old sub.number) (unsubscribe_fewer sub.number) k.stepped
  by_unsubscribe t sub (Err (Table e)) k = by_step {A = Unit {0}} (steps_are.Unsubscribe sub.number) (Err e) refl refl (unsubscribe_adds old sub.number) (unsubscribe_fewer sub.number) k.stepped
  by_unsubscribe t sub (Err OverRation) k = absurd k
  by_unsubscribe t sub (Err NotGranted) k = absurd k

  by_untrack : (t : List ℕ) (a : Answer (untrack_all t)) → LocalStep pid old (untrack_all t) a new → Keeps pid old new
  by_untrack t (Ok u) k = by_step (steps_are.UntrackAll pid t) (Ok u) refl refl (untrack_adds old pid t) (untrack_fewer pid t) k.stepped
  by_untrack t (Err (Table e)) k = by_step {A = Unit {0}} (steps_are.UntrackAll pid t) (Err e) refl refl (untrack_adds old pid t) (untrack_fewer pid t) k.stepped
  by_untrack t (Err OverRation) k = absurd k
  by_untrack t (Err NotGranted) k = absurd k

-- ---- the script of an end

record First {E : Type 0} (pid : ℕ) (q : Ask) (next : Answer q → Script E) (old new : History) (e : E) : Type 0 where
  answer : Answer q
  mid : History
  call : LocalStep pid old q answer mid
  rest : Played (LocalStep pid) (next answer) mid new e

first_of : {E : Type 0} (pid : ℕ) (q : Ask) (next : Answer q → Script E) (old new : History) (e : E) → Played (LocalStep pid) (ask q next) old new e → First pid q next old new e
first_of {E} pid q next old new e p = go p.made p.calls p.plays
  where
    one : (c : Call) (a : Answer q) → c ≡ record { ask = q; answer = a } → (mid : History) → LocalStep pid old c.ask c.answer mid → LocalStep pid old q a mid
    one c a w mid k = subst (λ x. LocalStep pid old x.ask x.answer mid) w k

    go : (cs : List Call) → Chained (LocalStep pid) old cs new → Plays (ask q next) cs e → First pid q next old new e
    go [] m f = absurd f
    go (c ∷ cs) m f = record { answer = f.0; mid = m.0; call = one c f.0 f.1 m.0 m.1; rest = record { made = cs; calls = m.2; plays = f.2 } }

-- a topic's two calls: what is answered, and what it leaves
record TopicEnded (pid : ℕ) (t : List ℕ) (sub : Sub) (next : Result (Unit {0}) Refusal → Script Ended) (old new : History) (e : Ended) : Type 0 where
  answer : Result (Unit {0}) Refusal
  mid : History
  keeps : Keeps pid old mid
  rows : answer ≡ Ok tt → (ts : List (List ℕ)) → StandsOn (t ∷ ts) pid old → StandsOn ts pid mid
  over : answer ≡ Ok tt → is_found mid sub.slot sub.number ≡ false
  rest : Played (LocalStep pid) (next answer) mid new e

-- the removal of the rows, after a subscriber that is over
then_removed : (leave : OnlyNamedLeave) (pid : ℕ) (t : List ℕ) (sub : Sub) (next : Result (Unit {0}) Refusal → Script Ended) (old mid new : History) (e : Ended) → IsLegal old → Keeps pid old mid → is_found mid sub.slot sub.number ≡ false → Played (LocalStep pid) (ask (untrack_all t) next) mid new e → TopicEnded pid t sub next old new e
then_removed leave pid t sub next old mid new e legal kept over p =
    let f = first_of pid (untrack_all t) next mid new e p in
    let k = by_untrack leave pid mid f.mid kept.legal t f.answer f.call in
    record {
      answer = f.answer;
      mid = f.mid;
      keeps = keeps_all pid old mid f.mid kept k;
      rows = λ w ts on. removed f.mid f.answer f.call w ts (kept.rows (t ∷ ts) on);
      over = λ w. k.over sub.slot sub.number over;
      rest = f.rest;
    }
  where
    removed : (last : History) (a : Answer (untrack_all t)) → LocalStep pid mid (untrack_all t) a last → a ≡ Ok tt → (ts : List (List ℕ)) → StandsOn (t ∷ ts) pid mid → StandsOn ts pid last
    removed last (Ok u) k w ts on = rows_gone leave mid last kept.legal pid t k.stepped ts on
    removed last (Err x) k w ts on = absurd (cc)

topic_ended : (leave : OnlyNamedLeave) (pid : ℕ) (t : List ℕ) (sub : Sub) (next : Result (Unit {0}) Refusal → Script Ended) (old new : History) (e : Ended) → IsLegal old → Played (LocalStep pid) (ends_topic t sub next) old new e → TopicEnded pid t sub next old new e
topic_ended leave pid t sub next old new e legal p =
    let f = first_of pid (unsubscribe t sub) (then_rows t next) old new e p in
    go f.mid f.answer f.call f.rest
  where
    stays : (mid : History) (x : Refusal) → LocalStep pid old (unsubscribe t sub) (Err x) mid → Played (LocalStep pid) (next (Err x)) mid new e → TopicEnded pid t sub next old new e
    stays mid x k r = record {
      answer = Err x;
      mid = mid;
      keeps = by_unsubscribe leave pid old mid legal t sub (Err x) k;
      rows = λ w. absurd (cc);
      over = λ w. absurd (cc);
      rest = r;
    }

    go : (mid : History) (a : Answer (unsubscribe t sub)) → LocalStep pid old (unsubscribe t sub) a mid → Played (LocalStep pid) (then_rows t next a) mid new e → TopicEnded pid t sub next old new e
    go mid (Ok u) k r = then_removed leave pid t sub next old mid new e legal (by_unsubscribe leave pid old mid legal t sub (Ok u) k) (over_now old mid sub.number k.stepped sub.slot) r
    go mid (Err (Table NoSub)) k r =
        let kept = by_unsubscribe leave pid old mid legal t sub (Err (Table NoSub)) k in
        then_removed leave pid t sub next old mid new e legal kept (kept.over sub.slot sub.number (unknown_is_over (is_found old sub.slot sub.number) old (steps_are.Unsubscribe sub.number) k.due)) r
    go mid (Err (Table AlreadyTracked)) k r = stays mid (Table AlreadyTracked) k r
    go mid (Err (Table NoPresence)) k r = stays mid (Table NoPresence) k r
    go mid (Err (Table ClockFull)) k r = stays mid (Table ClockFull) k r
    go mid (Err (Table JournalFull)) k r = stays mid (Table JournalFull) k r
    go mid (Err (Table BadIncarnation)) k r = stays mid (Table BadIncarnation) k r
    go mid (Err (Table OutOfMemory)) k r = stays mid (Table OutOfMemory) k r
    go mid (Err OverRation) k r = absurd k
    go mid (Err NotGranted) k r = absurd k

-- ---- all topics

abbrev IsRefused : Leaving → Type 0
IsRefused leaving = (js : List Joined) (a : Result (Unit {0}) Refusal) → (leaving js a).answer ≡ Ok tt → ⊥

-- what has nothing more to ask ends so
at_end : (pid : ℕ) (x e : Ended) (old new : History) → Played (LocalStep pid) (done x) old new e → (x ≡ e) × (new ≡ old)
at_end pid x e old new p = go p.made p.calls p.plays
  where
    go : (cs : List Call) → Chained (LocalStep pid) old cs new → Plays (done x) cs e → (x ≡ e) × (new ≡ old)
    go [] m f = (f, m)
    go (c ∷ cs) m f = absurd f

refused : (leave : OnlyNamedLeave) (pid : ℕ) (js : List Joined) (leaving : Leaving) → IsRefused leaving → (old new : History) (e : Ended) → IsLegal old → Played (LocalStep pid) (ends_topics leaving js) old new e → e.answer ≡ Ok tt → ⊥
refused leave pid [] leaving r old new e legal p w = r [] (Ok tt) (ap (λ (x : Ended). x.answer) (at_end pid (leaving [] (Ok tt)) e old new p).0 ∙ w)
refused leave pid (j ∷ js) leaving r old new e legal p w =
    let t = topic_ended leave pid j.topic j.sub (λ a. ends_topics (staying j a leaving) js) old new e legal p in
    go (λ later f mid l q. refused leave pid js later f mid new e l q w) t.mid t.answer t.keeps.legal t.rest
  where
    go : ((later : Leaving) → IsRefused later → (mid : History) → IsLegal mid → Played (LocalStep pid) (ends_topics later js) mid new e → ⊥) → (mid : History) (a : Result (Unit {0}) Refusal) → IsLegal mid → Played (LocalStep pid) (ends_topics (staying j a leaving) js) mid new e → ⊥
    go rest mid (Ok u) l q = rest leaving r mid l q
    go rest mid (Err x) l q = rest (λ ks a. leaving (j ∷ ks) (Err x)) (λ ks a f. r (j ∷ ks) (Err x) f) mid l q

abbrev IsHonest : Leaving → Type 0
IsHonest leaving = (js : List Joined) (a : Result (Unit {0}) Refusal) → (leaving js a).answer ≡ a

record AllEnded (pid : ℕ) (js : List Joined) (old new : History) : Type 0 where
  keeps : Keeps pid old new
  rows : StandsOn [] pid new
  over : AllByRecursion (IsOver new) js

abbrev topics : List Joined → List (List ℕ)
topics js = each (λ j. j.topic) js

all_ended : (leave : OnlyNamedLeave) (pid : ℕ) (js : List Joined) (leaving : Leaving) → IsHonest leaving → (old new : History) (e : Ended) → IsLegal old → StandsOn (topics js) pid old → Played (LocalStep pid) (ends_topics leaving js) old new e → e.answer ≡ Ok tt → AllEnded pid js old new
all_ended leave pid [] leaving honest old new e legal on p w =
    let same = (at_end pid (leaving [] (Ok tt)) e old new p).1 in
    subst (λ g. AllEnded pid [] old g) (sym same) (record { keeps = record { legal = legal; rows = λ ts f. f; over = λ slot n f. f }; rows = on; over = tt })
all_ended leave pid (j ∷ js) leaving honest old new e legal on p w =
    let t = topic_ended leave pid j.topic j.sub (λ a. ends_topics (staying j a leaving) js) old new e legal p in
    go (λ mid l f q. all_ended leave pid js leaving honest mid new e l f q w) t.mid t.answer t.keeps t.rows t.over t.rest
  where
    go : ((mid : History) → IsLegal mid → StandsOn (topics js) pid mid → Played (LocalStep pid) (ends_topics leaving js) mid new e → AllEnded pid js mid new) → (mid : History) (a : Result (Unit {0}) Refusal) → Keeps pid old mid → (a ≡ Ok tt → (ts : List (List ℕ)) → StandsOn (j.topic ∷ ts) pid old → StandsOn ts pid mid) → (a ≡ Ok tt → is_found mid j.sub.slot j.sub.number ≡ false) → Played (LocalStep pid) (ends_topics (staying j a leaving) js) mid new e → AllEnded pid (j ∷ js) old new
    go later mid (Ok u) k rows over q =
        let rest = later mid k.legal (rows refl (topics js) on) q in
        record { keeps = keeps_all pid old mid new k rest.keeps; rows = rest.rows; over = (rest.keeps.over j.sub.slot j.sub.number (over refl), rest.over) }
    go later mid (Err x) k rows over q = absurd (refused leave pid js (λ ks a. leaving (j ∷ ks) (Err x)) (λ ks a f. not_ok x (sym (honest (j ∷ ks) (Err x)) ∙ f)) mid new e k.legal q w)
      where
        not_ok : (x : Refusal) → ◌≡◌ {A = Result (Unit {0}) Refusal} (Err x) (Ok tt) → ⊥
        not_ok x f = cc

-- ---- the whole end

named_last : (t u : List ℕ) (ts : List (List ℕ)) → is_named t (ts ++ u ∷ []) ≡ true → is_named t (u ∷ ts) ≡ true
named_last t u [] e = e
named_last t u (x ∷ ts) e = go (same_text t x) (same_text t u) (is_named t ts) (is_named t (ts ++ u ∷ [])) (λ f. named_last t u ts f) e
  where
    go : (a b c d : Bool) → (d ≡ true → (b || c) ≡ true) → (a || d) ≡ true → (b || (a || c)) ≡ true
    go true b c d f g = or_true b
    go false b c d f g = f g

ok_by : (a : Result (Unit {0}) Refusal) → Ok tt ≡ ended_as a → a ≡ Ok tt
ok_by (Ok u) e = refl
ok_by (Err x) e = absurd (cc)

none_left : (pid : ℕ) (h : History) → StandsOn [] pid h → (t : List ℕ) (p : Place) (r : Row) → map.get (present h t) p ≡ Some r → is_mine h pid (p.dot, r) ≡ false
none_left pid h on t p r e = go (is_mine h pid (p.dot, r)) refl
  where
    go : (b : Bool) → is_mine h pid (p.dot, r) ≡ b → b ≡ false
    go true f = sym (on t p r e f)
    go false f = refl

leaves_nothing : (s : InForce) (old new : History) → AllEnded s.pid s.joined old new → LeavesNothing s new
leaves_nothing s old new a = record { rows = none_left s.pid new a.rows; subscribers = a.over }

pub end_leaves_nothing : OnlyNamedLeave → EndLeavesNothing
end_leaves_nothing leave s after old new legal on ended = go s.cut_short refl ended.played
  where
    last : Ended
    last = record { after = after; answer = ended.answer }

    ok : ended.answer ≡ Ok tt
    ok = ok_by ended.answer ended.answer_is

    on_all : (o : Option (List ℕ)) → s.cut_short ≡ o → StandsOn (topics s.joined ++ option_to_list o) s.pid old
    on_all o e = subst (λ x. StandsOn (topics s.joined ++ option_to_list x) s.pid old) e on

    go : (o : Option (List ℕ)) → s.cut_short ≡ o → Played (LocalStep s.pid) (ends_cut_short s o) old new last → LeavesNothing s new
    go None e p = leaves_nothing s old new (all_ended leave s.pid s.joined (left_with s None) (λ js a. refl) old new last legal (λ t q r f g. subst (λ ts. is_named t ts ≡ true) (append-nil (topics s.joined)) (on_all None e t q r f g)) p ok)
    go (Some t) e p =
        let f = first_of s.pid (untrack_all t) (then_topics s t) old new last p in
        cut f.mid f.answer f.call f.rest
      where
        on_cut : StandsOn (t ∷ topics s.joined) s.pid old
        on_cut u q r f g = named_last u t (topics s.joined) (on_all (Some t) e u q r f g)

        cut : (mid : History) (a : Answer (untrack_all t)) → LocalStep s.pid old (untrack_all t) a mid → Played (LocalStep s.pid) (then_topics s t a) mid new last → LeavesNothing s new
        cut mid (Ok u) k q =
            let kept = by_untrack leave s.pid old mid legal t (Ok u) k in
            leaves_nothing s mid new (all_ended leave s.pid s.joined (left_with s None) (λ js a. refl) mid new last kept.legal (rows_gone leave old mid legal s.pid t k.stepped (topics s.joined) on_cut) q ok)
        cut mid (Err x) k q =
            let kept = by_untrack leave s.pid old mid legal t (Err x) k in
            absurd (refused leave s.pid s.joined (λ js a. left_with s (Some t) js (Err x)) (λ js a f. not_ok x f) mid new last kept.legal q ok)
          where
            not_ok : (x : Refusal) → ◌≡◌ {A = Result (Unit {0}) Refusal} (Err x) (Ok tt) → ⊥
            not_ok x f = cc
