-- Over one shard the answers are the table's, and what a script comes to is a function of the history.
use Rattle.std.proofs.Common.{◌≡◌, ℕ, ◌+◌, ◌^◌, Bool, true, false, cond, nat_lt, List, [], ◌∷◌, Option, Some, None, Result, Ok, Err, refl, sym, ◌∙◌, ap, subst}
use Rattle.presence_base.specs.declared.dots.Dot.{Dot}
use Rattle.presence_base.specs.declared.row.Row.{Row}
use Rattle.presence_journal.specs.declared.entry.Outcome.{Outcome}
use Rattle.presence_journal.specs.declared.entry.Outcome.TheVariants as outcomes_are
use Rattle.presence_journal.specs.declared.step.Step.{Step}
use Rattle.presence_journal.specs.declared.step.Step.TheVariants as steps_are
use Rattle.presence_journal.specs.History.{History, count, last_number, next_dot}
use Rattle.presence_journal.specs.Present.{listed, dots_of}
use Rattle.presence_journal.specs.Queue.{Waiting, Behind, Queued, queue, topic_of, items_given}
use Rattle.presence_journal.specs.Table.{outcome_of, tracked, updated, untracked, take_outcome, for_present, listed_key, rows_of_key, rows_of_pid}
use Rattle.tracker_shard.specs.Steps.{Stepped, Answers, IsDue, refusal, new_dot, is_found}
use Rattle.tracker_shard.specs.declared.fault.ShardFault.{ShardFault}
use Rattle.tracker_shard.specs.declared.fault.ShardFault.TheVariants.{AlreadyTracked, NoPresence, ClockFull, JournalFull, NoSub, BadIncarnation, OutOfMemory}
use Rattle.tracker_shard.specs.declared.shard.Sub.{Sub}
use Rattle.channel_rules.specs.Asks.{Ask, track, update, untrack, untrack_all, list, get, subscribe, take, unsubscribe, waits, shout, Given, Answer, Call, Made}
use Rattle.presence_stdio.specs.Local.{Asked, TableStep, LocalStep, answer_to, after_unless, answer_of, after_of, answer_in, after_in, played, Heeds}
use Rattle.channel_rules.specs.Script.{Script, done, ask, Plays}
use Rattle.channel_rules.specs.Seen.{in_table}
use Rattle.channel_rules.specs.declared.refusal.Refusal.{Refusal}
use Rattle.channel_rules.specs.declared.refusal.Refusal.TheVariants.{OverRation, NotGranted, Table}

-- ---- what an outcome gives

-- the table gives y, where it gives anything
abbrev Fits : {A : Type 0} → Option Outcome → A → A → Type 0
Fits o x y = answer_to None o x ≡ Ok y

added : (b : Bool) (n d : Dot) → new_dot (cond b (Some (outcomes_are.Added n)) None) ≡ Some d → Fits (cond b (Some (outcomes_are.Added n)) None) n d
added true n d e = let same : n ≡ d = cc in ap Ok same
added false n d e = absurd (cc)

replaced : (b : Bool) (n old d : Dot) → new_dot (cond b (Some (outcomes_are.Replaced n old)) None) ≡ Some d → Fits (cond b (Some (outcomes_are.Replaced n old)) None) n d
replaced true n old d e = let same : n ≡ d = cc in ap Ok same
replaced false n old d e = absurd (cc)

track_gives : (h : History) (rows : List (Dot × Row)) (d : Dot) → new_dot (tracked h rows) ≡ Some d → Fits (tracked h rows) (next_dot h) d
track_gives h [] d e = added (nat_lt (count h) (2 ^ 62)) (next_dot h) d e
track_gives h (x ∷ xs) d e = absurd (cc)

update_gives : (h : History) (rows : List (Dot × Row)) (d : Dot) → new_dot (updated h rows) ≡ Some d → Fits (updated h rows) (next_dot h) d
update_gives h [] d e = absurd (cc)
update_gives h (x ∷ xs) d e = replaced (nat_lt (count h) (2 ^ 62)) (next_dot h) x.0 d e

removed : (b : Bool) (ds : List Dot) → Fits {A = Unit {0}} (cond b (Some (outcomes_are.Removed ds)) None) tt tt
removed true ds = refl
removed false ds = refl

untrack_gives : (h : History) (ds : List Dot) → Fits {A = Unit {0}} (untracked h ds) tt tt
untrack_gives h [] = refl
untrack_gives h (d ∷ ds) = removed (nat_lt (count h) (2 ^ 62)) (d ∷ ds)

take_gives : {A : Type 0} (t : Option (List ℕ)) (max : ℕ) (w : Waiting) (x : A) → Fits (for_present t (take_outcome max w)) x x
take_gives None max w x = refl
take_gives (Some t) max Behind x = refl
take_gives (Some t) max (Queued q) x = refl

end_gives : (t : Option (List ℕ)) → Fits {A = Unit {0}} (for_present t outcomes_are.Ended) tt tt
end_gives None = refl
end_gives (Some t) = refl

same_sub : (n : ℕ) (sub next : Sub) → sub.number ≡ n → sub.slot ≡ 0 → next ≡ record { slot = 0; number = n } → ◌≡◌ {A = Result Sub Refusal} (Ok next) (Ok sub)
same_sub n sub next e f is = ap Ok (is ∙ rw (← e, ← f) refl)

-- ---- one call

abbrev Wanted : {A : Type 0} → Result A ShardFault → Type 0
Wanted a = a ≡ Err OutOfMemory

abbrev WantedOf : {A : Type 0} → Result A Refusal → Type 0
WantedOf a = a ≡ Err (Table OutOfMemory)

module _ {A : Type 0} (old new : History) (s : Step) (Gives : A → Type 0) (x : A) where
  by_table : (r : Option ShardFault) (o : Option Outcome) (a : Result A ShardFault) → ((y : A) → Gives y → Fits o x y) → Stepped old new None s a → Answers Gives o a → IsDue a r → (Wanted a → ⊥)
      → (in_table a ≡ answer_to r o x) × (new ≡ after_unless r old s)
  by_table r o (Ok y) fits stepped given due ample = rw due (sym (fits y given), stepped.journal)
  by_table r o (Err AlreadyTracked) fits stepped given due ample = rw (due, given) (refl, stepped.journal)
  by_table r o (Err NoPresence) fits stepped given due ample = rw (due, given) (refl, stepped.journal)
  by_table r o (Err ClockFull) fits stepped given due ample = rw due (refl, stepped)
  by_table r o (Err JournalFull) fits stepped given due ample = rw due (refl, stepped)
  by_table r o (Err NoSub) fits stepped given due ample = rw due (refl, stepped)
  by_table r o (Err BadIncarnation) fits stepped given due ample = rw due (refl, stepped)
  by_table r o (Err OutOfMemory) fits stepped given due ample = absurd (ample refl)

  asked_is : (found : Bool) (a : Result A ShardFault) → ((y : A) → Gives y → Fits (outcome_of old s) x y) → Asked found old new s Gives a → (Wanted a → ⊥) → (in_table a ≡ answer_of found old s x) × (new ≡ after_of found old s)
  asked_is found a fits h ample = by_table (refusal found old s) (outcome_of old s) a fits h.stepped h.given h.due ample

-- an answer is the table's, and so is the history that it leaves
table_answers : (pid : ℕ) (old new : History) (q : Ask) (a : Result (Given q) ShardFault) → TableStep pid old q a new → (Wanted a → ⊥) → (in_table a ≡ answer_in pid old q) × (new ≡ after_in pid old q)
unfolding answer_in after_in outcome_of
table_answers pid old new (track t k m) a h ample = asked_is old new (steps_are.Track pid t k m) _ (next_dot old) true a (λ d e. track_gives old (rows_of_key old pid t k) d e) h ample
table_answers pid old new (update t k m) a h ample = asked_is old new (steps_are.Update pid t k m) _ (next_dot old) true a (λ d e. update_gives old (rows_of_key old pid t k) d e) h ample
table_answers pid old new (untrack t k) a h ample = asked_is old new (steps_are.Untrack pid t k) _ tt true a (λ y e. untrack_gives old (dots_of (rows_of_key old pid t k))) h ample
table_answers pid old new (untrack_all t) a h ample = asked_is old new (steps_are.UntrackAll pid t) _ tt true a (λ y e. untrack_gives old (dots_of (rows_of_pid old pid t))) h ample
table_answers pid old new (list t) a h ample = asked_is old new (steps_are.List t) _ (listed old t) true a (λ y e. ap Ok (sym e)) h ample
table_answers pid old new (get t k) a h ample = asked_is old new (steps_are.Get t k) _ (listed_key old t k) true a (λ y e. ap Ok (sym e)) h ample
table_answers pid old new (subscribe t) a h ample = asked_is old new (steps_are.Subscribe t) _ (record { slot = 0; number = last_number old + 1 }) true a (λ y e. same_sub (last_number old + 1) y _ e.0 e.1 refl) h ample
table_answers pid old new (take t s n) a h ample =
    asked_is old new (steps_are.Take s.number n) _ (items_given old s.number n) (is_found old s.slot s.number) a
    (λ y e. take_gives (topic_of old s.number) n (queue old s.number) (items_given old s.number n) ∙ ap Ok (sym e)) h ample
table_answers pid old new (unsubscribe t s) a h ample = asked_is old new (steps_are.Unsubscribe s.number) _ tt (is_found old s.slot s.number) a (λ y e. end_gives (topic_of old s.number)) h ample
table_answers pid old new (waits t s) (Ok w) h ample = (rw (h.1.0, h.1.1) refl, h.0)
table_answers pid old new (waits t s) (Err e) h ample = (rw (h.1.0, h.1.1) refl, h.0)
table_answers pid old new (shout t p) a h ample = asked_is old new (steps_are.Shout t p) _ tt true a (λ y e. refl) h ample

-- the port's answer is the table's
pub by_the_table : (pid : ℕ) (old new : History) (q : Ask) (a : Answer q) → LocalStep pid old q a new → (WantedOf a → ⊥) → (a ≡ answer_in pid old q) × (new ≡ after_in pid old q)
by_the_table pid old new q (Ok x) h ample = table_answers pid old new q (Ok x) h (λ wanted. absurd (cc))
by_the_table pid old new q (Err (Table e)) h ample = table_answers pid old new q (Err e) h (λ wanted. ample (ap in_table wanted))
by_the_table pid old new q (Err OverRation) h ample = absurd h
by_the_table pid old new q (Err NotGranted) h ample = absurd h

-- want of memory leaves the history
pub want_stays : (pid : ℕ) (old new : History) (q : Ask) → LocalStep pid old q (Err (Table OutOfMemory)) new → new ≡ old
want_stays pid old new (track t k m) h = h.stepped
want_stays pid old new (update t k m) h = h.stepped
want_stays pid old new (untrack t k) h = h.stepped
want_stays pid old new (untrack_all t) h = h.stepped
want_stays pid old new (list t) h = h.stepped
want_stays pid old new (get t k) h = h.stepped
want_stays pid old new (subscribe t) h = h.stepped
want_stays pid old new (take t s n) h = h.stepped
want_stays pid old new (unsubscribe t s) h = h.stepped
want_stays pid old new (waits t s) h = h.0
want_stays pid old new (shout t p) h = h.stepped

-- ---- scripts

-- a call that isn't refused for want of memory is played as it was made
goes_on : {E : Type 0} (pid : ℕ) (old mid : History) (q : Ask) (a : Answer q) → LocalStep pid old q a mid → (next : Answer q → Script E) (end : E × History) → (WantedOf a → ⊥) → played pid (next a) mid ≡ end → played pid (ask q next) old ≡ end
goes_on pid old mid q a step next end ample h =
    let table : (a ≡ answer_in pid old q) × (mid ≡ after_in pid old q) = by_the_table pid old mid q a step ample in
    rw (← table.0, ← table.1) h

module _ {E : Type 0} (out : E) where
  stopped : (s : Script E) (calls : List Call) (e : E) → s ≡ done out → Plays s calls e → e ≡ out
  stopped s calls e is p = at_end calls (subst (λ x. Plays x calls e) is p)
    where
      at_end : (cs : List Call) → Plays (done out) cs e → e ≡ out
      at_end [] h = sym h
      at_end (c ∷ cs) h = absurd h

  -- a script that heeds want of memory, and doesn't come to that end, was played against the table
  pub played_is : (pid : ℕ) (s : Script E) (calls : List Call) (e : E) (old new : History) → Heeds out s → Plays s calls e → Made (LocalStep pid) old calls new → (e ≡ out → ⊥) → played pid s old ≡ (e, new)
  played_is pid (done x) [] e old new heeds plays made apart = rw (plays, made) refl
  played_is pid (done x) (c ∷ cs) e old new heeds plays made apart = absurd plays
  played_is pid (ask q next) [] e old new heeds plays made apart = absurd plays
  played_is pid (ask q next) (c ∷ cs) e old new heeds plays made apart =
      goes_on pid old made.0 q plays.0 (subst (λ d. LocalStep pid old d.ask d.answer made.0) plays.1 made.1) next (e, new)
      (λ wanted. apart (stopped (next plays.0) cs e (ap next wanted ∙ heeds.0) plays.2))
      (played_is pid (next plays.0) cs e made.0 new (heeds.1 plays.0) plays.2 made.2 apart)
