-- Histories as lists, and what a legal entry does.
use Rattle.std.proofs.Common.{◌≡◌, ℕ, zero, suc, ◌+◌, ◌-◌, slice_get, ◌<◌, ◌≤◌, ◌^◌, Bool, true, false, cond, ◌&&◌, ◌||◌, nat_lt, nat_le, List, [], ◌∷◌, ◌++◌, Option, Some, None, refl, sym, ◌∙◌, ap, subst, arith, length, inl, inr}
use Rattle.std.specs.Prelude.{◌⊎◌, max, is_none}
use Rattle.std.specs.List.{AllByRecursion}
use Rattle.std.proofs.lemmas.Bool.{and_parts, or_left, or_right, or_parts, lt-leb, leb-false, and_from, or_cases, ltb-true, leb-true, lt-ltb, le-leb}
use Rattle.std.specs.Map.{lookup}
use Rattle.std.proofs.lemmas.Option.{same_Some, slice_get_within}
use Rattle.presence_base.specs.declared.dots.Replica.{Replica}
use Rattle.presence_base.specs.declared.dots.Dot.{Dot}
use Rattle.presence_base.specs.declared.row.Row.{Row}
use Rattle.presence_base.specs.Metas.{is_meta}
use Rattle.presence_base.specs.Names.{is_short_text}
use Rattle.presence_base.specs.Order.{same_dot, same_replica}
use Rattle.orswot_core.specs.Telling.{covers, live_row}
use Rattle.serde_json.specs.Data.{Data}
use Rattle.presence_journal.specs.declared.step.Step.TheVariants as steps_are
use Rattle.presence_journal.specs.declared.entry.Outcome.TheVariants as outcomes_are
use Rattle.replica_status.specs.declared.status.Status.TheVariants as status_is
use Rattle.replica_status.specs.declared.standing.Standing.{Standing}
use Rattle.replica_status.specs.Table.{status_of}
use Rattle.presence_journal.specs.Steps.{Step, Outcome, Entry, Start}
use Rattle.presence_journal.specs.History.{History, Begin, Then, onto, start_of, own, reborn, own_after, is_full, count, counts_used, count_after, has_dots, row_again, row_brought, last_cut, last_number, entry_count, next_dot, is_counted, known, time, time_of, standing, standing_after, status, is_up, told_covers, told_row, told_removed, first_some, has_dot, row_made, row_added, dot_removed, removed, row, live, shown}
use Rattle.presence_journal.specs.Present.{listed, dots_of, dots_taken}
use Rattle.presence_journal.specs.Queue.{Waiting, Behind, Queued, queue, topic_of}
use Rattle.presence_journal.specs.Table.{rows_of_pid, rows_of_key, listed_key, counting, tracked, updated, untracked, take_outcome, for_present, outcome_of, next_entry, accepted, after, is_step, IsStart, IsLegal, AreWithinLimits, own_dots, reborn_from}
use Rattle.presence_journal.specs.StepLimits.{is_row_made, is_within_limits}
use Rattle.presence_journal.specs.Walk.{tells, is_rebirth, is_reborn}
use Rattle.presence_journal.specs.Laws.{is_callers}
use Rattle.presence_journal.specs.Merges.{is_of_rows}
use Rattle.presence_journal.proofs.Same.{same_dot-true, same_replica-true, same_replica-refl}
use Rattle.presence_journal.proofs.ToldLemmas.{told_other, none_told_row, none_told_removed, callers_tell_none, live_row_covered, row_told_covers, removed_told_covers}
use Rattle.presence_journal.proofs.PresentLemmas.{shown-row, IsOwnListed, own_rows, own_rows_of_key}
use Rattle.presence_journal.proofs.Reborn.{known_has, length_reborn, again_parts, IsAgain, again_of, own_dots_most}

-- entries in order upon a history

pub onto-append : (h : History) (xs ys : List Entry) → onto h (xs ++ ys) ≡ onto (onto h xs) ys
onto-append h [] ys = refl
onto-append h (x ∷ xs) ys = onto-append (Then h x) xs ys

pub legal_before : (h : History) (xs : List Entry) → IsLegal (onto h xs) → IsLegal h
legal_before h [] l = l
legal_before h (x ∷ xs) l = (legal_before (Then h x) xs l).0

pub start_of-onto : (h : History) (xs : List Entry) → start_of (onto h xs) ≡ start_of h
start_of-onto h [] = refl
start_of-onto h (x ∷ xs) = start_of-onto (Then h x) xs

pub entry_count-onto : (h : History) (xs : List Entry) → entry_count (onto h xs) ≡ entry_count h + length xs
unfolding entry_count
entry_count-onto h [] = omega arith
entry_count-onto h (x ∷ xs) = omega (arith, entry_count-onto (Then h x) xs)

pub last_number-onto : (h : History) (xs : List Entry) → IsLegal (onto h xs) → last_number (onto h xs) ≡ last_number h + length xs
unfolding last_number
last_number-onto h [] l = omega arith
last_number-onto h (e ∷ es) l = let p = (legal_before (Then h e) es l).2 in last_number-onto (Then h e) es l ∙ omega (arith, p)

-- counted dots

pub counted_parts : (r : Replica) (n : ℕ) (d : Dot) → is_counted r n d ≡ true → (d.replica ≡ r) × (0 < d.count) × (d.count ≤ n)
counted_parts r n d h =
    let p = and_parts (same_replica d.replica r) (nat_lt 0 d.count && nat_le d.count n) h in
    let q = and_parts (nat_lt 0 d.count) (nat_le d.count n) p.1 in
    (same_replica-true d.replica r p.0, ltb-true 0 d.count q.0, leb-true d.count n q.1)

pub counted_from : (r : Replica) (n : ℕ) (d : Dot) → d.replica ≡ r → 0 < d.count → d.count ≤ n → is_counted r n d ≡ true
counted_from r n d p l m = and_from (same_replica d.replica r) (nat_lt 0 d.count && nat_le d.count n) (ap (λ q. same_replica q r) p ∙ same_replica-refl r) (and_from (nat_lt 0 d.count) (nat_le d.count n) (lt-ltb 0 d.count l) (le-leb d.count n m))

pub is_own : (h : History) (d : Dot) → d.replica ≡ own h → same_replica d.replica (own h) ≡ true
is_own h d o = ap (λ q. same_replica q (own h)) o ∙ same_replica-refl (own h)

pub own_same : (s : Step) (r : Replica) → is_rebirth s ≡ false → own_after s r ≡ r
own_same (steps_are.Rebirth i) r f = absurd (cc)
own_same _ r f = refl

-- a rebirth alone changes the own replica
pub own-then : (h : History) (e : Entry) → is_rebirth e.step ≡ false → own (Then h e) ≡ own h
unfolding own
own-then h e f = own_same e.step (own h) f

pub count_same : (o : Outcome) (n : ℕ) → is_reborn o ≡ false → count_after o n ≡ n + counts_used o
count_same (outcomes_are.Reborn ps) n a = absurd (cc)
count_same _ n a = refl

-- and counts anew
pub count-then : (h : History) (e : Entry) → is_reborn e.outcome ≡ false → count (Then h e) ≡ count h + counts_used e.outcome
unfolding count
count-then h e a = count_same e.outcome (count h) a

pub brought_told : (o : Outcome) (f : Dot → Option Row) (r : Option Row) (d : Dot) → is_reborn o ≡ false → row_brought o f r d ≡ r
brought_told (outcomes_are.Reborn ps) f r d a = absurd (cc)
brought_told _ f r d a = refl

pub callers_plain : (s : Step) → is_callers s ≡ true → is_rebirth s ≡ false
callers_plain (steps_are.Rebirth i) f = absurd (cc)
callers_plain _ f = refl

pub used_plain : (o : Outcome) → counts_used o ≡ 1 → is_reborn o ≡ false
used_plain (outcomes_are.Reborn ps) u = absurd (omega (arith, u))
used_plain _ u = refl

-- what an entry makes known

pub known-then : (h : History) (e : Entry) (d : Dot) → known (Then h e) d ≡ (known h d || (is_counted (own (Then h e)) (count (Then h e)) d || told_covers h e.step d))
unfolding known
known-then h e d = refl

-- what is known stays known
pub known_then : (h : History) (e : Entry) (d : Dot) → known h d ≡ true → known (Then h e) d ≡ true
unfolding known
known_then h e d k = or_left (known h d) (is_counted (own (Then h e)) (count (Then h e)) d || told_covers h e.step d) k

pub counted_known : (h : History) (e : Entry) (d : Dot) → is_counted (own (Then h e)) (count (Then h e)) d ≡ true → known (Then h e) d ≡ true
unfolding known
counted_known h e d k = or_right (known h d) (is_counted (own (Then h e)) (count (Then h e)) d || told_covers h e.step d) (or_left (is_counted (own (Then h e)) (count (Then h e)) d) (told_covers h e.step d) k)

pub told_known : (h : History) (e : Entry) (d : Dot) → told_covers h e.step d ≡ true → known (Then h e) d ≡ true
unfolding known
told_known h e d k = or_right (known h d) (is_counted (own (Then h e)) (count (Then h e)) d || told_covers h e.step d) (or_right (is_counted (own (Then h e)) (count (Then h e)) d) (told_covers h e.step d) k)

-- what is known, by what it is known from
pub known_cases : (h : History) (e : Entry) (d : Dot) → known (Then h e) d ≡ true → (known h d ≡ true) ⊎ ((is_counted (own (Then h e)) (count (Then h e)) d ≡ true) ⊎ (told_covers h e.step d ≡ true))
unfolding known
known_cases h e d k = go (or_cases (known h d) (is_counted (own (Then h e)) (count (Then h e)) d || told_covers h e.step d) k)
  where
    go : (known h d ≡ true) ⊎ ((is_counted (own (Then h e)) (count (Then h e)) d || told_covers h e.step d) ≡ true) → (known h d ≡ true) ⊎ ((is_counted (own (Then h e)) (count (Then h e)) d ≡ true) ⊎ (told_covers h e.step d ≡ true))
    go (inl f) = inl f
    go (inr f) = inr (or_cases (is_counted (own (Then h e)) (count (Then h e)) d) (told_covers h e.step d) f)

-- own dots that were counted are known

known_first : (s : Start) → IsStart s → (d : Dot) → d.replica ≡ own (Begin s) → 0 < d.count → d.count ≤ count (Begin s) → known (Begin s) d ≡ true
unfolding known own count
known_first s start d o l m = start.own_dots d o ∙ counted_from s.own s.count d o l m

pub known_from : (h : History) → IsLegal h → (d : Dot) → d.replica ≡ own h → 0 < d.count → d.count ≤ count h → known h d ≡ true
known_from (Begin s) legal d o l m = known_first s legal d o l m
known_from (Then h e) legal d o l m = counted_known h e d (counted_from (own (Then h e)) (count (Then h e)) d o l m)

-- the next dot is known once it is used
pub next_known : (h : History) (e : Entry) (d : Dot) → is_rebirth e.step ≡ false → d ≡ next_dot h → counts_used e.outcome ≡ 1 → known (Then h e) d ≡ true
next_known h e d f p u =
    let c : d.count ≡ count h + 1 = ap (λ (z : Dot). z.count) p in
    let o : d.replica ≡ own (Then h e) = ap (λ (z : Dot). z.replica) p ∙ sym (own-then h e f) in
    counted_known h e d (counted_from (own (Then h e)) (count (Then h e)) d o (omega (arith, c)) (omega (arith, c, u, count-then h e (used_plain e.outcome u))))

-- the four kinds of entry that is no rebirth

abbrev pub is_quiet : Outcome → Bool
is_quiet (outcomes_are.Added d) = false
is_quiet (outcomes_are.Replaced d old) = false
is_quiet (outcomes_are.Removed (d ∷ ds)) = false
is_quiet (outcomes_are.Reborn ps) = false
is_quiet _ = true

pub quiet_plain : (o : Outcome) → is_quiet o ≡ true → is_reborn o ≡ false
quiet_plain (outcomes_are.Reborn ps) q = absurd (cc)
quiet_plain _ q = refl

-- an own row that is shown
pub record IsOwnShown (h : History) (d : Dot) : Type 0 where
  pub row : Row
  pub shown : shown h d ≡ Some row
  pub own : d.replica ≡ own h

-- an entry adds a row, replaces one, takes some out, or changes no own row
pub data Kind (h : History) (s : Step) (o : Outcome) : Type 0 where
  Adds : (r : Row) → row_made s None ≡ Some r → o ≡ outcomes_are.Added (next_dot h) → count h < 2 ^ 62 → Kind h s o
  Replaces : (r : Row) (old : Dot) → row_made s (Some old) ≡ Some r → o ≡ outcomes_are.Replaced (next_dot h) old → count h < 2 ^ 62 → IsOwnShown h old → Kind h s o
  Removes : (d : Dot) (ds : List Dot) → o ≡ outcomes_are.Removed (d ∷ ds) → count h < 2 ^ 62 → AllByRecursion (IsOwnShown h) (d ∷ ds) → is_of_rows s ≡ true → Kind h s o
  Quiet : is_quiet o ≡ true → Kind h s o

-- a step that changes own rows tells nothing of others

of_rows_tells_none : (s : Step) → is_of_rows s ≡ true → tells s ≡ false
of_rows_tells_none (steps_are.Merge t) f = absurd (cc)
of_rows_tells_none _ f = refl

made_tells_none : (s : Step) (prev : Option Dot) (r : Row) → row_made s prev ≡ Some r → tells s ≡ false
made_tells_none (steps_are.Merge t) prev r m = absurd (cc)
made_tells_none _ prev r m = refl

counted_one : (h : History) (o p : Outcome) → counting h o ≡ Some p → (p ≡ o) × (count h < 2 ^ 62)
counted_one h o p e = go (nat_lt (count h) (2 ^ 62)) refl e
  where
    go : (b : Bool) → nat_lt (count h) (2 ^ 62) ≡ b → cond b (Some o) None ≡ Some p → (p ≡ o) × (count h < 2 ^ 62)
    go true f g = (same_Some p o (sym g), ltb-true (count h) (2 ^ 62) f)
    go false f g = cc

own_shown : (h : History) (t : List ℕ) (xs : List (Dot × Row)) → AllByRecursion (IsOwnListed h t) xs → AllByRecursion (IsOwnShown h) (dots_of xs)
own_shown h t [] a = tt
own_shown h t (x ∷ xs) a = (record { row = x.1; shown = a.0.listed.shown; own = a.0.own }, own_shown h t xs a.1)

kind_tracked : (h : History) (s : Step) (o : Outcome) (r : Row) (xs : List (Dot × Row)) → row_made s None ≡ Some r → tracked h xs ≡ Some o → Kind h s o
kind_tracked h s o r [] m e = let p = counted_one h (outcomes_are.Added (next_dot h)) o e in Adds r m p.0 p.1
kind_tracked h s o r (x ∷ xs) m e = Quiet (ap is_quiet (same_Some o outcomes_are.AlreadyTracked (sym e)))

kind_updated : (h : History) (s : Step) (o : Outcome) (t : List ℕ) (r : Dot → Row) (xs : List (Dot × Row)) → ((old : Dot) → row_made s (Some old) ≡ Some (r old)) → AllByRecursion (IsOwnListed h t) xs → updated h xs ≡ Some o → Kind h s o
kind_updated h s o t r [] m a e = Quiet (ap is_quiet (same_Some o outcomes_are.NoPresence (sym e)))
kind_updated h s o t r (x ∷ xs) m a e = let p = counted_one h (outcomes_are.Replaced (next_dot h) x.0) o e in Replaces (r x.0) x.0 (m x.0) p.0 p.1 (record { row = x.1; shown = a.0.listed.shown; own = a.0.own })

kind_untracked : (h : History) (s : Step) (o : Outcome) (ds : List Dot) → AllByRecursion (IsOwnShown h) ds → is_of_rows s ≡ true → untracked h ds ≡ Some o → Kind h s o
kind_untracked h s o [] a q e = Quiet (ap is_quiet (same_Some o (outcomes_are.Removed []) (sym e)))
kind_untracked h s o (d ∷ ds) a q e = let p = counted_one h (outcomes_are.Removed (d ∷ ds)) o e in Removes d ds p.0 p.1 a q

quiet_present : (h : History) (s : Step) (o q : Outcome) (t : Option (List ℕ)) → is_quiet q ≡ true → for_present t q ≡ Some o → Kind h s o
quiet_present h s o q None f e = cc
quiet_present h s o q (Some t) f e = Quiet (ap is_quiet (same_Some o q (sym e)) ∙ f)

quiet_took : (n : ℕ) (w : Waiting) → is_quiet (take_outcome n w) ≡ true
quiet_took n Behind = refl
quiet_took n (Queued q) = refl

-- what the table answers is of one of the four kinds
pub kind_of : (h : History) (s : Step) (o : Outcome) → is_rebirth s ≡ false → outcome_of h s ≡ Some o → Kind h s o
unfolding outcome_of
kind_of h (steps_are.Rebirth i) o f e = absurd (cc)
kind_of h (steps_are.Track pid topic key meta) o f e = kind_tracked h (steps_are.Track pid topic key meta) o _ (rows_of_key h pid topic key) refl e
kind_of h (steps_are.Update pid topic key meta) o f e = kind_updated h (steps_are.Update pid topic key meta) o topic (λ old. record { topic = topic; key = key; pid = pid; meta = meta; prev = Some old }) (rows_of_key h pid topic key) (λ old. refl) (own_rows_of_key h pid topic key) e
kind_of h (steps_are.Untrack pid topic key) o f e = kind_untracked h (steps_are.Untrack pid topic key) o (dots_of (rows_of_key h pid topic key)) (own_shown h topic (rows_of_key h pid topic key) (own_rows_of_key h pid topic key)) refl e
kind_of h (steps_are.UntrackAll pid topic) o f e = kind_untracked h (steps_are.UntrackAll pid topic) o (dots_of (rows_of_pid h pid topic)) (own_shown h topic (rows_of_pid h pid topic) (own_rows h pid topic)) refl e
kind_of h (steps_are.List topic) o f e = Quiet (ap is_quiet (same_Some o (outcomes_are.Shown (dots_of (listed h topic))) (sym e)))
kind_of h (steps_are.Get topic key) o f e = Quiet (ap is_quiet (same_Some o (outcomes_are.Shown (dots_of (listed_key h topic key))) (sym e)))
kind_of h (steps_are.Subscribe topic) o f e = Quiet (ap is_quiet (same_Some o (outcomes_are.Subscribed (last_number h + 1)) (sym e)))
kind_of h (steps_are.Take n max) o f e = quiet_present h (steps_are.Take n max) o (take_outcome max (queue h n)) (topic_of h n) (quiet_took max (queue h n)) e
kind_of h (steps_are.Unsubscribe n) o f e = quiet_present h (steps_are.Unsubscribe n) o outcomes_are.Ended (topic_of h n) refl e
kind_of h (steps_are.Shout topic payload) o f e = Quiet (ap is_quiet (same_Some o outcomes_are.Sent (sym e)))
kind_of h (steps_are.Heard replica now) o f e = Quiet (ap is_quiet (same_Some o outcomes_are.Noted (sym e)))
kind_of h (steps_are.Tick now) o f e = Quiet (ap is_quiet (same_Some o outcomes_are.Noted (sym e)))
kind_of h (steps_are.PermDown replica) o f e = Quiet (ap is_quiet (same_Some o outcomes_are.Noted (sym e)))
kind_of h steps_are.Cut o f e = Quiet (ap is_quiet (same_Some o (outcomes_are.CutAt (last_cut h) (count h)) (sym e)))
kind_of h (steps_are.Merge told) o f e = Quiet (ap is_quiet (same_Some o outcomes_are.Merged (sym e)))

-- of these none is a rebirth's
pub kind_plain : (h : History) (s : Step) (o : Outcome) → Kind h s o → is_reborn o ≡ false
kind_plain h s o (Adds r m p l) = ap is_reborn p
kind_plain h s o (Replaces r old m p l w) = ap is_reborn p
kind_plain h s o (Removes y ys p l a q) = ap is_reborn p
kind_plain h s o (Quiet q) = quiet_plain o q

-- a merge changes no own row
pub tells_quiet : (h : History) (s : Step) (o : Outcome) → Kind h s o → tells s ≡ true → is_quiet o ≡ true
tells_quiet h s o (Adds r m p l) t = let f : true ≡ false = sym t ∙ made_tells_none s None r m in absurd (cc)
tells_quiet h s o (Replaces r old m p l w) t = let f : true ≡ false = sym t ∙ made_tells_none s (Some old) r m in absurd (cc)
tells_quiet h s o (Removes y ys p l a q) t = let f : true ≡ false = sym t ∙ of_rows_tells_none s q in absurd (cc)
tells_quiet h s o (Quiet q) t = q

-- what a quiet outcome leaves alone

pub quiet_row : (s : Step) (o : Outcome) (d : Dot) → is_quiet o ≡ true → row_added s o d ≡ None
quiet_row s (outcomes_are.Added a) d q = cc
quiet_row s (outcomes_are.Replaced a b) d q = cc
quiet_row s _ d q = refl

pub quiet_removed : (o : Outcome) (n d : Dot) → is_quiet o ≡ true → dot_removed o n d ≡ false
quiet_removed (outcomes_are.Replaced a b) n d q = cc
quiet_removed (outcomes_are.Removed (y ∷ ys)) n d q = cc
quiet_removed (outcomes_are.Removed []) n d q = refl
quiet_removed _ n d q = refl

pub quiet_taken : (o : Outcome) → is_quiet o ≡ true → dots_taken o ≡ []
quiet_taken (outcomes_are.Replaced a b) q = cc
quiet_taken (outcomes_are.Removed (y ∷ ys)) q = cc
quiet_taken (outcomes_are.Removed []) q = refl
quiet_taken _ q = refl

all_has_dot : (P : Dot → Type 0) (ds : List Dot) (d : Dot) → AllByRecursion P ds → has_dot ds d ≡ true → P d
all_has_dot P [] d a h = cc
all_has_dot P (x ∷ xs) d a h = go (all_has_dot P xs d a.1) (or_cases (same_dot d x) (has_dot xs d) h)
  where
    go : (has_dot xs d ≡ true → P d) → (same_dot d x ≡ true) ⊎ (has_dot xs d ≡ true) → P d
    go ih (inl e) = subst P (sym (same_dot-true d x e)) a.0
    go ih (inr e) = ih e

-- in a legal history each dot with a row is known, and so is each dot that is removed; an own dot that is known was counted
pub record KnowsItsDots (h : History) : Type 0 where
  pub of_row : (d : Dot) (r : Row) → row h d ≡ Some r → known h d ≡ true
  pub of_removed : (d : Dot) → removed h d ≡ true → known h d ≡ true
  pub of_own : (d : Dot) → d.replica ≡ own h → known h d ≡ true → (0 < d.count) × (d.count ≤ count h)

begin_knows : (s : Start) → IsStart s → KnowsItsDots (Begin s)
unfolding row removed known own count
begin_knows s start =
    record {
      of_row = λ d r e. live_row_covered s.content d r start.content e;
      of_removed = λ d e. (and_parts (covers s.content d) (is_none (live_row s.content d)) e).0;
      of_own = λ d o k. let p = counted_parts s.own s.count d (sym (start.own_dots d o) ∙ k) in (p.1, p.2);
    }

pub next_unknown : (h : History) → KnowsItsDots h → known h (next_dot h) ≡ true → ⊥
next_unknown h knows k = let p = (knows.of_own (next_dot h) refl k).1 in omega (arith, p)

none_either : (b : Bool) (r : Row) → cond {A = Option Row} b None None ≡ Some r → ⊥
none_either true r e = absurd (cc)
none_either false r e = absurd (cc)

-- a row that is added is no rebirth's
pub added_plain : (s : Step) (o : Outcome) (d : Dot) (r : Row) → row_added s o d ≡ Some r → is_rebirth s ≡ false
added_plain (steps_are.Rebirth i) (outcomes_are.Added new) d r e = absurd (none_either (same_dot d new) r e)
added_plain (steps_are.Rebirth i) (outcomes_are.Replaced new old) d r e = absurd (none_either (same_dot d new) r e)
added_plain (steps_are.Rebirth i) _ d r e = absurd (cc)
added_plain _ o d r e = refl

pub one_added : (h : History) (e : Entry) (d : Dot) (r : Row) → Kind h e.step e.outcome → row_added e.step e.outcome d ≡ Some r → (d ≡ next_dot h) × (counts_used e.outcome ≡ 1)
one_added h e d r (Adds x m o l) g = (here (same_dot d (next_dot h)) refl (sym (ap (λ y. row_added e.step y d) o) ∙ g), ap counts_used o)
  where
    here : (b : Bool) → same_dot d (next_dot h) ≡ b → cond b (row_made e.step None) None ≡ Some r → d ≡ next_dot h
    here true p f = same_dot-true d (next_dot h) p
    here false p f = cc
one_added h e d r (Replaces x old m o l w) g = (here (same_dot d (next_dot h)) refl (sym (ap (λ y. row_added e.step y d) o) ∙ g), ap counts_used o)
  where
    here : (b : Bool) → same_dot d (next_dot h) ≡ b → cond b (row_made e.step (Some old)) None ≡ Some r → d ≡ next_dot h
    here true p f = same_dot-true d (next_dot h) p
    here false p f = cc
one_added h e d r (Removes y ys o l a q) g = let f : None ≡ Some r = sym (ap (λ z. row_added e.step z d) o) ∙ g in cc
one_added h e d r (Quiet q) g = let f : None ≡ Some r = sym (quiet_row e.step e.outcome d q) ∙ g in cc

shown_known : (h : History) → KnowsItsDots h → (d : Dot) → IsOwnShown h d → known h d ≡ true
shown_known h k d w = k.of_row d w.row (shown-row h d w.row w.shown).0

removed_known : (h : History) (e : Entry) (d : Dot) → KnowsItsDots h → is_rebirth e.step ≡ false → Kind h e.step e.outcome → dot_removed e.outcome (next_dot h) d ≡ true → known (Then h e) d ≡ true
removed_known h e d k n (Adds x m o l) g = let f : false ≡ true = sym (ap (λ y. dot_removed y (next_dot h) d) o) ∙ g in cc
removed_known h e d k n (Replaces x old m o l w) g =
    let f : same_dot d old ≡ true = sym (ap (λ y. dot_removed y (next_dot h) d) o) ∙ g in
    known_then h e d (ap (known h) (same_dot-true d old f) ∙ shown_known h k old w)
removed_known h e d k n (Removes y ys o l a q) g = go (or_cases (same_dot d (next_dot h)) (has_dot (y ∷ ys) d) (sym (ap (λ z. dot_removed z (next_dot h) d) o) ∙ g))
  where
    go : (same_dot d (next_dot h) ≡ true) ⊎ (has_dot (y ∷ ys) d ≡ true) → known (Then h e) d ≡ true
    go (inl f) = next_known h e d n (same_dot-true d (next_dot h) f) (ap counts_used o)
    go (inr f) = known_then h e d (shown_known h k d (all_has_dot (IsOwnShown h) (y ∷ ys) d a f))
removed_known h e d k n (Quiet q) g = let f : false ≡ true = sym (quiet_removed e.outcome (next_dot h) d q) ∙ g in cc

own_then_counted : (h : History) (e : Entry) (d : Dot) → KnowsItsDots h → is_rebirth e.step ≡ false → is_reborn e.outcome ≡ false → d.replica ≡ own (Then h e) → known (Then h e) d ≡ true → (0 < d.count) × (d.count ≤ count (Then h e))
own_then_counted h e d k n a o f = go (known_cases h e d f)
  where
    here : d.replica ≡ own h
    here = o ∙ own-then h e n

    go : (known h d ≡ true) ⊎ ((is_counted (own (Then h e)) (count (Then h e)) d ≡ true) ⊎ (told_covers h e.step d ≡ true)) → (0 < d.count) × (d.count ≤ count (Then h e))
    go (inl g) = let p = k.of_own d here g in (p.0, omega (arith, p.1, count-then h e a))
    go (inr (inl g)) = let p = counted_parts (own (Then h e)) (count (Then h e)) d g in (p.1, p.2)
    go (inr (inr g)) = let w : true ≡ false = sym (is_own h d here) ∙ told_other h e.step d g in absurd (cc)

pub knows_then : (h : History) (e : Entry) → KnowsItsDots h → is_rebirth e.step ≡ false → Kind h e.step e.outcome → is_step e.step ≡ true → KnowsItsDots (Then h e)
unfolding row removed
knows_then h e k n kind limits =
    record {
      of_row = λ d r f. at_row d r (row h d) (row_added e.step e.outcome d) refl refl f;
      of_removed = λ d f. at_removed d (or_cases (removed h d) (dot_removed e.outcome (next_dot h) d || told_removed h e.step d) f);
      of_own = λ d o f. own_then_counted h e d k n plain o f;
    }
  where
    plain : is_reborn e.outcome ≡ false
    plain = kind_plain h e.step e.outcome kind

    at_row : (d : Dot) (r : Row) (o p : Option Row) → row h d ≡ o → row_added e.step e.outcome d ≡ p → first_some o (first_some p (row_brought e.outcome (row h) (told_row h e.step d) d)) ≡ Some r → known (Then h e) d ≡ true
    at_row d r (Some x) p is added f = known_then h e d (k.of_row d x is)
    at_row d r None (Some x) is added f = let w = one_added h e d x kind added in next_known h e d n w.0 w.1
    at_row d r None None is added f = told_known h e d (row_told_covers h e.step d r limits (sym (brought_told e.outcome (row h) (told_row h e.step d) d plain) ∙ f))

    at_now : (d : Dot) → (dot_removed e.outcome (next_dot h) d ≡ true) ⊎ (told_removed h e.step d ≡ true) → known (Then h e) d ≡ true
    at_now d (inl f) = removed_known h e d k n kind f
    at_now d (inr f) = told_known h e d (removed_told_covers h e.step d f)

    at_removed : (d : Dot) → (removed h d ≡ true) ⊎ ((dot_removed e.outcome (next_dot h) d || told_removed h e.step d) ≡ true) → known (Then h e) d ≡ true
    at_removed d (inl f) = known_then h e d (k.of_removed d f)
    at_removed d (inr f) = at_now d (or_cases (dot_removed e.outcome (next_dot h) d) (told_removed h e.step d) f)

-- a rebirth

pub own_again : (h : History) (e : Entry) (w : IsAgain h e.step e.outcome) → own (Then h e) ≡ reborn (own h) w.incarnation
unfolding own
own_again h e w = ap (λ s. own_after s (own h)) w.step

pub count_again : (h : History) (e : Entry) → IsAgain h e.step e.outcome → count (Then h e) ≡ length (own_dots h)
unfolding count
count_again h e w = ap (λ o. count_after o (count h)) w.outcome ∙ length_reborn (reborn (own h) w.incarnation) 0 (own_dots h)

pub added_again : (h : History) (e : Entry) (d : Dot) → IsAgain h e.step e.outcome → row_added e.step e.outcome d ≡ None
added_again h e d w = ap (λ o. row_added e.step o d) w.outcome

pub removed_again : (h : History) (e : Entry) (d : Dot) → IsAgain h e.step e.outcome → removed (Then h e) d ≡ removed h d
unfolding removed
removed_again h e d w = (λ i. removed h d || (dot_removed (w.outcome i) (next_dot h) d || told_removed h (w.step i) d)) ∙ no_more_again (removed h d)
  where
    no_more_again : (b : Bool) → (b || (false || false)) ≡ b
    no_more_again true = refl
    no_more_again false = refl

pub row_again-is : (h : History) (e : Entry) (d : Dot) (w : IsAgain h e.step e.outcome) → row (Then h e) d ≡ first_some (row h d) (row_again (row h) (lookup (same_dot d) (reborn_from (reborn (own h) w.incarnation) 0 (own_dots h))))
unfolding row
row_again-is h e d w = λ i. first_some (row h d) (first_some (row_added e.step (w.outcome i) d) (row_brought (w.outcome i) (row h) (told_row h e.step d) d))

-- none of the new replica's dots was known
pub again_unknown : (h : History) (d : Dot) (i : ℕ) → has_dots h (reborn (own h) i) ≡ false → d.replica ≡ reborn (own h) i → known h d ≡ true → ⊥
again_unknown h d i f o k = let w : false ≡ true = sym f ∙ (ap (has_dots h) (sym o) ∙ known_has h d k) in absurd (cc)

pub again_known : (h : History) (e : Entry) (d old : Dot) (w : IsAgain h e.step e.outcome) → lookup (same_dot d) (reborn_from (reborn (own h) w.incarnation) 0 (own_dots h)) ≡ Some old → known (Then h e) d ≡ true
again_known h e d old w f =
    let p = again_parts (reborn (own h) w.incarnation) 0 (own_dots h) d old f in
    counted_known h e d (counted_from (own (Then h e)) (count (Then h e)) d (p.0 ∙ sym (own_again h e w)) p.1 (omega (arith, p.2, count_again h e w)))

knows_again : (h : History) (e : Entry) → KnowsItsDots h → IsAgain h e.step e.outcome → KnowsItsDots (Then h e)
knows_again h e k w =
    record {
      of_row = λ d r f. at_row d r (row h d) refl (lookup (same_dot d) (reborn_from (reborn (own h) w.incarnation) 0 (own_dots h))) refl (sym (row_again-is h e d w) ∙ f);
      of_removed = λ d f. known_then h e d (k.of_removed d (sym (removed_again h e d w) ∙ f));
      of_own = λ d o f. at_own d (o ∙ own_again h e w) (known_cases h e d f);
    }
  where
    at_row : (d : Dot) (r : Row) (o : Option Row) → row h d ≡ o → (p : Option Dot) → lookup (same_dot d) (reborn_from (reborn (own h) w.incarnation) 0 (own_dots h)) ≡ p → first_some o (row_again (row h) p) ≡ Some r → known (Then h e) d ≡ true
    at_row d r (Some x) is p found f = known_then h e d (k.of_row d x is)
    at_row d r None is (Some old) found f = again_known h e d old w found
    at_row d r None is None found f = absurd (cc)

    at_own : (d : Dot) → d.replica ≡ reborn (own h) w.incarnation → (known h d ≡ true) ⊎ ((is_counted (own (Then h e)) (count (Then h e)) d ≡ true) ⊎ (told_covers h e.step d ≡ true)) → (0 < d.count) × (d.count ≤ count (Then h e))
    at_own d o (inl g) = absurd (again_unknown h d w.incarnation w.fresh o g)
    at_own d o (inr (inl g)) = let p = counted_parts (own (Then h e)) (count (Then h e)) d g in (p.1, p.2)
    at_own d o (inr (inr g)) = let f : false ≡ true = sym (ap (λ s. told_covers h s d) w.step) ∙ g in absurd (cc)

-- its rows are no more than the counts that were used before
pub again_most : (h : History) (e : Entry) → KnowsItsDots h → IsAgain h e.step e.outcome → count (Then h e) ≤ count h
again_most h e k w = omega (arith, count_again h e w, own_dots_most h (count h) (λ d g. k.of_own d g.own (k.of_row d g.row (shown-row h d g.row g.shown).0)))

pub legal_knows : (h : History) → IsLegal h → KnowsItsDots h
legal_knows (Begin s) l = begin_knows s l
legal_knows (Then h e) l = go (is_rebirth e.step) refl (legal_knows h l.0)
  where
    go : (b : Bool) → is_rebirth e.step ≡ b → KnowsItsDots h → KnowsItsDots (Then h e)
    go false f k = knows_then h e k f (kind_of h e.step e.outcome f l.1) l.4
    go true f k = knows_again h e k (again_of h e.step e.outcome f l.1)

-- an own dot that is known was counted
pub known_parts : (h : History) → IsLegal h → (d : Dot) → d.replica ≡ own h → known h d ≡ true → (0 < d.count) × (d.count ≤ count h)
known_parts h l d o k = (legal_knows h l).of_own d o k

-- an entry that uses no count makes known what it tells
pub known_quiet : (h : History) (e : Entry) (d : Dot) → IsLegal h → is_rebirth e.step ≡ false → is_reborn e.outcome ≡ false → counts_used e.outcome ≡ 0 → known (Then h e) d ≡ (known h d || told_covers h e.step d)
known_quiet h e d l n a u = known-then h e d ∙ go (known h d) (is_counted (own (Then h e)) (count (Then h e)) d) (λ f. counted_before (counted_parts (own (Then h e)) (count (Then h e)) d f))
  where
    counted_before : (d.replica ≡ own (Then h e)) × (0 < d.count) × (d.count ≤ count (Then h e)) → known h d ≡ true
    counted_before p = known_from h l d (p.0 ∙ own-then h e n) p.1 (omega (arith, p.2, u, count-then h e a))

    go : (a b : Bool) → (b ≡ true → a ≡ true) → (a || (b || told_covers h e.step d)) ≡ (a || told_covers h e.step d)
    go true b f = refl
    go false false f = refl
    go false true f = let w : false ≡ true = f refl in absurd (cc)

-- the own replica is up, and what is live of it is shown

pub status-own : (h : History) → status h (own h) ≡ status_is.Up
unfolding status
status-own h = ap (λ b. cond b status_is.Up (status_of (standing h (own h)))) (same_replica-refl (own h))

pub up-own : (h : History) (d : Dot) → d.replica ≡ own h → is_up (status h d.replica) ≡ true
up-own h d o = ap (λ r. is_up (status h r)) o ∙ ap is_up (status-own h)

pub shown-live : (h : History) (d : Dot) → d.replica ≡ own h → shown h d ≡ live h d
unfolding shown
shown-live h d o = ap (λ u. cond u (live h d) None) (up-own h d o)

-- the next dot has no row and is not removed

pub row-next : (h : History) → KnowsItsDots h → row h (next_dot h) ≡ None
row-next h k = go (row h (next_dot h)) refl
  where
    go : (o : Option Row) → row h (next_dot h) ≡ o → o ≡ None
    go None e = refl
    go (Some x) e = absurd (next_unknown h k (k.of_row (next_dot h) x e))

pub removed-next : (h : History) → KnowsItsDots h → removed h (next_dot h) ≡ false
removed-next h k = go (removed h (next_dot h)) refl
  where
    go : (b : Bool) → removed h (next_dot h) ≡ b → b ≡ false
    go false e = refl
    go true e = absurd (next_unknown h k (k.of_removed (next_dot h) e))

pub live-next : (h : History) → KnowsItsDots h → live h (next_dot h) ≡ None
unfolding live
live-next h k = rw (removed-next h k, row-next h k)

pub shown-next : (h : History) → KnowsItsDots h → shown h (next_dot h) ≡ None
shown-next h k = shown-live h (next_dot h) refl ∙ live-next h k

-- what one legal entry does to the rows that are live, and so shown: those taken out go, and then the added one comes

shape_new : (a : Bool) (o : Option Row) (r : Row) (b : Bool) → a ≡ false → o ≡ None → b ≡ false → cond (a || b) None (first_some o (Some r)) ≡ Some r
shape_new a o r b p q s = rw (p, q, s)

shape_old : (a b : Bool) (o : Option Row) → cond (a || b) None (first_some o None) ≡ cond b None (cond a None o)
shape_old true true o = refl
shape_old true false o = refl
shape_old false true o = refl
shape_old false false None = refl
shape_old false false (Some x) = refl

shape_drop : (a b c : Bool) (o : Option Row) → (b ≡ true → cond a None o ≡ None) → cond (a || (b || c)) None (first_some o None) ≡ cond c None (cond a None o)
shape_drop a true true o f = shape_old a true o
shape_drop a true false o f = shape_old a true o ∙ sym (f refl)
shape_drop a false c o f = shape_old a c o

none_or : (o : Option Row) → first_some None o ≡ o
none_or o = refl

pub no_more : (c : Bool) → (c || false) ≡ c
no_more true = refl
no_more false = refl

pub first_none : (o : Option Row) → first_some o None ≡ o
first_none None = refl
first_none (Some x) = refl

-- what is live once an entry tells nothing of the dot
pub live_untold : (h : History) (e : Entry) (d : Dot) → is_reborn e.outcome ≡ false → told_row h e.step d ≡ None → told_removed h e.step d ≡ false → live (Then h e) d ≡ cond (removed h d || dot_removed e.outcome (next_dot h) d) None (first_some (row h d) (row_added e.step e.outcome d))
unfolding live row removed
live_untold h e d a p q =
    let brought : row_brought e.outcome (row h) (told_row h e.step d) d ≡ None = brought_told e.outcome (row h) (told_row h e.step d) d a ∙ p in
    let gone : (dot_removed e.outcome (next_dot h) d || told_removed h e.step d) ≡ dot_removed e.outcome (next_dot h) d = ap (λ b. dot_removed e.outcome (next_dot h) d || b) q ∙ no_more (dot_removed e.outcome (next_dot h) d) in
    let come : first_some (row_added e.step e.outcome d) (row_brought e.outcome (row h) (told_row h e.step d) d) ≡ row_added e.step e.outcome d = ap (first_some (row_added e.step e.outcome d)) brought ∙ first_none (row_added e.step e.outcome d) in
    λ i. cond (removed h d || gone i) None (first_some (row h d) (come i))

live_from : (h : History) (e : Entry) (d : Dot) → KnowsItsDots h → Kind h e.step e.outcome → cond (removed h d || dot_removed e.outcome (next_dot h) d) None (first_some (row h d) (row_added e.step e.outcome d)) ≡ first_some (row_added e.step e.outcome d) (cond (has_dot (dots_taken e.outcome) d) None (live h d))
unfolding live
live_from h e d k (Adds r m o l) = rw (o, m) (go (same_dot d (next_dot h)) refl)
  where
    go : (b : Bool) → same_dot d (next_dot h) ≡ b → cond (removed h d || false) None (first_some (row h d) (cond b (Some r) None)) ≡ first_some (cond b (Some r) None) (cond false None (cond (removed h d) None (row h d)))
    go true p = let z = same_dot-true d (next_dot h) p in shape_new (removed h d) (row h d) r false (ap (removed h) z ∙ removed-next h k) (ap (row h) z ∙ row-next h k) refl
    go false p = shape_old (removed h d) false (row h d)
live_from h e d k (Replaces r old m o l w) = rw (o, m, no_more) (go (same_dot d (next_dot h)) refl)
  where
    apart : d ≡ next_dot h → (b : Bool) → same_dot d old ≡ b → b ≡ false
    apart z false p = refl
    apart z true p = absurd (next_unknown h k (ap (known h) (sym z ∙ same_dot-true d old p) ∙ shown_known h k old w))

    go : (b : Bool) → same_dot d (next_dot h) ≡ b → cond (removed h d || same_dot d old) None (first_some (row h d) (cond b (Some r) None)) ≡ first_some (cond b (Some r) None) (cond (same_dot d old) None (cond (removed h d) None (row h d)))
    go true p = let z = same_dot-true d (next_dot h) p in shape_new (removed h d) (row h d) r (same_dot d old) (ap (removed h) z ∙ removed-next h k) (ap (row h) z ∙ row-next h k) (apart z (same_dot d old) refl)
    go false p = shape_old (removed h d) (same_dot d old) (row h d)
live_from h e d k (Removes y ys o l a q) = rw o (shape_drop (removed h d) (same_dot d (next_dot h)) (has_dot (y ∷ ys) d) (row h d) (λ p. let z = same_dot-true d (next_dot h) p in ap (live h) z ∙ live-next h k))
live_from h e d k (Quiet q) = rw (quiet_row e.step e.outcome d q, quiet_removed e.outcome (next_dot h) d q, quiet_taken e.outcome q) (shape_old (removed h d) false (row h d))

pub live_by : (h : History) (e : Entry) (d : Dot) → KnowsItsDots h → Kind h e.step e.outcome → tells e.step ≡ false → live (Then h e) d ≡ first_some (row_added e.step e.outcome d) (cond (has_dot (dots_taken e.outcome) d) None (live h d))
live_by h e d k kind t = live_untold h e d (kind_plain h e.step e.outcome kind) (none_told_row h e.step d t) (none_told_removed h e.step d t) ∙ live_from h e d k kind

-- a step of the own replica alone leaves every status

standing_stays : (o : Replica) (s : Step) (t : ℕ) (r : Replica) (x : Standing) → is_callers s ≡ true → standing_after o s t r x ≡ x
standing_stays o (steps_are.Heard replica now) t r x f = absurd (cc)
standing_stays o (steps_are.Tick now) t r x f = absurd (cc)
standing_stays o (steps_are.PermDown replica) t r x f = absurd (cc)
standing_stays o (steps_are.Rebirth i) t r x f = absurd (cc)
standing_stays o _ t r x f = refl

pub status_stays : (h : History) (e : Entry) (r : Replica) → is_callers e.step ≡ true → status (Then h e) r ≡ status h r
unfolding status standing own
status_stays h e r f = λ i. cond (same_replica r (own_same e.step (own h) (callers_plain e.step f) i)) status_is.Up (status_of (standing_stays (own h) e.step (max (time h) (time_of e.step)) r (standing h r) f i))

-- what is shown after an entry that changes no status
pub shown_then : (h : History) (e : Entry) (d : Dot) → status (Then h e) d.replica ≡ status h d.replica → shown (Then h e) d ≡ cond (is_up (status h d.replica)) (live (Then h e) d) None
unfolding shown
shown_then h e d f = ap (λ u. cond (is_up u) (live (Then h e) d) None) f

shape_shown : (u c : Bool) (a l : Option Row) → ((r : Row) → a ≡ Some r → u ≡ true) → cond u (first_some a (cond c None l)) None ≡ first_some a (cond c None (cond u l None))
shape_shown true c a l f = refl
shape_shown false true None l f = refl
shape_shown false false None l f = refl
shape_shown false c (Some r) l f = let g : false ≡ true = f r refl in absurd (cc)

pub shown_by : (h : History) (e : Entry) (d : Dot) → KnowsItsDots h → Kind h e.step e.outcome → is_callers e.step ≡ true → shown (Then h e) d ≡ first_some (row_added e.step e.outcome d) (cond (has_dot (dots_taken e.outcome) d) None (shown h d))
unfolding shown
shown_by h e d k kind f =
    shown_then h e d (status_stays h e d.replica f)
    ∙ (ap (λ o. cond (is_up (status h d.replica)) o None) (live_by h e d k kind (callers_tell_none e.step f))
    ∙ shape_shown (is_up (status h d.replica)) (has_dot (dots_taken e.outcome) d) (row_added e.step e.outcome d) (live h d) (λ r g. up-own h d (ap (λ (z : Dot). z.replica) (one_added h e d r kind g).0)))

-- an added row's dot showed nothing before
pub added_fresh : (h : History) (e : Entry) (d : Dot) (r : Row) → KnowsItsDots h → Kind h e.step e.outcome → row_added e.step e.outcome d ≡ Some r → shown h d ≡ None
added_fresh h e d r k kind f = ap (shown h) (one_added h e d r kind f).0 ∙ shown-next h k

-- the last number, by the last entry

last_from : (h : History) (es : List Entry) (n : ℕ) (e : Entry) → n + 1 ≡ length es → slice_get es n ≡ Some e → last_number (onto h es) ≡ e.number
unfolding last_number
last_from h [] n e l g = absurd (omega arith)
last_from h (x ∷ []) zero e l g = ap (λ (y : Entry). y.number) (same_Some x e g)
last_from h (x ∷ y ∷ ys) zero e l g = absurd (omega arith)
last_from h (x ∷ xs) (suc n) e l g = last_from (Then h x) xs n e (omega arith) g

pub last_number-some : (s : Start) (es : List Entry) (whole : History) (e : Entry) → onto (Begin s) es ≡ whole → Some e ≡ slice_get es (length es - 1) → e.number ≡ last_number whole
last_number-some s es whole e w g =
    let within = slice_get_within es (length es - 1) e (sym g) in
    sym (last_from (Begin s) es (length es - 1) e (omega arith) (sym g)) ∙ ap last_number w

no_entries : (es : List Entry) → length es ≤ 0 → es ≡ []
no_entries [] l = refl
no_entries (x ∷ es) l = absurd (omega arith)

pub last_number-none : (s : Start) (es : List Entry) (whole : History) → onto (Begin s) es ≡ whole → length es ≤ 0 → s.number ≡ last_number whole
unfolding last_number
last_number-none s es whole w l = ap last_number (ap (onto (Begin s)) (sym (no_entries es l)) ∙ w)

-- whether an entry can follow

pub entries_here : (s : Start) (es : List Entry) (whole : History) → onto (Begin s) es ≡ whole → entry_count whole ≡ length es + 1
unfolding entry_count
entries_here s es whole w = ap entry_count (sym w) ∙ (entry_count-onto (Begin s) es ∙ omega arith)

pub full_by_entries : (s : Start) (es : List Entry) (whole : History) → onto (Begin s) es ≡ whole → 262143 ≤ length es → is_full whole ≡ true
full_by_entries s es whole w l = or_left (nat_le 262144 (entry_count whole)) (nat_le (2 ^ 62) (last_number whole)) (le-leb 262144 (entry_count whole) (omega (arith, entries_here s es whole w)))

pub full_by_number : (s : Start) (es : List Entry) (whole : History) → onto (Begin s) es ≡ whole → length es < 262143 → is_full whole ≡ nat_le (2 ^ 62) (last_number whole)
full_by_number s es whole w l = ap (λ b. b || nat_le (2 ^ 62) (last_number whole)) (lt-leb 262144 (entry_count whole) (omega (arith, entries_here s es whole w)))

pub room_below : (h : History) → is_full h ≡ false → last_number h < 2 ^ 62
room_below h f = leb-false (2 ^ 62) (last_number h) (or_parts (nat_le 262144 (entry_count h)) (nat_le (2 ^ 62) (last_number h)) f).1

-- one entry more

row_within : (pid : ℕ) (topic key : List ℕ) (meta : Data) → is_row_made pid topic key meta ≡ true → nat_le pid (2 ^ 62) ≡ true
row_within pid topic key meta e =
    let a = and_parts (is_short_text topic) (is_short_text key && (is_meta meta && nat_le pid (2 ^ 62))) e in
    let b = and_parts (is_short_text key) (is_meta meta && nat_le pid (2 ^ 62)) a.1 in
    (and_parts (is_meta meta) (nat_le pid (2 ^ 62)) b.1).1

pub pushed_legal : (s : Start) (es : List Entry) (e : Entry) (whole : History) → onto (Begin s) es ≡ whole → IsLegal whole → outcome_of whole e.step ≡ Some e.outcome → e.number ≡ last_number whole + 1 → is_full whole ≡ false → is_step e.step ≡ true → IsLegal (onto (Begin s) (es ++ e ∷ []))
pushed_legal s es e whole w l o n f i = subst IsLegal (ap (λ h. Then h e) (sym w) ∙ sym (onto-append (Begin s) es (e ∷ []))) (l, o, n, f, i)

pub within_step : (s : Step) → is_within_limits s ≡ true → is_step s ≡ true
within_step (steps_are.Track pid topic key meta) e = row_within pid topic key meta e
within_step (steps_are.Update pid topic key meta) e = row_within pid topic key meta e
within_step (steps_are.Merge told) e = e
within_step _ e = refl

pub pushed_within : (s : Start) (es : List Entry) (e : Entry) (whole : History) → onto (Begin s) es ≡ whole → AreWithinLimits whole → is_within_limits e.step ≡ true → AreWithinLimits (onto (Begin s) (es ++ e ∷ []))
pushed_within s es e whole w l i = subst AreWithinLimits (ap (λ h. Then h e) (sym w) ∙ sym (onto-append (Begin s) es (e ∷ []))) (l, i)

-- a step that the table accepts is one entry more
pub after-accepted : (h : History) (s : Step) (seat : Option ℕ) (o : Outcome) → outcome_of h s ≡ Some o → is_full h ≡ false → after h s seat ≡ Then h (next_entry h s seat o)
unfolding after accepted
after-accepted h s seat o e f = rw (f, e)

pub pushed_after : (s : Start) (es : List Entry) (e : Entry) (whole : History) → onto (Begin s) es ≡ whole → outcome_of whole e.step ≡ Some e.outcome → e.number ≡ last_number whole + 1 → is_full whole ≡ false → onto (Begin s) (es ++ e ∷ []) ≡ after whole e.step e.seat
pushed_after s es e whole w o n f =
    onto-append (Begin s) es (e ∷ [])
    ∙ (ap (λ h. Then h e) w ∙ ((λ i. Then whole (record { number = n i; seat = e.seat; step = e.step; outcome = e.outcome })) ∙ sym (after-accepted whole e.step e.seat e.outcome o f)))

pub last_number-limit : (h : History) → IsLegal h → last_number h ≤ 2 ^ 62
unfolding last_number
last_number-limit (Begin s) l = l.number
last_number-limit (Then h e) l = let r = room_below h l.3 in omega (arith, r, l.2)
