-- What a step leaves as it was.
use Rattle.std.proofs.Common.{◌≡◌, ℕ, ◌^◌, Bool, true, false, cond, ◌||◌, List, [], ◌∷◌, Option, Some, None, refl, sym, ◌∙◌, ap, subst, inl, inr}
use Rattle.std.specs.Prelude.{nat_lt, ◌⊎◌}
use Rattle.std.specs.List.{All}
use Rattle.std.specs.FinMap as map
use Rattle.std.proofs.lemmas.Bool.{or_cases}
use Rattle.std.proofs.lemmas.Option.{cond_some, same_Some}
use Rattle.std.proofs.lemmas.List.Elements.{All-nil, All-cons, All-head, All-tail, All-filter}
use Rattle.presence_base.specs.declared.dots.Dot.{Dot}
use Rattle.presence_base.specs.declared.row.Row.{Row}
use Rattle.presence_base.specs.Order.{same_text, same_dot}
use Rattle.presence_journal.specs.declared.step.Step.TheVariants as steps_are
use Rattle.presence_journal.specs.declared.entry.Outcome.TheVariants as outcomes_are
use Rattle.presence_journal.specs.declared.rows.Place.{Place}
use Rattle.presence_journal.specs.Steps.{Step, Outcome, Entry}
use Rattle.presence_journal.specs.History.{History, Then, count, next_dot, is_full, has_dot, first_some, row, row_made, row_added, dot_removed, removed, is_up, status, live, shown}
use Rattle.presence_journal.specs.Present.{of_topic, present, listed, in_order, dots_of}
use Rattle.presence_journal.specs.Queue.{Behind, Queued, shout_item, items_made, topic_of, queue}
use Rattle.presence_journal.specs.Table.{IsLegal, AreWithinLimits, is_mine, has_key, rows_of_pid, rows_of_key, counting, tracked, updated, untracked, for_present, take_outcome, outcome_of, next_entry, with_outcome, accepted, after}
use Rattle.presence_journal.specs.Walk.{tells, is_reborn}
use Rattle.presence_journal.specs.Laws.{is_callers, concerns, reaches, OthersStay, OthersHearNothing, RefusedStays, StaysLegal, StaysKept}
use Rattle.presence_journal.proofs.HistoryLemmas.{kind_of, kind_plain, callers_plain, legal_knows, live_untold, shown_then, status_stays, shown-next, within_step}
use Rattle.presence_journal.proofs.ToldLemmas.{none_told_row, none_told_removed, callers_tell_none}
use Rattle.presence_journal.proofs.FoldOrder.{same_dot-is}
use Rattle.presence_journal.proofs.FoldTables.{AreOf, stripped, entries_found, no_changes}
use Rattle.presence_journal.proofs.FoldPresent.{presence}
use Rattle.presence_journal.proofs.Fold.{same_present}

counted : (h : History) (o a : Outcome) → counting h o ≡ Some a → o ≡ a
counted h o a e = (cond_some (nat_lt (count h) (2 ^ 62)) o a e).1

for_present-is : (t : Option (List ℕ)) (o a : Outcome) → for_present t o ≡ Some a → o ≡ a
for_present-is None o a e = absurd (cc)
for_present-is (Some t) o a e = same_Some o a e

-- the dots that an outcome takes rows from show nothing on the topic
abbrev Spares : History → List ℕ → Outcome → Type 0
Spares h t o = (d : Dot) → dot_removed o (next_dot h) d ≡ true → of_topic t (shown h d) ≡ None

next_hidden : (h : History) → IsLegal h → (t : List ℕ) → of_topic t (shown h (next_dot h)) ≡ None
next_hidden h legal t = ap (of_topic t) (shown-next h (legal_knows h legal))

abbrev IsOn : History → List ℕ → Dot × Row → Type 0
IsOn h u x = (shown h x.0 ≡ Some x.1) × (x.1.topic ≡ u)

all_on : (h : History) (u : List ℕ) (es : List (Place × Row)) → AreOf (map.get (present h u)) es → All (IsOn h u) (stripped es)
all_on h u [] a = All-nil (IsOn h u)
all_on h u (e ∷ es) a = let here = presence h u e.0 e.1 a.0 in All-cons (IsOn h u) (e.0.dot, e.1) (stripped es) (here.shown, here.topic) (all_on h u es a.1)

pub listed_on : (h : History) (u : List ℕ) → All (IsOn h u) (listed h u)
unfolding in_order
listed_on h u = all_on h u (map.entries (present h u)) (entries_found (present h u))

pid_on : (h : History) (pid : ℕ) (u : List ℕ) → All (IsOn h u) (rows_of_pid h pid u)
unfolding rows_of_pid
pid_on h pid u = All-filter (is_mine h pid) (IsOn h u) (listed h u) (listed_on h u)

key_on : (h : History) (pid : ℕ) (u key : List ℕ) → All (IsOn h u) (rows_of_key h pid u key)
unfolding rows_of_key
key_on h pid u key = All-filter (has_key key) (IsOn h u) (rows_of_pid h pid u) (pid_on h pid u)

other_topic : (h : History) (u t : List ℕ) (x : Dot × Row) → same_text u t ≡ false → IsOn h u x → of_topic t (shown h x.0) ≡ None
other_topic h u t x n on = rw (on.0, on.1, n)

spared_at : (h : History) (u t : List ℕ) (x : Dot × Row) (d : Dot) → same_text u t ≡ false → IsOn h u x → same_dot d x.0 ≡ true → of_topic t (shown h d) ≡ None
spared_at h u t x d n on s = ap (λ y. of_topic t (shown h y)) (same_dot-is d x.0 s) ∙ other_topic h u t x n on

spared_among : (h : History) (u t : List ℕ) (xs : List (Dot × Row)) (d : Dot) → same_text u t ≡ false → All (IsOn h u) xs → has_dot (dots_of xs) d ≡ true → of_topic t (shown h d) ≡ None
spared_among h u t [] d n a s = absurd (cc)
spared_among h u t (x ∷ xs) d n a s = go (or_cases (same_dot d x.0) (has_dot (dots_of xs) d) s) (spared_among h u t xs d n (All-tail (IsOn h u) x xs a))
  where
    go : (same_dot d x.0 ≡ true) ⊎ (has_dot (dots_of xs) d ≡ true) → (has_dot (dots_of xs) d ≡ true → of_topic t (shown h d) ≡ None) → of_topic t (shown h d) ≡ None
    go (inl p) ih = spared_at h u t x d n (All-head (IsOn h u) x xs a) p
    go (inr p) ih = ih p

spares_tracked : (h : History) (t : List ℕ) (xs : List (Dot × Row)) (o : Outcome) → tracked h xs ≡ Some o → Spares h t o
spares_tracked h t [] o e = subst (Spares h t) (counted h _ o e) (λ d f. absurd (cc))
spares_tracked h t (x ∷ xs) o e = subst (Spares h t) (same_Some _ _ e) (λ d f. absurd (cc))

spares_updated : (h : History) (u t : List ℕ) → same_text u t ≡ false → (xs : List (Dot × Row)) → All (IsOn h u) xs → (o : Outcome) → updated h xs ≡ Some o → Spares h t o
spares_updated h u t n [] a o e = subst (Spares h t) (same_Some _ _ e) (λ d f. absurd (cc))
spares_updated h u t n (x ∷ xs) a o e = subst (Spares h t) (counted h _ o e) (λ d f. spared_at h u t x d n (All-head (IsOn h u) x xs a) f)

spares_untracked : (h : History) → IsLegal h → (u t : List ℕ) → same_text u t ≡ false → (xs : List (Dot × Row)) → All (IsOn h u) xs → (o : Outcome) → untracked h (dots_of xs) ≡ Some o → Spares h t o
spares_untracked h legal u t n [] a o e = subst (Spares h t) (same_Some _ _ e) (λ d f. absurd (cc))
spares_untracked h legal u t n (x ∷ xs) a o e = subst (Spares h t) (counted h _ o e) (λ d f. go d (or_cases (same_dot d (next_dot h)) (has_dot (dots_of (x ∷ xs)) d) f))
  where
    go : (d : Dot) → (same_dot d (next_dot h) ≡ true) ⊎ (has_dot (dots_of (x ∷ xs)) d ≡ true) → of_topic t (shown h d) ≡ None
    go d (inl p) = ap (λ y. of_topic t (shown h y)) (same_dot-is d (next_dot h) p) ∙ next_hidden h legal t
    go d (inr p) = spared_among h u t (x ∷ xs) d n a p

spares_taken : (h : History) (t : List ℕ) (n max : ℕ) (o : Outcome) → for_present (topic_of h n) (take_outcome max (queue h n)) ≡ Some o → Spares h t o
spares_taken h t n max o e = subst (Spares h t) (for_present-is (topic_of h n) _ o e) (elim (queue h n) as (λ w. Spares h t (take_outcome max w)) [ Behind ↦ λ d f. absurd (cc) | Queued q ↦ λ d f. absurd (cc) ])

spares : (h : History) → IsLegal h → (s : Step) (t : List ℕ) → concerns s t ≡ false → (o : Outcome) → outcome_of h s ≡ Some o → Spares h t o
unfolding outcome_of
spares h legal (steps_are.Track pid topic key meta) t n o e = spares_tracked h t (rows_of_key h pid topic key) o e
spares h legal (steps_are.Update pid topic key meta) t n o e = spares_updated h topic t n (rows_of_key h pid topic key) (key_on h pid topic key) o e
spares h legal (steps_are.Untrack pid topic key) t n o e = spares_untracked h legal topic t n (rows_of_key h pid topic key) (key_on h pid topic key) o e
spares h legal (steps_are.UntrackAll pid topic) t n o e = spares_untracked h legal topic t n (rows_of_pid h pid topic) (pid_on h pid topic) o e
spares h legal (steps_are.Take m max) t n o e = spares_taken h t m max o e
spares h legal (steps_are.Rebirth i) t n o e = absurd (cc)
spares h legal (steps_are.Unsubscribe m) t n o e = subst (Spares h t) (for_present-is (topic_of h m) _ o e) (λ d f. absurd (cc))
spares h legal _ t n o e = subst (Spares h t) (same_Some _ _ e) (λ d f. absurd (cc))

-- a row that a step makes is of its topic
made_elsewhere : (s : Step) (t : List ℕ) → concerns s t ≡ false → (prev : Option Dot) → of_topic t (row_made s prev) ≡ None
made_elsewhere (steps_are.Track pid topic key meta) t n prev = rw n
made_elsewhere (steps_are.Update pid topic key meta) t n prev = rw n
made_elsewhere _ t n prev = refl

added_elsewhere : (s : Step) (t : List ℕ) → concerns s t ≡ false → (o : Outcome) (d : Dot) → of_topic t (row_added s o d) ≡ None
added_elsewhere s t n (outcomes_are.Added new) d = go (same_dot d new)
  where
    go : (b : Bool) → of_topic t (cond b (row_made s None) None) ≡ None
    go true = made_elsewhere s t n None
    go false = refl
added_elsewhere s t n (outcomes_are.Replaced new old) d = go (same_dot d new)
  where
    go : (b : Bool) → of_topic t (cond b (row_made s (Some old)) None) ≡ None
    go true = made_elsewhere s t n (Some old)
    go false = refl
added_elsewhere s t n _ d = refl

live_elsewhere : (h : History) (e : Entry) (t : List ℕ) (d : Dot) → is_reborn e.outcome ≡ false → tells e.step ≡ false → (dot_removed e.outcome (next_dot h) d ≡ true → of_topic t (shown h d) ≡ None) → of_topic t (row_added e.step e.outcome d) ≡ None → is_callers e.step ≡ true → of_topic t (shown (Then h e) d) ≡ of_topic t (shown h d)
unfolding shown live
live_elsewhere h e t d a none spared added c =
    ap (of_topic t) (shown_then h e d (status_stays h e d.replica c) ∙ ap (λ o. cond (is_up (status h d.replica)) o None) (live_untold h e d a (none_told_row h e.step d none) (none_told_removed h e.step d none)))
    ∙ go (is_up (status h d.replica)) (removed h d) (dot_removed e.outcome (next_dot h) d) (row h d) spared
  where
    go : (u a b : Bool) (o : Option Row) → (b ≡ true → of_topic t (cond u (cond a None o) None) ≡ None) → of_topic t (cond u (cond (a || b) None (first_some o (row_added e.step e.outcome d))) None) ≡ of_topic t (cond u (cond a None o) None)
    go true true b o f = refl
    go true false true o f = sym (f refl)
    go true false false None f = added
    go true false false (Some r) f = refl
    go false a b o f = refl

shown_elsewhere : (h : History) (e : Entry) (t : List ℕ) (d : Dot) → is_reborn e.outcome ≡ false → is_callers e.step ≡ true → (dot_removed e.outcome (next_dot h) d ≡ true → of_topic t (shown h d) ≡ None) → of_topic t (row_added e.step e.outcome d) ≡ None → of_topic t (shown (Then h e) d) ≡ of_topic t (shown h d)
shown_elsewhere h e t d a c spared added = live_elsewhere h e t d a (callers_tell_none e.step c) spared added c

-- a step that doesn't concern a topic changes no status, and tells nothing
unconcerned : (s : Step) (t : List ℕ) → concerns s t ≡ false → is_callers s ≡ true
unconcerned (steps_are.Heard replica now) t n = absurd (cc)
unconcerned (steps_are.Tick now) t n = absurd (cc)
unconcerned (steps_are.PermDown replica) t n = absurd (cc)
unconcerned (steps_are.Merge told) t n = absurd (cc)
unconcerned (steps_are.Rebirth i) t n = absurd (cc)
unconcerned _ t n = refl

-- an accepted step has its outcome and room
pub accepted_is : (h : History) (s : Step) (o : Outcome) → accepted h s ≡ Some o → (is_full h ≡ false) × (outcome_of h s ≡ Some o)
unfolding accepted
accepted_is h s o e = go (is_full h) e
  where
    go : (b : Bool) → cond b None (outcome_of h s) ≡ Some o → (b ≡ false) × (outcome_of h s ≡ Some o)
    go true f = absurd (cc)
    go false f = (refl, f)

others_then : (h : History) → IsLegal h → (s : Step) (seat : Option ℕ) (o : Outcome) → accepted h s ≡ Some o → (t : List ℕ) → concerns s t ≡ false → present (Then h (next_entry h s seat o)) t ≡ present h t
others_then h legal s seat o e t n = same_present (Then h (next_entry h s seat o)) h t (λ d. shown_elsewhere h (next_entry h s seat o) t d (kind_plain h s o (kind_of h s o (callers_plain s (unconcerned s t n)) (accepted_is h s o e).1)) (unconcerned s t n) (spares h legal s t n o (accepted_is h s o e).1 d) (added_elsewhere s t n o d))

pub others_stay : OthersStay
unfolding after
others_stay h legal s seat t n = go (accepted h s) refl
  where
    go : (o : Option Outcome) → accepted h s ≡ o → present (with_outcome h s seat o) t ≡ present h t
    go None e = refl
    go (Some o) e = others_then h legal s seat o e t n

quiet_concerns : (s : Step) (t : List ℕ) → reaches s t ≡ false → concerns s t ≡ false
quiet_concerns (steps_are.Shout topic payload) t n = refl
quiet_concerns (steps_are.Track pid topic key meta) t n = n
quiet_concerns (steps_are.Update pid topic key meta) t n = n
quiet_concerns (steps_are.Untrack pid topic key) t n = n
quiet_concerns (steps_are.UntrackAll pid topic) t n = n
quiet_concerns (steps_are.Heard replica now) t n = n
quiet_concerns (steps_are.Tick now) t n = n
quiet_concerns (steps_are.PermDown replica) t n = n
quiet_concerns (steps_are.Merge told) t n = n
quiet_concerns (steps_are.Rebirth i) t n = n
quiet_concerns _ t n = refl

quiet_shout : (s : Step) (t : List ℕ) → reaches s t ≡ false → shout_item s t ≡ []
quiet_shout (steps_are.Shout topic payload) t n = rw n
quiet_shout _ t n = refl

pub others_hear_nothing : OthersHearNothing
unfolding items_made
others_hear_nothing h legal s seat o e t n = rw (others_then h legal s seat o e t (quiet_concerns s t n), no_changes (present h t), quiet_shout s t n)

pub refused_stays : RefusedStays
unfolding after
refused_stays h s seat e = rw e

pub stays_legal : StaysLegal
unfolding after
stays_legal h legal s seat limits = go (accepted h s) refl
  where
    go : (o : Option Outcome) → accepted h s ≡ o → IsLegal (with_outcome h s seat o)
    go None e = legal
    go (Some o) e = let parts = accepted_is h s o e in (legal, parts.1, refl, parts.0, limits)

pub stays_kept : StaysKept
unfolding after
stays_kept h kept s seat limits = record { legal = stays_legal h kept.legal s seat (within_step s limits); limits = go (accepted h s) }
  where
    go : (o : Option Outcome) → AreWithinLimits (with_outcome h s seat o)
    go None = kept.limits
    go (Some o) = (kept.limits, limits)
