-- What is known, live and shown after an entry, a merge among them.
use Rattle.std.proofs.Common.{◌≡◌, ◌+◌, ◌<◌, ◌≤◌, nat_le, Bool, true, false, cond, ◌&&◌, ◌||◌, [], ◌∷◌, Option, Some, None, refl, sym, ◌∙◌, ap, arith, inl, inr, is_some}
use Rattle.std.specs.Map.{lookup}
use Rattle.std.specs.Prelude.{◌⊎◌, is_none}
use Rattle.std.proofs.lemmas.Bool.{and_from, or_left, or_right, or_parts, leb-true, leb-false}
use Rattle.presence_base.specs.declared.dots.Dot.{Dot}
use Rattle.presence_base.specs.declared.row.Row.{Row}
use Rattle.presence_base.specs.Order.{same_dot}
use Rattle.orswot_core.specs.Telling.{ToldValue, covers, live_row}
use Rattle.presence_journal.specs.declared.step.Step.TheVariants as steps_are
use Rattle.presence_journal.specs.declared.entry.Outcome.TheVariants as outcomes_are
use Rattle.presence_journal.specs.Steps.{Step, Outcome, Entry, Start}
use Rattle.presence_journal.specs.History.{History, Begin, Then, own, reborn, with_prev, row_again, row_brought, count, counts_used, status, is_up, hears, told_covers, told_row, told_removed, is_counted, known, next_dot, has_dot, first_some, row_made, row_added, dot_removed, removed, row, live, shown}
use Rattle.presence_journal.specs.Present.{dots_added, dots_taken}
use Rattle.presence_journal.specs.Table.{IsLegal, own_dots, reborn_from, is_step}
use Rattle.presence_journal.specs.StepLimits.{is_heard}
use Rattle.presence_journal.specs.Walk.{tells, is_rebirth}
use Rattle.presence_journal.specs.Merges.{RemovedIsKnown, KnownIsLiveOrRemoved, row_taken_in, MergeIsKnown, MergeIsLive, LiveStays, ShownStays, is_of_rows, OwnStepsAlone}
use Rattle.presence_journal.proofs.Same.{same_dot-refl}
use Rattle.presence_journal.proofs.ToldLemmas.{told_other, live_row_covered, rowless_told_removed, untold_row, untold_removed}
use Rattle.presence_journal.proofs.HistoryLemmas.{Kind, Adds, Replaces, Removes, Quiet, is_quiet, quiet_row, quiet_removed, tells_quiet, kind_of, legal_knows, counted_parts, known_cases, known_from, known_quiet, is_own, count-then, live_by, shown_then, first_none, no_more, kind_plain, quiet_plain, brought_told, own-then, own_again, count_again, removed_again, row_again-is}
use Rattle.presence_journal.proofs.PresentLemmas.{shown-row}
use Rattle.presence_journal.proofs.Reborn.{lookup_among, Found, again_found, IsAgain, again_of, own_dot}
use Rattle.presence_journal.proofs.Walking.{quiet_uses_none}
use Rattle.presence_journal.proofs.Fresh.{not_added}

pub removed_is_known : RemovedIsKnown
removed_is_known h legal = (legal_knows h legal).of_removed

-- the next dot, once it is used, has a row or is a removal's own
next_used : (h : History) (s : Step) (o : Outcome) → Kind h s o → 0 < counts_used o → row_added s o (next_dot h) ≡ None → dot_removed o (next_dot h) (next_dot h) ≡ true
next_used h s o (Adds r m p l) u f =
    let added : Some r ≡ None = sym (ap (λ b. cond b (row_made s None) None) (same_dot-refl (next_dot h)) ∙ m) ∙ (sym (ap (λ x. row_added s x (next_dot h)) p) ∙ f) in
    absurd (cc)
next_used h s o (Replaces r old m p l w) u f =
    let added : Some r ≡ None = sym (ap (λ b. cond b (row_made s (Some old)) None) (same_dot-refl (next_dot h)) ∙ m) ∙ (sym (ap (λ x. row_added s x (next_dot h)) p) ∙ f) in
    absurd (cc)
next_used h s o (Removes y ys p l a q) u f =
    ap (λ x. dot_removed x (next_dot h) (next_dot h)) p
    ∙ or_left (same_dot (next_dot h) (next_dot h)) (has_dot (y ∷ ys) (next_dot h)) (same_dot-refl (next_dot h))
next_used h s o (Quiet q) u f = absurd (omega (arith, u, quiet_uses_none o q))

one_at_most : (o : Outcome) → counts_used o ≤ 1
one_at_most (outcomes_are.Added d) = omega arith
one_at_most (outcomes_are.Replaced d old) = omega arith
one_at_most (outcomes_are.Removed (d ∷ ds)) = omega arith
one_at_most (outcomes_are.Removed []) = omega arith
one_at_most _ = omega arith

-- an entry removes the dots that it makes known without a row

abbrev removed_now : History → Entry → Dot → Bool
removed_now h e d = removed h d || (dot_removed e.outcome (next_dot h) d || told_removed h e.step d)

removed_told : (h : History) (e : Entry) (d : Dot) → told_row h e.step d ≡ None → told_covers h e.step d ≡ true → removed_now h e d ≡ true
removed_told h e d none x = or_right (removed h d) _ (or_right (dot_removed e.outcome (next_dot h) d) (told_removed h e.step d) (rowless_told_removed h e.step d x none))

removed_counted : (h : History) (e : Entry) (d : Dot) → IsLegal h → Kind h e.step e.outcome → (known h d ≡ true → removed h d ≡ true) → row_added e.step e.outcome d ≡ None → d.replica ≡ own h → 0 < d.count → d.count ≤ count (Then h e) → removed_now h e d ≡ true
removed_counted h e d legal kind ih none o l m = go (nat_le d.count (count h)) refl
  where
    go : (b : Bool) → nat_le d.count (count h) ≡ b → removed_now h e d ≡ true
    go true p = or_left (removed h d) _ (ih (known_from h legal d o l (leb-true d.count (count h) p)))
    go false p =
        let high = leb-false d.count (count h) p in
        let last : d.count ≡ count h + 1 = omega (arith, m, high, one_at_most e.outcome, count-then h e (kind_plain h e.step e.outcome kind)) in
        let is : d ≡ next_dot h = λ i. record { replica = o i; count = last i } in
        let used = next_used h e.step e.outcome kind (omega (arith, m, high, count-then h e (kind_plain h e.step e.outcome kind))) (ap (row_added e.step e.outcome) (sym is) ∙ none) in
        or_right (removed h d) _ (or_left (dot_removed e.outcome (next_dot h) d) (told_removed h e.step d) (ap (dot_removed e.outcome (next_dot h)) is ∙ used))

none_first : (o p q : Option Row) → first_some o (first_some p q) ≡ None → (o ≡ None) × (p ≡ None) × (q ≡ None)
none_first None None None g = (refl, refl, refl)
none_first None None (Some x) g = absurd (cc)
none_first None (Some x) q g = absurd (cc)
none_first (Some x) p q g = absurd (cc)

known_start : (s : Start) (d : Dot) → known (Begin s) d ≡ true → covers s.content d ≡ true
unfolding known
known_start s d k = k

-- each of the new replica's dots that is counted has a row
again_rows : (h : History) (e : Entry) (d : Dot) (w : IsAgain h e.step e.outcome) → is_counted (own (Then h e)) (count (Then h e)) d ≡ true → row_brought e.outcome (row h) (told_row h e.step d) d ≡ None → ⊥
again_rows h e d w c f = go (again_found (reborn (own h) w.incarnation) 0 (own_dots h) d (p.0 ∙ own_again h e w) p.1 (omega (arith, p.2, count_again h e w)))
  where
    p : (d.replica ≡ own (Then h e)) × (0 < d.count) × (d.count ≤ count (Then h e))
    p = counted_parts (own (Then h e)) (count (Then h e)) d c

    gone : (o : Option Row) (old : Dot) (r : Row) → o ≡ Some r → with_prev old o ≡ None → ⊥
    gone None old r is g = absurd (cc)
    gone (Some x) old r is g = absurd (cc)

    go : Found (own_dots h) (lookup (same_dot d) (reborn_from (reborn (own h) w.incarnation) 0 (own_dots h))) → ⊥
    go x =
        let g = own_dot h x.old x.among in
        gone (row h x.old) x.old g.row (shown-row h x.old g.row g.shown).0 (sym (ap (row_again (row h)) x.is) ∙ (sym (ap (λ o. row_brought o (row h) (told_row h e.step d) d) w.outcome) ∙ f))

-- a known dot that never had a row was removed
rowless_removed : (h : History) → IsLegal h → (d : Dot) → known h d ≡ true → row h d ≡ None → removed h d ≡ true
unfolding removed row
rowless_removed (Begin s) legal d k f = and_from (covers s.content d) (is_none (live_row s.content d)) (known_start s d k) (ap is_none f)
rowless_removed (Then h e) legal d k f = either (is_rebirth e.step) refl (rowless_removed h legal.0 d)
  where
    none : (row h d ≡ None) × (row_added e.step e.outcome d ≡ None) × (row_brought e.outcome (row h) (told_row h e.step d) d ≡ None)
    none = none_first (row h d) (row_added e.step e.outcome d) (row_brought e.outcome (row h) (told_row h e.step d) d) f

    go : is_rebirth e.step ≡ false → Kind h e.step e.outcome → (known h d ≡ true → row h d ≡ None → removed h d ≡ true) → (known h d ≡ true) ⊎ ((is_counted (own (Then h e)) (count (Then h e)) d ≡ true) ⊎ (told_covers h e.step d ≡ true)) → removed_now h e d ≡ true
    go n kind ih (inl x) = or_left (removed h d) _ (ih x none.0)
    go n kind ih (inr (inl x)) = let c = counted_parts (own (Then h e)) (count (Then h e)) d x in removed_counted h e d legal.0 kind (λ y. ih y none.0) none.1 (c.0 ∙ own-then h e n) c.1 c.2
    go n kind ih (inr (inr x)) = removed_told h e d (sym (brought_told e.outcome (row h) (told_row h e.step d) d (kind_plain h e.step e.outcome kind)) ∙ none.2) x

    again : (w : IsAgain h e.step e.outcome) → (known h d ≡ true → row h d ≡ None → removed h d ≡ true) → (known h d ≡ true) ⊎ ((is_counted (own (Then h e)) (count (Then h e)) d ≡ true) ⊎ (told_covers h e.step d ≡ true)) → removed_now h e d ≡ true
    again w ih (inl x) = or_left (removed h d) _ (ih x none.0)
    again w ih (inr (inl x)) = absurd (again_rows h e d w x none.2)
    again w ih (inr (inr x)) = let g : false ≡ true = sym (ap (λ s. told_covers h s d) w.step) ∙ x in absurd (cc)

    either : (b : Bool) → is_rebirth e.step ≡ b → (known h d ≡ true → row h d ≡ None → removed h d ≡ true) → removed_now h e d ≡ true
    either false n ih = go n (kind_of h e.step e.outcome n legal.1) ih (known_cases h e d k)
    either true n ih = again (again_of h e.step e.outcome n legal.1) ih (known_cases h e d k)

pub known_is_live_or_removed : KnownIsLiveOrRemoved
unfolding live
known_is_live_or_removed h legal d k f = go (removed h d) refl f
  where
    go : (b : Bool) → removed h d ≡ b → cond b None (row h d) ≡ None → b ≡ true
    go true p g = refl
    go false p g = sym p ∙ rowless_removed h legal d k g

-- a merge

told_merge : (h : History) (e : Entry) (t : ToldValue) → e.step ≡ steps_are.Merge t → tells e.step ≡ true
told_merge h e t m = ap tells m

quiet_merge : (h : History) (e : Entry) (t : ToldValue) → IsLegal (Then h e) → e.step ≡ steps_are.Merge t → is_quiet e.outcome ≡ true
quiet_merge h e t l m = tells_quiet h e.step e.outcome (kind_of h e.step e.outcome (ap is_rebirth m) l.1) (told_merge h e t m)

pub merge_is_known : MergeIsKnown
merge_is_known h e l t m d =
    known_quiet h e d l.0 (ap is_rebirth m) (quiet_plain e.outcome (quiet_merge h e t l m)) (quiet_uses_none e.outcome (quiet_merge h e t l m))
    ∙ ap (λ s. known h d || told_covers h s d) m

-- what is live after an entry that changes no own row
live_quiet : (h : History) (e : Entry) (d : Dot) → is_quiet e.outcome ≡ true → live (Then h e) d ≡ cond (removed h d || told_removed h e.step d) None (first_some (row h d) (told_row h e.step d))
unfolding live removed row
live_quiet h e d q = λ i. cond (removed h d || (quiet_removed e.outcome (next_dot h) d q i || told_removed h e.step d)) None (first_some (row h d) (first_some (quiet_row e.step e.outcome d q i) (brought_told e.outcome (row h) (told_row h e.step d) d (quiet_plain e.outcome q) i)))

pub merge_is_live : MergeIsLive
unfolding live
merge_is_live h e l t m d =
    let knows = legal_knows h l.0 in
    live_quiet h e d (quiet_merge h e t l m)
    ∙ (ap (λ s. cond (removed h d || told_removed h s d) None (first_some (row h d) (told_row h s d))) m
    ∙ go (hears h d.replica) (removed h d) (row h d) (known h d) (live_row t d) (covers t d) (λ r f. knows.of_row d r f) (knows.of_removed d) (rowless_removed h l.0 d) (λ r f. live_row_covered t d r (heard_is e.step m l.4) f))
  where
    heard_is : (s : Step) → s ≡ steps_are.Merge t → is_step s ≡ true → is_heard t ≡ true
    heard_is s p i = sym (ap is_step p) ∙ i

    go : (b a : Bool) (o : Option Row) (k : Bool) (r : Option Row) (c : Bool) → ((x : Row) → o ≡ Some x → k ≡ true) → (a ≡ true → k ≡ true) → (k ≡ true → o ≡ None → a ≡ true) → ((x : Row) → r ≡ Some x → c ≡ true) → cond (a || (b && (c && is_none r))) None (first_some o (cond b r None)) ≡ cond b (row_taken_in (cond a None o) k r c) (cond a None o)
    go false true o k r c f g u v = refl
    go false false o k r c f g u v = first_none o
    go true true o k None c f g u v = refl
    go true true o k (Some x) c f g u v = ap (λ y. cond y None (Some x)) (sym (g refl))
    go true false (Some x) k (Some y) true f g u v = refl
    go true false (Some x) k (Some y) false f g u v = refl
    go true false (Some x) k None true f g u v = refl
    go true false (Some x) k None false f g u v = refl
    go true false None true r c f g u v = let w : false ≡ true = u refl refl in absurd (cc)
    go true false None false (Some y) true f g u v = refl
    go true false None false (Some y) false f g u v = refl
    go true false None false None true f g u v = refl
    go true false None false None false f g u v = refl

-- dots that an entry doesn't touch

shape_same : (c : Bool) (o : Option Row) → cond (c || false) None (first_some o None) ≡ cond c None o
shape_same true o = refl
shape_same false None = refl
shape_same false (Some x) = refl

live_same : (h : History) (e : Entry) (d : Dot) → is_quiet e.outcome ≡ true → told_row h e.step d ≡ None → told_removed h e.step d ≡ false → live (Then h e) d ≡ live h d
unfolding live
live_same h e d q x y = live_quiet h e d q ∙ ((λ i. cond (removed h d || y i) None (first_some (row h d) (x i))) ∙ shape_same (removed h d) (row h d))

-- a rebirth leaves what is live but for the dots that it adds
live_again : (h : History) (e : Entry) (d : Dot) (w : IsAgain h e.step e.outcome) → has_dot (dots_added e.outcome) d ≡ false → live (Then h e) d ≡ live h d
unfolding live
live_again h e d w a =
    (λ i. cond (removed_again h e d w i) None (row_again-is h e d w i))
    ∙ (ap (λ o. cond (removed h d) None (first_some (row h d) (row_again (row h) o))) (none_of (lookup (same_dot d) (reborn_from (reborn (own h) w.incarnation) 0 (own_dots h))) (lookup_among (reborn_from (reborn (own h) w.incarnation) 0 (own_dots h)) d ∙ (sym (ap (λ o. has_dot (dots_added o) d) w.outcome) ∙ a)))
    ∙ ap (λ o. cond (removed h d) None o) (first_none (row h d)))
  where
    none_of : (o : Option Dot) → is_some o ≡ false → o ≡ None
    none_of None f = refl
    none_of (Some x) f = absurd (cc)

pub live_stays : LiveStays
live_stays h e l d n = either (is_rebirth e.step) refl
  where
    a : (has_dot (dots_added e.outcome) d ≡ false) × ((has_dot (dots_taken e.outcome) d || told_covers h e.step d) ≡ false)
    a = or_parts (has_dot (dots_added e.outcome) d) (has_dot (dots_taken e.outcome) d || told_covers h e.step d) n

    b : (has_dot (dots_taken e.outcome) d ≡ false) × (told_covers h e.step d ≡ false)
    b = or_parts (has_dot (dots_taken e.outcome) d) (told_covers h e.step d) a.1

    go : Kind h e.step e.outcome → (x : Bool) → tells e.step ≡ x → live (Then h e) d ≡ live h d
    go kind false f = live_by h e d (legal_knows h l.0) kind f ∙ (λ i. first_some (not_added e.step e.outcome d a.0 i) (cond (b.0 i) None (live h d)))
    go kind true f = live_same h e d (tells_quiet h e.step e.outcome kind f) (untold_row h e.step d l.4 b.1) (untold_removed h e.step d b.1)

    either : (c : Bool) → is_rebirth e.step ≡ c → live (Then h e) d ≡ live h d
    either false f = go (kind_of h e.step e.outcome f l.1) (tells e.step) refl
    either true f = live_again h e d (again_of h e.step e.outcome f l.1) a.0

pub shown_stays : ShownStays
unfolding shown
shown_stays h e l d n s = shown_then h e d s ∙ ap (λ o. cond (is_up (status h d.replica)) o None) (live_stays h e l d n)

-- own dots

made_of_rows : (s : Step) (prev : Option Dot) (r : Row) → row_made s prev ≡ Some r → is_of_rows s ≡ true
made_of_rows (steps_are.Track pid topic key meta) prev r m = refl
made_of_rows (steps_are.Update pid topic key meta) prev r m = refl
made_of_rows _ prev r m = absurd (cc)

quiet_step : (h : History) (s : Step) (o : Outcome) → Kind h s o → is_of_rows s ≡ false → is_quiet o ≡ true
quiet_step h s o (Adds r m p l) f = let g : true ≡ false = sym (made_of_rows s None r m) ∙ f in absurd (cc)
quiet_step h s o (Replaces r old m p l w) f = let g : true ≡ false = sym (made_of_rows s (Some old) r m) ∙ f in absurd (cc)
quiet_step h s o (Removes y ys p l a q) f = let g : true ≡ false = sym q ∙ f in absurd (cc)
quiet_step h s o (Quiet q) f = q

count_quiet : (h : History) (e : Entry) → is_quiet e.outcome ≡ true → count (Then h e) ≡ count h
count_quiet h e q = count-then h e (quiet_plain e.outcome q) ∙ omega (arith, quiet_uses_none e.outcome q)

own_untold : (h : History) (s : Step) (d : Dot) → d.replica ≡ own h → told_covers h s d ≡ false
own_untold h s d o = go (told_covers h s d) refl
  where
    go : (b : Bool) → told_covers h s d ≡ b → b ≡ false
    go false e = refl
    go true e = let f : true ≡ false = sym (is_own h d o) ∙ told_other h s d e in absurd (cc)

same_known : (h : History) (e : Entry) (d : Dot) → IsLegal h → is_rebirth e.step ≡ false → is_quiet e.outcome ≡ true → told_covers h e.step d ≡ false → known (Then h e) d ≡ known h d
same_known h e d l n q f = known_quiet h e d l n (quiet_plain e.outcome q) (quiet_uses_none e.outcome q) ∙ (ap (λ b. known h d || b) f ∙ no_more (known h d))

same_removed : (h : History) (e : Entry) (d : Dot) → is_quiet e.outcome ≡ true → told_removed h e.step d ≡ false → removed (Then h e) d ≡ removed h d
unfolding removed
same_removed h e d q f = (λ i. removed h d || (quiet_removed e.outcome (next_dot h) d q i || f i)) ∙ no_more (removed h d)

same_row : (h : History) (e : Entry) (d : Dot) → is_quiet e.outcome ≡ true → told_row h e.step d ≡ None → row (Then h e) d ≡ row h d
unfolding row
same_row h e d q f = (λ i. first_some (row h d) (first_some (quiet_row e.step e.outcome d q i) ((brought_told e.outcome (row h) (told_row h e.step d) d (quiet_plain e.outcome q) ∙ f) i))) ∙ first_none (row h d)

rows_plain : (s : Step) → is_of_rows s ≡ false → is_rebirth s ≡ false
rows_plain (steps_are.Rebirth i) f = absurd (cc)
rows_plain _ f = refl

pub own_steps_alone : OwnStepsAlone
own_steps_alone h e l f = (
  count_quiet h e quiet,
  λ d o.
      let none = own_untold h e.step d o in
      let rowless = untold_row h e.step d l.4 none in
      let stands = untold_removed h e.step d none in
      record {
        known = same_known h e d l.0 (rows_plain e.step f) quiet none;
        removed = same_removed h e d quiet stands;
        row = same_row h e d quiet rowless;
        live = live_same h e d quiet rowless stands;
      },
)
  where
    quiet : is_quiet e.outcome ≡ true
    quiet = quiet_step h e.step e.outcome (kind_of h e.step e.outcome (rows_plain e.step f) l.1) f
