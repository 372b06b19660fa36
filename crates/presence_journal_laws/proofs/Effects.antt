-- What a legal entry does to own dots, whatever its step.
use Rattle.std.proofs.Common.{◌≡◌, ◌≤◌, Bool, true, false, cond, ◌&&◌, List, [], ◌∷◌, Some, None, refl, sym, ◌∙◌, ap, subst, arith, inl, inr}
use Rattle.std.specs.Prelude.{◌⊎◌}
use Rattle.std.specs.List.{AllByRecursion}
use Rattle.std.proofs.lemmas.Bool.{and_parts, or_cases, or_left, or_right}
use Rattle.presence_base.specs.declared.dots.Dot.{Dot}
use Rattle.presence_base.specs.declared.row.Row.{Row}
use Rattle.presence_base.specs.Order.{same_dot}
use Rattle.orswot_core.specs.Telling.{ToldValue, covers, live_row, tells_removed}
use Rattle.presence_journal.specs.declared.step.Step.TheVariants as steps_are
use Rattle.presence_journal.specs.declared.entry.Outcome.TheVariants as outcomes_are
use Rattle.presence_journal.specs.declared.step.Step.{Step}
use Rattle.presence_journal.specs.declared.entry.Outcome.{Outcome}
use Rattle.presence_journal.specs.declared.entry.Entry.{Entry}
use Rattle.presence_journal.specs.History.{History, counts_used, next_dot, has_dot, row_added, dot_removed, hears, told_covers, told_row, told_removed}
use Rattle.presence_journal.specs.Present.{dots_taken}
use Rattle.presence_journal.proofs.Same.{same_dot-true}
use Rattle.presence_journal.proofs.HistoryLemmas.{IsOwnShown, Kind, Adds, Replaces, Removes, Quiet, is_quiet, quiet_removed, quiet_taken, one_added}

-- ---- own rows

pub record Effects (h : History) (e : Entry) : Type 0 where
  pub added : (d : Dot) (r : Row) → row_added e.step e.outcome d ≡ Some r → (d ≡ next_dot h) × (counts_used e.outcome ≡ 1)
  pub why_removed : (d : Dot) → dot_removed e.outcome (next_dot h) d ≡ true → (counts_used e.outcome ≡ 1) × (((d ≡ next_dot h) × ((x : Dot) → row_added e.step e.outcome x ≡ None)) ⊎ (has_dot (dots_taken e.outcome) d ≡ true))
  pub taken : (d : Dot) → has_dot (dots_taken e.outcome) d ≡ true → (counts_used e.outcome ≡ 1) × (dot_removed e.outcome (next_dot h) d ≡ true) × IsOwnShown h d
  pub one_at_most : counts_used e.outcome ≤ 1

found : (P : Dot → Type 0) (ds : List Dot) (d : Dot) → AllByRecursion P ds → has_dot ds d ≡ true → P d
found P [] d a f = absurd (cc)
found P (x ∷ xs) d a f = go (or_cases (same_dot d x) (has_dot xs d) f) (found P xs d a.1)
  where
    go : (same_dot d x ≡ true) ⊎ (has_dot xs d ≡ true) → (has_dot xs d ≡ true → P d) → P d
    go (inl e) ih = subst P (sym (same_dot-true d x e)) a.0
    go (inr e) ih = ih e

none_used : (o : Outcome) → is_quiet o ≡ true → counts_used o ≤ 1
none_used (outcomes_are.Added d) q = absurd (cc)
none_used (outcomes_are.Replaced d old) q = absurd (cc)
none_used (outcomes_are.Removed (d ∷ ds)) q = absurd (cc)
none_used (outcomes_are.Removed []) q = omega arith
none_used _ q = omega arith

pub effects : (h : History) (e : Entry) → Kind h e.step e.outcome → Effects h e
effects h e k = record { added = λ d r f. one_added h e d r k f; why_removed = why k; taken = took k; one_at_most = most k }
  where
    why : Kind h e.step e.outcome → (d : Dot) → dot_removed e.outcome (next_dot h) d ≡ true → (counts_used e.outcome ≡ 1) × (((d ≡ next_dot h) × ((x : Dot) → row_added e.step e.outcome x ≡ None)) ⊎ (has_dot (dots_taken e.outcome) d ≡ true))
    why (Adds r m o l) d f = let g : false ≡ true = sym (ap (λ x. dot_removed x (next_dot h) d) o) ∙ f in absurd (cc)
    why (Replaces r old m o l w) d f = (ap counts_used o, inr (ap (λ x. has_dot (dots_taken x) d) o ∙ or_left (same_dot d old) false (sym (ap (λ x. dot_removed x (next_dot h) d) o) ∙ f)))
    why (Removes y ys o l a q) d f = (ap counts_used o, go (or_cases (same_dot d (next_dot h)) (has_dot (y ∷ ys) d) (sym (ap (λ x. dot_removed x (next_dot h) d) o) ∙ f)))
      where
        go : (same_dot d (next_dot h) ≡ true) ⊎ (has_dot (y ∷ ys) d ≡ true) → ((d ≡ next_dot h) × ((x : Dot) → row_added e.step e.outcome x ≡ None)) ⊎ (has_dot (dots_taken e.outcome) d ≡ true)
        go (inl g) = inl (same_dot-true d (next_dot h) g, λ x. ap (λ z. row_added e.step z x) o)
        go (inr g) = inr (ap (λ x. has_dot (dots_taken x) d) o ∙ g)
    why (Quiet q) d f = let g : false ≡ true = sym (quiet_removed e.outcome (next_dot h) d q) ∙ f in absurd (cc)

    took : Kind h e.step e.outcome → (d : Dot) → has_dot (dots_taken e.outcome) d ≡ true → (counts_used e.outcome ≡ 1) × (dot_removed e.outcome (next_dot h) d ≡ true) × IsOwnShown h d
    took (Adds r m o l) d f = let g : false ≡ true = sym (ap (λ x. has_dot (dots_taken x) d) o) ∙ f in absurd (cc)
    took (Replaces r old m o l w) d f = go (or_cases (same_dot d old) false (sym (ap (λ x. has_dot (dots_taken x) d) o) ∙ f))
      where
        go : (same_dot d old ≡ true) ⊎ (false ≡ true) → (counts_used e.outcome ≡ 1) × (dot_removed e.outcome (next_dot h) d ≡ true) × IsOwnShown h d
        go (inl g) = (ap counts_used o, ap (λ x. dot_removed x (next_dot h) d) o ∙ g, subst (IsOwnShown h) (sym (same_dot-true d old g)) w)
        go (inr g) = absurd (cc)
    took (Removes y ys o l a q) d f =
        let g : has_dot (y ∷ ys) d ≡ true = sym (ap (λ x. has_dot (dots_taken x) d) o) ∙ f in
        (ap counts_used o, ap (λ x. dot_removed x (next_dot h) d) o ∙ or_right (same_dot d (next_dot h)) (has_dot (y ∷ ys) d) g, found (IsOwnShown h) (y ∷ ys) d a g)
    took (Quiet q) d f = let g : false ≡ true = sym (ap (λ xs. has_dot xs d) (quiet_taken e.outcome q)) ∙ f in absurd (cc)

    most : Kind h e.step e.outcome → counts_used e.outcome ≤ 1
    most (Adds r m o l) = omega (arith, ap counts_used o)
    most (Replaces r old m o l w) = omega (arith, ap counts_used o)
    most (Removes y ys o l a q) = omega (arith, ap counts_used o)
    most (Quiet q) = none_used e.outcome q

-- ---- what is told of others

-- a merge that is heard tells of the dot
pub record Hears (h : History) (s : Step) (d : Dot) (Of : ToldValue → Type 0) : Type 0 where
  pub told : ToldValue
  pub is : s ≡ steps_are.Merge told
  pub hears : hears h d.replica ≡ true
  pub of : Of told

pub heard_covers : (h : History) (s : Step) (d : Dot) → told_covers h s d ≡ true → Hears h s d (λ t. covers t d ≡ true)
heard_covers h (steps_are.Merge t) d f = let p = and_parts (hears h d.replica) (covers t d) f in record { told = t; is = refl; hears = p.0; of = p.1 }
heard_covers h _ d f = absurd (cc)

pub heard_removes : (h : History) (s : Step) (d : Dot) → told_removed h s d ≡ true → Hears h s d (λ t. tells_removed t d ≡ true)
heard_removes h (steps_are.Merge t) d f = let p = and_parts (hears h d.replica) (tells_removed t d) f in record { told = t; is = refl; hears = p.0; of = p.1 }
heard_removes h _ d f = absurd (cc)

pub heard_row : (h : History) (s : Step) (d : Dot) (r : Row) → told_row h s d ≡ Some r → Hears h s d (λ t. live_row t d ≡ Some r)
heard_row h (steps_are.Merge t) d r f = go (hears h d.replica) refl f
  where
    go : (b : Bool) → hears h d.replica ≡ b → cond b (live_row t d) None ≡ Some r → Hears h (steps_are.Merge t) d (λ t. live_row t d ≡ Some r)
    go true p g = record { told = t; is = refl; hears = p; of = g }
    go false p g = absurd (cc)
heard_row h _ d r f = absurd (cc)

-- what a merge that is heard tells as removed
pub removed_heard : (h : History) (s : Step) (d : Dot) (t : ToldValue) → s ≡ steps_are.Merge t → hears h d.replica ≡ true → tells_removed t d ≡ true → told_removed h s d ≡ true
removed_heard h s d t m p q = ap (λ x. told_removed h x d) m ∙ (λ i. p i && q i)
