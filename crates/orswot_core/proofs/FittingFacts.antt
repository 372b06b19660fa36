-- How much is told of a set: the dots of its runs, or the runs, and its rows.
use Rattle.std.proofs.Common.{◌≡◌, ◌≤◌, ◌<◌, ◌+◌, ◌-◌, ℕ, zero, suc, Bool, true, false, not, cond, nat_le, nat_lt, List, [], ◌∷◌, ◌++◌, length, refl, sym, ◌∙◌, ap, subst, arith, Option, Some, None}
use Rattle.std.proofs.lemmas.Bool.Decides.{nat_tests}
use Rattle.std.proofs.lemmas.Grind.{common_steps}
use Rattle.std.specs.FinMap as map
use Rattle.presence_base.specs.declared.dots.Replica.{Replica}
use Rattle.presence_base.specs.declared.dots.Dot.{Dot}
use Rattle.dot_context.specs.Sets.{span, run_dots}
use Rattle.dot_context.specs.Forms.{Form, cloud_of, IfFormed}
use Rattle.orswot_core.specs.declared.form.Form.TheVariants.{One, Two}
use Rattle.orswot_core.specs.Telling.{Range, ToldValue, run_ranges}
use Rattle.orswot_core.specs.Checks.{is_too_many_in, WhereItFits}
use Rattle.orswot_core.specs.Sets.{DotRows}
use Rattle.orswot_core.specs.Full.{IsFull, IsFullInRuns, IsFullIn, top_ranges, dots_above, dots_of_runs, all_ranges, counts_in, left_behind, Fits}
use Rattle.orswot_core.proofs.FullFacts.{form_is_full}
use Rattle.orswot_core.proofs.RunRangeFacts.{form_is_full_in_runs}
use Rattle.orswot_core.proofs.OneFullFacts.{one_full}

pub length_span : (r : Replica) (from n : ℕ) → length (span r from n) ≡ n
length_span r from zero = refl
length_span r from (suc k) = ap suc (length_span r (suc from) k)

pub length_both : {A : Type 0} (xs ys : List A) → length (xs ++ ys) ≡ length xs + length ys
length_both xs ys = grind (arith, common_steps)

pub length_run_dots : (r : Replica) (rs : List (ℕ × ℕ)) → length (run_dots r rs) ≡ counts_in rs
length_run_dots r [] = refl
length_run_dots r (x ∷ xs) =
    length_both (span r x.0 (x.1 - x.0)) (run_dots r xs)
    ∙ (ap (λ n. n + length (run_dots r xs)) (length_span r x.0 (x.1 - x.0))
    ∙ ap (λ n. (x.1 - x.0) + n) (length_run_dots r xs))

pub length_run_ranges : (r : Replica) (rs : List (ℕ × ℕ)) → length (run_ranges r rs) ≡ length rs
length_run_ranges r [] = refl
length_run_ranges r (x ∷ xs) = ap suc (length_run_ranges r xs)

-- what was left, and is no more
left_some : (left n rest : ℕ) → Some rest ≡ left_behind left n → rest + n ≡ left
left_some left n rest e = go (nat_lt left n) refl e
  where
    go : (b : Bool) → nat_lt left n ≡ b → Some rest ≡ cond b None (Some (left - n)) → rest + n ≡ left
    go true lt f = absurd (cc)
    go false lt f = grind (arith, nat_tests)

left_none : (left n : ℕ) → None ≡ left_behind left n → left < n
left_none left n e = go (nat_lt left n) refl e
  where
    go : (b : Bool) → nat_lt left n ≡ b → None ≡ cond b None (Some (left - n)) → left < n
    go true lt f = grind (arith, nat_tests)
    go false lt f = absurd (cc)

-- one replica more is counted
pub counted : (left rest here all most tail : ℕ) → left + all ≡ most + (here + tail) → Some rest ≡ left_behind left here → rest + all ≡ most + tail
counted left rest here all most tail inv e = let was = left_some left here rest e in omega (arith, inv, was)

-- and these are too many
pub too_many : (left here all most tail : ℕ) → left + all ≡ most + (here + tail) → None ≡ left_behind left here → false ≡ nat_le all most
too_many left here all most tail inv e = let more = left_none left here e in over all most (omega (arith, inv, more))
  where
    over : (m n : ℕ) → n < m → false ≡ nat_le m n
    over m n lt = grind (arith, nat_tests)

-- of the entries of a form
pub dots_split : (left most all : ℕ) (r : Replica) (rs : List (ℕ × ℕ)) (entries rest : Form) → entries ≡ (r, rs) ∷ rest → left + all ≡ most + length (dots_of_runs entries)
    → left + all ≡ most + (counts_in rs + length (dots_of_runs rest))
dots_split left most all r rs entries rest e inv =
    inv ∙ ap (λ f. most + length (dots_of_runs f)) e
    ∙ ap (λ n. most + n) (length_both (run_dots r rs) (dots_of_runs rest) ∙ ap (λ n. n + length (dots_of_runs rest)) (length_run_dots r rs))

pub runs_split : (left most all : ℕ) (r : Replica) (rs : List (ℕ × ℕ)) (entries rest : Form) → entries ≡ (r, rs) ∷ rest → left + all ≡ most + length (all_ranges entries)
    → left + all ≡ most + (length rs + length (all_ranges rest))
runs_split left most all r rs entries rest e inv =
    inv ∙ ap (λ f. most + length (all_ranges f)) e
    ∙ ap (λ n. most + n) (length_both (run_ranges r rs) (all_ranges rest) ∙ ap (λ n. n + length (all_ranges rest)) (length_run_ranges r rs))

fits_rest : (a k m : ℕ) → k ≤ m → nat_le a (m - k) ≡ not (nat_lt m (a + k))
fits_rest a k m h = grind (arith, nat_tests)

fits_none : (a k m : ℕ) → m < k → nat_le k m ≡ not (nat_lt m (a + k))
fits_none a k m h = grind (arith, nat_tests)

-- a told value that fits as much as is counted
in_tops : (s : DotRows) (cloud : Form) → IfFormed s.covered (λ f. cloud ≡ cloud_of f)
    → (t : ToldValue) × IsFull s t × (length t.extras ≡ length (dots_of_runs cloud)) × (t.live ≡ map.entries s.live)
in_tops s cloud h =
    let t : ToldValue = record { ranges = top_ranges h.0; extras = dots_above h.0; live = map.entries s.live } in
    (t, form_is_full s h.0 t h.1 refl refl refl, ap (λ c. length (dots_of_runs c)) (sym h.2), refl)

pub tops_fit : (s : DotRows) (cloud : Form) (rows : ℕ) (b : Bool) → IfFormed s.covered (λ f. cloud ≡ cloud_of f) → rows ≡ length (map.entries s.live)
    → rows ≤ 65536 → b ≡ nat_le (length (dots_of_runs cloud)) (65536 - rows) → Fits One (IsFullIn One s) b
tops_fit s cloud rows b h n few is =
    let x = in_tops s cloud h in (
      x.0,
      x.1,
      is ∙ fits_rest (length (dots_of_runs cloud)) rows 65536 few
          ∙ ap (λ m. not (nat_lt 65536 (m + rows))) (sym x.2)
          ∙ ap (λ m. not (nat_lt 65536 (length x.0.extras + m))) (n ∙ ap length (sym x.3)),
    )

pub tops_fit_not : (s : DotRows) (cloud : Form) (rows : ℕ) → IfFormed s.covered (λ f. cloud ≡ cloud_of f) → rows ≡ length (map.entries s.live)
    → 65536 < rows → Fits One (IsFullIn One s) (nat_le rows 65536)
tops_fit_not s cloud rows h n many =
    let x = in_tops s cloud h in (
      x.0,
      x.1,
      fits_none (length x.0.extras) rows 65536 many
          ∙ ap (λ m. not (nat_lt 65536 (length x.0.extras + m))) (n ∙ ap length (sym x.3)),
    )

in_runs : (s : DotRows) (all : Form) → IfFormed s.covered (λ f. all ≡ f)
    → (t : ToldValue) × IsFullInRuns s t × (length t.ranges ≡ length (all_ranges all)) × (length t.extras + length t.live ≡ length (map.entries s.live))
in_runs s all h =
    let t : ToldValue = record { ranges = all_ranges h.0; extras = []; live = map.entries s.live } in
    (t, form_is_full_in_runs s h.0 t h.1 refl refl refl, ap (λ c. length (all_ranges c)) (sym h.2), none_more (length (map.entries s.live)))
  where
    none_more : (n : ℕ) → 0 + n ≡ n
    none_more n = grind (arith)

pub runs_fit : (s : DotRows) (all : Form) (rows : ℕ) (b : Bool) → IfFormed s.covered (λ f. all ≡ f) → rows ≡ length (map.entries s.live)
    → rows ≤ 65536 → b ≡ nat_le (length (all_ranges all)) (65536 - rows) → Fits Two (IsFullIn Two s) b
runs_fit s all rows b h n few is =
    let x = in_runs s all h in (
      x.0,
      x.1,
      is ∙ fits_rest (length (all_ranges all)) rows 65536 few
          ∙ ap (λ m. not (nat_lt 65536 (m + rows))) (sym x.2)
          ∙ ap (λ m. not (nat_lt 65536 (length x.0.ranges + m))) (n ∙ sym x.3),
    )

pub runs_fit_not : (s : DotRows) (all : Form) (rows : ℕ) → IfFormed s.covered (λ f. all ≡ f) → rows ≡ length (map.entries s.live)
    → 65536 < rows → Fits Two (IsFullIn Two s) (nat_le rows 65536)
runs_fit_not s all rows h n many =
    let x = in_runs s all h in (
      x.0,
      x.1,
      fits_none (length x.0.ranges) rows 65536 many
          ∙ ap (λ m. not (nat_lt 65536 (length x.0.ranges + m))) (n ∙ sym x.3),
    )

-- it is told where it fits
pub told_that_fits : (form : _) (s : DotRows) (t : ToldValue) (b : Bool) → Fits form (IsFullIn form s) b → b ≡ true → IsFullIn form s t → WhereItFits form (IsFullIn form s) (Some t)
told_that_fits form s t b fits true_is full =
    let one : fits.0 ≡ t = one_full form s fits.0 t fits.1 full in
    (full, ap (is_too_many_in form) (sym one) ∙ unless (is_too_many_in form fits.0) (sym true_is ∙ fits.2))
  where
    unless : (b : Bool) → true ≡ not b → b ≡ false
    unless true e = absurd (cc)
    unless false e = refl
