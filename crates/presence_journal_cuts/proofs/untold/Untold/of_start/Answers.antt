use Rattle.std.proofs.Common.{ℕ, List, nat_eq, refl, sym, ◌∙◌, ap, arith}
use Rattle.std.proofs.Math.Nat.{le-max_left, le-max_right}
use Rattle.std.specs.Map.{lookup}
use Rattle.presence_journal_cuts.proofs.UntoldLemmas.{opens}
use Rattle.presence_journal_cuts.proofs.untold.Untold.of_start.Goals as goal

abbrev Kept : Type 0
Kept = List (ℕ × List (ℕ × ℕ))

pub returns : goal.returns
returns c =
    let s = c.args.start.now in
    let most = c.most_listed.result in
    let left = le-max_left most s.last_cut in
    let right = le-max_right most s.last_cut in
    λ legal. opens s (record { own = s.own; count = s.count; last = s.last_cut; unsettled = c.max-unsettled.result; chains = c.in_ok-chains.chains; older = c.in_ok-older.older; rows = c.in_ok-rows.rows; kept = c.in_ok-kept.kept }) legal
    refl refl refl (omega (arith, right, c.max-unsettled.ensures))
    (λ k over. ap (λ (xs : Kept). lookup (nat_eq k) xs) (sym c.as_slice-listed.ensures) ∙ c.most_listed.ensures k (omega (arith, over, left, c.max-unsettled.ensures)))
    (λ k. c.in_ok-chains.ensures k ∙ ap (λ (xs : Kept). lookup (nat_eq k) xs) c.as_slice-listed.ensures)
    c.in_ok-older.ensures c.in_ok-rows.ensures c.in_ok-kept.ensures.cases
