use Rattle.std.proofs.Common.{◌≡◌, ◌+◌, ◌∷◌, ℕ, List, nat_eq, cond, Some, drop, ap, ◌∙◌, arith}
use Rattle.std.proofs.Math.Nat.{le-max_left, le-max_right}
use Rattle.std.specs.Map.{lookup}
use Rattle.presence_journal.proofs.Walking.{drop_next}
use Rattle.presence_journal_cuts.proofs.ChainLemmas.{over_next}
use Rattle.presence_journal_cuts.proofs.start.most_listed.Goals as goal

pub loop-chain-preserved : goal.loop-chain-preserved
loop-chain-preserved c =
    let l = c.loop-chain in
    let xs : List (ℕ × List (ℕ × ℕ)) = c.args.listed.now in
    let x = c.chain-item.result in
    let next : drop l.chain-index xs ≡ x ∷ drop (l.chain-index + 1) xs = drop_next xs l.chain-index x c.loop-chain-test.true c.chain-item.is in
    let here = le-max_left x.0 l.most in
    let there = le-max_right x.0 l.most in
    λ k over rest.
    l.invariant k (omega (arith, over, there, c.max-most.ensures))
    (ap (λ (ys : List (ℕ × List (ℕ × ℕ))). lookup (nat_eq k) ys) next
    ∙ (ap (λ b. cond b (Some x.1) (lookup (nat_eq k) (drop (l.chain-index + 1) xs))) (over_next k x.0 (omega (arith, over, here, c.max-most.ensures)))
    ∙ rest))
