use Rattle.std.proofs.Common.{◌≡◌, ◌+◌, ◌∷◌, ℕ, List, nat_eq, drop, drop_of_length-le, sym, ◌∙◌, ap}
use Rattle.std.specs.BTreeMap.{get, is_at}
use Rattle.std.specs.Map.{lookup}
use Rattle.std.specs.Ordering.{nat_cmp}
use Rattle.presence_journal.specs.History.{first_some}
use Rattle.presence_journal.proofs.Walking.{drop_next}
use Rattle.presence_journal_cuts.proofs.Starts.{first_none, chains_more}
use Rattle.presence_journal_cuts.proofs.kept.kept_chains.Goals as goal

abbrev Kept : Type 0
Kept = List (ℕ × List (ℕ × ℕ))

pub loop-chain-init : goal.loop-chain-init
loop-chain-init c = λ k. ap (λ (es : Kept). first_some (lookup (is_at (nat_cmp k)) es) (lookup (nat_eq k) c.args.listed.now)) c.new-chains.ensures.empty

pub loop-chain-preserved : goal.loop-chain-preserved
loop-chain-preserved c =
    let l = c.loop-chain in
    let xs : Kept = c.args.listed.now in
    let next : drop l.chain-index xs ≡ c.chain-item.result ∷ drop (l.chain-index + 1) xs = drop_next xs l.chain-index c.chain-item.result c.loop-chain-test.true c.chain-item.is in
    λ k. chains_more (get nat_cmp l.chains) (get nat_cmp c.keep_chain.new.chains) c.chain-item.result (drop (l.chain-index + 1) xs) (drop l.chain-index xs) k next (c.in_ok-keep_chain.ensures k) ∙ l.invariant k

pub returns : goal.returns
returns c =
    let l = c.loop-chain in
    let xs : Kept = c.args.listed.now in
    λ k. sym (first_none (get nat_cmp l.chains k)) ∙ (ap (λ (es : Kept). first_some (get nat_cmp l.chains k) (lookup (nat_eq k) es)) (sym (drop_of_length-le xs c.loop-chain-test.false)) ∙ l.invariant k)
