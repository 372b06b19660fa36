use Rattle.std.proofs.Common.{◌≡◌, ℕ, nat_eq, drop}
use Rattle.std.specs.BTreeMap.{get}
use Rattle.std.specs.Map.{lookup}
use Rattle.std.specs.Ordering.{nat_cmp}
use Rattle.presence_journal.specs.History.{first_some}
use Rattle.presence_journal_cuts.proofs.kept.kept_chains.Given as goal

abbrev pub invariant-loop-chain : goal.invariant-loop-chain
invariant-loop-chain l = (c : ℕ) → first_some (get nat_cmp l.chains c) (lookup (nat_eq c) (drop l.chain-index l.fn.listed)) ≡ lookup (nat_eq c) l.fn.listed
