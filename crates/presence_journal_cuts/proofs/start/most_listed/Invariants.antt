use Rattle.std.proofs.Common.{◌≡◌, ◌<◌, ℕ, nat_eq, None, drop}
use Rattle.std.specs.Map.{lookup}
use Rattle.presence_journal_cuts.proofs.start.most_listed.Given as goal

abbrev pub invariant-loop-chain : goal.invariant-loop-chain
invariant-loop-chain l = (c : ℕ) → l.most < c → lookup (nat_eq c) (drop l.chain-index l.listed) ≡ None → lookup (nat_eq c) l.listed ≡ None
