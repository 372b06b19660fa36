use Rattle.std.proofs.Common.{◌&&◌, ◌||◌, nat_le, drop}
use Rattle.dot_context.specs.Runs.{holds}
use Rattle.presence_journal_cuts.specs.Chains.{AreChains, AreUpTo, Counts, kept_chain}
use Rattle.presence_journal_cuts.specs.Cuts.{goes}
use Rattle.presence_journal_cuts.proofs.older.push_all_gone.Given as goal

abbrev pub invariant-loop-dot : goal.invariant-loop-dot
invariant-loop-dot l = record {
  counts : Counts (λ n. holds l.runs.items n || (nat_le n l.last && goes (kept_chain l.chains) (drop l.dot-index l.dots) n)) (λ n. holds l.fn.runs.items n || (nat_le n l.last && goes (kept_chain l.chains) l.dots n));
  kept : AreChains l.chains → AreUpTo l.last l.fn.runs.items → AreUpTo l.last l.runs.items;
}
