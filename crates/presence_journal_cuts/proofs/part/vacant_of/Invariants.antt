use Rattle.std.proofs.Common.{◌≡◌, ◌++◌, drop}
use Rattle.presence_journal_cuts.proofs.Vacating.{vacant_in, rows_in_run}
use Rattle.presence_journal_cuts.proofs.part.vacant_of.Given as goal

-- what was freed and what is freed of the rest make up all
abbrev pub invariant-loop-run : goal.invariant-loop-run
invariant-loop-run l =
    l.vacant.items ++ vacant_in (rows_in_run l.set.live l.replica) (drop l.run-index l.runs) ≡ vacant_in (rows_in_run l.set.live l.replica) l.runs
