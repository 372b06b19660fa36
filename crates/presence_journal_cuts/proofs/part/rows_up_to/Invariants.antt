use Rattle.std.proofs.Common.{◌≡◌, ◌++◌, drop}
use Rattle.std.specs.List.{filter}
use Rattle.presence_journal_cuts.specs.Parting.{is_up_to}
use Rattle.presence_journal_cuts.proofs.part.rows_up_to.Given as goal

abbrev pub invariant-loop-row : goal.invariant-loop-row
invariant-loop-row l = l.list.items ++ filter (λ x. is_up_to l.count x.0) (drop l.row-index l.rows) ≡ filter (λ x. is_up_to l.count x.0) l.rows
