use Rattle.std.proofs.Common.{◌≡◌, drop}
use Rattle.std.specs.BTreeMap.{get}
use Rattle.presence_base.specs.declared.dots.Dot.{Dot}
use Rattle.presence_base.specs.Order.{dot_cmp}
use Rattle.presence_journal.specs.History.{first_some}
use Rattle.presence_journal_cuts.specs.Chains.{rows_recent}
use Rattle.presence_journal_cuts.proofs.kept.kept_rows.Given as goal

abbrev pub invariant-loop-row : goal.invariant-loop-row
invariant-loop-row l = (d : Dot) → first_some (get dot_cmp l.rows d) (rows_recent l.start (drop l.row-index l.live) d) ≡ rows_recent l.start l.live d
