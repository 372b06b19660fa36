use Rattle.std.proofs.Common.{◌≡◌, drop}
use Rattle.std.specs.BTreeMap.{get}
use Rattle.presence_base.specs.declared.dots.Dot.{Dot}
use Rattle.presence_base.specs.Order.{dot_cmp}
use Rattle.presence_journal.specs.Walk.{without_dots}
use Rattle.presence_journal_cuts.proofs.recent.drop_dots.Given as goal

abbrev pub invariant-loop-dot : goal.invariant-loop-dot
invariant-loop-dot l = (d : Dot) → without_dots l.dots (get dot_cmp l.fn.rows) d ≡ without_dots (drop l.dot-index l.dots) (get dot_cmp l.rows) d
