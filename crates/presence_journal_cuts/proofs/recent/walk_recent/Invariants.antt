use Rattle.std.proofs.Common.{◌≡◌, take}
use Rattle.std.specs.BTreeMap.{get}
use Rattle.presence_base.specs.declared.dots.Dot.{Dot}
use Rattle.presence_base.specs.Order.{dot_cmp}
use Rattle.presence_journal.specs.History.{Begin, onto}
use Rattle.presence_journal_cuts.specs.Cuts.{recent}
use Rattle.presence_journal_cuts.proofs.recent.walk_recent.Given as goal

abbrev pub invariant-loop-place : goal.invariant-loop-place
invariant-loop-place l = (d : Dot) → get dot_cmp l.rows d ≡ recent (onto (Begin l.start) (take l.place l.entries)) d
