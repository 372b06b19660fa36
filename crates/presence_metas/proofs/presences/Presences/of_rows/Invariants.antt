use Rattle.std.proofs.Common.{◌≡◌, [], drop}
use Rattle.std.specs.List.{fold}
use Rattle.presence_metas.specs.Rows.{add_row}
use Rattle.presence_metas.specs.Values.{AllWhole}
use Rattle.presence_metas.proofs.presences.Presences.of_rows.Given as goal

abbrev pub invariant-loop-dot : goal.invariant-loop-dot
invariant-loop-dot l = record {
  lists : fold add_row l.presences (drop l.dot-index l.rows) ≡ fold add_row [] l.rows;
  whole : AllWhole l.presences;
}
