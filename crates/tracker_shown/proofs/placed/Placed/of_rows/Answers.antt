use Rattle.std.proofs.Common.{ap}
use Rattle.std.specs.Map.{lookup}
use Rattle.std.specs.BTreeMap.{is_at}
use Rattle.tracker_shown.specs.Stands.{stand_cmp}
use Rattle.tracker_shown.proofs.PlaceLemmas.{rows_placed}
use Rattle.tracker_shown.proofs.placed.Placed.of_rows.Goals as goal

pub returns : goal.returns
returns c = rows_placed c.args.rows.now c.new-placed.result (record { rows = c.place_all.new.rows }) (λ q. ap (lookup (is_at (stand_cmp q))) c.new-placed.ensures.empty) c.in_ok-place_all.ensures
