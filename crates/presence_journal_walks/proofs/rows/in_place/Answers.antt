use Rattle.std.proofs.Common.{◌≡◌, List, map as each, ◌∙◌, ap}
use Rattle.std.specs.BTreeMap.{keys}
use Rattle.std.specs.FinMap as map
use Rattle.std.proofs.lemmas.Result.{IfOk-weaker}
use Rattle.std.proofs.lemmas.Map.Keys.{IsDistinct-from_sorted}
use Rattle.presence_base.specs.declared.row.Row.{Row}
use Rattle.presence_base.specs.Order.{dot_cmp}
use Rattle.presence_journal.specs.declared.rows.Place.{Place}
use Rattle.presence_journal.specs.Present.{RowMap, in_order}
use Rattle.presence_journal.proofs.Lookups.{table_of_placed}
use Rattle.presence_journal_walks.proofs.rows.in_place.Goals as goal

ordered : (es : List (Place × Row)) (m : RowMap) → es ≡ map.entries m → each (λ (e : Place × Row). (e.0.dot, e.1)) es ≡ in_order m
unfolding in_order
ordered es m e = ap (each (λ (e : Place × Row). (e.0.dot, e.1))) e

pub returns : goal.returns
returns c =
    IfOk-weaker c.rows_by_place.result _ _
    (λ v is m table. is ∙ ordered c.in_ok-places.places.entries m (c.in_ok-places.ensures.places ∙ table_of_placed c.args.rows.entries m (IsDistinct-from_sorted dot_cmp (keys c.args.rows) c.in_ok-places.ensures.ordered) table))
    c.rows_by_place.ensures
