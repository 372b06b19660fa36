use Rattle.std.proofs.Common.{◌≡◌, ◌++◌, map, drop}
use Rattle.serde_json.specs.View.{view}
use Rattle.presence_metas.proofs.presences.values_of.Given as goal

abbrev pub invariant-loop-tracked : goal.invariant-loop-tracked
invariant-loop-tracked l = map view l.values.items ++ map (λ t. t.meta) (drop l.tracked-index l.metas) ≡ map (λ t. t.meta) l.metas
