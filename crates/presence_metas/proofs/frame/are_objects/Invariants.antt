use Rattle.std.proofs.Common.{◌≡◌, drop}
use Rattle.serde_json.specs.View.{items_view}
use Rattle.presence_metas.specs.Frames.{all_objects}
use Rattle.presence_metas.proofs.frame.are_objects.Given as goal

-- what is left decides
abbrev pub invariant-loop-item : goal.invariant-loop-item
invariant-loop-item l = all_objects (items_view l.item-items) ≡ all_objects (items_view (drop l.item-index l.item-items))
