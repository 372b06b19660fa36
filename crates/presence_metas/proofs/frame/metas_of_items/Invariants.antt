use Rattle.std.proofs.Common.{◌≡◌, [], drop}
use Rattle.serde_json.specs.View.{items_view}
use Rattle.presence_metas.specs.Frames.{metas_into}
use Rattle.presence_metas.proofs.frame.metas_of_items.Given as goal

-- what is left decides
abbrev pub invariant-loop-item : goal.invariant-loop-item
invariant-loop-item l = metas_into [] (items_view l.item-items) ≡ metas_into l.metas.items (items_view (drop l.item-index l.item-items))
