use Rattle.std.proofs.Common.{◌∙◌, sym}
use Rattle.serde_json.specs.View.{view}
use Rattle.presence_base.proofs.RefPlace.{meta_from, meta_is}
use Rattle.presence_base.proofs.meta.Meta.new.Goals as goal

pub ref_place-requires : goal.ref_place-requires
ref_place-requires c = (meta_is (view c.args.value) c.in-Some.text (sym c.in-Some.is ∙ c.in_ok-text.ensures.meta)).0

pub invariant_of-result : goal.invariant_of-result
invariant_of-result c =
    meta_from (view c.args.value) c.in-Some.text c.in_ok-place-in-Some.place (sym c.in-Some.is ∙ c.in_ok-text.ensures.meta) c.in_ok-place-in-Some.ensures
