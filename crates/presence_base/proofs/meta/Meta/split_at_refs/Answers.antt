use Rattle.std.proofs.Common.{◌∙◌, sym, subst}
use Rattle.std.specs.Str.{IsCharBoundary}
use Rattle.presence_base.proofs.RefPlace.{is_boundary}
use Rattle.presence_base.proofs.meta.Meta.split_at_refs.Goals as goal

pub split_at-requires : goal.split_at-requires
split_at-requires c =
    subst (λ s. IsCharBoundary s c.in-Some.place) (sym c.as_str.ensures)
    (is_boundary c.self.inside.text c.in-Some.place (sym c.self.invariant.1 ∙ c.in-Some.is))
