use Rattle.std.proofs.Common.{◌∙◌, ap, codes}
use Rattle.std.specs.Ordering.{is_lt}
use Rattle.presence_base.specs.Order.{text_cmp}
use Rattle.presence_base.proofs.RefPlace.{first_behind}
use Rattle.presence_base.proofs.ref_place.begin_behind.Goals as goal

pub returns-in-Some : goal.returns-in-Some
returns-in-Some c =
    first_behind c.args.members.now.entries c.in-Some.name.now c.in-Some._member.now c.is_behind.result c.in-Some.ensures.first
    (c.is_behind.ensures ∙ ap (λ z. is_lt (text_cmp (codes "phx_ref_prev") z)) c.as_str.ensures.value)
