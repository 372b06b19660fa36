use Rattle.std.proofs.Common.{refl, ap, ◌∙◌}
use Rattle.serde_json.specs.Data.{object}
use Rattle.serde_json.proofs.Views.{view-Object, view-Array}
use Rattle.hook_registry.proofs.rendering.key_object.Goals as goal

pub returns-clause-value : goal.returns-clause-value
returns-clause-value c =
    view-Object c.put_member.new.members
    ∙ ap object (c.in_ok-put_member.ensures ∙ rw (c.into_members-members.ensures.members, view-Array c.in_ok-values_of.field-0, c.in_ok-values_of.ensures) refl)
