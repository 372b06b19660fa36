use Rattle.std.proofs.Common.{ap, ◌∙◌}
use Rattle.serde_json.specs.View.{members_view}
use Rattle.channel_rules.proofs.Objects.{members_view-remove_entry}
use Rattle.channel_rules.proofs.asked.drop_member.Goals as goal

pub returns : goal.returns
returns c = ap members_view c.remove-dropped.ensures.entries ∙ members_view-remove_entry c.args.name.now c.args.members.now.entries
