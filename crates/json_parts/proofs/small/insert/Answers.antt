use Rattle.std.proofs.Common.{ap, ◌∙◌}
use Rattle.serde_json.specs.View.{members_view}
use Rattle.serde_json.proofs.Views.{members_view-insert_entry}
use Rattle.json_parts.proofs.small.insert.Goals as goal

pub returns-in-Ok : goal.returns-in-Ok
returns-in-Ok c = ap members_view c.in-Ok.ensures.entries ∙ members_view-insert_entry c.args.members.now.entries c.args.key c.args.value
