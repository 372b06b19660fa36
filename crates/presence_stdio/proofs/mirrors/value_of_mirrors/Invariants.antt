use Rattle.std.proofs.Common.{◌≡◌}
use Rattle.std.specs.List.{fold}
use Rattle.serde_json.specs.Data.{no_members}
use Rattle.serde_json.specs.View.{members_view}
use Rattle.presence_stdio.specs.Mirrors.{with_topic}
use Rattle.presence_stdio.proofs.mirrors.value_of_mirrors.Given as goal

-- what is left follows what was put
abbrev pub invariant-loop-topic : goal.invariant-loop-topic
invariant-loop-topic l = fold with_topic (members_view l.members.entries) l.topic-iterator ≡ fold with_topic no_members l.mirrors.entries
