use Rattle.presence_table.proofs.Calls.{calls_are_plain}
use Rattle.presence_table.proofs.laws.calls_are_plain.Goals as goal

pub returns : goal.returns
returns c = calls_are_plain
