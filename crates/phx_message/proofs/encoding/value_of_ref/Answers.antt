use Rattle.std.proofs.Common.{rules}
use Rattle.phx_message.proofs.encoding.value_of_ref.Goals as goal

pub returns-in-Some-Number : goal.returns-in-Some-Number
returns-in-Some-Number c = search rules
