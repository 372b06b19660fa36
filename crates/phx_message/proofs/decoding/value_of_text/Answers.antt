use Rattle.std.proofs.Common.{rules}
use Rattle.phx_message.proofs.decoding.value_of_text.Goals as goal

pub returns-in-Ok-clause-value : goal.returns-in-Ok-clause-value
returns-in-Ok-clause-value c = search rules

pub returns-then-text-bytes-clause-long : goal.returns-then-text-bytes-clause-long
returns-then-text-bytes-clause-long c = search rules
