use Rattle.presence_table.proofs.Outcomes.{table_is_plain}
use Rattle.presence_table.proofs.laws.the_table_is_plain.Goals as goal

pub returns : goal.returns
returns c = table_is_plain
