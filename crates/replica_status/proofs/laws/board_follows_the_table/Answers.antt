use Rattle.replica_status.proofs.TableFacts.{follows_table}
use Rattle.replica_status.proofs.laws.board_follows_the_table.Goals as goal

pub returns : goal.returns
returns c = follows_table
