use Rattle.replica_status.proofs.TableFacts.{is_reborn}
use Rattle.replica_status.proofs.laws.board_is_reborn.Goals as goal

pub returns : goal.returns
returns c = is_reborn
