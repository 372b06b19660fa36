use Rattle.orswot_core.proofs.RowFacts.{taken_back}
use Rattle.orswot_core.proofs.joins.add_row.Goals as goal

pub returns-in-Err-clause-err : goal.returns-in-Err-clause-err
returns-in-Err-clause-err c = (
  c.in-Err.ensures.err,
  taken_back c.args.live.now c.insert_row.new.live c.take_row.new.live c.args.dot c.args.row
      c.requires.new c.in_ok-insert_row.ensures.ok c.take_row.ensures,
)
