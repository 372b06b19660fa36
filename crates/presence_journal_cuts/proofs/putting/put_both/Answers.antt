use Rattle.presence_journal_cuts.proofs.ChangeLemmas.{back}
use Rattle.presence_journal_cuts.proofs.putting.put_both.Goals as goal

pub returns-in-Err-clause-same_rows : goal.returns-in-Err-clause-same_rows
returns-in-Err-clause-same_rows c = back c.args.row c.dot_of-dot.result c.args.rows.now c.put_row.new.rows c.take_back.new.rows c.dot_of-dot.ensures c.requires c.in_ok-put_row.ensures.ok c.take_back.ensures
