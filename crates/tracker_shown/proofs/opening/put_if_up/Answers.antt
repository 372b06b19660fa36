use Rattle.std.proofs.lemmas.Result.{on_ok_weaker}
use Rattle.tracker_shown.proofs.OpeningLemmas.{one_put, one_skipped}
use Rattle.tracker_shown.proofs.opening.put_if_up.Goals as goal

pub returns-then-not-is_up_at : goal.returns-then-not-is_up_at
returns-then-not-is_up_at c = one_skipped c.args.start.now c.args.row.now c.args.rows.now (cc)

pub returns : goal.returns
returns c = on_ok_weaker c.put_row.result (one_put c.args.start.now c.args.row.now c.args.rows.now c.put_row.new.rows (cc)) c.put_row.ensures.ok
