use Rattle.tracker_known.proofs.Results.{on_ok}
use Rattle.tracker_known.proofs.GatherLemmas.{put_gathers, none_gathers}
use Rattle.tracker_known.proofs.gather.gather_dot.Goals as goal

pub returns-in-Some : goal.returns-in-Some
returns-in-Some c = on_ok c.put_row.result (λ puts. put_gathers c.args.set.now.live c.args.dot.now c.in-Some.row.now c.args.rows.now c.put_row.new.rows c.in-Some.ensures puts) c.put_row.ensures

pub returns-in-None : goal.returns-in-None
returns-in-None c = none_gathers c.args.set.now.live c.args.dot.now c.args.rows.now c.in-None.ensures
