use Rattle.replica_status.specs.Boards.{standing_in}
use Rattle.tracker_known.specs.Picks.{drops}
use Rattle.tracker_known.proofs.GatherLemmas.{gathered}
use Rattle.tracker_known.proofs.Results.{if_ok}
use Rattle.tracker_known.proofs.turn.rows_dropped.Goals as goal

pub returns : goal.returns
returns c =
    if_ok _ _ (λ v list. gathered c.args.set.now.live (λ d. drops c.args.time (standing_in c.args.standings.now d.replica)) c.new-rows.result c.gather_dropped.new.rows v.items c.new-rows.ensures.empty c.in_ok-gather_dropped.ensures list)
    c.listed.result c.listed.ensures
