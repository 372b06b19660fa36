use Rattle.tracker_known.specs.Picks.{of_replica}
use Rattle.tracker_known.proofs.GatherLemmas.{gathered}
use Rattle.tracker_known.proofs.Results.{if_ok}
use Rattle.tracker_known.proofs.turn.rows_of_replica.Goals as goal

pub returns : goal.returns
returns c =
    if_ok _ _ (λ v list. gathered c.args.set.now.live (of_replica c.args.replica.now) c.new-rows.result c.gather_replica.new.rows v.items c.new-rows.ensures.empty c.in_ok-gather_replica.ensures list)
    c.listed.result c.listed.ensures
