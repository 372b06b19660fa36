use Rattle.std.proofs.Common.{ap, not}
use Rattle.tracker_known.proofs.Results.{if_ok_both}
use Rattle.tracker_known.proofs.KnownTurns.{turn_heard}
use Rattle.tracker_known.proofs.known.Known.turn_of_heard.Goals as goal

pub returns : goal.returns
returns c =
    if_ok_both _ _ _ (λ t joins leaves. turn_heard c.args.self.now c.args.replica.now c.status-status.result c.is_up.result _ t c.status-status.ensures c.is_up.ensures (ap not c.is_gone.ensures) joins leaves)
    c.turn_of_replica.result c.turn_of_replica.ensures.joins c.turn_of_replica.ensures.leaves
