use Rattle.tracker_known.proofs.Results.{if_ok_both}
use Rattle.tracker_known.proofs.KnownTurns.{turn_down}
use Rattle.tracker_known.proofs.known.Known.turn_of_down.Goals as goal

pub returns : goal.returns
returns c =
    if_ok_both _ _ _ (λ t joins leaves. turn_down c.args.self.now c.args.replica.now c.status.result c.is_up-was_up.result c.is_same-is_own.result t c.status.ensures c.is_up-was_up.ensures c.is_same-is_own.ensures joins leaves)
    c.turn_of_replica.result c.turn_of_replica.ensures.joins c.turn_of_replica.ensures.leaves
