use Rattle.tracker_known.proofs.Results.{if_ok_both}
use Rattle.tracker_known.proofs.KnownTurns.{turn_told}
use Rattle.tracker_known.proofs.known.Known.turn_of_told.Goals as goal

pub returns : goal.returns
returns c = if_ok_both _ _ _ (λ t joins leaves. turn_told c.args.self.now c.args.told.now t joins leaves) c.turn_of_merge.result c.turn_of_merge.ensures.joins c.turn_of_merge.ensures.leaves
