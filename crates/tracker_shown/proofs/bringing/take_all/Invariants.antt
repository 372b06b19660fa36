use Rattle.std.proofs.Common.{None}
use Rattle.tracker_shown.specs.ShownTurns.{Leaves}
use Rattle.tracker_shown.proofs.TurnLemmas.{SetTo, BetweenTo}
use Rattle.tracker_shown.proofs.StateLemmas.{OthersTo}
use Rattle.tracker_shown.proofs.bringing.take_all.Given as goal

abbrev pub invariant-loop-leave : goal.invariant-loop-leave
invariant-loop-leave l =
    record {
      set : SetTo (λ r. None) l.own l.leaves l.leave-index l.fn.rows l.rows;
      between : BetweenTo Leaves l.leaves l.leave-index l.fn.rows l.rows;
      others : OthersTo l.leaves l.leave-index l.fn.rows l.rows;
    }
