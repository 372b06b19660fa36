use Rattle.std.proofs.Common.{Some}
use Rattle.tracker_shown.specs.ShownTurns.{Joins}
use Rattle.tracker_shown.proofs.TurnLemmas.{SetTo, BetweenTo}
use Rattle.tracker_shown.proofs.StateLemmas.{OthersTo}
use Rattle.tracker_shown.proofs.bringing.put_all.Given as goal

abbrev pub invariant-loop-join : goal.invariant-loop-join
invariant-loop-join l =
    record {
      set : SetTo (λ r. Some r) l.own l.joins l.join-index l.fn.rows l.rows;
      between : BetweenTo (Joins l.own) l.joins l.join-index l.fn.rows l.rows;
      others : OthersTo l.joins l.join-index l.fn.rows l.rows;
    }
