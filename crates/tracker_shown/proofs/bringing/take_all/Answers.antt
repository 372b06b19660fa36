use Rattle.std.proofs.Common.{◌+◌, None, drop_of_length-le, refl}
use Rattle.presence_journal.proofs.Walking.{drop_next}
use Rattle.tracker_shown.specs.ShownTurns.{Leaves}
use Rattle.tracker_shown.proofs.TurnLemmas.{set_more, set_end, wholly, leaves_more, between_end}
use Rattle.tracker_shown.proofs.StateLemmas.{others_stay, others_more, others_end}
use Rattle.tracker_shown.proofs.bringing.take_all.Goals as goal

pub loop-leave-init : goal.loop-leave-init
loop-leave-init c = record { set = λ w t p. refl; between = λ g e all before. (before, all); others = λ w t p are. (refl, are) }

pub loop-leave-preserved : goal.loop-leave-preserved
loop-leave-preserved c =
    let l = c.loop-leave in
    let o = c.args.own.now in
    let xs = c.args.leaves.now in
    let x = c.leave-item.result in
    let new = c.take_row.new.rows in
    let set = c.in_ok-take_row.ensures.ok in
    let at = drop_next xs l.leave-index x c.loop-leave-test.true c.leave-item.is in
    record {
      set = set_more (λ r. None) o xs l.leave-index x c.args.rows.now l.rows new at set l.invariant.set;
      between = leaves_more o xs l.leave-index x c.args.rows.now l.rows new at (wholly o x.0 x.1 None l.rows new set) l.invariant.between;
      others = others_more xs l.leave-index x c.args.rows.now l.rows new at (others_stay o x.0 x.1 None l.rows new (wholly o x.0 x.1 None l.rows new set)) l.invariant.others;
    }

pub returns-in_err-take_row-clause-between : goal.returns-in_err-take_row-clause-between
returns-in_err-take_row-clause-between c =
    let l = c.loop-leave in
    let o = c.args.own.now in
    let xs = c.args.leaves.now in
    let x = c.leave-item.result in
    let new = c.take_row.new.rows in
    let at = drop_next xs l.leave-index x c.loop-leave-test.true c.leave-item.is in
    between_end Leaves xs (l.leave-index + 1) c.args.rows.now new (leaves_more o xs l.leave-index x c.args.rows.now l.rows new at c.in_err-take_row.ensures.err l.invariant.between)

pub returns-in_err-take_row-clause-others : goal.returns-in_err-take_row-clause-others
returns-in_err-take_row-clause-others c =
    let l = c.loop-leave in
    let xs = c.args.leaves.now in
    let x = c.leave-item.result in
    let new = c.take_row.new.rows in
    let at = drop_next xs l.leave-index x c.loop-leave-test.true c.leave-item.is in
    others_end xs (l.leave-index + 1) c.args.rows.now new (others_more xs l.leave-index x c.args.rows.now l.rows new at (others_stay c.args.own.now x.0 x.1 None l.rows new c.in_err-take_row.ensures.err) l.invariant.others)

pub returns-clause-ok : goal.returns-clause-ok
returns-clause-ok c =
    let l = c.loop-leave in
    let xs = c.args.leaves.now in
    set_end (λ r. None) c.args.own.now xs l.leave-index c.args.rows.now l.rows (drop_of_length-le xs c.loop-leave-test.false) l.invariant.set

pub returns-clause-between : goal.returns-clause-between
returns-clause-between c = between_end Leaves c.args.leaves.now c.loop-leave.leave-index c.args.rows.now c.loop-leave.rows c.loop-leave.invariant.between

pub returns-clause-others : goal.returns-clause-others
returns-clause-others c = others_end c.args.leaves.now c.loop-leave.leave-index c.args.rows.now c.loop-leave.rows c.loop-leave.invariant.others
