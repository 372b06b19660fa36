use Rattle.std.proofs.Common.{◌+◌, Some, drop_of_length-le, refl}
use Rattle.presence_journal.proofs.Walking.{drop_next}
use Rattle.tracker_shown.specs.ShownTurns.{Joins}
use Rattle.tracker_shown.proofs.TurnLemmas.{set_more, set_end, wholly, joins_more, between_end}
use Rattle.tracker_shown.proofs.StateLemmas.{others_stay, others_more, others_end}
use Rattle.tracker_shown.proofs.bringing.put_all.Goals as goal

pub loop-join-init : goal.loop-join-init
loop-join-init c = record { set = λ w t p. refl; between = λ g e all before. (before, all); others = λ w t p are. (refl, are) }

pub loop-join-preserved : goal.loop-join-preserved
loop-join-preserved c =
    let l = c.loop-join in
    let o = c.args.own.now in
    let xs = c.args.joins.now in
    let x = c.join-item.result in
    let new = c.put_row.new.rows in
    let set = c.in_ok-put_row.ensures.ok in
    let at = drop_next xs l.join-index x c.loop-join-test.true c.join-item.is in
    record {
      set = set_more (λ r. Some r) o xs l.join-index x c.args.rows.now l.rows new at set l.invariant.set;
      between = joins_more o xs l.join-index x c.args.rows.now l.rows new at (wholly o x.0 x.1 (Some x.1) l.rows new set) l.invariant.between;
      others = others_more xs l.join-index x c.args.rows.now l.rows new at (others_stay o x.0 x.1 (Some x.1) l.rows new (wholly o x.0 x.1 (Some x.1) l.rows new set)) l.invariant.others;
    }

pub returns-in_err-put_row-clause-between : goal.returns-in_err-put_row-clause-between
returns-in_err-put_row-clause-between c =
    let l = c.loop-join in
    let o = c.args.own.now in
    let xs = c.args.joins.now in
    let x = c.join-item.result in
    let new = c.put_row.new.rows in
    let at = drop_next xs l.join-index x c.loop-join-test.true c.join-item.is in
    between_end (Joins o) xs (l.join-index + 1) c.args.rows.now new (joins_more o xs l.join-index x c.args.rows.now l.rows new at c.in_err-put_row.ensures.err l.invariant.between)

pub returns-in_err-put_row-clause-others : goal.returns-in_err-put_row-clause-others
returns-in_err-put_row-clause-others c =
    let l = c.loop-join in
    let xs = c.args.joins.now in
    let x = c.join-item.result in
    let new = c.put_row.new.rows in
    let at = drop_next xs l.join-index x c.loop-join-test.true c.join-item.is in
    others_end xs (l.join-index + 1) c.args.rows.now new (others_more xs l.join-index x c.args.rows.now l.rows new at (others_stay c.args.own.now x.0 x.1 (Some x.1) l.rows new c.in_err-put_row.ensures.err) l.invariant.others)

pub returns-clause-ok : goal.returns-clause-ok
returns-clause-ok c =
    let l = c.loop-join in
    let xs = c.args.joins.now in
    set_end (λ r. Some r) c.args.own.now xs l.join-index c.args.rows.now l.rows (drop_of_length-le xs c.loop-join-test.false) l.invariant.set

pub returns-clause-between : goal.returns-clause-between
returns-clause-between c = between_end (Joins c.args.own.now) c.args.joins.now c.loop-join.join-index c.args.rows.now c.loop-join.rows c.loop-join.invariant.between

pub returns-clause-others : goal.returns-clause-others
returns-clause-others c = others_end c.args.joins.now c.loop-join.join-index c.args.rows.now c.loop-join.rows c.loop-join.invariant.others
