use Rattle.std.proofs.Common.{drop_of_length-le}
use Rattle.presence_journal.proofs.Walking.{drop_next}
use Rattle.tracker_shown.proofs.StateLemmas.{forgot_more, forgot_end}
use Rattle.tracker_shown.proofs.states.States.forget_all.Goals as goal

pub loop-row-init : goal.loop-row-init
loop-row-init c = λ t v is. (is, λ all. all)

pub loop-row-preserved : goal.loop-row-preserved
loop-row-preserved c =
    let l = c.loop-row in
    let xs = c.args.rows.now in
    let x = c.row-item.result in
    forgot_more xs l.row-index x c.args.self.now.kept l.self.kept c.forget.new.self.kept (drop_next xs l.row-index x c.loop-row-test.true c.row-item.is) c.forget.ensures l.invariant

pub returns : goal.returns
returns c =
    let l = c.loop-row in
    let xs = c.args.rows.now in
    forgot_end xs l.row-index c.args.self.now.kept l.self.kept (drop_of_length-le xs c.loop-row-test.false) l.invariant
