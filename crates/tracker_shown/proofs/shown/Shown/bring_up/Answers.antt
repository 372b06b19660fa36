use Rattle.std.proofs.Common.{OnOk, OnErr, sym, subst}
use Rattle.tracker_shown.specs.declared.shown.Shown.{Shown}
use Rattle.tracker_shown.specs.ShownTurns.{BringsUp, StaysBetween}
use Rattle.tracker_shown.proofs.shown.Shown.bring_up.Goals as goal

pub returns-clause-ok : goal.returns-clause-ok
returns-clause-ok c =
    subst (λ (s : Shown). OnOk c.bring-brought.result (BringsUp c.args.own.now c.args.turn.now c.args.self.now s)) (sym c.count.ensures) c.bring-brought.ensures.ok

pub returns-clause-err : goal.returns-clause-err
returns-clause-err c =
    subst (λ (s : Shown). OnErr c.bring-brought.result (StaysBetween c.args.own.now c.args.turn.now c.args.self.now s)) (sym c.count.ensures) c.bring-brought.ensures.err
