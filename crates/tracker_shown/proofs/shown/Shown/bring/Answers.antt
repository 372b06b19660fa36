use Rattle.std.proofs.Common.{refl, subst}
use Rattle.std.proofs.lemmas.Result.{on_ok_weaker}
use Rattle.tracker_shown.specs.declared.shown.Shown.{Shown}
use Rattle.tracker_shown.specs.ShownTurns.{BringsUp, StaysBetween}
use Rattle.tracker_shown.proofs.TurnLemmas.{to_the_end, half_way, further, on_err_too}
use Rattle.tracker_shown.proofs.shown.Shown.bring.Goals as goal

pub returns-in_err-take_all-clause-err : goal.returns-in_err-take_all-clause-err
returns-in_err-take_all-clause-err c =
    let x = c.self.inside.table in
    let y : Shown = record { own = x.own; rows = c.take_all.new.rows } in
    on_err_too c.from_residual.result
    (subst (λ (s : Shown). StaysBetween c.args.own.now c.args.turn.now s y) c.self.view_is
    (half_way c.args.own.now c.args.turn.now x y c.as_slice-leaves.result.now c.as_slice-leaves.ensures.value refl c.take_all.ensures.between))

pub returns-clause-ok : goal.returns-clause-ok
returns-clause-ok c =
    let x = c.self.inside.table in
    let y : Shown = record { own = x.own; rows = c.put_all.new.rows } in
    on_ok_weaker c.put_all.result
    (λ puts.
    subst (λ (s : Shown). BringsUp c.args.own.now c.args.turn.now s y) c.self.view_is
    (to_the_end c.args.own.now c.args.turn.now x y c.take_all.new.rows
    c.as_slice-leaves.result.now c.as_slice-joins.result.now c.as_slice-leaves.ensures.value c.as_slice-joins.ensures.value refl c.in_ok-take_all.ensures.ok puts))
    c.put_all.ensures.ok

pub returns-clause-err : goal.returns-clause-err
returns-clause-err c =
    let x = c.self.inside.table in
    let y : Shown = record { own = x.own; rows = c.put_all.new.rows } in
    on_err_too c.put_all.result
    (subst (λ (s : Shown). StaysBetween c.args.own.now c.args.turn.now s y) c.self.view_is
    (further c.args.own.now c.args.turn.now x y c.take_all.new.rows
    c.as_slice-leaves.result.now c.as_slice-joins.result.now c.as_slice-leaves.ensures.value c.as_slice-joins.ensures.value refl c.take_all.ensures.between c.put_all.ensures.between))
