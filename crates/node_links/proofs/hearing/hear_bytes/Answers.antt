use Rattle.std.proofs.Common.{Ok, Err, refl}
use Rattle.std.proofs.lemmas.Result.{err_from_is_err_and}
use Rattle.node_links.proofs.hearing.hear_bytes.Goals as goal

pub returns-in_err-actions : goal.returns-in_err-actions
returns-in_err-actions g c =
    let p = err_from_is_err_and c.from_residual.result c.from_residual.ensures.1 in
    (Err c.in_err-actions.field-0.0, c.in_err-actions.ensures, (refl, rw (p.1, p.2) refl))

pub returns-in_err-act : goal.returns-in_err-act
returns-in_err-act g c =
    let p = err_from_is_err_and c.from_residual-in_err-act.result c.from_residual-in_err-act.ensures.1 in
    (Ok c.in_ok-actions.actions.items, c.in_ok-actions.ensures, (Err c.in_err-act.field-0.0, c.in_err-act.ensures, rw (p.1, p.2) refl))

pub returns : goal.returns
returns g c = (Ok c.in_ok-actions.actions.items, c.in_ok-actions.ensures, (Ok c.in_ok-act.field-0, c.in_ok-act.ensures, refl))
