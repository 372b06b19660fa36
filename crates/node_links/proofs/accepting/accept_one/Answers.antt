use Rattle.std.proofs.Common.{Ok, Err, Some, None, refl}
use Rattle.std.proofs.lemmas.Result.{err_from_is_err_and}
use Rattle.node_links.specs.Talking.{over}
use Rattle.node_links.proofs.accepting.accept_one.Goals as goal

pub returns-in_err-act : goal.returns-in_err-act
returns-in_err-act g c =
    let p = err_from_is_err_and c.from_residual.result c.from_residual.ensures.1 in
    (over c.take_one.new.link c.take_one.new.port, Err c.in_err-act.field-0.0, c.in_err-act.ensures, (refl, rw (p.1, p.2) refl))

pub returns-in_err-answer-in-Some : goal.returns-in_err-answer-in-Some
returns-in_err-answer-in-Some g c =
    let p = err_from_is_err_and c.from_residual-in_err-answer-in-Some.result c.from_residual-in_err-answer-in-Some.ensures.1 in (
      over c.take_one.new.link c.take_one.new.port,
      Ok (Some c.in-Some.act),
      rw c.in-Some.is at c.in_ok-act.ensures,
      (Err c.in_err-answer-in-Some.field-0.0, c.in_err-answer-in-Some.ensures, refl, rw (p.1, p.2) refl),
    )

pub returns-in_ok-answer-in-Some : goal.returns-in_ok-answer-in-Some
returns-in_ok-answer-in-Some g c = (
  over c.take_one.new.link c.take_one.new.port,
  Ok (Some c.in-Some.act),
  rw c.in-Some.is at c.in_ok-act.ensures,
  (Ok c.in_ok-answer-in-Some.field-0, c.in_ok-answer-in-Some.ensures, refl, refl),
)

pub returns-in-None : goal.returns-in-None
returns-in-None g c =
    (over c.take_one.new.link c.take_one.new.port, Ok None, rw c.in-None.is at c.in_ok-act.ensures, (refl, refl))
