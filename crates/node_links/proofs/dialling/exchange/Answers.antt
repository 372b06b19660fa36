use Rattle.std.proofs.Common.{Ok, Err, Some, None, refl}
use Rattle.std.proofs.lemmas.Result.{err_from_is_err_and}
use Rattle.node_links.specs.Talking.{over}
use Rattle.node_links.proofs.dialling.exchange.Goals as goal

pub returns-in_err-act : goal.returns-in_err-act
returns-in_err-act g c =
    let p = err_from_is_err_and c.from_residual-in_err-act.result c.from_residual-in_err-act.ensures.1 in (
      c.write_given.new.writer,
      Ok c.in_ok-write_given.field-0,
      c.in_ok-write_given.ensures,
      (over c.take_one.new.link c.take_one.new.port, Err c.in_err-act.field-0.0, c.in_err-act.ensures, (refl, rw (p.1, p.2) refl)),
    )

pub returns-in-Some : goal.returns-in-Some
returns-in-Some g c = (
  c.write_given.new.writer,
  Ok c.in_ok-write_given.field-0,
  c.in_ok-write_given.ensures,
  (over c.take_one.new.link c.take_one.new.port, Ok (Some c.in-Some.act), rw c.in-Some.is at c.in_ok-act.ensures, c.follow.ensures),
)

pub returns-in-None : goal.returns-in-None
returns-in-None g c = (
  c.write_given.new.writer,
  Ok c.in_ok-write_given.field-0,
  c.in_ok-write_given.ensures,
  (over c.take_one.new.link c.take_one.new.port, Ok None, rw c.in-None.is at c.in_ok-act.ensures, (refl, refl)),
)
