use Rattle.std.proofs.Common.{option_copied}
use Rattle.node_world.proofs.WorldLifeFacts.{goes_some, goes_none}
use Rattle.node_world.proofs.lives.go_on.Goals as goal

pub returns-in_default-clause-goes : goal.returns-in_default-clause-goes
returns-in_default-clause-goes c =
    goes_none c.args.lives.now c.args.own.now c.args.incarnation (option_copied c.get.result) c.in_ok-next.next c.get.ensures.value c.in_ok-next.ensures c.in_default.is

pub returns-in-Ok-clause-goes : goal.returns-in-Ok-clause-goes
returns-in-Ok-clause-goes c =
    goes_some c.args.lives.now c.insert.new.self c.args.own.now c.life_under.result c.args.incarnation (option_copied c.get.result) c.in_ok-next.next c.in-Some.life c.get.ensures.value c.in_ok-next.ensures c.in-Some.is
    c.life_under.ensures c.in-Ok.ensures.updates.0
