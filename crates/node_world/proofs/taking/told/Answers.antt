use Rattle.node_world.proofs.Wholes.{whole_all}
use Rattle.node_world.proofs.taking.told.Goals as goal

pub returns-in_ok-told-in-None-clause-told : goal.returns-in_ok-told-in-None-clause-told
returns-in_ok-told-in-None-clause-told c =
    whole_all c.args.form c.args.shard.now c.args.from c.in_ok-told-in-None.told c.of_told-in-None.result c.in-None.is c.in_ok-told-in-None.ensures c.of_told-in-None.ensures.tells c.of_told-in-None.ensures.limits
