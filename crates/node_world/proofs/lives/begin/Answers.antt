use Rattle.std.proofs.Common.{ap, ◌∙◌}
use Rattle.std.specs.FinMap as map
use Rattle.node_world.specs.Lives.{seen}
use Rattle.node_world.proofs.WorldLifeFacts.{put_seen}
use Rattle.node_world.proofs.lives.begin.Goals as goal

pub returns-in-Ok-clause-begins : goal.returns-in-Ok-clause-begins
returns-in-Ok-clause-begins c =
    put_seen c.args.lives.now c.insert.new.self c.args.own.now c.new-life.result c.in-Ok.ensures.updates.0
    ∙ ap (map.insert (seen c.args.lives.now) c.args.own.now) c.new-life.ensures
