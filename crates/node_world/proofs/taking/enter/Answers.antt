use Rattle.node_world.proofs.Taken.{row_kept}
use Rattle.node_world.proofs.taking.enter.Goals as goal

pub returns-in-Ok-clause-made : goal.returns-in-Ok-clause-made
returns-in-Ok-clause-made c =
    row_kept c.args.shard.now c.args.step c.args.outcome c.in_ok-added.added c.args.made.now.items _ c.keep_row.new.made.items c.requires.table c.requires.room c.in_ok-added.ensures c.reserve.ensures.items c.keep_row.ensures
