use Rattle.std.proofs.Common.{rules}
use Rattle.shard_pool.specs.Due.{HasMany}
use Rattle.shard_pool.proofs.Calls.{is_behind_lane, made_quiet}
use Rattle.shard_pool.proofs.locked_asks.locked_checkpoint_where_quiet.Goals as goal

pub returns : goal.returns
returns g c =
    let many : HasMany c.args.due c.journal-journal.result.now = search rules in
    is_behind_lane c.journal-journal.result.now _ _ _ (search rules) (search rules) (search rules)
    (made_quiet c.journal-journal.result.now c.checkpoint_keeping_current.new.self.shard c.args.due many (search rules) (search rules) (search rules))
