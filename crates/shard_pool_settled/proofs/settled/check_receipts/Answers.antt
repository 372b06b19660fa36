use Rattle.std.proofs.Common.{rules}
use Rattle.shard_pool_settled.proofs.settled.check_receipts.Goals as goal

pub returns-then-not-all_rise-clause-untold : goal.returns-then-not-all_rise-clause-untold
returns-then-not-all_rise-clause-untold c = search rules

pub returns-then-not-all_are_counted-clause-differs : goal.returns-then-not-all_are_counted-clause-differs
returns-then-not-all_are_counted-clause-differs c = search rules

pub returns-clause-agree : goal.returns-clause-agree
returns-clause-agree c = search rules
