-- After how many milliseconds of silence a replica is down, and gone: the table cites them by these names.
use Rattle.std.specs.Prelude.{◌≡◌}
use Rattle.replica_status.specs.declared.standing.TheConstants.{DOWN_AFTER_MS, GONE_AFTER_MS}

pub record AreLimits : Type 0 where
  pub down : DOWN_AFTER_MS ≡ 30000
  pub gone : GONE_AFTER_MS ≡ 1200000
