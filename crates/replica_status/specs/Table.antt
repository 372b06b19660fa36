-- The status table: what is made of the standing of one replica, a line for each standing.
use Rattle.std.specs.Prelude.{ℕ, ◌-◌, Bool, cond, nat_lt, true, false}
use Rattle.replica_status.specs.declared.standing.Standing.{Standing}
use Rattle.replica_status.specs.declared.standing.Standing.TheVariants.{Unheard, Up, Down, Gone}
use Rattle.replica_status.specs.declared.standing.TheConstants.{DOWN_AFTER_MS, GONE_AFTER_MS}
use Rattle.replica_status.specs.declared.status.Status.{Status}
use Rattle.replica_status.specs.declared.status.Status.TheVariants as status_is

abbrev pub status_of : Standing → Status
status_of Unheard = status_is.Unheard
status_of (Up heard) = status_is.Up
status_of (Down heard) = status_is.Down
status_of Gone = status_is.Gone

-- whether the silence since then is longer than the limit
abbrev pub is_over : ℕ → ℕ → ℕ → Bool
is_over limit heard time = nat_lt limit (time - heard)

-- heard at a time
abbrev pub heard_at : ℕ → Standing → Standing
heard_at time Unheard = Up time
heard_at time (Up heard) = Up time
heard_at time (Down heard) = Up time
heard_at time Gone = Gone

-- a tick at a time: the longer limit goes before the shorter one
abbrev pub ticked_at : ℕ → Standing → Standing
ticked_at time Unheard = Unheard
ticked_at time (Up heard) =
    cond (is_over GONE_AFTER_MS heard time) Gone (cond (is_over DOWN_AFTER_MS heard time) (Down heard) (Up heard))
ticked_at time (Down heard) = cond (is_over GONE_AFTER_MS heard time) Gone (Down heard)
ticked_at time Gone = Gone

-- down for good
abbrev pub put_down : Standing → Standing
put_down Unheard = Gone
put_down (Up heard) = Gone
put_down (Down heard) = Gone
put_down Gone = Gone

-- nothing was heard of the replica, and it was not put down
abbrev pub is_unheard : Status → Bool
is_unheard status_is.Unheard = true
is_unheard _ = false
