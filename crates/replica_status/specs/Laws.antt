-- What the steps of a board make of each replica.
use Rattle.std.specs.Prelude.{◌≡◌, ℕ, cond, true, false}
use Rattle.presence_base.specs.declared.dots.Replica.{Replica}
use Rattle.presence_base.specs.Order.{same_replica}
use Rattle.replica_status.specs.declared.standing.Standing.{Standing}
use Rattle.replica_status.specs.declared.status.Status.TheVariants.{Up, Gone}
use Rattle.replica_status.specs.Table.{is_unheard, heard_at, ticked_at, put_down}
use Rattle.replica_status.specs.Boards.{BoardValue, standing_in, status, time_at, after_heard, after_permdown, after_tick, after_reborn}

-- each step changes the standing of a replica by the table, or not at all
pub record FollowsTable (b : BoardValue) (q : Replica) (s : Standing) : Type 0 where
  pub hears : (r : Replica) (now : ℕ)
      → standing_in (after_heard b r now).standings q ≡ cond (same_replica q r) (heard_at (time_at b now) s) s
  pub ticks : (now : ℕ) → standing_in (after_tick b now).standings q ≡ ticked_at (time_at b now) s
  pub goes : (r : Replica) → standing_in (after_permdown b r).standings q ≡ cond (same_replica q r) (put_down s) s
  pub stays : (r : Replica) → standing_in (after_reborn b r).standings q ≡ s

-- each other replica
abbrev pub BoardFollowsTable : Type 0
BoardFollowsTable = (b : BoardValue) (q : Replica) → same_replica q b.own ≡ false
    → FollowsTable b q (standing_in b.standings q)

-- no step brings it back
pub record StaysGone (b : BoardValue) (q : Replica) : Type 0 where
  pub hears : (r : Replica) (now : ℕ) → status (after_heard b r now) q ≡ Gone
  pub ticks : (now : ℕ) → status (after_tick b now) q ≡ Gone
  pub goes : (r : Replica) → status (after_permdown b r) q ≡ Gone
  pub stays : (r : Replica) → status (after_reborn b r) q ≡ Gone

abbrev pub GoneStaysGone : Type 0
GoneStaysGone = (b : BoardValue) (q : Replica) → status b q ≡ Gone → StaysGone b q

-- a rebirth: the new replica is up, the old one is gone, and each other one is what it was
pub record IsReborn (b : BoardValue) (r : Replica) : Type 0 where
  pub new : status (after_reborn b r) r ≡ Up
  pub old : status (after_reborn b r) b.own ≡ Gone
  pub others : (q : Replica) → same_replica q r ≡ false → same_replica q b.own ≡ false
      → status (after_reborn b r) q ≡ status b q

abbrev pub BoardIsReborn : Type 0
BoardIsReborn = (b : BoardValue) (r : Replica) → is_unheard (status b r) ≡ true → IsReborn b r
