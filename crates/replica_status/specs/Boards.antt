-- Boards: the table applied to every replica.
use Rattle.std.specs.Prelude.{ℕ, max, Bool, true, false, cond, List, map, Option, Some, None}
use Rattle.std.specs.List.{filter_map}
use Rattle.std.specs.Map.{lookup}
use Rattle.std.specs.Option.{unwrap_or}
use Rattle.indexmap.specs.IndexMap.{insert_entry}
use Rattle.presence_base.specs.declared.dots.Replica.{Replica}
use Rattle.presence_base.specs.Order.{same_replica}
use Rattle.replica_status.specs.declared.change.Change.{Change}
use Rattle.replica_status.specs.declared.standing.Standing.{Standing}
use Rattle.replica_status.specs.declared.standing.Standing.TheVariants.{Unheard, Gone}
use Rattle.replica_status.specs.declared.status.Status.{Status}
use Rattle.replica_status.specs.declared.status.Status.TheVariants as status_is
use Rattle.replica_status.specs.Table.{status_of, is_unheard, heard_at, ticked_at, put_down}

-- the own replica, the greatest time handed in, and the replicas that are not unheard, in the order in which they came
pub record BoardValue : Type 0 where
  pub own : Replica
  pub time : ℕ
  pub standings : List (Replica × Standing)

-- the standing that is listed, or that of a replica that was never heard
abbrev pub standing_in : List (Replica × Standing) → Replica → Standing
standing_in es r = unwrap_or (lookup (same_replica r) es) Unheard

-- the own replica is up
abbrev pub status : BoardValue → Replica → Status
status b r = cond (same_replica r b.own) status_is.Up (status_of (standing_in b.standings r))

-- a clock that goes back counts as no time passed
abbrev pub time_at : BoardValue → ℕ → ℕ
time_at b now = max b.time now

-- with this standing, in the place of the one before it or behind the others
abbrev pub with_standing : List (Replica × Standing) → Replica → Standing → List (Replica × Standing)
with_standing es r s = insert_entry same_replica es r s

-- the standing of a replica is changed; that of the own replica stays
abbrev pub changed : (Standing → Standing) → BoardValue → Replica → List (Replica × Standing)
changed f b r = cond (same_replica r b.own) b.standings (with_standing b.standings r (f (standing_in b.standings r)))

abbrev pub after_heard : BoardValue → Replica → ℕ → BoardValue
after_heard b r now = record { own = b.own; time = time_at b now; standings = changed (heard_at (time_at b now)) b r }

abbrev pub after_permdown : BoardValue → Replica → BoardValue
after_permdown b r = record { own = b.own; time = b.time; standings = changed put_down b r }

abbrev pub after_tick : BoardValue → ℕ → BoardValue
after_tick b now =
    record {
      own = b.own;
      time = time_at b now;
      standings = map (λ e. (e.0, ticked_at (time_at b now) e.1)) b.standings;
    }

-- an unheard replica is the own one from now on, and the one that was the own one is gone
abbrev pub gone_on_as : BoardValue → Replica → BoardValue
gone_on_as b r = record { own = r; time = b.time; standings = with_standing b.standings b.own Gone }

-- of any other replica this can't be, and the board stays
abbrev pub after_reborn : BoardValue → Replica → BoardValue
after_reborn b r = cond (is_unheard (status b r)) (gone_on_as b r) b

abbrev pub same_status : Status → Status → Bool
same_status status_is.Unheard status_is.Unheard = true
same_status status_is.Up status_is.Up = true
same_status status_is.Down status_is.Down = true
same_status status_is.Gone status_is.Gone = true
same_status _ _ = false

-- the change from one standing to another, where the status is another one
abbrev pub change_between : Replica → Standing → Standing → Option Change
change_between r old new = cond (same_status (status_of old) (status_of new)) None
    (Some (record { replica = r; before = status_of old; after = status_of new }))

-- what a tick at a time changes
abbrev pub changes_in : List (Replica × Standing) → ℕ → List Change
changes_in es time = filter_map (λ e. change_between e.0 e.1 (ticked_at time e.1)) es

abbrev pub changes : BoardValue → ℕ → List Change
changes b now = changes_in b.standings (time_at b now)
