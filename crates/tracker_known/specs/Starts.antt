-- What a Start lists of other replicas.
use Rattle.std.specs.Prelude.{◌≡◌, Bool, false, List}
use Rattle.presence_base.specs.declared.dots.Replica.{Replica}
use Rattle.presence_base.specs.Order.{same_replica}
use Rattle.replica_status.specs.declared.standing.Standing.{Standing}
use Rattle.replica_status.specs.Boards.{standing_in}
use Rattle.replica_status.specs.Table.{status_of}
use Rattle.presence_journal.specs.History.{History, own, standing, is_gone}

-- the list has the standing of each other replica
abbrev pub ListsStandings : History → List (Replica × Standing) → Type 0
ListsStandings h xs = (r : Replica) → same_replica r (own h) ≡ false → standing_in xs r ≡ standing h r

-- a replica of this standing is gone
abbrev pub is_gone_by : Standing → Bool
is_gone_by x = is_gone (status_of x)
