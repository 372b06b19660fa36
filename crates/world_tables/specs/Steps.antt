-- What a node's step makes of the plain tables of a world.
use Rattle.std.specs.Prelude.{◌≡◌, ℕ, cond, slice_get, Option, Some, None, option_map}
use Rattle.presence_base.specs.declared.dots.Replica.{Replica}
use Rattle.presence_base.specs.Order.{same_replica}
use Rattle.presence_journal.specs.declared.step.Step.{Step}
use Rattle.presence_journal.specs.declared.entry.Outcome.{Outcome}
use Rattle.presence_table.specs.Plain.{Table, outcome_of, stepped}
use Rattle.presence_table.specs.Calls.{is_full}
use Rattle.node_world.specs.World.{WorldValue, acts}
use Rattle.node_world.specs.Facts.{Always}
use Rattle.world_tables.specs.Claims.{table_of}

abbrev pub stepped_if : Table → Step → Option Outcome → Table
stepped_if t s None = t
stepped_if t s (Some o) = stepped t s o

-- the table behind a step, the same where it is refused
abbrev pub behind : Step → Table → Table
behind s t = cond (is_full t) t (stepped_if t s (outcome_of t s))

-- a node's step is one of its present life's table, and changes no other one
abbrev pub AreTheTables : WorldValue → Type 0
AreTheTables w = (n : ℕ) (s : Step) (r q : Replica) → slice_get w.present n ≡ Some r
    → table_of (acts w n s) q ≡ cond (same_replica q r) (option_map (behind s) (table_of w q)) (table_of w q)

abbrev pub StepsAreTheTables : Type 0
StepsAreTheTables = Always AreTheTables
