-- Connections are taken once, and in rising order.
use Rattle.std.specs.Prelude.{◌≡◌, ℕ, ◌+◌, ◌<◌, ◌≤◌, Bool, true, List, [], ◌∷◌, Result, Ok, Err}
use mathlib.Core.Option.{some}
use lib.ListN.{get_elem?}
use Rattle.crossbeam_queue.specs.Fifo.{Held}
use Rattle.node_threads.specs.declared.ends.GiveFault.{GiveFault}
use Rattle.node_threads.specs.declared.ends.GiveFault.TheVariants.{Full, Spent}
use Rattle.node_threads.specs.declared.queue.Knowledge.{Knowledge}
use Rattle.node_threads.specs.declared.numbered.Numbered.{Numbered}
use Rattle.node_threads.specs.declared.numbered.TheConstants.{LAST_NUMBER}
use Rattle.node_threads.specs.declared.queue.TheConstants.{MAX_QUEUED}

abbrev pub knowledge : Bool → ℕ → ℕ → ℕ → Knowledge
knowledge pushes pushed taken pops = record { pushes = pushes; pushed = pushed; taken = taken; pops = pops }

-- from above `floor` the numbers rise, and the last is at most `top`
abbrev pub RisesBetween : {S : Type 0} → ℕ → ℕ → List (Numbered S) → Type 0
RisesBetween floor top [] = floor ≤ top
RisesBetween floor top (c ∷ cs) = (floor < c.number) × RisesBetween c.number top cs

-- a pass took nothing above `floor`, and the one that pushes, which is the `writer`, pushed `top` last
abbrev pub Knows : ℕ → ℕ → ℕ → ℕ → Knowledge → Type 0
Knows writer floor top port v = (v.taken ≤ floor) × (v.pushes ≡ true → (port ≡ writer) × (v.pushed ≡ top))

-- What the queue holds rises, lies above all that was taken by any pass, and is at most what was pushed.
pub record Rises {S : Type 0} (items : List (Numbered S)) (views : List Knowledge) : Type 0 where
  pub writer : ℕ
  pub floor : ℕ
  pub top : ℕ
  pub rises : RisesBetween floor top items
  pub known : (port : ℕ) (v : Knowledge) → get_elem? views port ≡ some v → Knows writer floor top port v

-- the numbers rise, and lie below the next one
pub record RisesBelow {S : Type 0} (next : ℕ) (items : List (Numbered S)) : Type 0 where
  pub floor : ℕ
  pub top : ℕ
  pub rises : RisesBetween floor top items
  pub below : top < next

-- at one moment this many connections waited, with rising numbers below the next one
abbrev pub WasFull : Type 0 → ℕ → ℕ → Type 0
WasFull S room next = Held {T = Numbered S} room (RisesBelow next)

-- A connection went in under the next number, or it was dropped for this cause and its number is still the next one.
abbrev pub GivesNumber : Type 0 → ℕ → ℕ → Result ℕ GiveFault → Type 0
GivesNumber S old new (Ok number) = (number ≡ old) × (new ≡ old + 1) × (number ≤ LAST_NUMBER)
GivesNumber S old new (Err Full) = (new ≡ old) × WasFull S MAX_QUEUED old
GivesNumber S old new (Err Spent) = (new ≡ old) × (LAST_NUMBER < old)

-- The oldest connection that waits has a number above all that any end took before, so that none is taken twice.
abbrev pub TakenOnce : Type 0 → Type 0
TakenOnce S =
    (oldest : Numbered S) (others : List (Numbered S)) (views : List Knowledge) (port : ℕ) (v : Knowledge)
    → Rises (oldest ∷ others) views → get_elem? views port ≡ some v → v.taken < oldest.number
