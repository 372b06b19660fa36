-- What a history says once it merged a joined delta, beside one that merged its two parts in turn.
use Rattle.std.specs.Prelude.{◌≡◌, ℕ, true, false, List, None}
use Rattle.presence_base.specs.declared.dots.Dot.{Dot}
use Rattle.delta_range.specs.Deltas.{DeltaValue, telling, IsDelta, GoesOn}
use Rattle.delta_range.specs.Joining.{joined}
use Rattle.presence_journal.specs.declared.step.Step.TheVariants as steps_are
use Rattle.presence_journal.specs.declared.step.Step.{Step}
use Rattle.presence_journal.specs.StepLimits.{is_within_limits}
use Rattle.presence_journal.specs.History.{History, is_full, known, removed, live}
use Rattle.presence_journal.specs.Present.{present}
use Rattle.presence_journal.specs.Table.{after}

-- the step that tells a delta
abbrev pub merge_of : DeltaValue → Step
merge_of d = steps_are.Merge (telling d)

-- the history once it merged a delta
abbrev pub merged : History → DeltaValue → History
merged h d = after h (merge_of d) None

-- both say the same of each dot, and of who is present on each topic
pub record SayTheSame (g h : History) : Type 0 where
  pub known : (d : Dot) → known g d ≡ known h d
  pub removed : (d : Dot) → removed g d ≡ removed h d
  pub live : (d : Dot) → live g d ≡ live h d
  pub present : (t : List ℕ) → present g t ≡ present h t

-- a history with room for both entries says the same behind a joined delta as behind its two parts in turn
abbrev pub MergesInTurn : Type 0
MergesInTurn = (h : History) (a b : DeltaValue) → IsDelta a → IsDelta b → GoesOn a.owner a.to b
    → is_full h ≡ false → is_full (merged h a) ≡ false
    → SayTheSame (merged (merged h a) b) (merged h (joined a b))

-- the joined delta is within a step's limits, where both parts are
abbrev pub StaysWithinLimits : Type 0
StaysWithinLimits = (a b : DeltaValue) → IsDelta a → IsDelta b → GoesOn a.owner a.to b
    → is_within_limits (merge_of a) ≡ true → is_within_limits (merge_of b) ≡ true
    → is_within_limits (merge_of (joined a b)) ≡ true
