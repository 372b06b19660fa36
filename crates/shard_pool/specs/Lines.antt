-- The histories of one shard: what it begins with, and what comes of that by steps and checkpoints.
use Rattle.std.specs.Prelude.{◌≡◌, ◌⊎◌, ℕ, zero, suc, List, Option}
use Rattle.presence_journal.specs.declared.step.Step.{Step}
use Rattle.presence_journal.specs.History.{History, own}
use Rattle.presence_journal.specs.Table.{after}
use Rattle.tracker_index.specs.Starting.{IsBegunAgain}

-- one step later
pub record IsAfter (old new : History) : Type 0 where
  pub step : Step
  pub seat : Option ℕ
  pub is : new ≡ after old step seat

-- the next history behind one that is such: a step later, or begun again by a checkpoint
pub record IsNext (Is : History → Type 0) (new : History) : Type 0 where
  pub old : History
  pub is : Is old
  pub follows : IsAfter old new ⊎ IsBegunAgain old new

-- what comes of a beginning by so many steps and checkpoints
abbrev pub Comes : (History → Type 0) → ℕ → History → Type 0
Comes Begins zero = Begins
Comes Begins (suc n) = IsNext (Comes Begins n)

-- such a beginning is found
pub record Descends (Begins : History → Type 0) (h : History) : Type 0 where
  pub turns : ℕ
  pub comes : Comes Begins turns h

-- the history comes of such a beginning
abbrev pub IsOfLane : (History → Type 0) → History → Type 0
IsOfLane Begins h = ∥ Descends Begins h ∥₁

-- a history of a shard: it is of the shard's node, and comes of what the shard began with
pub record IsOfShard (node : List ℕ) (Begins : History → Type 0) (h : History) : Type 0 where
  pub of_node : (own h).name ≡ node
  pub of_lane : IsOfLane Begins h
