-- What a call without a seat is, by its step.
use Rattle.std.proofs.Common.{◌≡◌, ℕ, List, Some}
use Rattle.std.specs.Prelude.{Result}
use Rattle.presence_base.specs.declared.dots.Dot.{Dot}
use Rattle.presence_base.specs.declared.dots.Replica.{Replica}
use Rattle.orswot_core.specs.Telling.{ToldValue}
use Rattle.delta_range.specs.Deltas.{DeltaValue}
use Rattle.presence_journal.specs.declared.step.Step.{Step}
use Rattle.presence_journal.specs.declared.step.Step.TheVariants as steps_are
use Rattle.presence_journal.specs.declared.entry.Outcome.TheVariants as outcomes_are
use Rattle.presence_journal.specs.History.{History, own}
use Rattle.presence_journal.specs.Table.{IsLegal, outcome_of}
use Rattle.tracker_shard.specs.Calls.{always}
use Rattle.presence_journal_cuts.specs.Cuts.{IsCut}
use Rattle.shard_pool.specs.Lines.{IsOfShard}
use Rattle.tracker_shard.specs.declared.fault.ShardFault.{ShardFault}
use Rattle.shard_pool.proofs.Rooms.{room_heard, room_tick, room_permdown, room_cut, room_merge, kept_rows}
use Rattle.shard_pool.specs.Unseated.{IsBehind, IsBehindOf, IsDone, IsMade, IsCutMade, IsRebornMade}

-- what is of the shard is of its node
pub at_node : (node : List ℕ) (Begins Is : History → Type 0) → IsBehindOf (IsOfShard node Begins) Is → IsBehind node Is
at_node node Begins Is b = record { history = b.history; legal = b.legal; of_node = b.here.of_node; is = b.is }

abbrev IsNoted : History → Step → Result (Unit {0}) ShardFault → Type 0
IsNoted h s r = IsDone always (λ g x. Unit {0}) h s r

module _ (Here : History → Type 0) where
  behind : (P Q : History → Type 0) → ((h : History) → IsLegal h → P h → Q h) → IsBehindOf Here P → IsBehindOf Here Q
  behind P Q law b = record { history = b.history; legal = b.legal; here = b.here; is = law b.history b.legal b.is }

  pub done_heard : (replica : Replica) (now : ℕ) (r : Result (Unit {0}) ShardFault) → IsBehindOf Here (λ h. IsNoted h (steps_are.Heard replica now) r) → IsBehindOf Here (λ h. IsMade h (steps_are.Heard replica now) r)
  done_heard replica now r b = behind (λ h. IsNoted h (steps_are.Heard replica now) r) (λ h. IsMade h (steps_are.Heard replica now) r)
      (λ h legal d. record { left = d.left; step = d.step; answer = d.answer; due = d.due; room = room_heard (λ x. Unit {0}) h replica now r d.answer d.due }) b

  pub done_tick : (now : ℕ) (r : Result (Unit {0}) ShardFault) → IsBehindOf Here (λ h. IsNoted h (steps_are.Tick now) r) → IsBehindOf Here (λ h. IsMade h (steps_are.Tick now) r)
  done_tick now r b = behind (λ h. IsNoted h (steps_are.Tick now) r) (λ h. IsMade h (steps_are.Tick now) r)
      (λ h legal d. record { left = d.left; step = d.step; answer = d.answer; due = d.due; room = room_tick (λ x. Unit {0}) h now r d.answer d.due }) b

  pub done_permdown : (replica : Replica) (r : Result (Unit {0}) ShardFault) → IsBehindOf Here (λ h. IsNoted h (steps_are.PermDown replica) r) → IsBehindOf Here (λ h. IsMade h (steps_are.PermDown replica) r)
  done_permdown replica r b = behind (λ h. IsNoted h (steps_are.PermDown replica) r) (λ h. IsMade h (steps_are.PermDown replica) r)
      (λ h legal d. record { left = d.left; step = d.step; answer = d.answer; due = d.due; room = room_permdown (λ x. Unit {0}) h replica r d.answer d.due }) b

  pub done_merge : (t : ToldValue) (r : Result (Unit {0}) ShardFault) → IsBehindOf Here (λ h. IsNoted h (steps_are.Merge t) r) → IsBehindOf Here (λ h. IsMade h (steps_are.Merge t) r)
  done_merge t r b = behind (λ h. IsNoted h (steps_are.Merge t) r) (λ h. IsMade h (steps_are.Merge t) r)
      (λ h legal d. record { left = d.left; step = d.step; answer = d.answer; due = d.due; room = room_merge (λ x. Unit {0}) h t r d.answer d.due }) b

  pub done_cut : (r : Result DeltaValue ShardFault) → IsBehindOf Here (λ h. IsDone always (λ g d. IsCut g d) h steps_are.Cut r) → IsBehindOf Here (λ h. IsCutMade h r)
  done_cut r b = behind (λ h. IsDone always (λ g d. IsCut g d) h steps_are.Cut r) (λ h. IsCutMade h r)
      (λ h legal d. record { left = d.left; step = d.step; answer = d.answer; due = d.due; room = room_cut (λ x. IsCut h x) h r d.answer d.due }) b

  pub done_reborn : (i : ℕ) (r : Result (List (Dot × Dot)) ShardFault) → IsBehindOf Here (λ h. IsDone always (λ g pairs. outcome_of g (steps_are.Rebirth i) ≡ Some (outcomes_are.Reborn pairs)) h (steps_are.Rebirth i) r) → IsBehindOf Here (λ h. IsRebornMade h i r)
  done_reborn i r b = behind (λ h. IsDone always (λ g pairs. outcome_of g (steps_are.Rebirth i) ≡ Some (outcomes_are.Reborn pairs)) h (steps_are.Rebirth i) r) (λ h. IsRebornMade h i r)
      (λ h legal d. record { left = d.left; step = d.step; answer = d.answer; due = d.due; rows = kept_rows h d.left i r legal d.step d.answer d.due }) b

pub ruleset done = (at_node, done_heard, done_tick, done_permdown, done_merge, done_cut, done_reborn)
