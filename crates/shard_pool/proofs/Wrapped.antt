-- What a call or a question at a shard says, by what is asked.
use Rattle.std.proofs.Common.{◌≡◌, ℕ, List, sym, subst}
use Rattle.std.specs.Prelude.{Result, Ok, Err, IfOk, IfErr}
use Rattle.presence_journal.specs.History.{History, own}
use Rattle.presence_journal.specs.Table.{IsLegal}
use Rattle.tracker_shard.specs.Asks.{TellsIfOk}
use Rattle.shard_pool.specs.Lines.{IsOfLane, IsOfShard}
use Rattle.tracker_shard.specs.declared.fault.ShardFault.{ShardFault}
use Rattle.tracker_shard.specs.declared.fault.ShardFault.TheVariants.{OutOfMemory}
use Rattle.shard_pool.specs.Unseated.{IsBehind, IsBehindOf, IsOf}
pub use Rattle.shard_pool.proofs.Done.{at_node, done_heard, done_tick, done_permdown, done_merge, done_cut, done_reborn}

-- what is told where memory isn't wanting
module _ {A : Type 0} (node : List ℕ) (Begins : History → Type 0) (Is : History → A → Type 0) where
  pub ok_told : (r : Result A ShardFault) → IsBehindOf (IsOfShard node Begins) (λ h. TellsIfOk (Is h) r) → IfOk r (λ x. IsBehindOf (IsOfShard node Begins) (λ h. Is h x))
  ok_told (Ok x) b = b
  ok_told (Err e) b = tt

  pub ok_node : (r : Result A ShardFault) → IsBehindOf (IsOfShard node Begins) (λ h. TellsIfOk (Is h) r) → IfOk r (λ x. IsBehind node (λ h. Is h x))
  ok_node (Ok x) b = at_node node Begins (λ h. Is h x) b
  ok_node (Err e) b = tt

  pub err_told : (r : Result A ShardFault) → IsBehindOf (IsOfShard node Begins) (λ h. TellsIfOk (Is h) r) → IfErr r (λ e. e ≡ OutOfMemory)
  err_told (Ok x) b = tt
  err_told (Err e) b = b.is

-- a copy of the journal
module _ (node : List ℕ) (Begins : History → Type 0) where
  pub journal_of : (r : Result History ShardFault) → IsBehindOf (IsOfShard node Begins) (λ h. TellsIfOk (λ j. j ≡ h) r) → IfOk r (λ j. IsOf node j)
  journal_of (Ok j) b = (subst (λ (h : History). IsLegal h) (sym b.is) b.legal, subst (λ (h : History). (own h).name ≡ node) (sym b.is) b.here.of_node)
  journal_of (Err e) b = tt

  pub journal_line : (r : Result History ShardFault) → IsBehindOf (IsOfShard node Begins) (λ h. TellsIfOk (λ j. j ≡ h) r) → IfOk r (IsOfLane Begins)
  journal_line (Ok j) b = subst (λ (h : History). IsOfLane Begins h) (sym b.is) b.here.of_lane
  journal_line (Err e) b = tt

pub ruleset wrapped = (at_node, done_heard, done_tick, done_permdown, done_merge, done_cut, done_reborn, ok_told, ok_node, err_told, journal_of, journal_line)
