-- A call of the pool, as the question of a link that it answers.
use Rattle.std.proofs.Common.{◌≡◌, ℕ, Option, inl, inr, subst}
use Rattle.std.specs.Prelude.{◌⊎◌, Result, Ok, Err}
use Rattle.presence_base.specs.declared.dots.Replica.{Replica}
use Rattle.orswot_core.specs.Telling.{ToldValue}
use Rattle.presence_journal.specs.declared.step.Step.{Step}
use Rattle.presence_journal.specs.declared.step.Step.TheVariants as steps_are
use Rattle.presence_journal.specs.History.{History}
use Rattle.shard_pool.specs.Seated.{always}
use Rattle.tracker_shard.specs.declared.fault.ShardFault.{ShardFault}
use Rattle.shard_pool.specs.Unseated.{IsBehindOf, IsDone, IsMade}
use Rattle.shard_pool.proofs.Wrapped.{done_heard, done_merge, done_permdown}
use Rattle.node_links.specs.Asks.{heard, merge, permdown}
use Rattle.node_links.specs.declared.port.ActFault.{ActFault}
use Rattle.link_pool_port.specs.Asking.{Called, HasNoShard, LinkStep, Made}
use Rattle.link_pool_port.specs.Others.{of_others}

-- a call that gives nothing but that it was made
abbrev IsCalled : (History → Type 0) → Step → Result (Unit {0}) ActFault → Type 0
IsCalled Here step a = Called Here always (λ h x. Unit {0}) step a

module _ (Here : History → Type 0) (step : Step) where
  made : ((r : Result (Unit {0}) ShardFault) → IsBehindOf Here (λ h. IsDone always (λ g x. Unit {0}) h step r) → IsBehindOf Here (λ h. IsMade h step r))
      → (a : Result (Unit {0}) ActFault) → IsCalled Here step a → Made Here step a
  made law a c = record { reply = c.reply; behind = law c.reply c.behind; told = c.told }

module _ (here : ℕ → History → Type 0) (own : Option Replica) (n s : ℕ) (a : Result (Unit {0}) ActFault) where
  pub heard_so : (r : Replica) (now : ℕ) → HasNoShard n s a ⊎ IsCalled (here s) (steps_are.Heard r now) a → LinkStep here own n (heard s r now) a
  heard_so r now (inl none) = inl none
  heard_so r now (inr c) = inr (made (here s) (steps_are.Heard r now) (done_heard (here s) r now) a c)

  pub permdown_so : (r : Replica) → HasNoShard n s a ⊎ IsCalled (here s) (steps_are.PermDown r) a → LinkStep here own n (permdown s r) a
  permdown_so r (inl none) = inl none
  permdown_so r (inr c) = inr (made (here s) (steps_are.PermDown r) (done_permdown (here s) r) a c)

  -- what is merged is what is heard of what is told
  pub merge_so : (t news : ToldValue) → news ≡ of_others own t → HasNoShard n s a ⊎ IsCalled (here s) (steps_are.Merge news) a → LinkStep here own n (merge s t) a
  merge_so t news is (inl none) = inl none
  merge_so t news is (inr c) = inr (inr (subst (λ u. Made (here s) (steps_are.Merge u) a) is (made (here s) (steps_are.Merge news) (done_merge (here s) news) a c)))

pub ruleset called = (heard_so, permdown_so, merge_so)
