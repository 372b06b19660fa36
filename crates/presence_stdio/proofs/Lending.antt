-- A call that a lent shard made, as its port answers it.
use Rattle.std.proofs.Common.{ℕ, Bool, Option, Result, Ok, Err, sym, subst}
use Rattle.presence_journal.specs.declared.step.Step.{Step}
use Rattle.presence_journal.specs.History.{History}
use Rattle.tracker_shard.specs.Steps.{IsDue, refusal}
use Rattle.tracker_shard.specs.declared.fault.ShardFault.{ShardFault}
use Rattle.tracker_shard.specs.declared.fault.ShardFault.TheVariants.{AlreadyTracked, NoPresence, ClockFull, JournalFull, NoSub, BadIncarnation, OutOfMemory}
use Rattle.channel_rules.specs.Asks.{Ask, Given}
use Rattle.channel_rules.specs.Seen.{seen_by, in_table, FromTable}
use Rattle.channel_rules.specs.Shards.{there_of, gives_of, IsStepOf}
use Rattle.presence_stdio.specs.Local.{Asked, AskedOr, LocalStep}

module _ {A : Type 0} (pid : ℕ) (old new : History) (q : Ask) (view : A → Given q) (step : Step) (there : History → Bool) (Gives : History → A → Type 0) (is : IsStepOf pid q view step there Gives) where
  due : {B : Type 0} (r : Result B ShardFault) → IsDue r (refusal (there old) old step) → IsDue r (refusal (there_of q old) old step)
  due r d = subst (λ (b : Bool). IsDue r (refusal b old step)) (is.found old) d

  -- what it gave, as the question is given it
  asked : (r : Result A ShardFault) → Asked (there old) old new step (Gives old) r → FromTable (Asked (there_of q old) old new step (gives_of pid q old)) (seen_by view (in_table r))
  asked (Ok x) a = record { stepped = a.stepped; given = is.given old x a.given; due = due {B = A} (Ok x) a.due }
  asked (Err AlreadyTracked) a = record { stepped = a.stepped; given = a.given; due = due {B = Given q} (Err AlreadyTracked) a.due }
  asked (Err NoPresence) a = record { stepped = a.stepped; given = a.given; due = due {B = Given q} (Err NoPresence) a.due }
  asked (Err ClockFull) a = record { stepped = a.stepped; given = a.given; due = due {B = Given q} (Err ClockFull) a.due }
  asked (Err JournalFull) a = record { stepped = a.stepped; given = a.given; due = due {B = Given q} (Err JournalFull) a.due }
  asked (Err NoSub) a = record { stepped = a.stepped; given = a.given; due = due {B = Given q} (Err NoSub) a.due }
  asked (Err BadIncarnation) a = record { stepped = a.stepped; given = a.given; due = due {B = Given q} (Err BadIncarnation) a.due }
  asked (Err OutOfMemory) a = record { stepped = a.stepped; given = a.given; due = due {B = Given q} (Err OutOfMemory) a.due }

  pub lent_step : (r : Result A ShardFault) → Asked (there old) old new step (Gives old) r → LocalStep pid old q (seen_by view (in_table r)) new
  lent_step r a =
      subst (λ (o : Option Step). FromTable (λ x. AskedOr o (there_of q old) (gives_of pid q old) old new x) (seen_by view (in_table r))) (sym is.is) (asked r a)
