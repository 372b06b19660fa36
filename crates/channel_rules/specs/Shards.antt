-- What a question is at the shard that has its topic: the step that it makes there, and what it is given by the shard's history.
use Rattle.std.specs.Prelude.{◌≡◌, ◌+◌, ℕ, List, Bool, true, false, Option, Some, None, Result, Ok, Err}
use Rattle.presence_journal.specs.declared.step.Step.{Step}
use Rattle.presence_journal.specs.declared.step.Step.TheVariants as steps_are
use Rattle.presence_journal.specs.History.{History, last_number}
use Rattle.presence_journal.specs.Present.{listed}
use Rattle.presence_journal.specs.Queue.{queue, items_given, is_waiting}
use Rattle.presence_journal.specs.Table.{outcome_of, listed_key}
use Rattle.tracker_shard.specs.Calls.{always, finds}
use Rattle.tracker_shard.specs.Steps.{new_dot, slot_of}
use Rattle.tracker_shard.specs.declared.fault.ShardFault.{ShardFault}
use Rattle.tracker_shard.specs.declared.fault.ShardFault.TheVariants.{NoSub}
use Rattle.channel_rules.specs.Asks.{Ask, Given, track, update, untrack, untrack_all, list, get, subscribe, take, unsubscribe, waits, shout}
use Rattle.channel_rules.specs.declared.call.AtShard.{AtShard}
use Rattle.channel_rules.specs.declared.call.AtShard.TheVariants as comes_to

abbrev pub topic_asked : Ask → List ℕ
topic_asked (track t k m) = t
topic_asked (update t k m) = t
topic_asked (untrack t k) = t
topic_asked (untrack_all t) = t
topic_asked (list t) = t
topic_asked (get t k) = t
topic_asked (subscribe t) = t
topic_asked (take t s n) = t
topic_asked (unsubscribe t s) = t
topic_asked (waits t s) = t
topic_asked (shout t p) = t

-- the step that it makes, asked by the session of this number. To ask what waits is none.
abbrev pub step_of : ℕ → Ask → Option Step
step_of pid (track t k m) = Some (steps_are.Track pid t k m)
step_of pid (update t k m) = Some (steps_are.Update pid t k m)
step_of pid (untrack t k) = Some (steps_are.Untrack pid t k)
step_of pid (untrack_all t) = Some (steps_are.UntrackAll pid t)
step_of pid (list t) = Some (steps_are.List t)
step_of pid (get t k) = Some (steps_are.Get t k)
step_of pid (subscribe t) = Some (steps_are.Subscribe t)
step_of pid (take t s n) = Some (steps_are.Take s.number n)
step_of pid (unsubscribe t s) = Some (steps_are.Unsubscribe s.number)
step_of pid (waits t s) = None
step_of pid (shout t p) = Some (steps_are.Shout t p)

-- whether the subscriber that it names, if it names one, is there
abbrev pub there_of : Ask → History → Bool
there_of (take t s n) = finds s
there_of (unsubscribe t s) = finds s
there_of (waits t s) = finds s
there_of _ = always

-- what it is given by a shard of a history where it is accepted
abbrev pub gives_of : ℕ → (q : Ask) → History → Given q → Type 0
gives_of pid (track t k m) h d = new_dot (outcome_of h (steps_are.Track pid t k m)) ≡ Some d
gives_of pid (update t k m) h d = new_dot (outcome_of h (steps_are.Update pid t k m)) ≡ Some d
gives_of pid (untrack t k) h u = Unit {0}
gives_of pid (untrack_all t) h u = Unit {0}
gives_of pid (list t) h rows = rows ≡ listed h t
gives_of pid (get t k) h rows = rows ≡ listed_key h t k
gives_of pid (subscribe t) h sub = (sub.number ≡ last_number h + 1) × (sub.slot ≡ slot_of sub.number)
gives_of pid (take t s n) h items = items ≡ items_given h s.number n
gives_of pid (unsubscribe t s) h u = Unit {0}
gives_of pid (waits t s) h w = w ≡ is_waiting (queue h s.number)
gives_of pid (shout t p) h u = Unit {0}

-- What is told without a step: what the table has, or that no such subscriber is there.
abbrev pub TellsNow : {A : Type 0} → Bool → (A → Type 0) → Result A ShardFault → Type 0
TellsNow found Gives (Ok x) = (found ≡ true) × Gives x
TellsNow found Gives (Err e) = (found ≡ false) × (e ≡ NoSub)

-- ---- the call of a shard that a call is

-- A call of a shard that makes the question's step, and of which what it gives is seen so.
pub record IsStepOf {A : Type 0} (pid : ℕ) (q : Ask) (view : A → Given q) (step : Step) (there : History → Bool)
    (Gives : History → A → Type 0) : Type 0 where
  pub is : step_of pid q ≡ Some step
  pub found : (h : History) → there h ≡ there_of q h
  pub given : (h : History) (x : A) → Gives h x → gives_of pid q h (view x)

-- It is a call of a shard, or asks whether something waits for a subscriber.
abbrev pub ComesTo : {S A : Type 0} → (S → Step) → (S → History → Bool) → (S → History → A → Type 0) → ℕ → (q : Ask)
    → (A → Given q) → AtShard S → Type 0
ComesTo step there gives pid q view (comes_to.Step s) = IsStepOf pid q view (step s) (there s) (gives s)
ComesTo step there gives pid q view (comes_to.Waits sub) = (t : List ℕ) × (q ≡ waits t sub)
