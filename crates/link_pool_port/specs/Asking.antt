-- A port over a pool: the call of the pool that each question of a link is, and the beat of a cut.
use Rattle.std.specs.Prelude.{◌≡◌, ◌⊎◌, ◌<◌, ◌==◌, ◌&&◌, ◌||◌, Bool, nat_lt, ℕ, List, Option, Some, None, cond, Result, Ok, Err}
use Rattle.std.specs.List.{list_any}
use Rattle.presence_base.specs.declared.dots.Dot.{Dot}
use Rattle.presence_base.specs.declared.dots.Replica.{Replica}
use Rattle.presence_base.specs.Order.{same_replica}
use Rattle.orswot_core.specs.declared.form.Form.{Form}
use Rattle.orswot_core.specs.declared.form.Form.TheVariants.{Two}
use Rattle.orswot_core.specs.Telling.{ToldValue}
use Rattle.orswot_core.specs.Checks.{WhereItFits}
use Rattle.delta_range.specs.Deltas.{DeltaValue, telling_in}
use Rattle.presence_journal.specs.declared.step.Step.{Step}
use Rattle.presence_journal.specs.declared.step.Step.TheVariants as steps_are
use Rattle.presence_journal.specs.History.{History, IsTop, status as status_in}
use Rattle.presence_journal_cuts.specs.KeptDeltas.{TellsFrom}
use Rattle.tracker_shard.specs.declared.fault.ShardFault.{ShardFault}
use Rattle.tracker_shard.specs.declared.fault.ShardFault.TheVariants as faults
use Rattle.shard_pool.specs.Unseated.{IsBehindOf, IsDone, IsMade}
use Rattle.link_lines.specs.declared.hearer.Telling.{Telling}
use Rattle.link_lines.specs.declared.lines.Line.{Line}
use Rattle.link_lines.specs.declared.lines.Line.TheVariants as lines
use Rattle.link_pool_port.specs.Others.{of_others}
use Rattle.link_pool_port.specs.Parts.{IsLarge, IsSmall, TellsPart, shorter}
use Rattle.node_links.specs.Asks.{Ask, Answer, status, heard, merge, permdown, top, told_from, full}
use Rattle.node_links.specs.declared.port.ActFault.{ActFault}
use Rattle.node_links.specs.declared.port.ActFault.TheVariants as acts

-- what a link is told of a refusal
abbrev pub act_fault : ShardFault → ActFault
act_fault faults.OutOfMemory = acts.OutOfMemory
act_fault fault = acts.ShardFull

-- what it is told of a reply
abbrev pub told_of : {A : Type 0} → Result A ShardFault → Result A ActFault
told_of (Ok value) = Ok value
told_of (Err fault) = Err (act_fault fault)

-- there is no such shard, and the question is refused
pub record HasNoShard {A : Type 0} (shards shard : ℕ) (answer : Result A ActFault) : Type 0 where
  pub none : shard < shards → ⊥
  pub refused : answer ≡ Err acts.ShardFull

-- The pool made its call of this step at a shard: some legal history of it stands behind the reply, of which the answer
-- tells. `Here` tells which histories are those of the shard.
pub record Made (Here : History → Type 0) (step : Step) (answer : Result (Unit {0}) ActFault) : Type 0 where
  pub reply : Result (Unit {0}) ShardFault
  pub behind : IsBehindOf Here (λ h. IsMade h step reply)
  pub told : answer ≡ told_of reply

-- The same of any call without a seat, and of what it gives. `there` tells whether its subscriber is there.
pub record Called {A : Type 0} (Here : History → Type 0) (there : History → Bool) (Gives : History → A → Type 0)
    (step : Step) (answer : Result A ActFault) : Type 0 where
  pub reply : Result A ShardFault
  pub behind : IsBehindOf Here (λ h. IsDone there Gives h step reply)
  pub told : answer ≡ told_of reply

-- what is read without a step, of some legal history of the shard
abbrev pub Reads : {A : Type 0} → (History → Type 0) → (History → A → Type 0) → Result A ActFault → Type 0
Reads Here Is (Ok value) = IsBehindOf Here (λ h. Is h value)
Reads Here Is (Err fault) = ⊥

-- what the shard tells from a count on, or all that it knows, in the form, where a line takes it, unless there is no memory
abbrev pub Tells : (History → Type 0) → Form → Option ℕ → Result (Option ToldValue) ActFault → Type 0
Tells Here form from (Ok told) = IsBehindOf Here (λ h. WhereItFits form (TellsFrom form h from) told)
Tells Here form from (Err fault) = fault ≡ acts.OutOfMemory

-- in the second form, where the whole that a shard tells from a count on has no short line: it, or a part, whichever is shorter
pub record InParts (Here : History → Type 0) (shard from : ℕ) (told : Option ToldValue) : Type 0 where
  pub whole : Option ToldValue
  pub tells : IsBehindOf Here (λ h. WhereItFits Two (TellsFrom Two h (Some from)) whole)
  pub large : IsLarge shard whole
  pub part : Option ToldValue
  pub parts : IsBehindOf Here (λ h. TellsPart shard h from part)
  pub is : told ≡ shorter shard whole part

-- what is told from a count on: whole, in the second form on a short line, or in that form in parts
abbrev pub TellsSince : (History → Type 0) → ℕ → Form → ℕ → Result (Option ToldValue) ActFault → Type 0
TellsSince Here shard form from (Ok told) =
    (Tells Here form (Some from) (Ok told) × IsSmall shard form told) ⊎ ((form ≡ Two) × InParts Here shard from told)
TellsSince Here shard form from (Err fault) = fault ≡ acts.OutOfMemory

-- what is told is merged as far as it is of other nodes; where there is no memory to tell that apart nothing is
abbrev pub Merges : (History → Type 0) → Option Replica → ToldValue → Result (Unit {0}) ActFault → Type 0
Merges Here own t a = (a ≡ Err acts.OutOfMemory) ⊎ Made Here (steps_are.Merge (of_others own t)) a

-- what is answered at a shard that is there, of a node of which this is a life; `here` tells which histories are those of a shard's
-- number
abbrev pub Asked : (ℕ → History → Type 0) → Option Replica → (q : Ask) → Answer q → Type 0
Asked here own (status s r) a = Reads (here s) (λ h x. x ≡ status_in h r) a
Asked here own (heard s r now) a = Made (here s) (steps_are.Heard r now) a
Asked here own (merge s t) a = Merges (here s) own t a
Asked here own (permdown s r) a = Made (here s) (steps_are.PermDown r) a
Asked here own (top s r) a = Reads (here s) (λ h n. IsTop h r n) a
Asked here own (told_from s from form) a = TellsSince (here s) s form from a
Asked here own (full s form) a = Tells (here s) form None a

abbrev pub shard_in : Ask → ℕ
shard_in (status s r) = s
shard_in (heard s r now) = s
shard_in (merge s t) = s
shard_in (permdown s r) = s
shard_in (top s r) = s
shard_in (told_from s from form) = s
shard_in (full s form) = s

-- this was asked of the pool and this answered
abbrev pub LinkStep : (ℕ → History → Type 0) → Option Replica → ℕ → (q : Ask) → Answer q → Type 0
LinkStep here own shards q a = HasNoShard shards (shard_in q) a ⊎ Asked here own q a

-- a range, or a dot, of this replica that goes above a count
abbrev pub range_above : Replica → ℕ → Replica × ℕ × ℕ → Bool
range_above r n g = same_replica g.0 r && nat_lt n g.2

abbrev pub dot_above : Replica → ℕ → Dot → Bool
dot_above r n d = same_replica d.replica r && nat_lt n d.count

abbrev pub ranges_above : Replica → ℕ → List (Replica × ℕ × ℕ) → Bool
ranges_above r n gs = list_any (range_above r n) gs

abbrev pub dots_above : Replica → ℕ → List Dot → Bool
dots_above r n ds = list_any (dot_above r n) ds

-- counts of this replica above a count are told
abbrev pub tells_above : Replica → ℕ → ToldValue → Bool
tells_above r n t = ranges_above r n t.ranges || dots_above r n t.extras

-- ---- a beat

-- what a cut tells, in the form: nothing where there are no new counts
abbrev pub news_of : Form → DeltaValue → Option Telling
news_of form d = cond (d.from == d.to) None (Some (record { form = form; told = telling_in form d }))

-- the beat of a cut: it has the count up to which the cut goes
abbrev pub beat_line : Form → ℕ → DeltaValue → Line
beat_line form shard d = lines.Beat shard d.owner d.to (news_of form d)
