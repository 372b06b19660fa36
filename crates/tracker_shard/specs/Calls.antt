-- What a call comes to before its step is made.
use Rattle.std.specs.Prelude.{◌≡◌, ℕ, Bool, true, false, Option, Some, None, is_some, Result, Ok, Err}
use Rattle.presence_journal.specs.declared.step.Step.{Step}
use Rattle.presence_journal.specs.declared.step.Step.TheVariants as steps_are
use Rattle.presence_journal.specs.declared.entry.Outcome.{Outcome}
use Rattle.presence_journal.specs.declared.entry.Outcome.TheVariants as outcomes_are
use Rattle.presence_journal.specs.History.{History, is_full}
use Rattle.presence_journal.specs.StepLimits.{is_within_limits}
use Rattle.presence_journal.specs.Table.{outcome_of}
use Rattle.tracker_shard.specs.declared.call.Found.{Found}
use Rattle.tracker_shard.specs.declared.shard.Sub.{Sub}
use Rattle.tracker_shard.specs.declared.fault.ShardFault.{ShardFault}
use Rattle.tracker_shard.specs.declared.fault.ShardFault.TheVariants.{AlreadyTracked, NoPresence, ClockFull, JournalFull, NoSub, BadIncarnation, OutOfMemory}
use Rattle.tracker_shard.specs.Steps.{cause, refusal, is_found, MayRunOut}

-- the answer that is given once the step is made, as `Gives` ties it to the table where the call is accepted
abbrev pub AnswersMade : {A : Type 0} → (A → Type 0) → Outcome → Result A ShardFault → Type 0
AnswersMade Gives o (Ok x) = Gives x
AnswersMade Gives o (Err AlreadyTracked) = o ≡ outcomes_are.AlreadyTracked
AnswersMade Gives o (Err NoPresence) = o ≡ outcomes_are.NoPresence
AnswersMade Gives o (Err ClockFull) = ⊥
AnswersMade Gives o (Err JournalFull) = ⊥
AnswersMade Gives o (Err NoSub) = ⊥
AnswersMade Gives o (Err BadIncarnation) = ⊥
AnswersMade Gives o (Err OutOfMemory) = ⊥

-- the step within limits, the outcome that the table has for it, and its answer
pub record IsFound {A : Type 0} (Gives : A → Type 0) (h : History) (s : Step) (f : Found A) : Type 0 where
  pub step : f.step ≡ s
  pub limits : is_within_limits f.step ≡ true
  pub table : outcome_of h s ≡ Some f.outcome
  pub answer : AnswersMade Gives f.outcome f.answer

-- what a call comes to; or the table refuses its step by no entry, or memory is wanting
abbrev pub Finds : {A : Type 0} → (A → Type 0) → History → Step → Result (Found A) ShardFault → Type 0
Finds Gives h s (Ok f) = IsFound Gives h s f
Finds Gives h s (Err AlreadyTracked) = ⊥
Finds Gives h s (Err NoPresence) = ⊥
Finds Gives h s (Err ClockFull) = (outcome_of h s ≡ None) × (cause s ≡ ClockFull)
Finds Gives h s (Err JournalFull) = ⊥
Finds Gives h s (Err NoSub) = ⊥
Finds Gives h s (Err BadIncarnation) = (outcome_of h s ≡ None) × (cause s ≡ BadIncarnation)
Finds Gives h s (Err OutOfMemory) = Unit {0}

-- what a call comes to that no refusal of the shard's stands against
pub record IsAdmitted {A : Type 0} (Gives : A → Type 0) (found : Bool) (h : History) (s : Step) (f : Found A) : Type 0 where
  pub there : found ≡ true
  pub room : is_full h ≡ false
  pub is : IsFound Gives h s f

-- the same, or each refusal is given where it is the one that stands; none of them makes an entry
abbrev pub Looks : {A : Type 0} → (A → Type 0) → Bool → History → Step → Result (Found A) ShardFault → Type 0
Looks Gives found h s (Ok f) = IsAdmitted Gives found h s f
Looks Gives found h s (Err AlreadyTracked) = ⊥
Looks Gives found h s (Err NoPresence) = ⊥
Looks Gives found h s (Err ClockFull) = refusal found h s ≡ Some ClockFull
Looks Gives found h s (Err JournalFull) = refusal found h s ≡ Some JournalFull
Looks Gives found h s (Err NoSub) = refusal found h s ≡ Some NoSub
Looks Gives found h s (Err BadIncarnation) = refusal found h s ≡ Some BadIncarnation
Looks Gives found h s (Err OutOfMemory) = MayRunOut (refusal found h s)

-- a call that names no subscriber
abbrev pub always : History → Bool
always h = true

-- one that names this subscriber
abbrev pub finds : Sub → History → Bool
finds sub h = is_found h sub.slot sub.number

-- a step that a caller asks for; the others are other nodes', or of time and of what is told
abbrev pub is_callers : Step → Bool
is_callers (steps_are.Heard r now) = false
is_callers (steps_are.Tick now) = false
is_callers (steps_are.PermDown r) = false
is_callers steps_are.Cut = false
is_callers (steps_are.Merge t) = false
is_callers (steps_are.Rebirth i) = false
is_callers _ = true

-- a seat makes callers' steps alone
abbrev pub MayMake : Option ℕ → Step → Type 0
MayMake seat step = is_some seat ≡ true → is_callers step ≡ true
