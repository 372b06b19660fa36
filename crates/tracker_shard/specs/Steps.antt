-- What a call of a shard answers and leaves.
use Rattle.std.specs.Prelude.{◌≡◌, ℕ, ◌+◌, Bool, true, cond, ◌&&◌, nat_eq, nat_lt, nat_le, ◌^◌, List, [], ◌∷◌, Option, Some, None, is_some, Result, Ok, Err, Vec}
use Rattle.presence_base.specs.declared.dots.Dot.{Dot}
use Rattle.presence_base.specs.declared.row.Row.{Row}
use Rattle.presence_journal.specs.declared.entry.Outcome.TheVariants as outcomes_are
use Rattle.presence_journal.specs.declared.step.Step.{Step}
use Rattle.presence_journal.specs.declared.entry.Outcome.{Outcome}
use Rattle.presence_journal.specs.declared.step.Step.TheVariants as steps_are
use Rattle.presence_journal.specs.declared.rows.Item.{Item}
use Rattle.presence_journal.specs.declared.entry.Entry.{Entry}
use Rattle.presence_journal.specs.Laws.{LosesNoRow}
use Rattle.presence_journal.specs.History.{History, Then, is_full, count, next_dot, last_number}
use Rattle.presence_journal.specs.Present.{listed, dots_of}
use Rattle.presence_journal.specs.Table.{outcome_of, accepted, after, listed_key, rows_of_key, rows_of_pid}
use Rattle.presence_journal.specs.Queue.{topic_of, items_given}
use Rattle.tracker_shard.specs.declared.shard.Sub.{Sub}
use Rattle.tracker_shard.specs.declared.fault.ShardFault.{ShardFault}
use Rattle.tracker_shard.specs.declared.fault.ShardFault.TheVariants.{AlreadyTracked, NoPresence, ClockFull, JournalFull, NoSub, BadIncarnation, OutOfMemory}

-- the step was made: the journal has one entry more, with its outcome and seat
pub record Made (old new : History) (seat : Option ℕ) (step : Step) : Type 0 where
  pub accepted : is_some (accepted old step) ≡ true
  pub journal : new ≡ after old step seat

-- accepted calls, and those that the table itself refuses, are steps; any other refusal changes nothing
abbrev pub Stepped : {A : Type 0} → History → History → Option ℕ → Step → Result A ShardFault → Type 0
Stepped old new seat step (Ok x) = Made old new seat step
Stepped old new seat step (Err AlreadyTracked) = Made old new seat step
Stepped old new seat step (Err NoPresence) = Made old new seat step
Stepped old new seat step (Err ClockFull) = new ≡ old
Stepped old new seat step (Err JournalFull) = new ≡ old
Stepped old new seat step (Err NoSub) = new ≡ old
Stepped old new seat step (Err BadIncarnation) = new ≡ old
Stepped old new seat step (Err OutOfMemory) = new ≡ old

-- what is answered is the table's outcome, as `Gives` ties them where the call is accepted
abbrev pub Answers : {A : Type 0} → (A → Type 0) → Option Outcome → Result A ShardFault → Type 0
Answers Gives o (Ok x) = Gives x
Answers Gives o (Err AlreadyTracked) = o ≡ Some outcomes_are.AlreadyTracked
Answers Gives o (Err NoPresence) = o ≡ Some outcomes_are.NoPresence
Answers Gives o (Err ClockFull) = Unit {0}
Answers Gives o (Err JournalFull) = Unit {0}
Answers Gives o (Err NoSub) = Unit {0}
Answers Gives o (Err BadIncarnation) = Unit {0}
Answers Gives o (Err OutOfMemory) = Unit {0}

-- why the table refuses a step whose subscriber is there: the incarnation is none to go on under; or a count is needed, and
-- none is left
abbrev pub cause : Step → ShardFault
cause (steps_are.Rebirth incarnation) = BadIncarnation
cause _ = ClockFull

-- The refusal that stands against a step, in the order in which they are tried. `found` tells whether its subscriber is there.
abbrev pub refusal : Bool → History → Step → Option ShardFault
refusal found h s =
    cond found (cond (is_full h) (Some JournalFull) (cond (is_some (outcome_of h s)) None (Some (cause s))))
    (Some NoSub)

-- want of memory may come in place of any answer but these two
abbrev pub MayRunOut : Option ShardFault → Type 0
MayRunOut (Some NoSub) = ⊥
MayRunOut (Some JournalFull) = ⊥
MayRunOut _ = Unit {0}

-- each refusal is given where it is the one that stands
abbrev pub IsDue : {A : Type 0} → Result A ShardFault → Option ShardFault → Type 0
IsDue (Ok x) r = r ≡ None
IsDue (Err AlreadyTracked) r = r ≡ None
IsDue (Err NoPresence) r = r ≡ None
IsDue (Err ClockFull) r = r ≡ Some ClockFull
IsDue (Err JournalFull) r = r ≡ Some JournalFull
IsDue (Err NoSub) r = r ≡ Some NoSub
IsDue (Err BadIncarnation) r = r ≡ Some BadIncarnation
IsDue (Err OutOfMemory) r = MayRunOut r

-- refused at most for want of room: the journal is full, or memory is wanting
abbrev pub RefusesForRoom : {A : Type 0} → Result A ShardFault → Type 0
RefusesForRoom (Ok x) = Unit {0}
RefusesForRoom (Err AlreadyTracked) = ⊥
RefusesForRoom (Err NoPresence) = ⊥
RefusesForRoom (Err ClockFull) = ⊥
RefusesForRoom (Err JournalFull) = Unit {0}
RefusesForRoom (Err NoSub) = ⊥
RefusesForRoom (Err BadIncarnation) = ⊥
RefusesForRoom (Err OutOfMemory) = Unit {0}

-- What each call answers where it is accepted.

-- a subscriber is found at this slot
abbrev pub slot_of : ℕ → ℕ
slot_of number = 0

-- the dot that an outcome names as new
abbrev pub new_dot : Option Outcome → Option Dot
new_dot (Some (outcomes_are.Added d)) = Some d
new_dot (Some (outcomes_are.Replaced d old)) = Some d
new_dot _ = None

abbrev pub AnswersDot : History → Step → Result Dot ShardFault → Type 0
AnswersDot h s r = Answers (λ d. new_dot (outcome_of h s) ≡ Some d) (outcome_of h s) r

abbrev pub AnswersRowsOfKey : {A : Type 0} → History → ℕ → List ℕ → List ℕ → Result (Vec Dot A) ShardFault → Type 0
AnswersRowsOfKey h pid t key r =
    Answers (λ dots. dots.items ≡ dots_of (rows_of_key h pid t key)) (outcome_of h (steps_are.Untrack pid t key)) r

abbrev pub AnswersRowsOfPid : {A : Type 0} → History → ℕ → List ℕ → Result (Vec Dot A) ShardFault → Type 0
AnswersRowsOfPid h pid t r =
    Answers (λ dots. dots.items ≡ dots_of (rows_of_pid h pid t)) (outcome_of h (steps_are.UntrackAll pid t)) r

abbrev pub AnswersListed : History → List ℕ → Result (List (Dot × Row)) ShardFault → Type 0
AnswersListed h t r = Answers (λ rows. rows ≡ listed h t) (outcome_of h (steps_are.List t)) r

abbrev pub AnswersListedKey : {A : Type 0} → History → List ℕ → List ℕ → Result (Vec (Dot × Row) A) ShardFault → Type 0
AnswersListedKey h t key r = Answers (λ rows. rows.items ≡ listed_key h t key) (outcome_of h (steps_are.Get t key)) r

abbrev pub AnswersItems : {A : Type 0} → History → ℕ → ℕ → Result (Vec Item A) ShardFault → Type 0
AnswersItems h n max r = Answers (λ items. items.items ≡ items_given h n max) (outcome_of h (steps_are.Take n max)) r

abbrev pub AnswersSub : History → List ℕ → Result Sub ShardFault → Type 0
AnswersSub h t r = Answers (λ sub. (sub.number ≡ last_number h + 1) × (sub.slot ≡ slot_of sub.number))
    (outcome_of h (steps_are.Subscribe t)) r

-- the new dots, each with its old one
abbrev pub AnswersPairs : History → ℕ → Result (List (Dot × Dot)) ShardFault → Type 0
AnswersPairs h i r =
    Answers (λ pairs. outcome_of h (steps_are.Rebirth i) ≡ Some (outcomes_are.Reborn pairs))
    (outcome_of h (steps_are.Rebirth i)) r

-- no row is lost with the last entry, which is a rebirth of these pairs of a new and an old dot
pub record KeepsRows (old new : History) (pairs : List (Dot × Dot)) : Type 0 where
  pub entry : Entry
  pub last : new ≡ Then old entry
  pub rows : LosesNoRow old entry pairs

abbrev pub is_found : History → ℕ → ℕ → Bool
is_found h slot number = is_some (topic_of h number) && nat_eq slot (slot_of number)

-- the refusal of a call that names a subscriber
abbrev pub refusal_at : ℕ → ℕ → History → Step → Option ShardFault
refusal_at slot number h s = refusal (is_found h slot number) h s

-- the topic of a subscriber that is found
abbrev pub found_topic : History → ℕ → ℕ → Option (List ℕ)
found_topic h slot number = cond (nat_eq slot (slot_of number)) (topic_of h number) None

-- the dot of the first row
abbrev pub first_dot : List (Dot × Row) → Option Dot
first_dot [] = None
first_dot (x ∷ xs) = Some x.0

-- the dot of the next count, where one is left
abbrev pub next_counted : History → Option Dot
next_counted h = cond (nat_lt (count h) (2 ^ 62)) (Some (next_dot h)) None

-- the refusal that stands against a checkpoint: its Start needs a number
abbrev pub checkpoint_refusal : History → Option ShardFault
checkpoint_refusal h = cond (nat_le (2 ^ 62) (last_number h)) (Some JournalFull) None
