-- Histories that say the same, and entries behind which they go on saying it.
use Rattle.std.specs.Prelude.{◌≡◌, ◌<◌, ◌↔◌, ℕ, Bool, true, false, not, List, map, Option, Some}
use Rattle.std.specs.List.{filter}
use Rattle.presence_base.specs.declared.dots.Replica.{Replica}
use Rattle.presence_base.specs.declared.dots.Dot.{Dot}
use Rattle.presence_base.specs.declared.row.Row.{Row}
use Rattle.presence_base.specs.Order.{same_replica}
use Rattle.orswot_core.specs.declared.form.Form.{Form}
use Rattle.orswot_core.specs.Telling.{ToldValue}
use Rattle.delta_range.specs.Deltas.{DeltaValue}
use Rattle.delta_range.specs.Keeping.{Kept}
use Rattle.presence_journal.specs.declared.step.Step.TheVariants as steps_are
use Rattle.presence_journal.specs.declared.step.Step.{Step}
use Rattle.presence_journal.specs.declared.entry.Outcome.{Outcome}
use Rattle.presence_journal.specs.declared.entry.Entry.{Entry}
use Rattle.presence_journal.specs.declared.entry.Start.{Start}
use Rattle.presence_journal.specs.History.{History, Begin, onto, own, count, time, standing, status, hears, last_cut, is_full, covered, IsTop, shown}
use Rattle.presence_journal.specs.Present.{present, listed}
use Rattle.presence_journal.specs.Queue.{topic_of, items_given, IsQuiet, QueuesStay}
use Rattle.presence_journal.specs.Table.{IsLegal, is_step, outcome_of, after}
use Rattle.presence_journal_known.specs.Full.{IsFullOf}
use Rattle.presence_journal_cuts.specs.Chains.{Counts}
use Rattle.presence_journal_cuts.specs.Cuts.{chain, older, IsCut}
use Rattle.presence_journal_cuts.specs.KeptDeltas.{AreKeptOf, IsToldFrom}
use Rattle.presence_journal_cuts.specs.Checkpoints.{kept_row, IsCheckpoint, CountsCurrent}

-- They say the same of all that the answers to later steps depend on, but for numbers and subscribers.
pub record IsLike (g h : History) : Type 0 where
  pub standings : (r : Replica) → same_replica r (own h) ≡ false → standing g r ≡ standing h r
  pub covers : (d : Dot) → covered g d ≡ covered h d
  pub rows : (d : Dot) → kept_row g d ≡ kept_row h d
  pub older : Counts (older g) (older h)
  pub chains : (d : Dot) (r : Row) → d.replica ≡ own h → shown h d ≡ Some r → chain g d.count ≡ chain h d.count
  pub unused : (c : ℕ) → count h < c → chain g c ≡ chain h c
  pub deltas : (k : Kept) → AreKeptOf g k ↔ AreKeptOf h k
  pub time : time g ≡ time h
  pub last_cut : last_cut g ≡ last_cut h
  pub own : own g ≡ own h
  pub count : count g ≡ count h

-- what is asked of each, and what is told to others
pub record TellTheSame (g h : History) : Type 0 where
  pub status : (r : Replica) → status g r ≡ status h r
  pub hears : (r : Replica) → hears g r ≡ hears h r
  pub covered : (d : Dot) → covered g d ≡ covered h d
  pub top : (r : Replica) (n : ℕ) → IsTop h r n ↔ IsTop g r n
  pub shown : (d : Dot) → shown g d ≡ shown h d
  pub present : (t : List ℕ) → present g t ≡ present h t
  pub listed : (t : List ℕ) → listed g t ≡ listed h t
  pub full : (form : Form) (t : ToldValue) → IsFullOf form h t ↔ IsFullOf form g t
  pub cut : (c : DeltaValue) → IsCut h c ↔ IsCut g c
  pub told_from : (form : Form) (n : ℕ) (t : ToldValue) → IsToldFrom form h n t ↔ IsToldFrom form g n t

abbrev pub AlikeTellTheSame : Type 0
AlikeTellTheSame = (g h : History) → IsLike g h → TellTheSame g h

-- a checkpoint says what the history says
abbrev pub BeginsAlike : Type 0
BeginsAlike = (h : History) (s : Start) → IsCheckpoint h s → IsLike (Begin s) h

-- the steps of subscribers, which change no row
abbrev pub is_of_subscribers : Step → Bool
is_of_subscribers (steps_are.Subscribe topic) = true
is_of_subscribers (steps_are.Take n max) = true
is_of_subscribers (steps_are.Unsubscribe n) = true
is_of_subscribers _ = false

-- every other step has the same outcome
abbrev pub SameOutcomes : Type 0
SameOutcomes = (g h : History) → IsLike g h → (s : Step) → is_of_subscribers s ≡ false → outcome_of g s ≡ outcome_of h s

-- what was asked and answered in these entries, but for those of subscribers, whatever the numbers and seats
abbrev pub answers : List Entry → List (Step × Outcome)
answers es = map (λ e. (e.step, e.outcome)) (filter (λ e. not (is_of_subscribers e.step)) es)

-- behind the same answers, a checkpoint and the history that it stands for still say the same
abbrev pub StaysAlike : Type 0
StaysAlike = (h : History) (s : Start) (es fs : List Entry) → IsCheckpoint h s → IsLegal (onto (Begin s) es)
    → IsLegal (onto h fs) → answers es ≡ answers fs → IsLike (onto (Begin s) es) (onto h fs)

abbrev pub GoOnTellingTheSame : Type 0
GoOnTellingTheSame = (h : History) (s : Start) (es fs : List Entry) → IsCheckpoint h s → IsLegal (onto (Begin s) es)
    → IsLegal (onto h fs) → answers es ≡ answers fs → TellTheSame (onto (Begin s) es) (onto h fs)

-- a step that both have room for leaves both alike
abbrev pub StepsLeaveAlike : Type 0
StepsLeaveAlike = (g h : History) → IsLike g h → IsLegal g → IsLegal h → is_full g ≡ false → is_full h ≡ false
    → (s : Step) → is_step s ≡ true → (x y : Option ℕ) → IsLike (after g s x) (after h s y)

-- Subscribers.

-- the same are present on the same topics, and the same waits for each
pub record WaitAlike (g h : History) : Type 0 where
  pub topics : (n : ℕ) → topic_of g n ≡ topic_of h n
  pub queues : QueuesStay h g

-- where no item waits, a checkpoint that counts as current each for whom nothing waits leaves it so
abbrev pub BeginsWaitingAlike : Type 0
BeginsWaitingAlike = (h : History) (s : Start) → IsCheckpoint h s → IsQuiet h → CountsCurrent h s → WaitAlike (Begin s) h

-- a take gives the same, and has the same outcome
abbrev pub TakesAlike : Type 0
TakesAlike = (g h : History) → IsLike g h → WaitAlike g h → (n max : ℕ)
    → ((t : List ℕ) → topic_of h n ≡ Some t → items_given g n max ≡ items_given h n max)
    × (outcome_of g (steps_are.Take n max) ≡ outcome_of h (steps_are.Take n max))

abbrev pub is_subscribe : Step → Bool
is_subscribe (steps_are.Subscribe topic) = true
is_subscribe _ = false

-- a step that both have room for leaves that so; a new subscriber alone has another number here than there
abbrev pub StepsWaitAlike : Type 0
StepsWaitAlike = (g h : History) → IsLike g h → WaitAlike g h → IsLegal g → IsLegal h → is_full g ≡ false
    → is_full h ≡ false → (s : Step) → is_step s ≡ true → is_subscribe s ≡ false → (x y : Option ℕ)
    → WaitAlike (after g s x) (after h s y)
