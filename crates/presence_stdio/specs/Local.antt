-- A port that is lent one shard: its calls by the words of the shard's own, what the sequential table
-- answers to a question, and what a script comes to over it.
use Rattle.std.specs.Prelude.{◌≡◌, ◌+◌, ℕ, Bool, true, cond, Option, Some, None, Result, Ok, Err}
use Rattle.presence_base.specs.declared.dots.Dot.{Dot}
use Rattle.presence_journal.specs.declared.entry.Outcome.{Outcome}
use Rattle.presence_journal.specs.declared.entry.Outcome.TheVariants as outcomes_are
use Rattle.presence_journal.specs.declared.step.Step.{Step}
use Rattle.presence_journal.specs.declared.step.Step.TheVariants as steps_are
use Rattle.presence_journal.specs.History.{History, last_number, next_dot}
use Rattle.presence_journal.specs.Present.{listed}
use Rattle.presence_journal.specs.Queue.{queue, items_given, is_waiting}
use Rattle.presence_journal.specs.Table.{outcome_of, listed_key, after}
use Rattle.tracker_shard.specs.Steps.{Stepped, Answers, IsDue, refusal, new_dot, slot_of, is_found}
use Rattle.tracker_shard.specs.declared.fault.ShardFault.{ShardFault}
use Rattle.tracker_shard.specs.declared.fault.ShardFault.TheVariants.{AlreadyTracked, NoPresence, NoSub, OutOfMemory}
use Rattle.tracker_shard.specs.declared.shard.Sub.{Sub}
use Rattle.channel_rules.specs.Asks.{Ask, Given, track, update, untrack, untrack_all, list, get, subscribe, take, unsubscribe, waits, shout, Answer}
use Rattle.channel_rules.specs.Script.{Script, done, ask}
use Rattle.channel_rules.specs.Seen.{FromTable}
use Rattle.channel_rules.specs.Shards.{step_of, there_of, gives_of, TellsNow}
use Rattle.channel_rules.specs.declared.refusal.Refusal.{Refusal}
use Rattle.channel_rules.specs.declared.refusal.Refusal.TheVariants.{Table}

-- ---- the calls

-- the step was asked of the shard, without a seat: what it left, what it answered, and that a refusal is the one that stands
pub record Asked {A : Type 0} (found : Bool) (old new : History) (step : Step) (Gives : A → Type 0)
    (answer : Result A ShardFault) : Type 0 where
  pub stepped : Stepped old new None step answer
  pub given : Answers Gives (outcome_of old step) answer
  pub due : IsDue answer (refusal found old step)

-- the outcome names this dot as new
abbrev pub IsNew : History → Step → Dot → Type 0
IsNew h s d = new_dot (outcome_of h s) ≡ Some d

-- the subscriber that an entry here would make
abbrev pub IsNext : History → Sub → Type 0
IsNext h sub = (sub.number ≡ last_number h + 1) × (sub.slot ≡ slot_of sub.number)

-- The step was asked, if there is one, or what the table has was told.
abbrev pub AskedOr : {A : Type 0} → Option Step → Bool → (A → Type 0) → History → History → Result A ShardFault → Type 0
AskedOr (Some step) found Gives old new a = Asked found old new step Gives a
AskedOr None found Gives old new a = (new ≡ old) × TellsNow found Gives a

-- from the one history to the other this was asked by the session of this number, and the table answered this
abbrev pub TableStep : ℕ → History → (q : Ask) → Result (Given q) ShardFault → History → Type 0
TableStep pid old q a new = AskedOr (step_of pid q) (there_of q old) (gives_of pid q old) old new a

-- the same of the port's answer, which is the table's
abbrev pub LocalStep : ℕ → History → (q : Ask) → Answer q → History → Type 0
LocalStep pid old q a new = FromTable (λ r. TableStep pid old q r new) a

-- ---- the table's answers

-- the refusal that stands, or the one that is the step's outcome, or else what is given
abbrev pub answer_to : {A : Type 0} → Option ShardFault → Option Outcome → A → Result A Refusal
answer_to (Some e) o x = Err (Table e)
answer_to None (Some outcomes_are.AlreadyTracked) x = Err (Table AlreadyTracked)
answer_to None (Some outcomes_are.NoPresence) x = Err (Table NoPresence)
answer_to None _ x = Ok x

abbrev pub answer_of : {A : Type 0} → Bool → History → Step → A → Result A Refusal
answer_of found h s x = answer_to (refusal found h s) (outcome_of h s) x

-- a refusal that stands changes nothing
abbrev pub after_unless : Option ShardFault → History → Step → History
after_unless (Some e) h s = h
after_unless None h s = after h s None

abbrev pub after_of : Bool → History → Step → History
after_of found h s = after_unless (refusal found h s) h s

-- whether something waits, of a subscriber that is found
abbrev pub waiting_at : History → Sub → Result Bool Refusal
waiting_at h sub = cond (is_found h sub.slot sub.number) (Ok (is_waiting (queue h sub.number))) (Err (Table NoSub))

-- what the sequential table answers the session of this number here, where memory is ample
unfoldable pub answer_in : ℕ → History → (q : Ask) → Answer q
answer_in pid h (track t k m) = answer_of true h (steps_are.Track pid t k m) (next_dot h)
answer_in pid h (update t k m) = answer_of true h (steps_are.Update pid t k m) (next_dot h)
answer_in pid h (untrack t k) = answer_of true h (steps_are.Untrack pid t k) tt
answer_in pid h (untrack_all t) = answer_of true h (steps_are.UntrackAll pid t) tt
answer_in pid h (list t) = answer_of true h (steps_are.List t) (listed h t)
answer_in pid h (get t k) = answer_of true h (steps_are.Get t k) (listed_key h t k)
answer_in pid h (subscribe t) =
    answer_of true h (steps_are.Subscribe t) (record { slot = slot_of (last_number h + 1); number = last_number h + 1 })
answer_in pid h (take t s n) =
    answer_of (is_found h s.slot s.number) h (steps_are.Take s.number n) (items_given h s.number n)
answer_in pid h (unsubscribe t s) = answer_of (is_found h s.slot s.number) h (steps_are.Unsubscribe s.number) tt
answer_in pid h (waits t s) = waiting_at h s
answer_in pid h (shout t p) = answer_of true h (steps_are.Shout t p) tt

-- the history after a question of that session
unfoldable pub after_in : ℕ → History → Ask → History
after_in pid h (track t k m) = after_of true h (steps_are.Track pid t k m)
after_in pid h (update t k m) = after_of true h (steps_are.Update pid t k m)
after_in pid h (untrack t k) = after_of true h (steps_are.Untrack pid t k)
after_in pid h (untrack_all t) = after_of true h (steps_are.UntrackAll pid t)
after_in pid h (list t) = after_of true h (steps_are.List t)
after_in pid h (get t k) = after_of true h (steps_are.Get t k)
after_in pid h (subscribe t) = after_of true h (steps_are.Subscribe t)
after_in pid h (take t s n) = after_of (is_found h s.slot s.number) h (steps_are.Take s.number n)
after_in pid h (unsubscribe t s) = after_of (is_found h s.slot s.number) h (steps_are.Unsubscribe s.number)
after_in pid h (waits t s) = h
after_in pid h (shout t p) = after_of true h (steps_are.Shout t p)

-- what a script of that session comes to over the table, and the history that it leaves
abbrev pub played : {E : Type 0} → ℕ → Script E → History → E × History
played pid (done e) h = (e, h)
played pid (ask q next) h = played pid (next (answer_in pid h q)) (after_in pid h q)

-- each want of memory leads to this end
abbrev pub Heeds : {E : Type 0} → E → Script E → Type 0
Heeds out (done e) = Unit {0}
Heeds out (ask q next) = (next (Err (Table OutOfMemory)) ≡ done out) × ((a : Answer q) → Heeds out (next a))
