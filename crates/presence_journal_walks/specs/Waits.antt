-- What waits for a subscriber, counted entry by entry.
use Rattle.std.specs.Prelude.{ℕ, ◌+◌, ◌-◌, Bool, true, false, cond, ◌&&◌, nat_eq, nat_lt, List, ◌∷◌, length, Option, Some, None}
use Rattle.presence_base.specs.Order.{same_text}
use Rattle.presence_journal.specs.declared.step.Step.TheVariants as steps_are
use Rattle.presence_journal.specs.declared.entry.Outcome.TheVariants as outcomes_are
use Rattle.presence_journal_walks.specs.declared.waits.Tally.{Tally}
use Rattle.presence_journal_walks.specs.declared.waits.Tally.TheVariants as tallies_are
use Rattle.presence_journal.specs.declared.step.Step.{Step}
use Rattle.presence_journal.specs.declared.entry.Outcome.{Outcome}
use Rattle.presence_journal.specs.declared.entry.Entry.{Entry}
use Rattle.presence_journal.specs.History.{History}
use Rattle.presence_journal.specs.Queue.{Waiting, Behind, Queued, most_waiting}
use Rattle.presence_journal.specs.Laws.{is_callers}
use Rattle.presence_journal.specs.Walk.{is_reborn}
use Rattle.presence_journal_walks.specs.Changes.{changes_on, goes_on}

-- the step is of the own replica alone, and may change rows of the topic or shouts on it
abbrev pub is_on : Step → List ℕ → Bool
is_on (steps_are.Track pid topic key meta) t = same_text topic t
is_on (steps_are.Update pid topic key meta) t = same_text topic t
is_on (steps_are.Untrack pid topic key) t = same_text topic t
is_on (steps_are.UntrackAll pid topic) t = same_text topic t
is_on (steps_are.Shout topic payload) t = same_text topic t
is_on _ t = false

-- the outcome changes rows or sends a shout
abbrev pub is_news : Outcome → Bool
is_news (outcomes_are.Added d) = true
is_news (outcomes_are.Replaced d old) = true
is_news (outcomes_are.Removed (d ∷ ds)) = true
is_news outcomes_are.Sent = true
is_news _ = false

-- an entry between these two histories makes an item for the subscribers of the topic
abbrev pub makes_on : History → History → Entry → List ℕ → Bool
makes_on g h e t = cond (is_callers e.step) (is_news e.outcome && is_on e.step t)
    (cond (is_reborn e.outcome) (goes_on g t e.outcome) (changes_on g h t))

abbrev pub makes_one : History → History → Entry → Option (List ℕ) → Bool
makes_one g h e None = false
makes_one g h e (Some t) = makes_on g h e t

abbrev pub tally_of : Waiting → Tally
tally_of Behind = tallies_are.Behind
tally_of (Queued q) = tallies_are.Items (length q)

abbrev pub tally_pushed : Bool → Tally → Tally
tally_pushed b tallies_are.Behind = tallies_are.Behind
tally_pushed b (tallies_are.Items n) =
    cond b (cond (nat_lt n most_waiting) (tallies_are.Items (n + 1)) tallies_are.Behind) (tallies_are.Items n)

abbrev pub tally_left : ℕ → Tally → Tally
tally_left max tallies_are.Behind = tallies_are.Items 0
tally_left max (tallies_are.Items n) = tallies_are.Items (n - max)

abbrev pub tally_after : Step → ℕ → ℕ → Bool → Tally → Tally
tally_after (steps_are.Subscribe topic) number n b w = cond (nat_eq number n) tallies_are.Behind (tally_pushed b w)
tally_after (steps_are.Take m max) number n b w = cond (nat_eq m n) (tally_left max w) (tally_pushed b w)
tally_after _ number n b w = tally_pushed b w

abbrev pub tally_waits : Tally → Bool
tally_waits tallies_are.Behind = true
tally_waits (tallies_are.Items n) = nat_lt 0 n
