-- How what is kept is tied to a journal's history.
use Rattle.std.specs.Prelude.{◌≡◌, Bool, true, false}
use Rattle.presence_journal.specs.declared.step.Step.TheVariants as steps_are
use Rattle.presence_journal.specs.declared.step.Step.{Step}
use Rattle.presence_journal.specs.declared.entry.Entry.{Entry}
use Rattle.presence_base.specs.declared.dots.Replica.{Replica}
use Rattle.presence_journal.specs.History.{History, Begin, Then, own, own_after}
use Rattle.presence_journal.specs.Table.{IsLegal, IsKept}
use Rattle.tracker_shown.specs.declared.turn.Turn.{Turn}
use Rattle.tracker_shown.specs.Turns.{IsTurn}
use Rattle.presence_journal.specs.Walk.{is_reborn}
use Rattle.tracker_known.specs.declared.known.Known.{Known}
use Rattle.tracker_known.specs.Known.{IsKnownOf}
use Rattle.tracker_shown.specs.Kept.{IsShownOf, IsBetween}
use Rattle.tracker_feeds.specs.Fed.{Fed, IsFedBy}
use Rattle.presence_journal_cuts.specs.declared.untold.Untold.{Untold}
use Rattle.presence_journal_cuts.specs.Untold.{IsUntoldOf}
use Rattle.tracker_index.specs.declared.parts.Parts.{Parts}
use Rattle.tracker_index.specs.declared.parts.Stage.{Stage}
use Rattle.tracker_index.specs.declared.parts.Stage.TheVariants.{Done, Begun, Delivered, Learned}

-- all that is kept is of the history
pub record IsKeptOf (h : History) (p : Parts) : Type 0 where
  pub known : IsKnownOf h p.known
  pub shown : IsShownOf h p.shown
  pub feeds : IsFedBy h p.feeds
  pub untold : IsUntoldOf h p.untold

-- each place that is shown is as before or as after the entry, and all else as before it
pub record IsBegun (h : History) (e : Entry) (p : Parts) : Type 0 where
  pub known : IsKnownOf h p.known
  pub shown : IsBetween h e p.shown
  pub feeds : IsFedBy h p.feeds
  pub untold : IsUntoldOf h p.untold

-- what is shown and what waits is as after the entry, and all else as before it
pub record IsDelivered (h : History) (e : Entry) (p : Parts) : Type 0 where
  pub known : IsKnownOf h p.known
  pub shown : IsShownOf (Then h e) p.shown
  pub feeds : IsFedBy (Then h e) p.feeds
  pub untold : IsUntoldOf h p.untold

-- all but what is untold is as after the entry
pub record IsLearned (h : History) (e : Entry) (p : Parts) : Type 0 where
  pub known : IsKnownOf (Then h e) p.known
  pub shown : IsShownOf (Then h e) p.shown
  pub feeds : IsFedBy (Then h e) p.feeds
  pub untold : IsUntoldOf h p.untold

-- what is kept is at a stage of the history's last entry
abbrev pub IsAt : Stage → History → Parts → Type 0
IsAt Done h p = IsKeptOf h p
IsAt Begun (Begin s) p = ⊥
IsAt Begun (Then h e) p = IsBegun h e p
IsAt Delivered (Begin s) p = ⊥
IsAt Delivered (Then h e) p = IsDelivered h e p
IsAt Learned (Begin s) p = ⊥
IsAt Learned (Then h e) p = IsLearned h e p

abbrev pub is_done : Stage → Bool
is_done Done = true
is_done Begun = false
is_done Delivered = false
is_done Learned = false

pub record IsSound (h : History) (p : Parts) : Type 0 where
  pub kept : IsKept h
  pub parts : IsAt p.stage h p

-- the entry is the last one of a legal history, of which this is kept
pub record CanGoOn (p : Parts) (e : Entry) : Type 0 where
  pub before : History
  pub legal : IsLegal (Then before e)
  pub at : IsAt p.stage (Then before e) p

-- q is at some stage of each legal history whose last entry this is, where p is
abbrev pub GoesOn : Entry → Parts → Parts → Type 0
GoesOn e p q = (h : History) → IsLegal (Then h e) → IsAt p.stage (Then h e) p → IsAt q.stage (Then h e) q

-- the entry can follow a legal history that these feeds are of
pub record CanFeed (f : Fed) (e : Entry) : Type 0 where
  pub before : History
  pub legal : IsLegal (Then before e)
  pub fed : IsFedBy before f

-- the own replica after the entry, where k is known before it
abbrev pub OwnAfter : Known → Entry → Replica → Type 0
OwnAfter k e o = (h : History) → IsKnownOf h k → o ≡ own_after e.step (own h)

-- what is untold after a rebirth, where k is known after it
abbrev pub IsUntoldAgain : Known → Untold → Type 0
IsUntoldAgain k u = (h : History) (e : Entry) → IsLegal (Then h e) → is_reborn e.outcome ≡ true → IsKnownOf (Then h e) k
    → IsUntoldOf (Then h e) u

-- the feeds after an entry of this turn
abbrev pub FeedsFollow : Entry → Turn → Fed → Fed → Type 0
FeedsFollow e turn f g =
    (h : History) → IsLegal (Then h e) → IsTurn h e turn → IsFedBy h f → IsFedBy (Then h e) g

-- the step may change rows, counts, other replicas, or what is untold; any other reaches no more than what waits
abbrev pub changes_rows : Step → Bool
changes_rows (steps_are.List topic) = false
changes_rows (steps_are.Get topic key) = false
changes_rows (steps_are.Subscribe topic) = false
changes_rows (steps_are.Take n max) = false
changes_rows (steps_are.Unsubscribe n) = false
changes_rows (steps_are.Shout topic payload) = false
changes_rows _ = true
