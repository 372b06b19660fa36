-- Two deltas that go on from one another are the joined one, in whatever forms each of them is told.
use Rattle.std.specs.Prelude.{◌≡◌, false, None}
use Rattle.orswot_core.specs.declared.form.Form.{Form}
use Rattle.orswot_core.specs.Sets.{DotRows}
use Rattle.orswot_core.specs.Laws.{TakesIn}
use Rattle.delta_range.specs.Deltas.{DeltaValue, telling_in, IsDelta, GoesOn}
use Rattle.delta_range.specs.Joining.{joined}
use Rattle.presence_journal.specs.declared.step.Step.TheVariants as steps_are
use Rattle.presence_journal.specs.History.{History, is_full}
use Rattle.presence_journal.specs.Table.{after}
use Rattle.presence_journal_laws.specs.Joined.{SayTheSame}

-- a set that takes in the joined delta ends as one that takes in each in turn
abbrev pub FormsTellInTurn : Type 0
FormsTellInTurn = (f g k : Form) (s x y z : DotRows) (a b : DeltaValue) → IsDelta a → IsDelta b → GoesOn a.owner a.to b
    → TakesIn s (telling_in f a) x → TakesIn x (telling_in g b) y → TakesIn s (telling_in k (joined a b)) z → z ≡ y

-- the history once it merged a delta that was told in this form
abbrev pub merged_in : Form → History → DeltaValue → History
merged_in form h d = after h (steps_are.Merge (telling_in form d)) None

-- a history with room for both entries says the same behind a joined delta as behind its two parts in turn
abbrev pub FormsMergeInTurn : Type 0
FormsMergeInTurn = (f g k : Form) (h : History) (a b : DeltaValue) → IsDelta a → IsDelta b → GoesOn a.owner a.to b
    → is_full h ≡ false → is_full (merged_in f h a) ≡ false
    → SayTheSame (merged_in g (merged_in f h a) b) (merged_in k h (joined a b))
