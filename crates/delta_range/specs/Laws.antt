-- What a joined delta tells, beside its two parts.
use Rattle.std.specs.Prelude.{◌≡◌, ◌+◌, ◌≤◌, true, false}
use Rattle.std.specs.List.Sorted.{IsStrictlySortedBy}
use Rattle.presence_base.specs.declared.dots.Dot.{Dot}
use Rattle.presence_base.specs.Order.{dot_cmp}
use Rattle.orswot_core.specs.declared.form.Form.{Form}
use Rattle.orswot_core.specs.Telling.{ToldValue, covers, live_row}
use Rattle.orswot_core.specs.Checks.{IsTold, dots_of, has_range_astray}
use Rattle.orswot_core.specs.Sets.{DotRows}
use Rattle.orswot_core.specs.Laws.{TakesIn}
use Rattle.delta_range.specs.Deltas.{DeltaValue, telling, telling_in, older_dots, IsDelta, GoesOn, delta_of, is_delta}
use Rattle.delta_range.specs.Joining.{joined}
use Rattle.delta_range.specs.Keeping.{size}

-- a set that takes in the joined delta ends as one that takes in each in turn
abbrev pub TellsInTurn : Type 0
TellsInTurn = (s x y z : DotRows) (a b : DeltaValue) → IsDelta a → IsDelta b → GoesOn a.owner a.to b
    → TakesIn s (telling a) x → TakesIn x (telling b) y → TakesIn s (telling (joined a b)) z → z ≡ y

-- its rows are in order of dot, each once
abbrev pub IsInOrder : DeltaValue → Type 0
IsInOrder d = IsStrictlySortedBy dot_cmp (dots_of d.live)

-- the rows of a joined delta are in order where those of both parts are
abbrev pub StaysInOrder : Type 0
StaysInOrder = (a b : DeltaValue) → IsDelta a → IsDelta b → GoesOn a.owner a.to b → IsInOrder a → IsInOrder b
    → IsInOrder (joined a b)

-- the older dots of every delta are in order, each once
abbrev pub OlderInOrder : Type 0
OlderInOrder = (d : DeltaValue) → IsDelta d → IsStrictlySortedBy dot_cmp (older_dots d)

-- the joined delta has no more rows and older runs than both together
abbrev pub IsNoLarger : Type 0
IsNoLarger = (a b : DeltaValue) → size (joined a b) ≤ size a + size b

-- in whatever forms a delta is told, the same dots are covered, and the same rows are live
abbrev pub FormsTellTheSame : Type 0
FormsTellTheSame = (form other : Form) (d : DeltaValue) (q : Dot)
    → (covers (telling_in form d) q ≡ covers (telling_in other d) q) × (live_row (telling_in form d) q ≡ live_row (telling_in other d) q)

-- the delta of a told value covers what it covers
abbrev pub CoversTheSame : Type 0
CoversTheSame = (t : ToldValue) (d : Dot) → IsTold t → is_delta t ≡ true → covers (telling (delta_of t)) d ≡ covers t d

-- what a delta tells has its ranges as the form wants them: it can be heard as far as these go
abbrev pub DeltasAreInOrder : Type 0
DeltasAreInOrder = (form : Form) (d : DeltaValue) → IsDelta d → has_range_astray form (telling_in form d).ranges ≡ false
