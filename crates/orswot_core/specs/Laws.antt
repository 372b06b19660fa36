-- What joins keep, whatever is joined, in any order and number.
use Rattle.std.specs.Prelude.{◌≡◌, Bool, true, false, List, [], ◌∷◌, Option, Some, None}
use Rattle.std.specs.FinSet as set
use Rattle.std.specs.FinMap as map
use Rattle.presence_base.specs.declared.dots.Dot.{Dot}
use Rattle.presence_base.specs.declared.row.Row.{Row}
use Rattle.orswot_core.specs.declared.form.Form.{Form}
use Rattle.orswot_core.specs.Telling.{ToldValue, covers, live_row, tells_removed}
use Rattle.orswot_core.specs.Checks.{IsTold, has_range_astray}
use Rattle.orswot_core.specs.Full.{IsFullIn}
use Rattle.orswot_core.specs.Sets.{DotRows, IsSound, IsJoin, with_dot, removed}

-- y is the set x joined with the set s
abbrev pub IsUnion : DotRows → DotRows → DotRows → Type 0
IsUnion x s y = IsJoin x (set.contains s.covered) (map.get s.live) y

-- y is the set x joined with what is told
abbrev pub TakesIn : DotRows → ToldValue → DotRows → Type 0
TakesIn x t y = IsJoin x (covers t) (live_row t) y

abbrev pub IsSet : DotRows → Type 0
IsSet s = IsSound s.covered s.live

-- the rows of both are equal at equal dots
abbrev pub Agree : DotRows → DotRows → Type 0
Agree a b = (d : Dot) (r r' : Row) → map.get a.live d ≡ Some r → map.get b.live d ≡ Some r' → r ≡ r'

abbrev pub Idempotent : Type 0
Idempotent = (s x : DotRows) → IsUnion s s x → x ≡ s

abbrev pub Commutative : Type 0
Commutative = (a b x y : DotRows) → Agree a b → IsUnion a b x → IsUnion b a y → x ≡ y

abbrev pub Associative : Type 0
Associative = (a b c ab bc x y : DotRows) → IsSet a → IsSet b → IsSet c → IsUnion a b ab → IsUnion ab c x
    → IsUnion b c bc → IsUnion a bc y → x ≡ y

-- what was covered without a row never gets one, whatever is joined: these dots covered, with these rows
abbrev pub RemovedStays : Type 0
RemovedStays = (s x : DotRows) (has : Dot → Bool) (row : Dot → Option Row) (d : Dot) → set.contains s.covered d ≡ true
    → map.get s.live d ≡ None → IsJoin s has row x
    → (set.contains x.covered d ≡ true) × (map.get x.live d ≡ None)

-- what is told as removed is removed where it is taken in
abbrev pub RemovalsAreHeard : Type 0
RemovalsAreHeard = (s x : DotRows) (t : ToldValue) (d : Dot) → tells_removed t d ≡ true → TakesIn s t x
    → (set.contains x.covered d ≡ true) × (map.get x.live d ≡ None)

-- the set knows what is told: it covers each dot that is covered there, and none that is removed there is live
abbrev pub Knows : DotRows → ToldValue → Type 0
Knows s t = (d : Dot) → covers t d ≡ true → (set.contains s.covered d ≡ true)
    × (live_row t d ≡ None → map.get s.live d ≡ None)

-- a set that takes in what is told knows it
abbrev pub Learns : Type 0
Learns = (s x : DotRows) (t : ToldValue) → TakesIn s t x → Knows x t

-- what a set knows it keeps knowing, whatever is joined
abbrev pub JoinsKeepKnown : Type 0
JoinsKeepKnown = (s x : DotRows) (t : ToldValue) (has : Dot → Bool) (row : Dot → Option Row) → Knows s t
    → IsJoin s has row x → Knows x t

-- and whatever it adds or removes
abbrev pub StepsKeepKnown : Type 0
StepsKeepKnown = (s : DotRows) (t : ToldValue) → Knows s t
    → ((d : Dot) (r : Row) → set.contains s.covered d ≡ false → Knows (with_dot s d r) t)
    × ((ds : List Dot) (event : Dot) → Knows (removed s ds event) t)

-- what a set knows changes nothing when it is told
abbrev pub KnownChangesNothing : Type 0
KnownChangesNothing = (s x : DotRows) (t : ToldValue) → IsTold t → Knows s t → TakesIn s t x → x ≡ s

-- y is the set x that took in each of these told values in turn
abbrev pub TakesInAll : DotRows → List ToldValue → DotRows → Type 0
TakesInAll x [] y = y ≡ x
TakesInAll x (t ∷ ts) y = (z : DotRows) × TakesIn x t z × TakesInAll z ts y

-- a told value that comes again, after any others, changes nothing
abbrev pub OldChangesNothing : Type 0
OldChangesNothing = (s x y z : DotRows) (old : ToldValue) (others : List ToldValue) → IsTold old → TakesIn s old x
    → TakesInAll x others y → TakesIn y old z → z ≡ y

-- two values that each tell all of a set in one form are one
abbrev pub OneFull : Type 0
OneFull = (form : Form) (s : DotRows) (t u : ToldValue) → IsFullIn form s t → IsFullIn form s u → t ≡ u

-- in whatever forms all of a set is told, the same dots are covered, and the same rows are live
abbrev pub FormsTellTheSame : Type 0
FormsTellTheSame = (form other : Form) (s : DotRows) (t u : ToldValue) → IsFullIn form s t → IsFullIn other s u → (d : Dot)
    → (covers t d ≡ covers u d) × (live_row t d ≡ live_row u d)

-- what is told of all of a set can be heard as far as its ranges go: none stands where its form has none
abbrev pub FullsAreInOrder : Type 0
FullsAreInOrder = (form : Form) (s : DotRows) (t : ToldValue) → IsFullIn form s t → has_range_astray form t.ranges ≡ false
