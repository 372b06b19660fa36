-- What is wrong with a told value: the first fault, in order.
use Rattle.std.specs.Prelude.{◌≡◌, ℕ, ◌+◌, Bool, true, false, cond, not, ◌&&◌, ◌||◌, nat_lt, nat_le, List, [], ◌∷◌, length, map, Option, Some, None, Result, Ok, Err, Vec}
use Rattle.std.specs.List.{list_any, list_all}
use Rattle.std.specs.Ordering.{is_lt}
use Rattle.presence_base.specs.declared.dots.Replica.{Replica}
use Rattle.presence_base.specs.declared.dots.Dot.{Dot}
use Rattle.presence_base.specs.declared.row.Row.{Row}
use Rattle.presence_base.specs.Order.{replica_cmp, same_replica, same_dot}
use Rattle.orswot_core.specs.declared.form.Form.{Form}
use Rattle.orswot_core.specs.declared.form.Form.TheVariants.{One, Two}
use Rattle.orswot_core.specs.declared.raw.RawTold.{RawTold}
use Rattle.orswot_core.specs.declared.told.TheConstants.{MAX_ROWS}
use Rattle.orswot_core.specs.declared.told.ToldFault.{ToldFault}
use Rattle.orswot_core.specs.declared.told.ToldFault.TheVariants.{TooMany, TwoRanges, BadRange, RowLimits, LiveNotCovered, LiveTwice, OutOfMemory}
use Rattle.orswot_core.specs.Limits.{is_dot, is_row, are_texts, is_on_shard, is_range}
use Rattle.orswot_core.specs.Telling.{Range, ToldValue, covers}

-- what is told, before it is checked
abbrev pub raw_value : RawTold → ToldValue
raw_value t = record { ranges = t.ranges.items; extras = t.extras.items; live = t.live.items }

abbrev pub is_too_many : ToldValue → Bool
is_too_many t = nat_lt MAX_ROWS (length t.extras + length t.live)

-- what counts towards the limit: the rows with the extras, and in the second form, which has no extras, with the ranges
abbrev pub sum_in : Form → ℕ → ℕ → ℕ → ℕ
sum_in One ranges extras live = extras + live
sum_in Two ranges extras live = ranges + (extras + live)

abbrev pub is_too_many_in : Form → ToldValue → Bool
is_too_many_in form t = nat_lt MAX_ROWS (sum_in form (length t.ranges) (length t.extras) (length t.live))

-- what is told where it has no more in the form than a node takes in, and none in its place where it has more
abbrev pub WhereItFits : Form → (ToldValue → Type 0) → Option ToldValue → Type 0
WhereItFits form Is (Some t) = Is t × (is_too_many_in form t ≡ false)
WhereItFits form Is None = (t : ToldValue) × Is t × (is_too_many_in form t ≡ true)

abbrev pub LimitOfRows : Type 0
LimitOfRows = MAX_ROWS ≡ 65536

-- whether one stands twice in the list
abbrev pub has_repeat : {A : Type 0} → (A → A → Bool) → List A → Bool
has_repeat same [] = false
has_repeat same (x ∷ xs) = list_any (same x) xs || has_repeat same xs

abbrev pub replicas_of : List Range → List Replica
replicas_of gs = map (λ g. g.0) gs

abbrev pub dots_of : List (Dot × Row) → List Dot
dots_of xs = map (λ x. x.0) xs

-- the second may come next: it is of a later replica, or of the same and begins at or above both ends of the first
abbrev pub may_precede : Range → Range → Bool
may_precede g h = is_lt (replica_cmp g.0 h.0) || (same_replica g.0 h.0 && (nat_le g.1 h.1 && nat_le g.2 h.1))

-- each may come next to the one before it
abbrev pub follow_on : Range → List Range → Bool
follow_on g [] = true
follow_on g (h ∷ hs) = may_precede g h && follow_on h hs

abbrev pub are_in_order : List Range → Bool
are_in_order [] = true
are_in_order (g ∷ gs) = follow_on g gs

-- whether a range stands where its form has none: a second one of a replica, or one out of order
abbrev pub has_range_astray : Form → List Range → Bool
has_range_astray One gs = has_repeat same_replica (replicas_of gs)
has_range_astray Two gs = not (are_in_order gs)

-- a range that is empty or runs upwards
abbrev pub is_forward : Range → Bool
is_forward g = nat_le g.1 g.2

abbrev pub are_forward : ToldValue → Bool
are_forward t = list_all is_forward t.ranges

-- a row that was not checked yet, for this one of n shards
abbrev pub is_raw_row : ℕ → ℕ → Dot × Row → Bool
is_raw_row shard n x = is_dot x.0 && (is_row x.1 && (are_texts x.1 && is_on_shard shard n x.1))

abbrev pub are_limited : ℕ → ℕ → ToldValue → Bool
are_limited shard n t = list_all is_range t.ranges && (list_all is_dot t.extras && list_all (is_raw_row shard n) t.live)

abbrev pub are_live_covered : ToldValue → Bool
are_live_covered t = list_all (λ x. covers t x.0) t.live

abbrev pub has_live_twice : ToldValue → Bool
has_live_twice t = has_repeat same_dot (dots_of t.live)

-- the first fault for this one of n shards, memory aside
abbrev pub first_fault : ℕ → ℕ → Form → ToldValue → Option ToldFault
first_fault shard n form t =
    cond (is_too_many_in form t) (Some TooMany)
    (cond (has_range_astray form t.ranges) (Some TwoRanges)
    (cond (not (are_forward t)) (Some BadRange)
    (cond (not (are_limited shard n t)) (Some RowLimits)
    (cond (not (are_live_covered t)) (Some LiveNotCovered)
    (cond (has_live_twice t) (Some LiveTwice)
    None)))))

-- the fault is the first one, or memory ran out
abbrev pub IsFault : ToldFault → Option ToldFault → Type 0
IsFault OutOfMemory first = Unit {0}
IsFault f first = first ≡ Some f

-- the same value exactly where it has no fault
abbrev pub IsAnswer : Result ToldValue ToldFault → ToldValue → Option ToldFault → Type 0
IsAnswer (Ok t) raw first = (first ≡ None) × (t ≡ raw)
IsAnswer (Err f) raw first = IsFault f first

-- what every told value keeps, whatever its shard and its size
pub record IsTold (t : ToldValue) : Type 0 where
  pub forward : are_forward t ≡ true
  pub ranges : list_all is_range t.ranges ≡ true
  pub extras : list_all is_dot t.extras ≡ true
  pub rows : list_all (λ x. is_dot x.0 && is_row x.1) t.live ≡ true
  pub covered : are_live_covered t ≡ true
  pub once : has_live_twice t ≡ false

-- the rows, where all are within their limits
abbrev pub AreRows : {A : Type 0} → Result (Vec (Dot × Row) A) ToldFault → List (Dot × Row) → Bool → Type 0
AreRows (Ok rows) raw limited = (limited ≡ true) × (rows.items ≡ raw)
AreRows (Err f) raw limited = IsFault f (cond (not limited) (Some RowLimits) None)
