-- An observed-remove set: the dots that it covers, and the rows that are live.
use Rattle.std.specs.Prelude.{◌≡◌, Bool, true, false, cond, not, is_some, ◌&&◌, ◌||◌, List, [], ◌∷◌, Option, Some, None}
use Rattle.std.specs.FinSet as set
use Rattle.std.specs.FinMap as map
use Rattle.std.specs.BTreeMap.{BTreeMap, get}
use Rattle.std.specs.List.{filter, list_any}
use Rattle.presence_base.specs.declared.dots.Dot.{Dot}
use Rattle.presence_base.specs.declared.row.Row.{Row}
use Rattle.presence_base.specs.declared.dots.Replica.{Replica}
use Rattle.presence_base.specs.Order.{dot_cmp, same_dot, same_replica}
use Rattle.dot_context.specs.Sets.{DotSet, others_dots}
use Rattle.orswot_core.specs.Limits.{is_dot, is_row}
use Rattle.orswot_core.specs.Telling.{Range, range_has}

abbrev pub Rows : Type 0
Rows = BTreeMap Dot Row

abbrev pub LiveRows : Type 0
LiveRows = map.FinMap dot_cmp Row

abbrev pub rows_of : List (Dot × Row) → LiveRows
rows_of es = map.from_entries {R = dot_cmp} es

pub record DotRows : Type 0 where
  pub covered : DotSet
  pub live : LiveRows

-- the set of these covered dots and live rows
abbrev pub seen : DotSet → Rows → DotRows
seen s m = record { covered = s; live = rows_of m.entries }

abbrev pub with_dot : DotRows → Dot → Row → DotRows
with_dot s d r = record { covered = set.insert s.covered d; live = map.insert s.live d r }

-- the live rows of a replica, in order of dot
abbrev pub rows_by : LiveRows → Replica → List (Dot × Row)
rows_by m r = filter (λ e. same_replica e.0.replica r) (map.entries m)

-- the live rows in a range, in order of dot
abbrev pub rows_within : LiveRows → Range → List (Dot × Row)
rows_within m g = filter (λ e. range_has e.0 g) (map.entries m)

abbrev pub without_rows : LiveRows → List Dot → LiveRows
without_rows m [] = m
without_rows m (d ∷ ds) = map.remove (without_rows m ds) d

-- the dots lose their rows; they and the event are covered
abbrev pub removed : DotRows → List Dot → Dot → DotRows
removed s ds event =
    record { covered = set.insert (set.union s.covered (set.from_list ds)) event; live = without_rows s.live ds }

-- the other replicas' dots and rows
abbrev pub without_replica : DotRows → Replica → DotRows
without_replica s r =
    record { covered = others_dots s.covered r; live = map.retain_keys s.live (λ d. not (same_replica d.replica r)) }

-- what a join leaves at a dot, where each side may cover it and have a row for it
abbrev pub joined_row : Option Row → Bool → Option Row → Bool → Option Row
joined_row (Some r) covers (Some r') covers' = Some r
joined_row (Some r) covers None covers' = cond covers' None (Some r)
joined_row None covers (Some r') covers' = cond covers None (Some r')
joined_row None covers None covers' = None

abbrev pub first_row : Option Row → Option Row → Option Row
first_row (Some r) o = Some r
first_row None o = o

-- a row that is live here and not there
abbrev pub is_left : Option Row → Option Row → Bool
is_left here there = is_some here && not (is_some there)

-- a row that is there, at a dot that is not covered here
abbrev pub is_missing : Bool → Option Row → Bool
is_missing covers there = not covers && is_some there

-- what a set may have at a dot: a row only where it covers, and all within their limits
abbrev pub is_sound : Dot → Bool → Option Row → Bool
is_sound d false None = true
is_sound d false (Some r) = false
is_sound d true None = is_dot d
is_sound d true (Some r) = is_dot d && is_row r

abbrev pub IsSound : DotSet → LiveRows → Type 0
IsSound s m = (d : Dot) → is_sound d (set.contains s d) (map.get m d) ≡ true

-- s' is s joined with what covers these dots and has these rows: covered is the union, and live are those
-- that are live on one side and that the other doesn't cover or also holds live, the first row first
abbrev pub IsJoin : DotRows → (Dot → Bool) → (Dot → Option Row) → DotRows → Type 0
IsJoin s covers row s' =
    (d : Dot) → (set.contains s'.covered d ≡ (set.contains s.covered d || covers d))
    × (map.get s'.live d ≡ joined_row (map.get s.live d) (set.contains s.covered d) (row d) (covers d))

-- the same with heard dots and their rows
abbrev pub IsJoinWith : DotRows → DotSet → Rows → DotRows → Type 0
IsJoinWith s heard rows s' = IsJoin s (set.contains heard) (get dot_cmp rows) s'

-- what a join of covered dots and live rows with heard dots and rows needs: the dots of the rows that it adds, and of those
-- that it takes out; what is heard is sound
pub record AreNeeded (s : DotSet) (m : Rows) (heard : DotSet) (rows : Rows) (adds takes : List Dot) : Type 0 where
  pub sound : (d : Dot) → is_sound d (set.contains heard d) (get dot_cmp rows d) ≡ true
  pub added : (d : Dot) → list_any (same_dot d) adds ≡ is_missing (set.contains s d) (get dot_cmp rows d)
  pub gone : (d : Dot)
      → list_any (same_dot d) takes ≡ (is_left (get dot_cmp m d) (get dot_cmp rows d) && set.contains heard d)

-- a set with what a join makes of it
pub record Planned : Type 0 where
  pub before : DotRows
  pub after : DotRows

-- what covers these dots, and has these rows without those of some dots
abbrev pub leaving : DotSet → LiveRows → List Dot → DotRows
leaving s m ds = record { covered = s; live = without_rows m ds }

-- both are sound
pub record ArePlanned (p : Planned) : Type 0 where
  pub sound_before : IsSound p.before.covered p.before.live
  pub sound_after : IsSound p.after.covered p.after.live
