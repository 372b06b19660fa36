-- Deltas: what an owner tells of one range of its counts, with the older ones that it removed.
use Rattle.std.specs.Prelude.{◌≡◌, ℕ, ◌≤◌, ◌-◌, Bool, true, false, ◌&&◌, nat_lt, nat_le, List, [], ◌∷◌, ◌++◌, length, map}
use Rattle.std.specs.List.{list_all}
use Rattle.presence_base.specs.declared.dots.Replica.{Replica}
use Rattle.presence_base.specs.declared.dots.Dot.{Dot}
use Rattle.presence_base.specs.declared.row.Row.{Row}
use Rattle.presence_base.specs.Order.{same_replica, same_dot}
use Rattle.dot_context.specs.Runs.{AreRuns}
use Rattle.dot_context.specs.Sets.{run_dots}
use Rattle.orswot_core.specs.Limits.{is_dot, is_row, is_range}
use Rattle.orswot_core.specs.declared.form.Form.{Form}
use Rattle.orswot_core.specs.declared.form.Form.TheVariants.{One, Two}
use Rattle.orswot_core.specs.Telling.{Range, ToldValue, range_has, run_ranges}
use Rattle.orswot_core.specs.Checks.{dots_of, has_repeat}
use Rattle.delta_range.specs.Longest.{longest}

-- the owner's dots above `from`, up to `to`; the runs of its older counts that are told beside them; the rows that are live
pub record DeltaValue : Type 0 where
  pub owner : Replica
  pub from : ℕ
  pub to : ℕ
  pub older : List (ℕ × ℕ)
  pub live : List (Dot × Row)

abbrev pub own_dots : DeltaValue → Range
own_dots d = (d.owner, d.from, d.to)

abbrev pub older_dots : DeltaValue → List Dot
older_dots d = run_dots d.owner d.older

-- the delta as a told value
abbrev pub telling : DeltaValue → ToldValue
telling d = record { ranges = own_dots d ∷ []; extras = older_dots d; live = d.live }

-- the same in a form: the second has the older runs as ranges, and behind them the delta's own range, which may be empty and may
-- meet the one before it
abbrev pub telling_in : Form → DeltaValue → ToldValue
telling_in One d = telling d
telling_in Two d = record { ranges = run_ranges d.owner d.older ++ own_dots d ∷ []; extras = []; live = d.live }

-- what every delta keeps
pub record IsDelta (d : DeltaValue) : Type 0 where
  pub range : is_range (own_dots d) ≡ true
  pub forward : d.from ≤ d.to
  pub runs : AreRuns 0 d.older
  pub below : list_all (λ r. nat_le r.1 d.from) d.older ≡ true
  pub rows : list_all (λ x. is_dot x.0 && is_row x.1) d.live ≡ true
  pub within : list_all (λ x. range_has x.0 (own_dots d)) d.live ≡ true
  pub once : has_repeat same_dot (dots_of d.live) ≡ false

-- a delta of that owner that begins at that count
pub record GoesOn (owner : Replica) (to : ℕ) (d : DeltaValue) : Type 0 where
  pub owned : d.owner ≡ owner
  pub begins : d.from ≡ to

-- the range of a delta among those of a told value: the last
abbrev pub own_range : List Range → Range
own_range [] = (record { name = []; incarnation = 0 }, 0, 0)
own_range (g ∷ []) = g
own_range (g ∷ h ∷ gs) = own_range (h ∷ gs)

-- and those before it, which are of older counts
abbrev pub older_ranges : List Range → List Range
older_ranges [] = []
older_ranges (g ∷ []) = []
older_ranges (g ∷ h ∷ gs) = g ∷ older_ranges (h ∷ gs)

-- the run of one dot
abbrev pub run_of : Dot → ℕ × ℕ
run_of d = (d.count - 1, d.count)

-- the ends of a range
abbrev pub ends_of : Range → ℕ × ℕ
ends_of g = (g.1, g.2)

-- the older counts that a told value has as extras and as ranges
abbrev pub older_told : ToldValue → List (ℕ × ℕ)
older_told t = map run_of t.extras ++ map ends_of (older_ranges t.ranges)

-- the told value as a delta
abbrev pub delta_of : ToldValue → DeltaValue
delta_of t = record {
  owner = (own_range t.ranges).0;
  from = (own_range t.ranges).1;
  to = (own_range t.ranges).2;
  older = longest (older_told t);
  live = t.live;
}

-- whether a dot is the owner's, at or below a count
abbrev pub is_older : Replica → ℕ → Dot → Bool
is_older owner from d = same_replica d.replica owner && nat_le d.count from

-- whether a range is the owner's, at or below a count, and not empty
abbrev pub is_older_range : Replica → ℕ → Range → Bool
is_older_range owner from g = same_replica g.0 owner && (nat_lt g.1 g.2 && nat_le g.2 from)

-- some ranges, in the last of which all live rows lie; the others, and the extras, are of its replica, at or below its start
abbrev pub is_delta : ToldValue → Bool
is_delta t =
    nat_lt 0 (length t.ranges)
    && (list_all (is_older_range (own_range t.ranges).0 (own_range t.ranges).1) (older_ranges t.ranges)
    && (list_all (is_older (own_range t.ranges).0 (own_range t.ranges).1) t.extras
    && list_all (λ x. range_has x.0 (own_range t.ranges)) t.live))
