-- Growing: a delta that takes in the next one in place, and all that it needs for that.
use Rattle.std.specs.Prelude.{◌≡◌, ℕ, List, ◌++◌, Option, Some, None}
use Rattle.presence_base.specs.declared.dots.Dot.{Dot}
use Rattle.presence_base.specs.declared.row.Row.{Row}
use Rattle.delta_range.specs.declared.growth.Removal.{Removal}
use Rattle.delta_range.specs.Deltas.{DeltaValue, telling, IsDelta}
use Rattle.delta_range.specs.Longest.{up_to, longest}
use Rattle.delta_range.specs.Joining.{not_in, not_covered}

-- the delta as it was, and with the next one joined to it
pub record Growing : Type 0 where
  pub before : DeltaValue
  pub after : DeltaValue

-- the older runs, with those of a removal where there is one
abbrev pub runs_with : Option Removal → List (ℕ × ℕ) → List (ℕ × ℕ)
runs_with None older = older
runs_with (Some r) older = r.runs.items

-- the rows that a removal leaves
abbrev pub rows_left : Option Removal → List (Dot × Row) → List (Dot × Row)
rows_left None rows = rows
rows_left (Some r) rows = not_in r.dots rows

-- a delta, and the same up to a later end, after a removal and with rows behind those that it leaves
abbrev pub growing : DeltaValue → Option Removal → List (Dot × Row) → ℕ → Growing
growing d r rows end = record {
  before = d;
  after =
      record {
        owner = d.owner;
        from = d.from;
        to = end;
        older = runs_with r d.older;
        live = rows_left r d.live ++ rows;
      };
}

pub record AreDeltas (g : Growing) : Type 0 where
  pub before : IsDelta g.before
  pub after : IsDelta g.after

-- the removal leaves of a what b leaves of it
pub record IsRemoval (r : Option Removal) (a b : DeltaValue) : Type 0 where
  pub runs : runs_with r a.older ≡ longest (up_to a.from (a.older ++ b.older))
  pub rows : rows_left r a.live ≡ not_covered (telling b) a.live
