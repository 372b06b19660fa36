-- How a part is made of the own live rows, listed in order of dot, and runs without their counts.
use Rattle.std.specs.Prelude.{◌≡◌, ℕ, ◌-◌, min, max, Bool, true, cond, ◌&&◌, nat_eq, nat_le, List, [], ◌∷◌, ◌++◌, Option, None, is_none}
use Rattle.std.specs.List.{filter, list_all}
use Rattle.std.specs.List.Sorted.{IsStrictlySortedBy}
use Rattle.std.specs.Map.{lookup, keys_of}
use Rattle.std.specs.FinMap as map
use Rattle.presence_base.specs.declared.dots.Replica.{Replica}
use Rattle.presence_base.specs.declared.dots.Dot.{Dot}
use Rattle.presence_base.specs.declared.row.Row.{Row}
use Rattle.presence_base.specs.Order.{dot_cmp, same_dot, same_replica}
use Rattle.dot_context.specs.Runs.{AreRuns, holds}
use Rattle.orswot_core.specs.Full.{dot_of}
use Rattle.orswot_core.specs.Sets.{DotRows}
use Rattle.delta_range.specs.Deltas.{DeltaValue, IsDelta}
use Rattle.presence_journal.specs.History.{History, own, live}
use Rattle.presence_journal_cuts.specs.Handing.{run_between}
use Rattle.presence_journal_cuts.specs.ToldParts.{IsPart, row_of_count}

-- the own live rows, in order of dot
pub record AreOwnRows (h : History) (es : List (Dot × Row)) : Type 0 where
  pub found : (d : Dot) → lookup (same_dot d) es ≡ cond (same_replica d.replica (own h)) (live h d) None
  pub in_order : IsStrictlySortedBy dot_cmp (keys_of es)

-- the live row of a count of a replica
abbrev pub row_in : DotRows → Replica → ℕ → Option Row
row_in s r n = map.get s.live (dot_of r n)

-- the set has the own live rows
abbrev pub HasOwnRows : History → DotRows → Type 0
HasOwnRows h s = (n : ℕ) → row_in s (own h) n ≡ row_of_count h n

-- the runs of the counts above one, up to another, that no row of the list has
abbrev pub vacant : ℕ → ℕ → List (Dot × Row) → List (ℕ × ℕ)
vacant to low [] = run_between low to
vacant to low (x ∷ xs) =
    cond (nat_le x.0.count to) (run_between low (x.0.count - 1) ++ vacant to x.0.count xs) (vacant to low xs)

-- of the counts of runs those that have no row, in as good order
pub record AreVacant (row : ℕ → Option Row) (rs free : List (ℕ × ℕ)) : Type 0 where
  pub counts : (n : ℕ) → holds free n ≡ (holds rs n && is_none (row n))
  pub runs : AreRuns 0 rs → AreRuns 0 free
  pub below : (end : ℕ) → list_all (λ r. nat_le r.1 end) rs ≡ true → list_all (λ r. nat_le r.1 end) free ≡ true

-- so many rows above a count at most
abbrev pub rows_above : ℕ → ℕ → List (Dot × Row) → List (Dot × Row)
rows_above from room [] = []
rows_above from room (x ∷ xs) =
    cond (nat_le x.0.count from) (rows_above from room xs) (cond (nat_eq room 0) [] (x ∷ rows_above from (room - 1) xs))

-- the count up to which these are all rows above that count, of the counts up to the last
abbrev pub end_of : ℕ → ℕ → ℕ → List (Dot × Row) → ℕ
end_of from last room [] = last
end_of from last room (x ∷ xs) =
    cond (nat_le x.0.count from) (end_of from last room xs) (cond (nat_eq room 0) (x.0.count - 1) (end_of from last (room - 1) xs))

-- whether a row's count is at or below one
abbrev pub is_up_to : ℕ → Dot → Bool
is_up_to m d = nat_le d.count m

-- a delta up to a count, or up to where it begins
abbrev pub up_to : ℕ → DeltaValue → DeltaValue
up_to m d = record {
  owner = d.owner;
  from = d.from;
  to = max d.from (min m d.to);
  older = d.older;
  live = filter (λ x. is_up_to m x.0) d.live;
}

-- a part that is cut short is a part
abbrev pub PartsCutShort : Type 0
PartsCutShort = (h : History) (n m : ℕ) (d : DeltaValue) → IsPart h n d → IsDelta d → IsPart h n (up_to m d)
