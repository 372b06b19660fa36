-- Parts: what an owner tells of its own replica from a count on where all that it knows, and each kept delta, is too much for a line.
use Rattle.std.specs.Prelude.{◌≡◌, ◌⊎◌, ℕ, suc, ◌+◌, ◌≤◌, min, Bool, true, false, cond, ◌&&◌, nat_le, length, Option, Some, None, is_none, IsSome}
use Rattle.presence_base.specs.declared.dots.Dot.{Dot}
use Rattle.presence_base.specs.declared.row.Row.{Row}
use Rattle.dot_context.specs.Runs.{holds}
use Rattle.dot_context.specs.Sets.{in_range}
use Rattle.orswot_core.specs.declared.form.Form.TheVariants.{Two}
use Rattle.orswot_core.specs.declared.told.TheConstants.{MAX_ROWS}
use Rattle.orswot_core.specs.Telling.{live_row}
use Rattle.orswot_core.specs.Full.{dot_of}
use Rattle.delta_range.specs.Deltas.{DeltaValue, telling, IsDelta}
use Rattle.delta_range.specs.Fitting.{fits_line}
use Rattle.delta_range.specs.Laws.{IsInOrder}
use Rattle.presence_journal.specs.History.{History, own, count, live}

-- the own live row of a count
abbrev pub row_of_count : History → ℕ → Option Row
row_of_count h c = live h (dot_of (own h) c)

-- an own count at or below another that no live row has: it was a removal's, or its row went
abbrev pub is_vacant : History → ℕ → ℕ → Bool
is_vacant h n c = nat_le c n && is_none (row_of_count h c)

-- A part, for a node that knows the own dots up to a count: the counts above it, up to another, with their live rows, and every
-- older count that has no live row, so that who is told a removal is told all that it removed. Where it ends is the teller's choice.
pub record IsPart (h : History) (n : ℕ) (d : DeltaValue) : Type 0 where
  pub owner : d.owner ≡ own h
  pub from : d.from ≡ min n (count h)
  pub to : d.to ≤ count h
  pub before : (c : ℕ) → 1 ≤ c → holds d.older c ≡ is_vacant h d.from c
  pub rows : (x : Dot) → live_row (telling d) x ≡ cond (in_range (own h) d.from d.to x) (live h x) None
  pub in_order : IsInOrder d

-- it ends with the last count that was used, or the next one has a row for which there is no room beside the others, the older runs
-- and the part's own range
abbrev pub GoesFar : History → DeltaValue → Type 0
GoesFar h d = (d.to ≡ count h) ⊎ (IsSome (row_of_count h (suc d.to)) × (length d.older + length d.live + 1 ≡ MAX_ROWS))

-- the part that goes as far as it can within what a node takes in
pub record IsLargestPart (h : History) (n : ℕ) (d : DeltaValue) : Type 0 where
  pub part : IsPart h n d
  pub fits : fits_line Two d ≡ true
  pub far : GoesFar h d

-- there is a part, which has too many older runs even where it goes on by nothing
abbrev pub HasNoPart : History → ℕ → Type 0
HasNoPart h n = (d : DeltaValue) × IsDelta d × IsPart h n d × (fits_line Two d ≡ false) × (MAX_ROWS ≤ length d.older)

-- the part, where one fits a line
abbrev pub IsPartWhereItFits : History → ℕ → Option DeltaValue → Type 0
IsPartWhereItFits h n (Some d) = IsLargestPart h n d
IsPartWhereItFits h n None = HasNoPart h n
