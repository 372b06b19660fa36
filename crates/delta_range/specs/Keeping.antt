-- Generations: three joined deltas, of which a shorter one begins later.
use Rattle.std.specs.Prelude.{◌≡◌, ℕ, ◌+◌, ◌≤◌, Bool, cond, ◌&&◌, nat_le, nat_eq, length, Option, Some, None}
use Rattle.presence_base.specs.declared.dots.Replica.{Replica}
use Rattle.presence_base.specs.Names.{guarded}
use Rattle.orswot_core.specs.declared.form.Form.{Form}
use Rattle.delta_range.specs.declared.generations.TheConstants.{SHORT_CAP, MIDDLE_CAP, LONG_CAP}
use Rattle.delta_range.specs.Deltas.{DeltaValue, IsDelta, GoesOn}
use Rattle.delta_range.specs.Fitting.{fits_line}
use Rattle.delta_range.specs.Joining.{joined}

-- where the last delta that was pushed ended, and what each generation keeps
pub record Kept : Type 0 where
  pub last : Option (Replica × ℕ)
  pub short : Option DeltaValue
  pub middle : Option DeltaValue
  pub long : Option DeltaValue

-- its live rows and older runs together
abbrev pub size : DeltaValue → ℕ
size d = length d.older + length d.live

-- it tells no count, and nothing that went
abbrev pub is_nothing : DeltaValue → Bool
is_nothing d = nat_eq d.from d.to && (nat_eq (length d.older) 0 && nat_eq (length d.live) 0)

-- the delta, where it is within the cap
abbrev pub alone : ℕ → DeltaValue → Option DeltaValue
alone cap d = guarded (nat_le (size d) cap) d

-- a generation becomes its join with the delta, or the delta alone where that join would pass its cap
abbrev pub grown : ℕ → Option DeltaValue → DeltaValue → Option DeltaValue
grown cap None d = alone cap d
grown cap (Some old) d = cond (nat_le (size (joined old d)) cap) (Some (joined old d)) (alone cap d)

abbrev pub pushed : Kept → DeltaValue → Kept
pushed k d = record {
  last = Some (d.owner, d.to);
  short = grown SHORT_CAP k.short d;
  middle = grown MIDDLE_CAP k.middle d;
  long = grown LONG_CAP k.long d;
}

-- the delta goes on from the last one that was pushed
abbrev pub IsNext : Option (Replica × ℕ) → DeltaValue → Type 0
IsNext None d = Unit {0}
IsNext (Some e) d = GoesOn e.0 e.1 d

-- what a generation keeps ends with the last delta, and is within its cap
abbrev pub EndsWithin : Option (Replica × ℕ) → ℕ → Option DeltaValue → Type 0
EndsWithin last cap None = Unit {0}
EndsWithin last cap (Some d) = (last ≡ Some (d.owner, d.to)) × (size d ≤ cap)

pub record AreKept (k : Kept) : Type 0 where
  pub short : EndsWithin k.last SHORT_CAP k.short
  pub middle : EndsWithin k.last MIDDLE_CAP k.middle
  pub long : EndsWithin k.last LONG_CAP k.long

-- what a generation keeps, where it begins at or below a count and is not too much for a line of the form
abbrev pub begun : Form → ℕ → Option DeltaValue → Option DeltaValue
begun form n None = None
begun form n (Some d) = guarded (nat_le d.from n && fits_line form d) d

abbrev pub first_of_both : Option DeltaValue → Option DeltaValue → Option DeltaValue
first_of_both (Some d) other = Some d
first_of_both None other = other

-- of those that begin at or below a count and fit a line of the form, the one with the smallest cap
abbrev pub from_count : Form → Kept → ℕ → Option DeltaValue
from_count form k n = first_of_both (begun form n k.short) (first_of_both (begun form n k.middle) (begun form n k.long))

-- the delta goes on from what a generation keeps
abbrev pub GoesOnFrom : Option DeltaValue → DeltaValue → Type 0
GoesOnFrom None d = Unit {0}
GoesOnFrom (Some old) d = GoesOn old.owner old.to d

-- what a generation keeps is a delta
abbrev pub IsDeltaIfSome : Option DeltaValue → Type 0
IsDeltaIfSome None = Unit {0}
IsDeltaIfSome (Some d) = IsDelta d
