-- Incarnations of one name, rising.
use Rattle.std.specs.Prelude.{◌≡◌, ℕ, ◌<◌, ◌≤◌, Bool, List, length, slice_index_or}
use Rattle.std.specs.List.{list_any}
use Rattle.std.specs.Ordering.{nat_cmp, eq_by_cmp}

abbrev pub same_number : ℕ → ℕ → Bool
same_number = eq_by_cmp nat_cmp

-- the number is one of these
abbrev pub is_one_of : List ℕ → ℕ → Bool
is_one_of ns n = list_any (same_number n) ns

-- each is below those behind it
abbrev pub Rise : List ℕ → Type 0
Rise ns = (i j : ℕ) → i < j → j < length ns → slice_index_or ns i 0 < slice_index_or ns j 0

-- the number stands at this place
pub record IsAt (ns : List ℕ) (n i : ℕ) : Type 0 where
  pub in_range : i < length ns
  pub here : slice_index_or ns i 0 ≡ n

-- the number would go to this place: lower ones before it, and higher ones from it on
pub record IsGapFor (ns : List ℕ) (n i : ℕ) : Type 0 where
  pub in_range : i ≤ length ns
  pub lower_before : (j : ℕ) → j < i → slice_index_or ns j 0 < n
  pub higher_after : (j : ℕ) → i ≤ j → j < length ns → n < slice_index_or ns j 0
