-- Runs of counts. A run is the pair of the count below its first one and its last one.
use Rattle.std.specs.Prelude.{◌≡◌, ℕ, ◌<◌, ◌≤◌, suc, Option, Some, IsSome, cond, Bool, true, false, ◌&&◌, ◌||◌, nat_lt, nat_le, ◌==◌, List, [], ◌∷◌}
use Rattle.std.specs.List.{list_any, filter}
use Rattle.std.specs.Map.{lookup, remove_entry, set_value}
use Rattle.std.specs.BTreeMap.{BTreeMap, get, is_at}
use Rattle.std.specs.Ordering.{nat_cmp}

-- a run has the counts above its first number, up to its second
abbrev pub in_run : ℕ × ℕ → ℕ → Bool
in_run r n = nat_lt r.0 n && nat_le n r.1

-- the last run that begins at or below a count
abbrev pub IsLastAt : BTreeMap ℕ ℕ → ℕ → ℕ × ℕ → Type 0
IsLastAt runs n r = (r.0 ≤ n) × (get nat_cmp runs r.0 ≡ Some r.1)
    × ((f : ℕ) → f ≤ n → IsSome (get nat_cmp runs f) → f ≤ r.0)

-- whether one of the runs has the count
abbrev pub holds : List (ℕ × ℕ) → ℕ → Bool
holds rs n = list_any (λ r. in_run r n) rs

-- longest runs in order, the first from `low` on, none of which touches the next
abbrev pub AreRuns : ℕ → List (ℕ × ℕ) → Type 0
AreRuns low [] = Unit {0}
AreRuns low (r ∷ rs) = (low ≤ r.0) × (r.0 < r.1) × AreRuns (suc r.1) rs

-- the same, where a run may be hollow, with no count: then it keeps the room for one
abbrev pub AreApart : ℕ → List (ℕ × ℕ) → Type 0
AreApart low [] = Unit {0}
AreApart low (r ∷ rs) = (low ≤ r.0) × (r.0 ≤ r.1) × AreApart (suc r.1) rs

-- no run is hollow
abbrev pub AreLong : List (ℕ × ℕ) → Type 0
AreLong [] = Unit {0}
AreLong (r ∷ rs) = (r.0 < r.1) × AreLong rs

-- whether a run from `from` on touches one of the runs, so that it needs no entry of its own
abbrev pub has_room : List (ℕ × ℕ) → ℕ → Bool
has_room rs from = list_any (λ r. nat_le r.0 from && nat_le from r.1) rs

-- whether there is a hollow run at `from`
abbrev pub is_hollow : List (ℕ × ℕ) → ℕ → Bool
is_hollow rs from = list_any (λ r. r.0 == from && r.1 == from) rs

-- the end of the run that begins at a count
abbrev pub end_at : List (ℕ × ℕ) → ℕ → Option ℕ
end_at rs from = lookup (is_at (nat_cmp from)) rs

-- without the run that begins at a count
abbrev pub taken_out : List (ℕ × ℕ) → ℕ → List (ℕ × ℕ)
taken_out rs from = remove_entry (is_at (nat_cmp from)) rs

-- with another end of that run
abbrev pub moved_to : List (ℕ × ℕ) → ℕ → ℕ → List (ℕ × ℕ)
moved_to rs from to = set_value (is_at (nat_cmp from)) rs to

-- whether one of the runs begins above a count
abbrev pub begins : List (ℕ × ℕ) → ℕ → Bool
begins rs from = list_any (λ r. r.0 == from) rs

-- the counts stay, no room is lost, and a new hollow run stands at one of the places asked for alone
pub record Opens (old new : List (ℕ × ℕ)) (asked : ℕ → Bool) : Type 0 where
  pub apart : AreApart 0 new
  pub same : (n : ℕ) → holds new n ≡ holds old n
  pub room : (g : ℕ) → has_room old g ≡ true → has_room new g ≡ true
  pub hollow : (g : ℕ) → is_hollow new g ≡ true → (is_hollow old g || asked g) ≡ true

-- the counts of `more` come to those of `old`, no room is lost, and no run is hollow but those of `old` at other places than those filled
pub record Fills (old new : List (ℕ × ℕ)) (more : ℕ → Bool) (filled : ℕ → Bool) : Type 0 where
  pub apart : AreApart 0 new
  pub counts : (n : ℕ) → holds new n ≡ (holds old n || more n)
  pub room : (g : ℕ) → has_room old g ≡ true → has_room new g ≡ true
  pub hollow : (g : ℕ) → is_hollow new g ≡ true → is_hollow old g ≡ true
  pub cleared : (g : ℕ) → filled g ≡ true → is_hollow new g ≡ false

-- the counts stay, and no hollow run is left but those of `old` at other places than those swept
pub record Sweeps (old new : List (ℕ × ℕ)) (swept : ℕ → Bool) : Type 0 where
  pub apart : AreApart 0 new
  pub same : (n : ℕ) → holds new n ≡ holds old n
  pub hollow : (g : ℕ) → is_hollow new g ≡ true → is_hollow old g ≡ true
  pub cleared : (g : ℕ) → swept g ≡ true → is_hollow new g ≡ false

-- the runs above `start` up to `reach` are taken out, for one run from `start` to `reach` that has `end` too
pub record Absorbs (old new : List (ℕ × ℕ)) (start end reach : ℕ) : Type 0 where
  pub apart : AreApart 0 new
  pub counts : (n : ℕ) → (holds new n || in_run (start, reach) n) ≡ (holds old n || in_run (start, end) n)
  pub room : (g : ℕ) → has_room old g ≡ true → (has_room new g || (nat_le start g && nat_le g reach)) ≡ true
  pub hollow : (g : ℕ) → is_hollow new g ≡ true → is_hollow old g ≡ true

-- the count up to which all are held
abbrev pub top_count : List (ℕ × ℕ) → ℕ
top_count [] = 0
top_count (r ∷ rs) = cond (nat_le r.0 0) r.1 0

-- the runs above the first, which begins at 0, or all
abbrev pub above_top : List (ℕ × ℕ) → List (ℕ × ℕ)
above_top rs = filter (λ r. nat_lt 0 r.0) rs
