-- Longest runs of counts, made from any runs. A run is the pair of the count below its first one and its last one.
use Rattle.std.specs.Prelude.{ℕ, cond, nat_lt, nat_le, min, max, List, [], ◌∷◌}

-- the counts at or below n
abbrev pub up_to : ℕ → List (ℕ × ℕ) → List (ℕ × ℕ)
up_to n [] = []
up_to n (r ∷ rs) = cond (nat_lt r.0 n) ((r.0, min r.1 n) ∷ up_to n rs) (up_to n rs)

-- with one more run, which takes in those that it touches
abbrev pub with_run : ℕ × ℕ → List (ℕ × ℕ) → List (ℕ × ℕ)
with_run x [] = x ∷ []
with_run x (r ∷ rs) =
    cond (nat_lt x.1 r.0) (x ∷ r ∷ rs)
    (cond (nat_lt r.1 x.0) (r ∷ with_run x rs) (with_run (min x.0 r.0, max x.1 r.1) rs))

-- the longest runs that have the counts of these
unfoldable pub longest : List (ℕ × ℕ) → List (ℕ × ℕ)
longest [] = []
longest (r ∷ rs) = with_run r (longest rs)

-- runs by where they begin: each takes in the ones behind it that it touches
abbrev pub coalesced_from : ℕ × ℕ → List (ℕ × ℕ) → List (ℕ × ℕ)
coalesced_from last [] = last ∷ []
coalesced_from last (r ∷ rs) =
    cond (nat_le r.0 last.1) (coalesced_from (last.0, max last.1 r.1) rs) (last ∷ coalesced_from r rs)

abbrev pub coalesced : List (ℕ × ℕ) → List (ℕ × ℕ)
coalesced [] = []
coalesced (r ∷ rs) = coalesced_from r rs
