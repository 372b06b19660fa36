-- What is noted of the rows that join and leave.
use Rattle.std.specs.Prelude.{ℕ, List, [], ◌∷◌, ◌++◌, ◌≡◌, length, Bool, nat_le}
use Rattle.presence_base.specs.declared.dots.Dot.{Dot}
use Rattle.presence_base.specs.declared.row.Row.{Row}
use Rattle.hook_registry.specs.declared.notice.TheConstants.{MAX_NOTICE_BYTES}

-- at most 256 bytes
abbrev pub is_notice : List ℕ → Bool
is_notice text = nat_le (length text) MAX_NOTICE_BYTES

-- one notice for each row, in order, each an answer for that row
abbrev pub Noticed : (List ℕ → Dot → List ℕ → Type 0) → List (Dot × Row) → List (List ℕ) → Type 0
Noticed answers [] [] = Unit {0}
Noticed answers (p ∷ ps) (n ∷ ns) = answers p.1.key p.0 n × Noticed answers ps ns
Noticed answers ps ns = ⊥

-- the notices of the rows that joined, and behind them those of the rows that left
abbrev pub NoticesOf : (List ℕ → Dot → List ℕ → Type 0) → (List ℕ → Dot → List ℕ → Type 0) → List (Dot × Row)
    → List (Dot × Row) → List (List ℕ) → Type 0
NoticesOf joined left joins leaves ns =
    (of_joins : List (List ℕ)) × (of_leaves : List (List ℕ)) × (ns ≡ of_joins ++ of_leaves)
    × Noticed joined joins of_joins × Noticed left leaves of_leaves
