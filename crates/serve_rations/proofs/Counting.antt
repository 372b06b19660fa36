-- A row that was counted and is taken back.
use Rattle.std.proofs.Common.{◌≡◌, ℕ, ◌-◌, Bool, true, false, cond, List, [], ◌∷◌, ◌++◌, length, take, refl, ◌∙◌, ap, arith, length-append}
use Rattle.serve_rations.specs.declared.ration.Kept.{Kept}
use Rattle.serve_rations.specs.declared.rations.Rations.{Rations}
use Rattle.serve_rations.specs.Connections.{IsNow, SameRows, all_but_last, rows_of, same_number}
use Rattle.serve_rations.proofs.Same.{same_number-true, same_number-refl}

-- the front of a list that has one more
front : (rows : List Kept) (row : Kept) → take (length rows) (rows ++ row ∷ []) ≡ rows
front [] row = refl
front (x ∷ rows) row = ap (λ (r : List Kept). x ∷ r) (front rows row)

pub all_but_row : (rows : List Kept) (row : Kept) → all_but_last (rows ++ row ∷ []) ≡ rows
all_but_row rows row =
    let e : length (rows ++ row ∷ []) - 1 ≡ length rows = omega (arith, length-append rows (row ∷ [])) in
    ap (λ n. take n (rows ++ row ∷ [])) e ∙ front rows row

-- a row that is put behind the others and taken back leaves each connection what it had
pub taken_back : (old mid new : Rations) (pid : ℕ) (row : Kept) → IsNow old pid (rows_of old pid ++ row ∷ []) mid → IsNow mid pid (all_but_last (rows_of mid pid)) new → SameRows old new
taken_back old mid new pid row put back p = back p ∙ go (same_number pid p) refl
  where
    here : rows_of mid pid ≡ rows_of old pid ++ row ∷ []
    here = put pid ∙ ap (λ b. cond b (rows_of old pid ++ row ∷ []) (rows_of old pid)) (same_number-refl pid)

    go : (b : Bool) → same_number pid p ≡ b → cond b (all_but_last (rows_of mid pid)) (rows_of mid p) ≡ rows_of old p
    go true e = ap all_but_last here ∙ (all_but_row (rows_of old pid) row ∙ ap (rows_of old) (same_number-true pid p e))
    go false e = put p ∙ ap (λ b. cond b (rows_of old pid ++ row ∷ []) (rows_of old p)) e
