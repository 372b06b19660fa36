-- The items that tell a state in pieces are folded to the table to which the state is.
use Rattle.std.proofs.Common.{◌≡◌, ◌+◌, ◌<◌, ◌≤◌, ◌&&◌, ◌==◌, ℕ, Bool, true, false, cond, nat_lt, List, [], ◌∷◌, ◌++◌, length, take, drop, Option, Some, None, refl, sym, ◌∙◌, ap, append-nil, take-append-drop, drop-drop, arith}
use Rattle.std.specs.FinMap as map
use Rattle.std.proofs.lemmas.List.{drop_all}
use Rattle.std.proofs.lemmas.Bool.{and_parts, eqb-true, ltb-true, ltb-false}
use Rattle.presence_base.specs.declared.dots.Dot.{Dot}
use Rattle.presence_base.specs.declared.row.Row.{Row}
use Rattle.presence_journal.specs.declared.rows.Item.{Item}
use Rattle.presence_journal.specs.declared.rows.Item.TheVariants as items_are
use Rattle.presence_journal.specs.Present.{RowMap, place_of}
use Rattle.presence_journal.specs.Queue.{apply_item, fold_from, with_rows}
use Rattle.channel_pieces.specs.Laws.{PiecesFold, untold_items}
use Rattle.channel_pieces.specs.Pieces.{telling, IsPiece, Comes, is_within, left_of, TellsNext}
use Rattle.channel_pieces.specs.declared.piece.TheConstants.{MAX_STATE_BYTES}
use Rattle.channel_pieces.specs.declared.telling.UntoldState.{UntoldState}

abbrev Rows : Type 0
Rows = List (Dot × Row)

with_rows-append : (m : RowMap) (xs ys : Rows) → with_rows m (xs ++ ys) ≡ with_rows (with_rows m xs) ys
with_rows-append m [] ys = refl
with_rows-append m (x ∷ xs) ys = with_rows-append (map.insert m (place_of x.0 x.1) x.1) xs ys

-- the table into which rows behind so many others come: the client's own, or a new one
abbrev base : RowMap → ℕ → RowMap
base m told = cond (told == 0) map.empty m

told_into : (m : RowMap) (told : ℕ) (rows : Rows) → apply_item m (telling told rows) ≡ with_rows (base m told) rows
told_into m told rows = go (told == 0)
  where
    go : (b : Bool) → apply_item m (cond b (items_are.State rows) (items_are.Diff (record { joins = rows; leaves = [] }))) ≡ with_rows (cond b map.empty m) rows
    go true = refl
    go false = refl

-- behind some rows the client's own table goes on
goes_on : (m : RowMap) (told : ℕ) → 0 < told → base m told ≡ m
goes_on m told h = go (told == 0) refl
  where
    go : (b : Bool) → (told == 0) ≡ b → cond b map.empty m ≡ m
    go true e = let z : told ≡ 0 = eqb-true told 0 e in absurd (omega arith)
    go false e = refl

-- a piece, and then the rest
piece_and_rest : (m : RowMap) (rows : Rows) (told count : ℕ) → with_rows (with_rows (base m told) (take count (drop told rows))) (drop (told + count) rows) ≡ with_rows (base m told) (drop told rows)
piece_and_rest m rows told count =
    ap (with_rows (with_rows (base m told) (take count (drop told rows)))) (sym (drop-drop count told rows))
    ∙ (sym (with_rows-append (base m told) (take count (drop told rows)) (drop count (drop told rows)))
    ∙ ap (with_rows (base m told)) (take-append-drop count (drop told rows)))

rest_follows : (u : UntoldState) (next : ℕ) (m : RowMap) → (next < length u.rows → 0 < next) → fold_from m (untold_items (left_of u next)) ≡ with_rows m (drop next u.rows)
rest_follows u next m some = go (nat_lt next (length u.rows)) refl
  where
    go : (b : Bool) → nat_lt next (length u.rows) ≡ b → fold_from m (untold_items (cond b (Some (record u { told = next })) None)) ≡ with_rows m (drop next u.rows)
    go true e = told_into m next (drop next u.rows) ∙ ap (λ x. with_rows x (drop next u.rows)) (goes_on m next (some (ltb-true next (length u.rows) e)))
    go false e = ap (with_rows m) (sym (drop_all next u.rows (ltb-false next (length u.rows) e)))

comes_folded : (u : UntoldState) (next : ℕ) (item : Item) (m : RowMap) (whole : Bool) → (u.told == 0 && is_within MAX_STATE_BYTES u.rows) ≡ whole → Comes whole u.rows u.told next item
    → fold_from m (item ∷ untold_items (left_of u next)) ≡ fold_from m (untold_items (Some u))
comes_folded u next item m true e (is, all) =
    let begins : u.told ≡ 0 = eqb-true u.told 0 (and_parts (u.told == 0) (is_within MAX_STATE_BYTES u.rows) e).0 in
    rw (is, all) (rest_follows u (length u.rows) (with_rows map.empty u.rows) (λ h. absurd (omega arith))
    ∙ (ap (with_rows (with_rows map.empty u.rows)) (drop_all (length u.rows) u.rows (omega arith))
    ∙ sym (ap (λ n. fold_from m (telling n (drop n u.rows) ∷ [])) begins)))
comes_folded u next item m false e piece =
    rw (piece.item_is, piece.next_is)
    (rest_follows u (u.told + piece.count) (apply_item m (telling u.told (take piece.count (drop u.told u.rows)))) (λ h. some_told u.told piece.count (length u.rows) piece.some h)
    ∙ (ap (λ x. with_rows x (drop (u.told + piece.count) u.rows)) (told_into m u.told (take piece.count (drop u.told u.rows)))
    ∙ (piece_and_rest m u.rows u.told piece.count ∙ sym (told_into m u.told (drop u.told u.rows)))))
  where
    some_told : (told count all : ℕ) → (told < all → 0 < count) → told + count < all → 0 < told + count
    some_told told count all f h = let c : 0 < count = f (omega arith) in omega arith

pub pieces_fold : PiecesFold
pieces_fold u item after (next, comes, is) m =
    rw is (comes_folded u next item m (u.told == 0 && is_within MAX_STATE_BYTES u.rows) refl comes)
