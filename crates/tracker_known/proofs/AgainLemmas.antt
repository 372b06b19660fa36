-- The rows of a rebirth, each once, under the dots of its pairs.
use Rattle.std.proofs.Common.{◌≡◌, ℕ, ◌+◌, Bool, true, false, cond, ◌||◌, List, [], ◌∷◌, ◌++◌, drop, Option, Some, None, is_some, append_assoc, refl, sym, ◌∙◌, ap, arith}
use Rattle.std.specs.List.{list_any}
use Rattle.std.specs.Map.{lookup}
use Rattle.presence_base.specs.declared.dots.Replica.{Replica}
use Rattle.presence_base.specs.declared.dots.Dot.{Dot}
use Rattle.presence_base.specs.declared.row.Row.{Row}
use Rattle.presence_base.specs.Order.{same_dot}
use Rattle.orswot_core.specs.Checks.{has_repeat, dots_of}
use Rattle.presence_journal.specs.History.{with_prev, row_again}
use Rattle.presence_journal.specs.Table.{reborn_from}
use Rattle.presence_journal.proofs.Same.{same_dot-true}
use Rattle.presence_journal.proofs.Reborn.{new_dot, lookup_among, again_parts}
use Rattle.tracker_shown.specs.Turns.{IsListOf}
use Rattle.tracker_known.specs.Picks.{one_row}
use Rattle.tracker_known.specs.Again.{row_under, rows_again}

-- one pair after another

pub more_again : (f : Dot → Option Row) (ps : List (Dot × Dot)) (i : ℕ) (p : Dot × Dot) (xs ys all : List (Dot × Row)) → drop i ps ≡ p ∷ drop (i + 1) ps → ys ≡ xs ++ row_under f p → xs ++ rows_again f (drop i ps) ≡ all → ys ++ rows_again f (drop (i + 1) ps) ≡ all
more_again f ps i p xs ys all at is before =
    ap (λ zs. zs ++ rows_again f (drop (i + 1) ps)) is
    ∙ (append_assoc xs (row_under f p) (rows_again f (drop (i + 1) ps))
    ∙ (ap (λ qs. xs ++ rows_again f qs) (sym at) ∙ before))

nothing_more : (xs : List (Dot × Row)) → xs ++ [] ≡ xs
nothing_more [] = refl
nothing_more (x ∷ xs) = ap (λ ys. x ∷ ys) (nothing_more xs)

pub all_again : (f : Dot → Option Row) (ps qs : List (Dot × Dot)) (xs all : List (Dot × Row)) → qs ≡ [] → xs ++ rows_again f qs ≡ all → xs ≡ all
all_again f ps qs xs all none is = sym (nothing_more xs) ∙ (ap (λ zs. xs ++ rows_again f zs) (sym none) ∙ is)

-- a new dot is of no later pair
none_later : (r : Replica) (n : ℕ) (ds : List Dot) → lookup (same_dot (new_dot r n)) (reborn_from r (n + 1) ds) ≡ None
none_later r n ds = go (lookup (same_dot (new_dot r n)) (reborn_from r (n + 1) ds)) refl
  where
    go : (o : Option Dot) → lookup (same_dot (new_dot r n)) (reborn_from r (n + 1) ds) ≡ o → o ≡ None
    go None e = refl
    go (Some old) e = absurd (omega (arith, (again_parts r (n + 1) ds (new_dot r n) old e).1))

-- the row under a dot is that of its old dot
pub found_again : (f : Dot → Option Row) (r : Replica) (n : ℕ) (ds : List Dot) (d : Dot) → lookup (same_dot d) (rows_again f (reborn_from r n ds)) ≡ row_again f (lookup (same_dot d) (reborn_from r n ds))
found_again f r n [] d = refl
found_again f r n (x ∷ xs) d = go (with_prev x (f x)) refl (same_dot d (new_dot r n)) refl (found_again f r (n + 1) xs d)
  where
    rest : List (Dot × Dot)
    rest = reborn_from r (n + 1) xs

    gone : same_dot d (new_dot r n) ≡ true → row_again f (lookup (same_dot d) rest) ≡ None
    gone e = ap (λ q. row_again f (lookup (same_dot q) rest)) (same_dot-true d (new_dot r n) e) ∙ ap (row_again f) (none_later r n xs)

    go : (o : Option Row) → with_prev x (f x) ≡ o → (b : Bool) → same_dot d (new_dot r n) ≡ b → lookup (same_dot d) (rows_again f rest) ≡ row_again f (lookup (same_dot d) rest) → lookup (same_dot d) (one_row (new_dot r n) o ++ rows_again f rest) ≡ row_again f (cond b (Some x) (lookup (same_dot d) rest))
    go None q true e ih = ih ∙ (gone e ∙ sym q)
    go None q false e ih = ih
    go (Some y) q true e ih = ap (λ b. cond b (Some y) (lookup (same_dot d) (rows_again f rest))) e ∙ sym q
    go (Some y) q false e ih = ap (λ b. cond b (Some y) (lookup (same_dot d) (rows_again f rest))) e ∙ ih

-- and no dot has two
pub once_again : (f : Dot → Option Row) (r : Replica) (n : ℕ) (ds : List Dot) → has_repeat same_dot (dots_of (rows_again f (reborn_from r n ds))) ≡ false
once_again f r n [] = refl
once_again f r n (x ∷ xs) = go (with_prev x (f x)) (once_again f r (n + 1) xs)
  where
    rest : List (Dot × Dot)
    rest = reborn_from r (n + 1) xs

    new_one : list_any (same_dot (new_dot r n)) (dots_of (rows_again f rest)) ≡ false
    new_one =
        sym (lookup_among (rows_again f rest) (new_dot r n))
        ∙ ap is_some (found_again f r (n + 1) xs (new_dot r n) ∙ ap (row_again f) (none_later r n xs))

    go : (o : Option Row) → has_repeat same_dot (dots_of (rows_again f rest)) ≡ false → has_repeat same_dot (dots_of (one_row (new_dot r n) o ++ rows_again f rest)) ≡ false
    go None ih = ih
    go (Some y) ih = λ i. new_one i || ih i

pub lists_again : (f : Dot → Option Row) (r : Replica) (ds : List Dot) (ps : List (Dot × Dot)) (xs : List (Dot × Row)) → ps ≡ reborn_from r 0 ds → xs ≡ rows_again f ps → IsListOf (λ d. row_again f (lookup (same_dot d) ps)) xs
lists_again f r ds ps xs same is = record {
  found = λ d.
      ap (lookup (same_dot d)) (is ∙ ap (rows_again f) same)
      ∙ (found_again f r 0 ds d ∙ ap (λ qs. row_again f (lookup (same_dot d) qs)) (sym same));
  once = ap (λ ys. has_repeat same_dot (dots_of ys)) (is ∙ ap (rows_again f) same) ∙ once_again f r 0 ds;
}
