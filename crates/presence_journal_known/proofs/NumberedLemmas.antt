-- Dots numbered from 1, one after another.
use Rattle.std.proofs.Common.{◌≡◌, ℕ, ◌+◌, ◌≤◌, ◌^◌, List, [], ◌∷◌, ◌++◌, length, append_assoc, refl, sym, ◌∙◌, ap, arith}
use Rattle.std.specs.Map.{keys_of}
use Rattle.presence_base.specs.declared.dots.Replica.{Replica}
use Rattle.presence_base.specs.declared.dots.Dot.{Dot}
use Rattle.presence_base.specs.declared.row.Row.{Row}
use Rattle.presence_journal.specs.Table.{reborn_from}

-- so many rows are numbered, and the rest is still to be
pub record AreNumbered (r : Replica) (es rest : List (Dot × Row)) (ps : List (Dot × Dot)) (n : ℕ) : Type 0 where
  pub told : ps ++ reborn_from r n (keys_of rest) ≡ reborn_from r 0 (keys_of es)
  pub left : n + length rest ≡ length es

pub none_numbered : (r : Replica) (es rest : List (Dot × Row)) (ps : List (Dot × Dot)) → rest ≡ es → ps ≡ [] → AreNumbered r es rest ps 0
none_numbered r es rest ps all none = record {
  told = (λ i. none i ++ reborn_from r 0 (keys_of (all i)));
  left = omega (arith, ap length all);
}

pub room_for_one : (r : Replica) (es rest : List (Dot × Row)) (x : Dot × Row) (ps : List (Dot × Dot)) (n : ℕ) → length es ≤ 2 ^ 62 → AreNumbered r es (x ∷ rest) ps n → n + 1 ≤ 2 ^ 62
room_for_one r es rest x ps n few a = omega (arith, few, a.left)

pub more_numbered : (r : Replica) (es rest : List (Dot × Row)) (x : Dot × Row) (ps qs : List (Dot × Dot)) (n : ℕ) → qs ≡ ps ++ (record { replica = r; count = n + 1 }, x.0) ∷ [] → AreNumbered r es (x ∷ rest) ps n → AreNumbered r es rest qs (n + 1)
more_numbered r es rest x ps qs n is a = record {
  told =
      ap (λ zs. zs ++ reborn_from r (n + 1) (keys_of rest)) is
      ∙ (append_assoc ps ((record { replica = r; count = n + 1 }, x.0) ∷ []) (reborn_from r (n + 1) (keys_of rest)) ∙ a.told);
  left = omega (arith, a.left);
}

nothing_more : (xs : List (Dot × Dot)) → xs ++ [] ≡ xs
nothing_more [] = refl
nothing_more (x ∷ xs) = ap (λ ys. x ∷ ys) (nothing_more xs)

pub all_numbered : (r : Replica) (es rest : List (Dot × Row)) (ps : List (Dot × Dot)) (n : ℕ) → rest ≡ [] → AreNumbered r es rest ps n → ps ≡ reborn_from r 0 (keys_of es)
all_numbered r es rest ps n none a = sym (nothing_more ps) ∙ (ap (λ zs. ps ++ reborn_from r n (keys_of zs)) (sym none) ∙ a.told)
