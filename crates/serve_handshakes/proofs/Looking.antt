-- Clients of whom one more is looked at.
use Rattle.std.proofs.Common.{◌≡◌, ℕ, zero, suc, ◌<◌, ◌+◌, List, [], ◌∷◌, ◌++◌, length, take, drop, slice_set, refl, sym, subst, ap, ◌∙◌, arith, Option}
use Rattle.std.proofs.Math.ListN.{get_or}
use Rattle.std.specs.declared.io.traits.Read.{Ghosts as ReadGhosts}
use Rattle.std.specs.declared.io.traits.Write.{Ghosts as WriteGhosts}
use Rattle.tungstenite.specs.Socket.{Socket}
use Rattle.serve_handshakes.specs.Guests.{Looks, LooksAll, numbered}
use Rattle.serve_handshakes.specs.declared.guests.Guest.{Guest}

append_assoc : {X : Type 0} (xs ys zs : List X) → (xs ++ ys) ++ zs ≡ xs ++ (ys ++ zs)
append_assoc [] ys zs = refl
append_assoc (x ∷ xs) ys zs = ap (λ l. x ∷ l) (append_assoc xs ys zs)

append_none : {X : Type 0} (xs : List X) → xs ++ [] ≡ xs
append_none [] = refl
append_none (x ∷ xs) = ap (λ l. x ∷ l) (append_none xs)

module _ {S : Type 0} {reads : ReadGhosts S} {writes : WriteGhosts S} where
  -- what holds of a loop that has looked at those before place i
  abbrev pub LookedTo : List (Guest S reads writes) → List (Guest S reads writes) → ℕ → List (ℕ × Socket S) → Type 0
  LookedTo old now i opened = LooksAll (take i old) (take i now) opened × (drop i now ≡ drop i old)

  looked_more : (old now : List (Guest S reads writes)) (i : ℕ) (x y : Guest S reads writes) (first : Option (Socket S)) (opened : List (ℕ × Socket S))
      → i < length now → Looks (get_or now i x) y first → LookedTo old now i opened
      → LookedTo old (slice_set now i y) (suc i) (opened ++ numbered (get_or now i x).number first)
  looked_more old [] i x y first opened lt looks h = absurd (omega arith)
  looked_more [] (n ∷ ns) zero x y first opened lt looks h = absurd cc
  looked_more [] (n ∷ ns) (suc i) x y first opened lt looks h = absurd h.0
  looked_more (o ∷ os) (n ∷ ns) zero x y first opened lt looks h =
      let whole : n ∷ ns ≡ o ∷ os = h.1 in
      let head : n ≡ o = cc in
      let tail : ns ≡ os = cc in
      let here : Looks o y first = subst (λ (z : Guest S reads writes). Looks z y first) head looks in
      let none : opened ≡ [] = h.0 in
      let number : n.number ≡ o.number = ap (λ (z : Guest S reads writes). z.number) head in
      ((first, [], here, refl, rw none (rw number (sym (append_none (numbered o.number first))))), tail)
  looked_more (o ∷ os) (n ∷ ns) (suc i) x y first opened lt looks h =
      let k = looked_more os ns i x y first h.0.1 (omega arith) looks (h.0.3, h.1) in
      let one : List (ℕ × Socket S) = numbered (get_or ns i x).number first in
      let e : opened ++ one ≡ numbered o.number h.0.0 ++ (h.0.1 ++ one) =
      ap (λ (l : List (ℕ × Socket S)). l ++ one) h.0.4 ∙ append_assoc (numbered o.number h.0.0) h.0.1 one in
      ((h.0.0, h.0.1 ++ one, h.0.2, k.0, e), k.1)

  -- one more is looked at
  pub looked_next : (old now : List (Guest S reads writes)) (i : ℕ) (x y : Guest S reads writes) (first : Option (Socket S)) (opened : List (ℕ × Socket S))
      → i < length now → Looks (get_or now i x) y first → LookedTo old now i opened
      → LookedTo old (slice_set now i y) (i + 1) (opened ++ numbered (get_or now i x).number first)
  looked_next old now i x y first opened lt looks h =
      let next : i + 1 ≡ suc i = omega arith in
      rw next (looked_more old now i x y first opened lt looks h)

  -- all were looked at
  pub looked_all : (old now : List (Guest S reads writes)) (i : ℕ) (opened : List (ℕ × Socket S))
      → i ≡ length now → LookedTo old now i opened → LooksAll old now opened
  looked_all [] [] zero opened e h = h.0
  looked_all [] [] (suc i) opened e h = h.0
  looked_all [] (n ∷ ns) zero opened e h = absurd (omega (arith, e))
  looked_all [] (n ∷ ns) (suc i) opened e h = absurd h.0
  looked_all (o ∷ os) [] zero opened e h = absurd cc
  looked_all (o ∷ os) [] (suc i) opened e h = absurd h.0
  looked_all (o ∷ os) (n ∷ ns) zero opened e h = absurd (omega (arith, e))
  looked_all (o ∷ os) (n ∷ ns) (suc i) opened e h =
      (h.0.0, h.0.1, h.0.2, looked_all os ns i h.0.1 (omega (arith, e)) (h.0.3, h.1), h.0.4)
