-- Lists of connections, of which one more is led on.
use Rattle.std.proofs.Common.{◌≡◌, ℕ, zero, suc, ◌<◌, ◌+◌, List, [], ◌∷◌, length, map, take, drop, slice_set, refl, subst, arith}
use Rattle.std.proofs.Math.ListN.{get_or}
use Rattle.serve_connections.specs.Working.{Chained, Pairwise}

-- what holds of a loop that has led on those before place i
abbrev pub ChainedTo : {X P : Type 0} → (X → X → P → P → Type 0) → List X → List X → ℕ → P → P → Type 0
ChainedTo R old now i before after = Chained R (take i old) (take i now) before after × (drop i now ≡ drop i old)

abbrev pub PairwiseTo : {X : Type 0} → (X → X → Type 0) → List X → List X → ℕ → Type 0
PairwiseTo R old now i = Pairwise R (take i old) (take i now) × (drop i now ≡ drop i old)

chained_more : {X P : Type 0} (R : X → X → P → P → Type 0) (old now : List X) (i : ℕ) (x y : X) (a b c : P) → i < length now → R (get_or now i x) y b c
    → ChainedTo R old now i a b → ChainedTo R old (slice_set now i y) (suc i) a c
chained_more R old [] i x y a b c lt r h = absurd (omega arith)
chained_more R [] (n ∷ ns) zero x y a b c lt r h = absurd cc
chained_more {X} {P} R (o ∷ os) (n ∷ ns) zero x y a b c lt r h =
    let e : n ∷ ns ≡ o ∷ os = h.1 in
    let head : n ≡ o = cc in
    let tail : ns ≡ os = cc in
    let here : R o y b c = subst (λ (z : X). R z y b c) head r in
    ((c, subst (λ (p : P). R o y p c) h.0 here, refl), tail)
chained_more R [] (n ∷ ns) (suc i) x y a b c lt r h = absurd h.0
chained_more R (o ∷ os) (n ∷ ns) (suc i) x y a b c lt r h =
    let k = chained_more R os ns i x y h.0.0 b c (omega arith) r (h.0.2, h.1) in
    ((h.0.0, h.0.1, k.0), k.1)

pub chained_next : {X P : Type 0} (R : X → X → P → P → Type 0) (old now : List X) (i : ℕ) (x y : X) (a b c : P) → i < length now → R (get_or now i x) y b c
    → ChainedTo R old now i a b → ChainedTo R old (slice_set now i y) (i + 1) a c
chained_next R old now i x y a b c lt r h =
    let e : i + 1 ≡ suc i = omega arith in
    rw e (chained_more R old now i x y a b c lt r h)

pairwise_more : {X : Type 0} (R : X → X → Type 0) (old now : List X) (i : ℕ) (x y : X) → i < length now → R (get_or now i x) y
    → PairwiseTo R old now i → PairwiseTo R old (slice_set now i y) (suc i)
pairwise_more R old [] i x y lt r h = absurd (omega arith)
pairwise_more R [] (n ∷ ns) zero x y lt r h = absurd cc
pairwise_more {X} R (o ∷ os) (n ∷ ns) zero x y lt r h =
    let e : n ∷ ns ≡ o ∷ os = h.1 in
    let head : n ≡ o = cc in
    let tail : ns ≡ os = cc in
    ((subst (λ (z : X). R z y) head r, tt {0}), tail)
pairwise_more R [] (n ∷ ns) (suc i) x y lt r h = absurd h.0
pairwise_more R (o ∷ os) (n ∷ ns) (suc i) x y lt r h =
    let k = pairwise_more R os ns i x y (omega arith) r (h.0.1, h.1) in
    ((h.0.0, k.0), k.1)

pub pairwise_next : {X : Type 0} (R : X → X → Type 0) (old now : List X) (i : ℕ) (x y : X) → i < length now → R (get_or now i x) y
    → PairwiseTo R old now i → PairwiseTo R old (slice_set now i y) (i + 1)
pairwise_next R old now i x y lt r h =
    let e : i + 1 ≡ suc i = omega arith in
    rw e (pairwise_more R old now i x y lt r h)

-- each is led by a function: the list is its map
pub pairwise_map : {X : Type 0} (f : X → X) (xs ys : List X) → Pairwise (λ x y. y ≡ f x) xs ys → ys ≡ map f xs
pairwise_map f [] [] h = refl
pairwise_map f [] (y ∷ ys) h = absurd h
pairwise_map f (x ∷ xs) [] h = absurd h
pairwise_map f (x ∷ xs) (y ∷ ys) h =
    let head : y ≡ f x = h.0 in
    let tail : ys ≡ map f xs = pairwise_map f xs ys h.1 in
    cc
