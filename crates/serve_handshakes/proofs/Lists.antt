-- Lists of which one more is led on by a function.
use Rattle.std.proofs.Common.{◌≡◌, ℕ, zero, suc, ◌<◌, ◌+◌, List, [], ◌∷◌, ◌++◌, length, map, take, drop, slice_set, refl, arith}
use Rattle.std.proofs.Math.ListN.{get_or}

-- what holds of a loop that has led on those before place i
abbrev pub MappedTo : {X : Type 0} → (X → X) → List X → List X → ℕ → Type 0
MappedTo f old now i = now ≡ map f (take i old) ++ drop i old

mapped_more : {X : Type 0} (f : X → X) (old now : List X) (i : ℕ) (x y : X) → i < length now → y ≡ f (get_or now i x)
    → MappedTo f old now i → MappedTo f old (slice_set now i y) (suc i)
mapped_more f old [] i x y lt e h = absurd (omega arith)
mapped_more f [] (n ∷ ns) zero x y lt e h = absurd cc
mapped_more f [] (n ∷ ns) (suc i) x y lt e h = absurd cc
mapped_more f (o ∷ os) (n ∷ ns) zero x y lt e h =
    let whole : n ∷ ns ≡ o ∷ os = h in
    let here : y ≡ f n = e in
    cc
mapped_more f (o ∷ os) (n ∷ ns) (suc i) x y lt e h =
    let whole : n ∷ ns ≡ f o ∷ (map f (take i os) ++ drop i os) = h in
    let tail : ns ≡ map f (take i os) ++ drop i os = cc in
    let more : slice_set ns i y ≡ map f (take (suc i) os) ++ drop (suc i) os = mapped_more f os ns i x y (omega arith) e tail in
    cc

-- one more is led on
pub mapped_next : {X : Type 0} (f : X → X) (old now : List X) (i : ℕ) (x y : X) → i < length now → y ≡ f (get_or now i x)
    → MappedTo f old now i → MappedTo f old (slice_set now i y) (i + 1)
mapped_next f old now i x y lt e h =
    let next : i + 1 ≡ suc i = omega arith in
    rw next (mapped_more f old now i x y lt e h)

-- all are led on
pub mapped_all : {X : Type 0} (f : X → X) (old now : List X) (i : ℕ) → i ≡ length now → MappedTo f old now i → now ≡ map f old
mapped_all f [] now zero e h = h
mapped_all f [] now (suc i) e h = h
mapped_all f (o ∷ os) [] zero e h = absurd cc
mapped_all f (o ∷ os) (n ∷ ns) zero e h = absurd (omega arith)
mapped_all f (o ∷ os) [] (suc i) e h = absurd (omega arith)
mapped_all f (o ∷ os) (n ∷ ns) (suc i) e h =
    let whole : n ∷ ns ≡ f o ∷ (map f (take i os) ++ drop i os) = h in
    let tail : ns ≡ map f (take i os) ++ drop i os = cc in
    let rest : ns ≡ map f os = mapped_all f os ns i (omega arith) tail in
    cc

-- of a list with more behind it, as many as it has are the list
pub taken_back : {X : Type 0} (n : ℕ) (xs ys : List X) → n ≡ length xs → take n (xs ++ ys) ≡ xs
taken_back zero [] ys e = refl
taken_back (suc n) [] ys e = absurd (omega (arith, e))
taken_back zero (x ∷ xs) ys e = absurd (omega (arith, e))
taken_back (suc n) (x ∷ xs) ys e =
    let rest : take n (xs ++ ys) ≡ xs = taken_back n xs ys (omega (arith, e)) in
    cc
