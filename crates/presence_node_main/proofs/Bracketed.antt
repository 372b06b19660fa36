-- The brackets of an address: what has no first one, or no last one, has none.
use Rattle.std.proofs.Common.{◌≡◌, ◌≢◌, ℕ, List, [], ◌∷◌, ◌++◌, Bor, Option, Some, None, MatchOption, option_map, sym, ◌∙◌, ap}
use Rattle.presence_node_main.specs.Place.{Brackets}

pub unopened : (address : List ℕ) → ((rest : List ℕ) → address ≢ 91 ∷ rest) → Brackets address None
unopened address none inner is = none (inner ++ 93 ∷ []) is

abbrev tail_of : List ℕ → List ℕ
tail_of [] = []
tail_of (b ∷ bs) = bs

pub closed_or_not : (address rest : List ℕ) (r : Option (Bor (List ℕ))) → address ≡ 91 ∷ rest
    → MatchOption r ((front : List ℕ) → rest ≢ front ++ (93 ∷ [])) (λ x. rest ≡ x.now ++ (93 ∷ []))
    → Brackets address (option_map (λ inner. inner.now) r)
closed_or_not address rest None opened none = λ inner is. none inner (ap tail_of (sym opened ∙ is))
closed_or_not address rest (Some x) opened closed = opened ∙ ap (λ l. 91 ∷ l) closed
