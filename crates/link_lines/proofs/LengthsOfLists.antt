-- What the length of an array says of its members.
use Rattle.std.proofs.Common.{◌≡◌, ◌≢◌, [], ◌∷◌, List, length, slice_index_or, Some, None, refl, arith}
use Rattle.serde_json.specs.View.{view, items_view}
use Rattle.serde_json.specs.declared.value.Value.{Value}
use Rattle.link_lines.specs.Arrays.{two_items, three_items, four_items, five_items, six_items, eight_items}

pub not_two : (vs : List Value) → length vs ≢ 2 → None ≡ two_items (items_view vs)
not_two [] h = refl
not_two (a ∷ []) h = refl
not_two (a ∷ b ∷ []) h = absurd (h refl)
not_two (a ∷ b ∷ c ∷ vs) h = refl

pub not_three : (vs : List Value) → length vs ≢ 3 → None ≡ three_items (items_view vs)
not_three [] h = refl
not_three (a ∷ []) h = refl
not_three (a ∷ b ∷ []) h = refl
not_three (a ∷ b ∷ c ∷ []) h = absurd (h refl)
not_three (a ∷ b ∷ c ∷ d ∷ vs) h = refl

pub not_four : (vs : List Value) → length vs ≢ 4 → None ≡ four_items (items_view vs)
not_four [] h = refl
not_four (a ∷ []) h = refl
not_four (a ∷ b ∷ []) h = refl
not_four (a ∷ b ∷ c ∷ []) h = refl
not_four (a ∷ b ∷ c ∷ d ∷ []) h = absurd (h refl)
not_four (a ∷ b ∷ c ∷ d ∷ e ∷ vs) h = refl

pub not_five : (vs : List Value) → length vs ≢ 5 → None ≡ five_items (items_view vs)
not_five [] h = refl
not_five (a ∷ []) h = refl
not_five (a ∷ b ∷ []) h = refl
not_five (a ∷ b ∷ c ∷ []) h = refl
not_five (a ∷ b ∷ c ∷ d ∷ []) h = refl
not_five (a ∷ b ∷ c ∷ d ∷ e ∷ []) h = absurd (h refl)
not_five (a ∷ b ∷ c ∷ d ∷ e ∷ f ∷ vs) h = refl

pub not_six : (vs : List Value) → length vs ≢ 6 → None ≡ six_items (items_view vs)
not_six [] h = refl
not_six (a ∷ []) h = refl
not_six (a ∷ b ∷ []) h = refl
not_six (a ∷ b ∷ c ∷ []) h = refl
not_six (a ∷ b ∷ c ∷ d ∷ []) h = refl
not_six (a ∷ b ∷ c ∷ d ∷ e ∷ []) h = refl
not_six (a ∷ b ∷ c ∷ d ∷ e ∷ f ∷ []) h = absurd (h refl)
not_six (a ∷ b ∷ c ∷ d ∷ e ∷ f ∷ g ∷ vs) h = refl

pub not_eight : (vs : List Value) → length vs ≢ 8 → None ≡ eight_items (items_view vs)
not_eight [] h = refl
not_eight (a ∷ []) h = refl
not_eight (a ∷ b ∷ []) h = refl
not_eight (a ∷ b ∷ c ∷ []) h = refl
not_eight (a ∷ b ∷ c ∷ d ∷ []) h = refl
not_eight (a ∷ b ∷ c ∷ d ∷ e ∷ []) h = refl
not_eight (a ∷ b ∷ c ∷ d ∷ e ∷ f ∷ []) h = refl
not_eight (a ∷ b ∷ c ∷ d ∷ e ∷ f ∷ g ∷ []) h = refl
not_eight (a ∷ b ∷ c ∷ d ∷ e ∷ f ∷ g ∷ i ∷ []) h = absurd (h refl)
not_eight (a ∷ b ∷ c ∷ d ∷ e ∷ f ∷ g ∷ i ∷ j ∷ vs) h = refl

pub six_of_list : (vs : List Value) (a b c d e f : Value) → length vs ≡ 6 → a ≡ slice_index_or vs 0 a → b ≡ slice_index_or vs 1 b → c ≡ slice_index_or vs 2 c
    → d ≡ slice_index_or vs 3 d → e ≡ slice_index_or vs 4 e → f ≡ slice_index_or vs 5 f → Some (view a, view b, view c, view d, view e, view f) ≡ six_items (items_view vs)
six_of_list [] a b c d e f h i j k l m n = absurd (omega (arith, h))
six_of_list (p ∷ []) a b c d e f h i j k l m n = absurd (omega (arith, h))
six_of_list (p ∷ q ∷ []) a b c d e f h i j k l m n = absurd (omega (arith, h))
six_of_list (p ∷ q ∷ r ∷ []) a b c d e f h i j k l m n = absurd (omega (arith, h))
six_of_list (p ∷ q ∷ r ∷ s ∷ []) a b c d e f h i j k l m n = absurd (omega (arith, h))
six_of_list (p ∷ q ∷ r ∷ s ∷ t ∷ []) a b c d e f h i j k l m n = absurd (omega (arith, h))
six_of_list (p ∷ q ∷ r ∷ s ∷ t ∷ u ∷ []) a b c d e f h i j k l m n =
    let x : a ≡ p = i in
    let y : b ≡ q = j in
    let z : c ≡ r = k in
    let v : d ≡ s = l in
    let w : e ≡ t = m in
    let o : f ≡ u = n in
    rw (x, y, z, v, w, o)
six_of_list (p ∷ q ∷ r ∷ s ∷ t ∷ u ∷ o ∷ vs) a b c d e f h i j k l m n = absurd (omega (arith, h))
