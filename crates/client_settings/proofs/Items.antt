-- Of which arrays nothing else is told than themselves.
use Rattle.std.proofs.Common.{◌≡◌, ◌≤◌, ◌<◌, false, List, [], ◌∷◌, length, get_or, refl, sym, ap, ◌∙◌, arith}
use Rattle.serde_json.specs.View.{view, items_view}
use Rattle.serde_json.specs.declared.value.Value.{Value}
use Rattle.client_settings.specs.Kept.{itself, shouted, event_in, is_mark, marked, told_items}

pub one_or_none : (xs : List Value) → length xs < 2 → itself ≡ told_items (items_view xs)
one_or_none [] h = refl
one_or_none (x ∷ []) h = refl
one_or_none (x ∷ y ∷ xs) h = absurd (omega (arith, h))

pub two_unmarked : (xs : List Value) (last : Value) → 2 ≤ length xs → length xs < 3 → last ≡ get_or xs 1 last
    → is_mark (view last) ≡ false → itself ≡ told_items (items_view xs)
two_unmarked [] last h g is un = absurd (omega (arith, h))
two_unmarked (x ∷ []) last h g is un = absurd (omega (arith, h))
two_unmarked (x ∷ y ∷ []) last h g is un =
    ap (λ b. marked b (shouted (view x))) (sym un ∙ ap (λ v. is_mark (view v)) is)
two_unmarked (x ∷ y ∷ z ∷ xs) last h g is un = absurd (omega (arith, g))

pub three : (xs : List Value) → 3 ≤ length xs → length xs < 4 → itself ≡ told_items (items_view xs)
three [] h g = refl
three (a ∷ []) h g = refl
three (a ∷ b ∷ []) h g = absurd (omega (arith, h))
three (a ∷ b ∷ d ∷ []) h g = refl
three (a ∷ b ∷ d ∷ e ∷ xs) h g = absurd (omega (arith, g))

pub four_unmarked : (xs : List Value) (last : Value) → 4 ≤ length xs → length xs < 5 → last ≡ get_or xs 3 last
    → is_mark (view last) ≡ false → itself ≡ told_items (items_view xs)
four_unmarked [] last h g is un = refl
four_unmarked (a ∷ []) last h g is un = refl
four_unmarked (a ∷ b ∷ []) last h g is un = absurd (omega (arith, h))
four_unmarked (a ∷ b ∷ d ∷ []) last h g is un = refl
four_unmarked (a ∷ b ∷ d ∷ e ∷ []) last h g is un =
    ap (λ t. marked t (event_in (view a) (view b) (view d))) (sym un ∙ ap (λ v. is_mark (view v)) is)
four_unmarked (a ∷ b ∷ d ∷ e ∷ f ∷ xs) last h g is un = absurd (omega (arith, g))

pub more : (xs : List Value) → 5 ≤ length xs → itself ≡ told_items (items_view xs)
more [] h = refl
more (a ∷ []) h = refl
more (a ∷ b ∷ []) h = absurd (omega (arith, h))
more (a ∷ b ∷ d ∷ []) h = refl
more (a ∷ b ∷ d ∷ e ∷ []) h = absurd (omega (arith, h))
more (a ∷ b ∷ d ∷ e ∷ f ∷ xs) h = refl

pub ruleset unmarked = (one_or_none, two_unmarked, three, four_unmarked, more)
