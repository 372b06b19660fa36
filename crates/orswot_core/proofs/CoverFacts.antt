-- What is covered after dots and an event are.
use Rattle.std.proofs.Common.{◌≡◌, Bool, true, false, ◌&&◌, ◌||◌, List, [], ◌∷◌, refl, sym, ◌∙◌, ap}
use Rattle.std.specs.List.{list_any, list_all}
use Rattle.std.specs.FinSet as set
use Rattle.presence_base.specs.declared.dots.Dot.{Dot}
use Rattle.presence_base.specs.Order.{dot_cmp, same_dot}
use Rattle.dot_context.specs.Sets.{DotSet}
use Rattle.orswot_core.proofs.OrderFacts.{dot_total, dots_equal}

-- dots that are covered add nothing
nothing_more : (s : DotSet) (ds : List Dot) (q : Dot) → list_all (set.contains s) ds ≡ true → (set.contains s q || list_any (same_dot q) ds) ≡ set.contains s q
nothing_more s [] q h = or_none (set.contains s q)
  where
    or_none : (a : Bool) → (a || false) ≡ a
    or_none true = refl
    or_none false = refl
nothing_more s (d ∷ ds) q h =
    one (set.contains s q) (same_dot q d) (set.contains s d) (list_all (set.contains s) ds) (list_any (same_dot q) ds) (λ same. ap (set.contains s) (dots_equal q d same)) (nothing_more s ds q) h
  where
    one : (c same here all more : Bool) → (same ≡ true → c ≡ here) → (all ≡ true → (c || more) ≡ c) → (here && all) ≡ true → (c || (same || more)) ≡ c
    one true same here all more f g h = refl
    one false true true true more f g h = sym (f refl)
    one false true true false more f g h = absurd (cc)
    one false true false all more f g h = absurd (cc)
    one false false true true more f g h = g refl
    one false false true false more f g h = absurd (cc)
    one false false false all more f g h = absurd (cc)

pub covered_already : (s : DotSet) (event : Dot) (ds : List Dot) (q : Dot) → list_all (set.contains s) ds ≡ true
    → set.contains (set.insert s event) q ≡ (same_dot q event || (set.contains s q || list_any (same_dot q) ds))
covered_already s event ds q h = set.contains-insert dot_total s event q ∙ ap (λ b. same_dot q event || b) (sym (nothing_more s ds q h))

or_turned : (s e d : Bool) → (s || (e || d)) ≡ (e || (s || d))
or_turned true true d = refl
or_turned true false d = refl
or_turned false e d = refl

pub covered_more : (s more t : DotSet) (event : Dot) (ds : List Dot) (q : Dot) → t ≡ set.union s (set.insert more event) → set.contains more q ≡ (set.contains (set.empty {R = dot_cmp}) q || list_any (same_dot q) ds)
    → set.contains t q ≡ (same_dot q event || (set.contains s q || list_any (same_dot q) ds))
covered_more s more t event ds q e added =
    ap (λ x. set.contains x q) e ∙ set.contains-union dot_total s (set.insert more event) q
    ∙ ap (λ b. set.contains s q || b) (set.contains-insert dot_total more event q ∙ ap (λ b. same_dot q event || b) (added ∙ ap (λ b. b || list_any (same_dot q) ds) (set.contains-empty dot_cmp q)))
    ∙ or_turned (set.contains s q) (same_dot q event) (list_any (same_dot q) ds)
