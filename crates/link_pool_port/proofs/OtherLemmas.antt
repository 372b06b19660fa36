-- What is all of others stays whole.
use Rattle.std.proofs.Common.{◌≡◌, Bool, true, false, not, ◌||◌, cond, List, [], ◌∷◌, Option, Some, None, refl, ap, ◌∙◌, sym}
use Rattle.std.specs.List.{filter, list_any}
use Rattle.presence_base.specs.declared.dots.Replica.{Replica}
use Rattle.orswot_core.specs.Telling.{ToldValue, cut_to}
use Rattle.link_pool_port.specs.Others.{is_life_of, is_other, tells_of, of_others}

kept : {A : Type 0} (b : Bool) (x : A) (xs ys : List A) (any : Bool) → (b || any) ≡ false → (any ≡ false → ys ≡ xs) → cond (not b) (x ∷ ys) ys ≡ x ∷ xs
kept true x xs ys any e same = absurd cc
kept false x xs ys any e same = ap (λ zs. x ∷ zs) (same e)

none_left : {A : Type 0} (q : A → Bool) (xs : List A) → list_any q xs ≡ false → filter (λ x. not (q x)) xs ≡ xs
none_left q [] e = refl
none_left q (x ∷ xs) e = kept (q x) x xs (filter (λ y. not (q y)) xs) (list_any q xs) e (λ h. none_left q xs h)

whole : (own : Replica) (t : ToldValue) (gs ds xs : Bool) → list_any (λ g. is_life_of own g.0) t.ranges ≡ gs
    → list_any (λ d. is_life_of own d.replica) t.extras ≡ ds → list_any (λ x. is_life_of own x.0.replica) t.live ≡ xs
    → (gs || (ds || xs)) ≡ false → cut_to (is_other own) t ≡ t
whole own t false false false g d x e =
    ap (λ ranges. record { ranges = ranges; extras = (cut_to (is_other own) t).extras; live = (cut_to (is_other own) t).live }) (none_left (λ r. is_life_of own r.0) t.ranges g)
    ∙ ap (λ extras. record { ranges = t.ranges; extras = extras; live = (cut_to (is_other own) t).live }) (none_left (λ r. is_life_of own r.replica) t.extras d)
    ∙ ap (λ live. record { ranges = t.ranges; extras = t.extras; live = live }) (none_left (λ r. is_life_of own r.0.replica) t.live x)
whole own t true ds xs g d x e = absurd cc
whole own t false true xs g d x e = absurd cc
whole own t false false true g d x e = absurd cc

pub all_of_others : (own : Replica) (t : ToldValue) → tells_of own t ≡ false → t ≡ of_others (Some own) t
all_of_others own t e = sym (whole own t (list_any (λ g. is_life_of own g.0) t.ranges) (list_any (λ d. is_life_of own d.replica) t.extras)
    (list_any (λ x. is_life_of own x.0.replica) t.live) refl refl refl e)
