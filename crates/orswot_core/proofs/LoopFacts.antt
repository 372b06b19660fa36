-- Steps of loops that add dots and ranges, look for repeats, or collect rows.
use Rattle.std.proofs.Common.{◌≡◌, ℕ, ◌+◌, ◌<◌, ◌≤◌, suc, Bool, true, false, not, cond, ◌&&◌, ◌||◌, List, [], ◌∷◌, length, drop, slice_index_or, refl, sym, ◌∙◌, ap, Option, Some, None, add-one}
use Rattle.std.proofs.Math.Seq.{drop-cons}
use Rattle.std.proofs.lemmas.List.{drop_all}
use Rattle.std.specs.List.{list_any, list_all}
use Rattle.std.specs.FinSet as set
use Rattle.presence_base.specs.declared.dots.Dot.{Dot}
use Rattle.presence_base.specs.Order.{same_dot}
use Rattle.presence_base.specs.Names.{guarded}
use Rattle.dot_context.specs.Sets.{DotSet, range}
use Rattle.dot_context.proofs.SetFacts.{contains-range}
use Rattle.orswot_core.specs.Telling.{Range, range_has}
use Rattle.orswot_core.specs.Checks.{has_repeat}
use Rattle.orswot_core.proofs.OrderFacts.{dot_total}

pub next_rest : {A : Type 0} (xs : List A) (i : ℕ) (x : A) → i < length xs → x ≡ slice_index_or xs i x → drop i xs ≡ x ∷ drop (i + 1) xs
next_rest xs i x lt e = drop-cons xs i x lt ∙ ap (λ y. y ∷ drop (suc i) xs) (sym e) ∙ ap (λ n. x ∷ drop n xs) (sym (add-one i))

or_swap : (a s r : Bool) → ((a || s) || r) ≡ (s || (a || r))
or_swap true true r = refl
or_swap true false r = refl
or_swap false s r = refl

or_groups : (a b c : Bool) → ((a || b) || c) ≡ (a || (b || c))
or_groups true b c = refl
or_groups false b c = refl

pub or_none : (a : Bool) → (a || false) ≡ a
or_none true = refl
or_none false = refl

-- one more dot is added, and one fewer is left
pub dot_added : (s t : DotSet) (d : Dot) (xs rest : List Dot) (q : Dot) → xs ≡ d ∷ rest → t ≡ set.insert s d
    → (set.contains t q || list_any (same_dot q) rest) ≡ (set.contains s q || list_any (same_dot q) xs)
dot_added s t d xs rest q split step =
    ap (λ x. set.contains x q || list_any (same_dot q) rest) step
    ∙ ap (λ b. b || list_any (same_dot q) rest) (set.contains-insert dot_total s d q)
    ∙ or_swap (same_dot q d) (set.contains s q) (list_any (same_dot q) rest)
    ∙ ap (λ l. set.contains s q || list_any (same_dot q) l) (sym split)

-- one more range is added, and one fewer is left
pub range_added : (s t : DotSet) (g : Range) (xs rest : List Range) (q : Dot) → xs ≡ g ∷ rest → t ≡ set.union s (range g.0 g.1 g.2)
    → (set.contains t q || list_any (range_has q) rest) ≡ (set.contains s q || list_any (range_has q) xs)
range_added s t g xs rest q split step =
    ap (λ x. set.contains x q || list_any (range_has q) rest) step
    ∙ ap (λ b. b || list_any (range_has q) rest) (set.contains-union dot_total s (range g.0 g.1 g.2) q ∙ ap (λ b. set.contains s q || b) (contains-range g.0 g.1 g.2 q))
    ∙ or_groups (set.contains s q) (range_has q g) (list_any (range_has q) rest)
    ∙ ap (λ l. set.contains s q || list_any (range_has q) l) (sym split)

-- what is left at the end of a loop
pub none_left : {A : Type 0} (p : A → Bool) (xs : List A) (i : ℕ) (b : Bool) → length xs ≤ i → (b || list_any p (drop i xs)) ≡ b
none_left p xs i b le = ap (λ l. b || list_any p l) (drop_all i xs le) ∙ or_none b

-- what was seen is in the rest, or the rest repeats itself
abbrev pub meets : {A : Type 0} → (A → A → Bool) → (A → Bool) → List A → Bool
meets same seen xs = list_any seen xs || has_repeat same xs

any_either : {A : Type 0} (p q r : A → Bool) (xs : List A) → ((x : A) → r x ≡ (p x || q x)) → list_any r xs ≡ (list_any p xs || list_any q xs)
any_either p q r [] e = refl
any_either p q r (x ∷ xs) e = ap (λ b. b || list_any r xs) (e x) ∙ ap (λ b. (p x || q x) || b) (any_either p q r xs e) ∙ regroup (p x) (q x) (list_any p xs) (list_any q xs)
  where
    regroup : (a b c d : Bool) → ((a || b) || (c || d)) ≡ ((a || c) || (b || d))
    regroup true b c d = refl
    regroup false true true d = refl
    regroup false true false d = refl
    regroup false false c d = refl

pub seen_one : {A : Type 0} (same : A → A → Bool) (seen seen' : A → Bool) (x : A) (xs : List A) → seen x ≡ false → ((q : A) → seen' q ≡ (same x q || seen q))
    → meets same seen' xs ≡ meets same seen (x ∷ xs)
seen_one same seen seen' x xs new step =
    ap (λ b. b || has_repeat same xs) (any_either (same x) seen seen' xs step)
    ∙ or_swap (list_any (same x) xs) (list_any seen xs) (has_repeat same xs)
    ∙ ap (λ b. (b || list_any seen xs) || (list_any (same x) xs || has_repeat same xs)) (sym new)

pub seen_before : {A : Type 0} (same : A → A → Bool) (seen : A → Bool) (x : A) (xs : List A) → seen x ≡ true → meets same seen (x ∷ xs) ≡ true
seen_before same seen x xs was = ap (λ b. (b || list_any seen xs) || has_repeat same (x ∷ xs)) was

pub nothing_seen : {A : Type 0} (same : A → A → Bool) (seen : A → Bool) (xs : List A) → ((q : A) → seen q ≡ false) → meets same seen xs ≡ has_repeat same xs
nothing_seen {A = A} same seen xs none = ap (λ b. b || has_repeat same xs) (none_of xs)
  where
    none_of : (xs : List A) → list_any seen xs ≡ false
    none_of [] = refl
    none_of (x ∷ xs) = ap (λ b. b || list_any seen xs) (none x) ∙ none_of xs

pub in_cond : (b c : Bool) → cond b true c ≡ (b || c)
in_cond true c = refl
in_cond false c = refl

pub all_weaker : {A : Type 0} (p q : A → Bool) → ((x : A) → p x ≡ true → q x ≡ true) → (xs : List A) → list_all p xs ≡ true → list_all q xs ≡ true
all_weaker p q f [] h = refl
all_weaker p q f (x ∷ xs) h = both (p x) (list_all p xs) (q x) (list_all q xs) (f x) (all_weaker p q f xs) h
  where
    both : (a b c d : Bool) → (a ≡ true → c ≡ true) → (b ≡ true → d ≡ true) → (a && b) ≡ true → (c && d) ≡ true
    both true true c d f g h = ap (λ x. x && d) (f refl) ∙ g refl
    both true false c d f g h = absurd (cc)
    both false b c d f g h = absurd (cc)

-- a refused row is no row of this shard within its limits
pub refused : {A B : Type 0} (d r t s : Bool) (x : A) (y : B) (o : Option B) → o ≡ guarded (r && t) y → o ≡ None → None ≡ guarded (d && (r && (t && s))) x
refused false r t s x y o e none = refl
refused true false t s x y o e none = refl
refused true true false s x y o e none = refl
refused true true true s x y o e none = absurd (some_none (sym e ∙ none))
  where
    some_none : {B : Type 0} {y : B} → Some y ≡ None → ⊥
    some_none e = absurd (cc)

pub elsewhere : {A : Type 0} (d r t s : Bool) (x : A) → s ≡ false → None ≡ guarded (d && (r && (t && s))) x
elsewhere false r t s x e = refl
elsewhere true false t s x e = refl
elsewhere true true false s x e = refl
elsewhere true true true true x e = absurd (cc)
elsewhere true true true false x e = refl

pub found_row : {B : Type 0} (b : Bool) (y z : B) (o : Option B) → o ≡ guarded b y → o ≡ Some z → (b ≡ true) × (z ≡ y)
found_row true y z o e f = (refl, cc)
found_row false y z o e f = absurd (cc)

pub accepted : {A : Type 0} (d r t s : Bool) (x y : A) → d ≡ true → (r && t) ≡ true → s ≡ true → y ≡ x → Some y ≡ guarded (d && (r && (t && s))) x
accepted true true true true x y hd h hs e = ap (λ z. Some z) e
accepted true true true false x y hd h hs e = absurd (cc)
accepted true true false s x y hd h hs e = absurd (cc)
accepted true false t s x y hd h hs e = absurd (cc)
accepted false r t s x y hd h hs e = absurd (cc)

pub negated : (b c : Bool) → c ≡ not b → c ≡ false → b ≡ true
negated true c e f = refl
negated false c e f = absurd (cc)

pub first_false : {A : Type 0} (p : A → Bool) (x : A) (xs all : List A) → all ≡ x ∷ xs → p x ≡ false → list_all p all ≡ false
first_false p x xs all e f = ap (list_all p) e ∙ ap (λ b. b && list_all p xs) f

pub first_true : {A : Type 0} (p : A → Bool) (x : A) (xs all : List A) → all ≡ x ∷ xs → p x ≡ true → list_all p xs ≡ list_all p all
first_true p x xs all e t = sym (ap (list_all p) e ∙ ap (λ b. b && list_all p xs) t)

pub not_guarded : {A : Type 0} (b : Bool) (x : A) → None ≡ guarded b x → b ≡ false
not_guarded true x e = absurd (cc)
not_guarded false x e = refl
