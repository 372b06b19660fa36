-- What a told value keeps where it is cut down to some replicas.
use Rattle.std.proofs.Common.{◌≡◌, Bool, true, false, cond, ◌&&◌, ◌||◌, List, [], ◌∷◌, refl, sym, ◌∙◌, ap, subst, map}
use Rattle.std.proofs.lemmas.Map.Entries.{lookup-filter-keys}
use Rattle.std.specs.List.{filter, list_any, list_all}
use Rattle.presence_base.specs.declared.dots.Replica.{Replica}
use Rattle.presence_base.specs.declared.dots.Dot.{Dot}
use Rattle.presence_base.specs.declared.row.Row.{Row}
use Rattle.presence_base.specs.Order.{same_dot, same_replica}
use Rattle.orswot_core.specs.Limits.{is_dot, is_row, is_range}
use Rattle.orswot_core.specs.Telling.{Range, ToldValue, range_has, covers, cut_to, CutTellsOfSome}
use Rattle.orswot_core.specs.Checks.{IsTold, has_repeat, is_forward}
use Rattle.orswot_core.proofs.OrderFacts.{dots_equal, replicas_equal}

any_kept : {A : Type 0} (test keep : A → Bool) (b : Bool) (xs : List A) → ((x : A) → test x ≡ true → keep x ≡ b) → list_any test (filter keep xs) ≡ (b && list_any test xs)
any_kept test keep b [] f = none b
  where
    none : (b : Bool) → false ≡ (b && false)
    none true = refl
    none false = refl
any_kept {A = A} test keep b (x ∷ xs) f =
    inside (keep x) (filter keep xs) ∙ under (keep x) (test x) b (list_any test (filter keep xs)) (list_any test xs) (f x) (any_kept test keep b xs f)
  where
    under : (k t b rest all : Bool) → (t ≡ true → k ≡ b) → rest ≡ (b && all) → cond k (t || rest) rest ≡ (b && (t || all))
    under true true b rest all f h = ap (λ c. c && true) (f refl)
    under true false b rest all f h = h
    under false true b rest all f h = h ∙ ap (λ c. c && all) (sym (f refl)) ∙ ap (λ c. c && true) (f refl)
    under false false b rest all f h = h

    inside : (k : Bool) (ys : List A) → list_any test (cond k (x ∷ ys) ys) ≡ cond k (test x || list_any test ys) (list_any test ys)
    inside true ys = refl
    inside false ys = refl

all_kept : {A : Type 0} (p q keep : A → Bool) (xs : List A) → ((x : A) → keep x ≡ true → p x ≡ true → q x ≡ true) → list_all p xs ≡ true → list_all q (filter keep xs) ≡ true
all_kept p q keep [] f h = refl
all_kept p q keep (x ∷ xs) f h =
    let parts = both (p x) (list_all p xs) h in
    by (keep x) (f x) parts.0 (all_kept p q keep xs f parts.1)
  where
    both : (a b : Bool) → (a && b) ≡ true → (a ≡ true) × (b ≡ true)
    both true b h = (refl, h)
    both false b h = absurd (cc)

    by : (k : Bool) → (k ≡ true → p x ≡ true → q x ≡ true) → p x ≡ true → list_all q (filter keep xs) ≡ true → list_all q (cond k (x ∷ filter keep xs) (filter keep xs)) ≡ true
    by true f here rest = ap (λ b. b && list_all q (filter keep xs)) (f refl here) ∙ rest
    by false f here rest = rest

none_kept : {A B : Type 0} (test : B → Bool) (part : A → B) (keep : A → Bool) (xs : List A) → list_any test (map part xs) ≡ false → list_any test (map part (filter keep xs)) ≡ false
none_kept test part keep [] h = refl
none_kept test part keep (x ∷ xs) h =
    let parts = neither (test (part x)) (list_any test (map part xs)) h in
    by (keep x) parts.0 (none_kept test part keep xs parts.1)
  where
    neither : (a b : Bool) → (a || b) ≡ false → (a ≡ false) × (b ≡ false)
    neither true b h = absurd (cc)
    neither false b h = (refl, h)

    by : (k : Bool) → test (part x) ≡ false → list_any test (map part (filter keep xs)) ≡ false → list_any test (map part (cond k (x ∷ filter keep xs) (filter keep xs))) ≡ false
    by true here rest = ap (λ b. b || list_any test (map part (filter keep xs))) here ∙ rest
    by false here rest = rest

once_kept : {A B : Type 0} (same : B → B → Bool) (part : A → B) (keep : A → Bool) (xs : List A) → has_repeat same (map part xs) ≡ false → has_repeat same (map part (filter keep xs)) ≡ false
once_kept same part keep [] h = refl
once_kept same part keep (x ∷ xs) h =
    let parts = neither (list_any (same (part x)) (map part xs)) (has_repeat same (map part xs)) h in
    by (keep x) (none_kept (same (part x)) part keep xs parts.0) (once_kept same part keep xs parts.1)
  where
    neither : (a b : Bool) → (a || b) ≡ false → (a ≡ false) × (b ≡ false)
    neither true b h = absurd (cc)
    neither false b h = (refl, h)

    by : (k : Bool) → list_any (same (part x)) (map part (filter keep xs)) ≡ false → has_repeat same (map part (filter keep xs)) ≡ false → has_repeat same (map part (cond k (x ∷ filter keep xs) (filter keep xs))) ≡ false
    by true here rest = ap (λ b. b || has_repeat same (map part (filter keep xs))) here ∙ rest
    by false here rest = rest

of_range : (d : Dot) (g : Range) → range_has d g ≡ true → d.replica ≡ g.0
of_range d g h = replicas_equal d.replica g.0 (first (same_replica d.replica g.0) _ h)
  where
    first : (a b : Bool) → (a && b) ≡ true → a ≡ true
    first true b h = refl
    first false b h = absurd (cc)

spread : (b x y : Bool) → ((b && x) || (b && y)) ≡ (b && (x || y))
spread true x y = refl
spread false x y = refl

pub cut_covers : (picks : Replica → Bool) (t : ToldValue) (d : Dot) → covers (cut_to picks t) d ≡ (picks d.replica && covers t d)
cut_covers picks t d =
    ap (λ b. b || list_any (same_dot d) (filter (λ e. picks e.replica) t.extras))
    (any_kept (range_has d) (λ g. picks g.0) (picks d.replica) t.ranges (λ g here. ap picks (sym (of_range d g here))))
    ∙ ap (λ b. (picks d.replica && list_any (range_has d) t.ranges) || b)
    (any_kept (same_dot d) (λ e. picks e.replica) (picks d.replica) t.extras (λ e here. ap (λ (x : Dot). picks x.replica) (sym (dots_equal d e here))))
    ∙ spread (picks d.replica) (list_any (range_has d) t.ranges) (list_any (same_dot d) t.extras)

pub cut_tells : CutTellsOfSome
cut_tells picks t d = (
  cut_covers picks t d,
  lookup-filter-keys (same_dot d) (λ (k : Dot). picks k.replica) (picks d.replica) (λ k same. ap (λ (x : Dot). picks x.replica) (sym (dots_equal d k same))) t.live,
)

pub cut_told : (picks : Replica → Bool) (t : ToldValue) → IsTold t → IsTold (cut_to picks t)
cut_told picks t h = record {
  forward = all_kept is_forward is_forward (λ g. picks g.0) t.ranges (λ g k e. e) h.forward;
  ranges = all_kept is_range is_range (λ g. picks g.0) t.ranges (λ g k e. e) h.ranges;
  extras = all_kept is_dot is_dot (λ d. picks d.replica) t.extras (λ d k e. e) h.extras;
  rows = all_kept (λ x. is_dot x.0 && is_row x.1) (λ x. is_dot x.0 && is_row x.1) (λ (x : Dot × Row). picks x.0.replica) t.live (λ x k e. e) h.rows;
  covered = all_kept (λ x. covers t x.0) (λ x. covers (cut_to picks t) x.0) (λ (x : Dot × Row). picks x.0.replica) t.live
      (λ x k e. cut_covers picks t x.0 ∙ ap (λ b. b && covers t x.0) k ∙ e) h.covered;
  once = once_kept same_dot (λ (x : Dot × Row). x.0) (λ x. picks x.0.replica) t.live h.once;
}

pub cut_parts : (picks : Replica → Bool) (t : ToldValue) (gs : List Range) (es : List Dot) (xs : List (Dot × Row)) → IsTold t
    → gs ≡ filter (λ g. picks g.0) t.ranges → es ≡ filter (λ d. picks d.replica) t.extras → xs ≡ filter (λ x. picks x.0.replica) t.live
    → IsTold (record { ranges = gs; extras = es; live = xs })
cut_parts picks t gs es xs h e e' e'' =
    let same : cut_to picks t ≡ record { ranges = gs; extras = es; live = xs } = λ i. record { ranges = sym e i; extras = sym e' i; live = sym e'' i } in
    subst IsTold same (cut_told picks t h)
