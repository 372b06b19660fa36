-- A diff that is applied to the lists is folded into the map that they are.
use Rattle.std.proofs.Common.{◌≡◌, ℕ, List, [], ◌∷◌, ◌++◌, true, false, cond, Option, Some, None, refl, ap, sym, ◌∙◌, append-nil}
use Rattle.std.specs.List.{fold}
use Rattle.std.specs.Str.{bytes_eq}
use Rattle.std.proofs.lemmas.Slice.Eq.{bytes_eq-Decides}
use Rattle.serde_json.specs.Data.{Data}
use Rattle.presence_metas.specs.declared.tracked.TrackedMeta.{TrackedMeta}
use Rattle.presence_metas.specs.declared.presences.Diff.{Diff}
use Rattle.presence_metas.specs.Listing.{Listing, at, put, is_named, left_metas, joined_metas, join_key, applied}
use Rattle.presence_metas.specs.Fold.{first_some, last_named, meta_at, folded}
use Rattle.presence_metas.proofs.Lookups.{same, same_is, bool_cases, Rises, rest_rises, first_below, find_above, put_rises, put_here, put_other}

-- ---- key by key

abbrev step : (List TrackedMeta → List TrackedMeta → List TrackedMeta) → Listing → List ℕ × List TrackedMeta → Listing
step op ls e = put ls e.0 (op (at ls e.0) e.1)

here : (q : List ℕ) (e : List ℕ × List TrackedMeta) (es : Listing) → same q e.0 ≡ true → at (e ∷ es) q ≡ e.1
here q e es s = rw s refl

there : (q : List ℕ) (e : List ℕ × List TrackedMeta) (es : Listing) → same q e.0 ≡ false → at (e ∷ es) q ≡ at es q
there q e es s = rw s refl

nothing_above : (k : List ℕ) (e : List ℕ × List TrackedMeta) (es : Listing) → Rises (e ∷ es) → at es e.0 ≡ []
nothing_above k e es h = rw (find_above e.0 es (first_below e es h)) refl

fold_rises : (op : List TrackedMeta → List TrackedMeta → List TrackedMeta) (ls es : Listing) → Rises ls → Rises (fold (step op) ls es)
fold_rises op ls [] h = h
fold_rises op ls (e ∷ es) h = fold_rises op (step op ls e) es (put_rises ls e.0 (op (at ls e.0) e.1) h)

fold_at : (op : List TrackedMeta → List TrackedMeta → List TrackedMeta) → ((ts : List TrackedMeta) → op ts [] ≡ ts) → (ls es : Listing) → Rises ls → Rises es → (k : List ℕ)
    → at (fold (step op) ls es) k ≡ op (at ls k) (at es k)
fold_at op nil ls [] rl re k = sym (nil (at ls k))
fold_at op nil ls (e ∷ es) rl re k =
    fold_at op nil (step op ls e) es (put_rises ls e.0 (op (at ls e.0) e.1) rl) (rest_rises e es re) k
    ∙ bool_cases (same k e.0)
    (λ s. let alike : k ≡ e.0 = same_is k e.0 s in at_key alike ∙ sym (ap (op (at ls k)) (here k e es s)))
    (λ s. rw (put_other ls e.0 (op (at ls e.0) e.1) k s rl, there k e es s) refl)
  where
    at_key : k ≡ e.0 → op (at (step op ls e) k) (at es k) ≡ op (at ls k) e.1
    at_key alike = rw (alike, put_here ls e.0 (op (at ls e.0) e.1) rl, nothing_above k e es re) (nil (op (at ls e.0) e.1))

left_nil : (ts : List TrackedMeta) → left_metas ts [] ≡ ts
left_nil [] = refl
left_nil (t ∷ ts) = ap (λ us. t ∷ us) (left_nil ts)

joined_nil : (ts : List TrackedMeta) → joined_metas ts [] ≡ ts
joined_nil ts = rw (left_nil ts) (append-nil ts)

-- ---- reference by reference

first_none : {A : Type 0} (o : Option A) → first_some o None ≡ o
first_none (Some x) = refl
first_none None = refl

first_first : {A : Type 0} (a b c : Option A) → first_some (first_some a b) c ≡ first_some a (first_some b c)
first_first (Some x) b c = refl
first_first None b c = refl

last_append : (ts us : List TrackedMeta) (r : List ℕ) → last_named (ts ++ us) r ≡ first_some (last_named us r) (last_named ts r)
last_append [] us r = sym (first_none (last_named us r))
last_append (t ∷ ts) us r = rw (last_append ts us r) (first_first (last_named us r) (last_named ts r) (cond (bytes_eq t.reference r) (Some t.meta) None))

last_left : (ts gone : List TrackedMeta) (r : List ℕ) → last_named (left_metas ts gone) r ≡ cond (is_named gone r) None (last_named ts r)
last_left [] gone r = bool_cases (is_named gone r) (λ g. rw g refl) (λ g. rw g refl)
last_left (t ∷ ts) gone r =
    bool_cases (bytes_eq t.reference r)
    (λ s. let alike : t.reference ≡ r = (bytes_eq-Decides t.reference r).0 s in
    bool_cases (is_named gone r)
    (λ g. let u : is_named gone t.reference ≡ true = ap (is_named gone) alike ∙ g in rw (u, g) (last_left ts gone r ∙ rw g refl))
    (λ g. let u : is_named gone t.reference ≡ false = ap (is_named gone) alike ∙ g in rw (u, g, last_left ts gone r, g) refl))
    (λ s. bool_cases (is_named gone t.reference)
    (λ u. rw (u, s, first_none (last_named ts r)) (last_left ts gone r))
    (λ u. rw (u, s, first_none (last_named (left_metas ts gone) r), first_none (last_named ts r)) (last_left ts gone r)))

some_last : (ts : List TrackedMeta) (r : List ℕ) → is_named ts r ≡ true → (m : Data) × (last_named ts r ≡ Some m)
some_last [] r h = cc
some_last (t ∷ ts) r h =
    bool_cases (is_named ts r)
    (λ g. let f = some_last ts r g in (f.0, rw (f.1) refl))
    (λ g. bool_cases (bytes_eq t.reference r) (λ s. found s (last_named ts r)) (λ s. let bad : false ≡ true = rw (s, g) at h in cc))
  where
    found : bytes_eq t.reference r ≡ true → (o : Option Data) → (m : Data) × (first_some o (cond (bytes_eq t.reference r) (Some t.meta) None) ≡ Some m)
    found s None = (t.meta, rw s refl)
    found s (Some m) = (m, refl)

last_joined : (held joined : List TrackedMeta) (r : List ℕ) → last_named (joined_metas held joined) r ≡ first_some (last_named joined r) (last_named held r)
last_joined held joined r =
    last_append (left_metas held joined) joined r
    ∙ rw (last_left held joined r) (bool_cases (is_named joined r) (λ g. let f = some_last joined r g in rw (g, f.1) refl) (λ g. rw g refl))

-- ---- a diff

pub applied_as_map : (ls : Listing) (d : Diff) → Rises ls → Rises d.joins → Rises d.leaves → (k r : List ℕ) → meta_at (applied ls d) k r ≡ folded (meta_at ls) d k r
unfolding applied
applied_as_map ls d rises joins_rise leaves_rise k r =
    rw (
      fold_at left_metas left_nil (fold join_key ls d.joins) d.leaves (fold_rises joined_metas ls d.joins rises) leaves_rise k,
      fold_at joined_metas joined_nil ls d.joins rises joins_rise k,
      last_left (joined_metas (at ls k) (at d.joins k)) (at d.leaves k) r,
      last_joined (at ls k) (at d.joins k) r,
    )
    refl

-- the keys stay in order
pub applied_rises : (ls : Listing) (d : Diff) → Rises ls → Rises (applied ls d)
unfolding applied
applied_rises ls d rises = fold_rises left_metas (fold join_key ls d.joins) d.leaves (fold_rises joined_metas ls d.joins rises)
