-- What a look-up in lists finds after an edit, and that edits keep the keys in order.
use Rattle.std.proofs.Common.{◌≡◌, ℕ, List, [], ◌∷◌, Bool, true, false, cond, Some, None, refl, ap, sym, ◌∙◌}
use Rattle.std.specs.declared.cmp.Ordering.{Ordering}
use Rattle.std.specs.declared.cmp.Ordering.TheVariants.{Less, Equal, Greater}
use Rattle.std.specs.Ordering.{is_eq}
use Rattle.std.specs.Cmp.{IsTotalOrder}
use Rattle.std.specs.List.{AllByRecursion}
use Rattle.std.specs.List.Sorted.{IsStrictlySortedBy}
use Rattle.std.specs.Map.{keys_of, lookup, remove_entry}
use Rattle.std.specs.BTreeMap.{is_at, insert_entry}
use Rattle.std.proofs.lemmas.Cmp.{nat_list_cmp_total, eq_by_cmp_equiv}
use Rattle.std.proofs.lemmas.Map.{lookup-remove_entry}
use Rattle.std.proofs.lemmas.Map.Keys.{IsDistinct-from_sorted}
use Rattle.std.proofs.lemmas.Map.Text.{is_eq-slice_cmp}
use Rattle.std.proofs.lemmas.Slice.Eq.{bytes_eq-Decides}
use Rattle.presence_base.specs.Order.{text_cmp}
use Rattle.presence_metas.specs.declared.tracked.TrackedMeta.{TrackedMeta}
use Rattle.presence_metas.specs.Listing.{Listing, at, without_key, put}

abbrev pub same : List ℕ → List ℕ → Bool
same q k = is_at (text_cmp q) k

pub same_is : (q k : List ℕ) → same q k ≡ true → q ≡ k
same_is q k h = (bytes_eq-Decides q k).0 (sym (is_eq-slice_cmp q k) ∙ h)

pub same_self : (k : List ℕ) → same k k ≡ true
same_self k = is_eq-slice_cmp k k ∙ (bytes_eq-Decides k k).1 refl

pub equal_is : (q k : List ℕ) → text_cmp q k ≡ Equal → q ≡ k
equal_is q k h = same_is q k (ap is_eq h)

less_apart : (q k : List ℕ) → text_cmp q k ≡ Less → same q k ≡ false
less_apart q k h = ap is_eq h

pub order : IsTotalOrder text_cmp
order = nat_list_cmp_total

pub bool_cases : {P : Type 0} (b : Bool) → (b ≡ true → P) → (b ≡ false → P) → P
bool_cases true yes_it no_it = yes_it refl
bool_cases false yes_it no_it = no_it refl

pub order_cases : {P : Type 0} (o : Ordering) → (o ≡ Less → P) → (o ≡ Equal → P) → (o ≡ Greater → P) → P
order_cases Less l e g = l refl
order_cases Equal l e g = e refl
order_cases Greater l e g = g refl

pub true_false : {P : Type 0} → true ≡ false → P
true_false h = cc

-- ---- look-ups

module _ {X : Type 0} where
  find_cons : (q : List ℕ) (k : List ℕ) (v : X) (es : List (List ℕ × X)) → lookup (is_at (text_cmp q)) ((k, v) ∷ es) ≡ cond (same q k) (Some v) (lookup (is_at (text_cmp q)) es)
  find_cons q k v es = refl

  pub find_inserted : (q k : List ℕ) (v : X) (es : List (List ℕ × X)) → lookup (is_at (text_cmp q)) (insert_entry text_cmp es k v) ≡ cond (same q k) (Some v) (lookup (is_at (text_cmp q)) es)
  find_inserted q k v [] = refl
  find_inserted q k v (e ∷ es) =
      order_cases (text_cmp k e.0)
      (λ o. rw o refl)
      (λ o. let alike : k ≡ e.0 = equal_is k e.0 o in rw o (
      bool_cases (same q k)
      (λ s. let t : same q e.0 ≡ true = ap (same q) (sym alike) ∙ s in rw (s, t) refl)
      (λ s. let t : same q e.0 ≡ false = ap (same q) (sym alike) ∙ s in rw (s, t) refl)))
      (λ o. rw o (
      bool_cases (same q k)
      (λ s. bool_cases (same q e.0)
      (λ t. let alike : k ≡ e.0 = sym (same_is q k s) ∙ same_is q e.0 t in true_false (sym (ap (same k) (sym alike) ∙ same_self k) ∙ ap is_eq o))
      (λ t. rw (t, s) (find_inserted q k v es ∙ rw s refl)))
      (λ s. bool_cases (same q e.0)
      (λ t. rw (t, s) refl)
      (λ t. rw (t, s) (find_inserted q k v es ∙ rw s refl)))))

-- ---- keys in order

abbrev pub Rises : {X : Type 0} → List (List ℕ × X) → Type 0
Rises es = IsStrictlySortedBy text_cmp (keys_of es)

abbrev pub Above : {X : Type 0} → List ℕ → List (List ℕ × X) → Type 0
Above k es = AllByRecursion (λ y. text_cmp k y ≡ Less) (keys_of es)

module _ {X : Type 0} where
  pub rest_rises : (e : List ℕ × X) (es : List (List ℕ × X)) → Rises (e ∷ es) → Rises es
  unfolding IsStrictlySortedBy
  rest_rises e es h = h.1

  pub first_below : (e : List ℕ × X) (es : List (List ℕ × X)) → Rises (e ∷ es) → Above e.0 es
  unfolding IsStrictlySortedBy
  first_below e es h = h.0

  rises_on : (e : List ℕ × X) (es : List (List ℕ × X)) → Above e.0 es → Rises es → Rises (e ∷ es)
  unfolding IsStrictlySortedBy
  rises_on e es above rises = (above, rises)

  pub one_rises : (e : List ℕ × X) → Rises (e ∷ [])
  unfolding IsStrictlySortedBy
  one_rises e = (tt, tt)

  pub find_above : (k : List ℕ) (es : List (List ℕ × X)) → Above k es → lookup (is_at (text_cmp k)) es ≡ None
  find_above k [] h = refl
  find_above k (e ∷ es) h = rw (h.0) (find_above k es h.1)

  above_more : (j k : List ℕ) (es : List (List ℕ × X)) → text_cmp j k ≡ Less → Above k es → Above j es
  above_more j k [] l h = tt
  above_more j k (e ∷ es) l h = (order.trans j k e.0 l h.0, above_more j k es l h.1)

  above_removed : (k : List ℕ) (test : List ℕ → Bool) (es : List (List ℕ × X)) → Above k es → Above k (remove_entry test es)
  above_removed k test [] h = tt
  above_removed k test (e ∷ es) h = bool_cases (test e.0) (λ t. rw t h.1) (λ t. rw t (h.0, above_removed k test es h.1))

  pub removed_rises : (test : List ℕ → Bool) (es : List (List ℕ × X)) → Rises es → Rises (remove_entry test es)
  removed_rises test [] h = h
  removed_rises test (e ∷ es) h =
      bool_cases (test e.0) (λ t. rw t (rest_rises e es h))
      (λ t. rw t (rises_on e (remove_entry test es) (above_removed e.0 test es (first_below e es h)) (removed_rises test es (rest_rises e es h))))

  above_inserted : (j k : List ℕ) (v : X) (es : List (List ℕ × X)) → text_cmp j k ≡ Less → Above j es → Above j (insert_entry text_cmp es k v)
  above_inserted j k v [] l h = (l, tt)
  above_inserted j k v (e ∷ es) l h =
      order_cases (text_cmp k e.0) (λ o. rw o (l, h)) (λ o. rw o h) (λ o. rw o (h.0, above_inserted j k v es l h.1))

  pub inserted_rises : (k : List ℕ) (v : X) (es : List (List ℕ × X)) → Rises es → Rises (insert_entry text_cmp es k v)
  inserted_rises k v [] h = one_rises (k, v)
  inserted_rises k v (e ∷ es) h =
      order_cases (text_cmp k e.0)
      (λ o. rw o (rises_on (k, v) (e ∷ es) (o, above_more k e.0 es o (first_below e es h)) h))
      (λ o. rw o (rises_on (e.0, v) es (first_below e es h) (rest_rises e es h)))
      (λ o. let below : text_cmp e.0 k ≡ Less = order.antisymm e.0 k ∙ rw o refl in
      rw o (rises_on e (insert_entry text_cmp es k v) (above_inserted e.0 k v es below (first_below e es h)) (inserted_rises k v es (rest_rises e es h))))

pub none_rises : Rises {X = List TrackedMeta} []
unfolding IsStrictlySortedBy
none_rises = tt

-- ---- a key's metas after it was put

find_without : (q k : List ℕ) (ls : Listing) → Rises ls → lookup (is_at (text_cmp q)) (without_key ls k) ≡ cond (same k q) None (lookup (is_at (text_cmp q)) ls)
find_without q k ls h =
    lookup-remove_entry (eq_by_cmp_equiv order) (is_at (text_cmp k)) (λ x y at_x. ap (λ z. same z y) (same_is k x at_x)) q ls (IsDistinct-from_sorted text_cmp (keys_of ls) h)

pub put_rises : (ls : Listing) (k : List ℕ) (ts : List TrackedMeta) → Rises ls → Rises (put ls k ts)
put_rises ls k [] h = removed_rises (is_at (text_cmp k)) ls h
put_rises ls k (t ∷ ts) h = inserted_rises k (t ∷ ts) (without_key ls k) (removed_rises (is_at (text_cmp k)) ls h)

pub put_here : (ls : Listing) (k : List ℕ) (ts : List TrackedMeta) → Rises ls → at (put ls k ts) k ≡ ts
put_here ls k [] h = rw (find_without k k ls h, same_self k) refl
put_here ls k (t ∷ ts) h = rw (find_inserted k k (t ∷ ts) (without_key ls k), same_self k) refl

same_flip : (q k : List ℕ) → same q k ≡ false → same k q ≡ false
same_flip q k h = bool_cases (same k q) (λ s. true_false (sym (ap (same q) (same_is k q s) ∙ same_self q) ∙ h)) (λ s. s)

pub put_other : (ls : Listing) (k : List ℕ) (ts : List TrackedMeta) (q : List ℕ) → same q k ≡ false → Rises ls → at (put ls k ts) q ≡ at ls q
put_other ls k [] q apart h = rw (find_without q k ls h, same_flip q k apart) refl
put_other ls k (t ∷ ts) q apart h = rw (find_inserted q k (t ∷ ts) (without_key ls k), apart, find_without q k ls h, same_flip q k apart) refl
