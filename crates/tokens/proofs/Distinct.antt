-- Whether no object of a value has a member twice.
use Rattle.std.proofs.Common.{◌≡◌, ℕ, List, [], ◌∷◌, Bool, true, false, not, ◌&&◌, ◌||◌, bytes_eq, refl}
use Rattle.std.specs.List.{AllByRecursion, IsDistinct, list_any}
use Rattle.std.proofs.lemmas.Map.Made.{AllPairs-from_IsDistinct, IsDistinct-from_AllPairs}
use Rattle.std.proofs.lemmas.Slice.Eq.{bytes_eq-Decides}
use Rattle.json.specs.Json.{Json, null, boolean, number, string, array, object, Items, no_items, item, Members, no_members, member}
use Rattle.json.specs.Strict.{keys, HasUniqueKeys, ItemsHaveUniqueKeys, MembersHaveUniqueKeys}
use Rattle.tokens.specs.Unique.{are_distinct, is_unique, are_items_unique, are_members_unique}

both : (a b : Bool) → (a && b) ≡ true → (a ≡ true) × (b ≡ true)
both true b is = (refl, is)
both false b is = absurd (cc)

and_both : (a b : Bool) → a ≡ true → b ≡ true → (a && b) ≡ true
and_both true b e f = f
and_both false b e f = absurd (cc)

neither : (a b : Bool) → (a || b) ≡ false → (a ≡ false) × (b ≡ false)
neither true b is = absurd (cc)
neither false b is = (refl, is)

or_neither : (a b : Bool) → a ≡ false → b ≡ false → (a || b) ≡ false
or_neither true b e f = absurd (cc)
or_neither false b e f = f

not_true : (a : Bool) → not a ≡ true → a ≡ false
not_true true is = absurd (cc)
not_true false is = refl

not_false : (a : Bool) → a ≡ false → not a ≡ true
not_false true is = absurd (cc)
not_false false is = refl

none_passes : (p : List ℕ → Bool) (xs : List (List ℕ)) → list_any p xs ≡ false → AllByRecursion (λ y. p y ≡ false) xs
none_passes p [] is = tt
none_passes p (x ∷ xs) is =
    let parts : (p x ≡ false) × (list_any p xs ≡ false) = neither (p x) (list_any p xs) is in
    (parts.0, none_passes p xs parts.1)

none_any : (p : List ℕ → Bool) (xs : List (List ℕ)) → AllByRecursion (λ y. p y ≡ false) xs → list_any p xs ≡ false
none_any p [] none = refl
none_any p (x ∷ xs) none = or_neither (p x) (list_any p xs) none.0 (none_any p xs none.1)

told_distinct : (ks : List (List ℕ)) → are_distinct ks ≡ true → IsDistinct bytes_eq ks
unfolding IsDistinct
told_distinct [] is = tt
told_distinct (k ∷ ks) is =
    let parts = both (not (list_any (bytes_eq k) ks)) (are_distinct ks) is in
    (none_passes (bytes_eq k) ks (not_true _ parts.0), told_distinct ks parts.1)

distinct_told : (ks : List (List ℕ)) → IsDistinct bytes_eq ks → are_distinct ks ≡ true
unfolding IsDistinct
distinct_told [] is = refl
distinct_told (k ∷ ks) is =
    and_both (not (list_any (bytes_eq k) ks)) (are_distinct ks) (not_false _ (none_any (bytes_eq k) ks is.0)) (distinct_told ks is.1)

-- the test is true where each name differs from those behind it
mutual
  pub unique_told : (j : Json) → HasUniqueKeys j → is_unique j ≡ true
  unique_told null u = refl
  unique_told (boolean b) u = refl
  unique_told (number s) u = refl
  unique_told (string s) u = refl
  unique_told (array js) u = items_told js u
  unique_told (object ms) u =
      and_both (are_distinct (keys ms)) (are_members_unique ms)
      (distinct_told (keys ms) (IsDistinct-from_AllPairs bytes_eq-Decides (keys ms) u.0)) (members_told ms u.1)

  items_told : (js : Items) → ItemsHaveUniqueKeys js → are_items_unique js ≡ true
  items_told no_items u = refl
  items_told (item j js) u = and_both (is_unique j) (are_items_unique js) (unique_told j u.0) (items_told js u.1)

  members_told : (ms : Members) → MembersHaveUniqueKeys ms → are_members_unique ms ≡ true
  members_told no_members u = refl
  members_told (member k j ms) u = and_both (is_unique j) (are_members_unique ms) (unique_told j u.0) (members_told ms u.1)

-- and nowhere else
mutual
  pub told_unique : (j : Json) → is_unique j ≡ true → HasUniqueKeys j
  told_unique null is = tt
  told_unique (boolean b) is = tt
  told_unique (number s) is = tt
  told_unique (string s) is = tt
  told_unique (array js) is = told_items js is
  told_unique (object ms) is =
      let parts = both (are_distinct (keys ms)) (are_members_unique ms) is in
      (AllPairs-from_IsDistinct bytes_eq-Decides (keys ms) (told_distinct (keys ms) parts.0), told_members ms parts.1)

  told_items : (js : Items) → are_items_unique js ≡ true → ItemsHaveUniqueKeys js
  told_items no_items is = tt
  told_items (item j js) is =
      let parts = both (is_unique j) (are_items_unique js) is in
      (told_unique j parts.0, told_items js parts.1)

  told_members : (ms : Members) → are_members_unique ms ≡ true → MembersHaveUniqueKeys ms
  told_members no_members is = tt
  told_members (member k j ms) is =
      let parts = both (is_unique j) (are_members_unique ms) is in
      (told_unique j parts.0, told_members ms parts.1)

pub not_unique : (j : Json) → ¬ (HasUniqueKeys j) → is_unique j ≡ false
not_unique j lacks = go (is_unique j) refl
  where
    go : (b : Bool) → is_unique j ≡ b → b ≡ false
    go true e = absurd (lacks (told_unique j e))
    go false e = refl
