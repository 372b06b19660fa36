-- Each key's answer of a fetch, put together into one choice for all keys of the lists.
use Rattle.std.proofs.Common.{◌≡◌, ℕ, List, [], ◌∷◌, map, Bool, true, false, not, ◌&&◌, cond, nat_le, length, IsTrue, codes, Vec, Global, refl, ap, sym, subst, ◌∙◌}
use Rattle.std.specs.Ordering.{is_eq}
use Rattle.std.specs.List.{fold, AllByRecursion}
use Rattle.std.specs.Str.{bytes_eq}
use Rattle.serde_json.specs.Data.{Data, array, object, Members, no_members, member, put as put_member, depth}
use Rattle.serde_json.specs.Events.{members_len}
use Rattle.serde_json.specs.View.{items_of}
use Rattle.serde_json.specs.Written.{has_float, items_have_float, members_have_float}
use Rattle.presence_base.specs.Names.{is_short_text}
use Rattle.presence_base.specs.declared.dots.Dot.{Dot}
use Rattle.presence_base.specs.declared.row.Row.{Row}
use Rattle.presence_metas.specs.declared.tracked.TrackedMeta.{TrackedMeta}
use Rattle.presence_metas.specs.Listing.{Listing}
use Rattle.presence_metas.specs.Rows.{listing_of}
use Rattle.presence_metas.specs.Values.{metas_value, listing_value, state_of}
use Rattle.presence_metas.proofs.Lookups.{same, same_self, Rises, Above, first_below, rest_rises}
use Rattle.presence_metas.proofs.ReadBack.{members_from, written_all}
use Rattle.presence_metas.proofs.Whole.{or_false, left_false, right_false, put_whole}
use Rattle.hook_registry.specs.Extras.{is_extra_member, all_extra_members, is_extra}
use Rattle.hook_registry.specs.Rendered.{Extras, with_metas, key_value, listing_with, Fetched, RendersState}

-- ---- a choice for one key more

-- the key k gets these members, and each other key what x gives
overridden : List ℕ → Members → Extras → Extras
overridden k ms x j = cond (same k j) ms (x j)

at_itself : (k : List ℕ) (ms : Members) (x : Extras) → overridden k ms x k ≡ ms
unfolding overridden
at_itself k ms x = rw (same_self k) refl

at_another : (k j : List ℕ) (ms : Members) (x : Extras) → same k j ≡ false → overridden k ms x j ≡ x j
unfolding overridden
at_another k j ms x apart = rw apart refl

abbrev pub with_extra : Extras → Members → List ℕ × List TrackedMeta → Members
with_extra x ns e = put_member e.0 (key_value x e) ns

module _ (P : List ℕ → Members → Type 0) where
  fetched_above : (k : List ℕ) (ms : Members) (x : Extras) (es : Listing) → Above k es → Fetched P x es → Fetched P (overridden k ms x) es
  fetched_above k ms x [] above h = tt
  fetched_above k ms x (e ∷ es) above h = rw (at_another k e.0 ms x (ap is_eq above.0)) (h.0, fetched_above k ms x es above.1 h.1)

  -- whatever x answers for the keys es that are left, some answers for all lead to the same members
  abbrev pub Leads : Extras → Members → Listing → Listing → Type 0
  Leads x ns es all = (y : Extras) × Fetched P y all × (fold (with_extra x) ns es ≡ fold (with_extra y) no_members all)

  written_above : (k : List ℕ) (ms : Members) (x : Extras) (ns : Members) (es : Listing) → Above k es → fold (with_extra (overridden k ms x)) ns es ≡ fold (with_extra x) ns es
  written_above k ms x ns [] above = refl
  written_above k ms x ns (e ∷ es) above = rw (at_another k e.0 ms x (ap is_eq above.0)) (written_above k ms x (with_extra x ns e) es above.1)

  pub leads_on : (all : Listing) (ns : Members) (e : List ℕ × List TrackedMeta) (es : Listing) → Rises (e ∷ es)
      → ((x : Extras) → Fetched P x (e ∷ es) → Leads x ns (e ∷ es) all)
      → (ms : Members) → IsTrue (is_extra ms) → P e.0 ms
      → (d : Data) → d ≡ object (with_metas e.1 ms)
      → (x : Extras) → Fetched P x es → Leads x (put_member e.0 d ns) es all
  leads_on all ns e es rises on ms small answer d is_d x h =
      let above : Above e.0 es = first_below e es rises in
      let here : overridden e.0 ms x e.0 ≡ ms = at_itself e.0 ms x in
      let fetched : Fetched P (overridden e.0 ms x) (e ∷ es) = (rw here (small, answer), fetched_above e.0 ms x es above h) in
      let led = on (overridden e.0 ms x) fetched in
      let value : key_value (overridden e.0 ms x) e ≡ d = rw here (sym is_d) in
      (led.0, led.1, sym (written_above e.0 ms x (put_member e.0 d ns) es above) ∙ ap (λ v. fold (with_extra (overridden e.0 ms x)) (put_member e.0 v ns) es) (sym value) ∙ led.2)

-- ---- the loop over the lists

-- keys within their limits
abbrev pub AllShort : {X : Type 0} → List (List ℕ × X) → Type 0
AllShort es = AllByRecursion (λ e. IsTrue (is_short_text e.0)) es

abbrev pub shown : List ℕ × Vec TrackedMeta Global → List ℕ × List TrackedMeta
shown e = (e.0, e.1.items)

-- what holds where the keys of it are left, and the members are ns
pub record Held (P : List ℕ → Members → Type 0) (it : List (List ℕ × Vec TrackedMeta Global)) (ns : Members) (all : Listing) : Type 0 where
  pub keys : AllShort (map shown it)
  pub rises : Rises (map shown it)
  pub leads : (x : Extras) → Fetched P x (map shown it) → Leads P x ns (map shown it) all

module _ (P : List ℕ → Members → Type 0) where
  pub held_first : (it : List (List ℕ × Vec TrackedMeta Global)) (ns : Members) (all : Listing) → map shown it ≡ all → ns ≡ no_members → AllShort all → Rises all → Held P it ns all
  held_first it ns all is none short rises =
      rw none
      (subst (λ a. AllShort a → Rises a → Held P it no_members a) is (λ s r. record { keys = s; rises = r; leads = λ x h. (x, h, refl) }) short rises)

  held_on : (k : List ℕ) (v : Vec TrackedMeta Global) (rest : List (List ℕ × Vec TrackedMeta Global)) (ns : Members) (all : Listing) → Held P ((k, v) ∷ rest) ns all
      → (ms : Members) → IsTrue (is_extra ms) → P k ms
      → (d : Data) → d ≡ object (with_metas v.items ms)
      → Held P rest (put_member k d ns) all
  held_on k v rest ns all held ms small answer d is_d =
      record {
        keys = held.keys.1;
        rises = rest_rises (k, v.items) (map shown rest) held.rises;
        leads = leads_on P all ns (k, v.items) (map shown rest) held.rises held.leads ms small answer d is_d;
      }

  pub held_next : (it : List (List ℕ × Vec TrackedMeta Global)) (ns : Members) (all : Listing) → Held P it ns all
      → (k : List ℕ) (v : Vec TrackedMeta Global) (rest : List (List ℕ × Vec TrackedMeta Global)) → it ≡ (k, v) ∷ rest
      → (ms : Members) → IsTrue (is_extra ms) → (j : List ℕ) → j ≡ k → P j ms
      → (ts : List TrackedMeta) → ts ≡ v.items → (d : Data) → d ≡ object (with_metas ts ms)
      → (i : List ℕ) → i ≡ k → (ns' : Members) → ns' ≡ put_member i d ns → Held P rest ns' all
  held_next it ns all held k v rest is ms small j is_j answer ts is_ts d made i is_i ns' is_ns' =
      rw (is_ns', is_i)
      (held_on k v rest ns all (subst (λ z. Held P z ns all) is held) ms small (subst (λ z. P z ms) is_j answer) d
      (made ∙ ap (λ z. object (with_metas z ms)) is_ts))

  pub held_last : (it : List (List ℕ × Vec TrackedMeta Global)) (ns : Members) (all : Listing) → Held P it ns all → it ≡ [] → (d : Data) → d ≡ object ns
      → (y : Extras) × Fetched P y all × (d ≡ listing_with y all)
  held_last it ns all held is d is_d =
      let last : Held P [] ns all = subst (λ z. Held P z ns all) is held in
      let led = last.leads (λ _. no_members) tt in
      (led.0, led.1, is_d ∙ ap object led.2)

-- ---- no member added

pub plain_fetched : (P : List ℕ → Members → Type 0) → ((k : List ℕ) → P k no_members) → (es : Listing) → Fetched P (λ _. no_members) es
plain_fetched P h [] = tt
plain_fetched P h (e ∷ es) = ((refl, h e.0), plain_fetched P h es)

pub plain_state : (P : List ℕ → Members → Type 0) → ((k : List ℕ) → P k no_members) → (rows : List (Dot × Row)) (d : Data) → d ≡ state_of rows → RendersState P rows d
plain_state P h rows d is_d = ((λ _. no_members), plain_fetched P h (listing_of rows), is_d)

-- ---- no fraction

both_left : (a b : Bool) → IsTrue (a && b) → IsTrue a
both_left true b h = refl
both_left false b h = cc

both_right : (a b : Bool) → IsTrue (a && b) → IsTrue b
both_right true b h = h
both_right false b h = cc

last_of_five : (a b c d e : Bool) → IsTrue (a && b && c && d && not e) → e ≡ false
last_of_five true true true true true h = cc
last_of_five true true true true false h = refl
last_of_five true true true false e h = cc
last_of_five true true false d e h = cc
last_of_five true false c d e h = cc
last_of_five false b c d e h = cc

members_whole : (ms : Members) → IsTrue (all_extra_members ms) → members_have_float ms ≡ false
members_whole no_members h = refl
members_whole (member k d ms) h =
    or_false (has_float d) (members_have_float ms)
    (last_of_five (nat_le 1 (length k)) (nat_le (length k) 64) (not (bytes_eq k (codes "metas"))) (nat_le (depth d) 32) (has_float d) (both_left (is_extra_member k d) (all_extra_members ms) h))
    (members_whole ms (both_right (is_extra_member k d) (all_extra_members ms) h))

extra_whole : (ms : Members) → IsTrue (is_extra ms) → members_have_float ms ≡ false
extra_whole ms h = members_whole ms (both_right (nat_le (members_len ms) 16) (all_extra_members ms) h)

module _ (P : List ℕ → Members → Type 0) where
  keys_whole : (x : Extras) (es : Listing) → Fetched P x es → members_have_float (members_from (λ e. metas_value e.1) es) ≡ false → members_have_float (members_from (key_value x) es) ≡ false
  unfolding members_from
  keys_whole x [] f h = refl
  keys_whole x (e ∷ es) f h =
      let items : items_have_float (items_of (map (λ t. t.meta) e.1)) ≡ false = left_false (items_have_float (items_of (map (λ t. t.meta) e.1))) false (left_false (has_float (metas_value e.1)) (members_have_float (members_from (λ a. metas_value a.1) es)) h) in
      or_false (has_float (key_value x e)) (members_have_float (members_from (key_value x) es))
      (put_whole (codes "metas") (array (items_of (map (λ t. t.meta) e.1))) (x e.0) items (extra_whole (x e.0) f.0.0))
      (keys_whole x es f.1 (right_false (has_float (metas_value e.1)) (members_have_float (members_from (λ a. metas_value a.1) es)) h))

  pub rendered_whole : (x : Extras) (es : Listing) → Rises es → Fetched P x es → has_float (listing_value es) ≡ false → has_float (listing_with x es) ≡ false
  rendered_whole x es rises f h =
      ap members_have_float (written_all (key_value x) es rises)
      ∙ keys_whole x es f (sym (ap members_have_float (written_all (λ e. metas_value e.1) es rises)) ∙ h)

  pub held_whole : (it : List (List ℕ × Vec TrackedMeta Global)) (ns : Members) (all : Listing) → Held P it ns all → it ≡ [] → (d : Data) → d ≡ object ns
      → Rises all → has_float (listing_value all) ≡ false → has_float d ≡ false
  held_whole it ns all held is d is_d rises whole =
      let made = held_last P it ns all held is d is_d in
      ap has_float made.2 ∙ rendered_whole made.0 all rises made.1 whole
