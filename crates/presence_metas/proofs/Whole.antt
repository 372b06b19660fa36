-- What is told of rows has no number that isn't a whole one of 64 bits.
use Rattle.std.proofs.Common.{◌≡◌, ℕ, List, [], ◌∷◌, ◌++◌, map, Bool, true, false, ◌||◌, IsTrue, Option, Some, None, refl}
use Rattle.std.specs.declared.cmp.Ordering.{Ordering}
use Rattle.std.specs.declared.cmp.Ordering.TheVariants.{Less, Equal, Greater}
use Rattle.std.specs.Ordering.{match_ordering}
use Rattle.std.specs.List.{fold}
use Rattle.std.specs.Map.{remove_entry}
use Rattle.std.specs.BTreeMap.{is_at, insert_entry}
use Rattle.serde_json.specs.Data.{Data, null, boolean, number, string, array, object, Members, no_members, member, put as put_member}
use Rattle.serde_json.specs.View.{items_of}
use Rattle.serde_json.specs.Written.{has_float, items_have_float, members_have_float}
use Rattle.presence_base.specs.Metas.{is_meta}
use Rattle.presence_base.specs.Order.{text_cmp}
use Rattle.presence_base.specs.declared.dots.Dot.{Dot}
use Rattle.presence_base.specs.declared.row.Row.{Row}
use Rattle.presence_base.proofs.RefPlace.{meta_whole}
use Rattle.presence_metas.specs.declared.tracked.TrackedMeta.{TrackedMeta}
use Rattle.presence_metas.specs.Listing.{Listing, at, without_key, put}
use Rattle.presence_metas.specs.Rows.{members_in, with_prev, tracked_of, add_row}
use Rattle.presence_metas.specs.Values.{metas_value, with_key, listing_value, AreWhole, AllWhole}
use Rattle.presence_metas.proofs.Lookups.{same, bool_cases, order_cases}

pub or_false : (a b : Bool) → a ≡ false → b ≡ false → (a || b) ≡ false
or_false true b h k = h
or_false false b h k = k

pub left_false : (a b : Bool) → (a || b) ≡ false → a ≡ false
left_false true b h = h
left_false false b h = refl

pub right_false : (a b : Bool) → (a || b) ≡ false → b ≡ false
right_false true b h = cc
right_false false b h = h

-- ---- objects

pub put_whole : (k : List ℕ) (d : Data) (ms : Members) → has_float d ≡ false → members_have_float ms ≡ false → members_have_float (put_member k d ms) ≡ false
put_whole k d no_members h i = or_false (has_float d) false h refl
put_whole k d (member l e ms) h i =
    at_order (text_cmp k l) (put_whole k d ms h (right_false (has_float e) (members_have_float ms) i))
  where
    at_order : (o : Ordering) → members_have_float (put_member k d ms) ≡ false → members_have_float (match_ordering o (member k d (member l e ms)) (member l d ms) (member l e (put_member k d ms))) ≡ false
    at_order Less more = or_false (has_float d) (has_float e || members_have_float ms) h i
    at_order Equal more = or_false (has_float d) (members_have_float ms) h (right_false (has_float e) (members_have_float ms) i)
    at_order Greater more = or_false (has_float e) (members_have_float (put_member k d ms)) (left_false (has_float e) (members_have_float ms) i) more

members_in_whole : (d : Data) → has_float d ≡ false → members_have_float (members_in d) ≡ false
members_in_whole null h = refl
members_in_whole (boolean b) h = refl
members_in_whole (number n) h = refl
members_in_whole (string s) h = refl
members_in_whole (array ds) h = refl
members_in_whole (object ms) h = h

-- ---- a row's meta

prev_whole : (prev : Option Dot) (ms : Members) → members_have_float ms ≡ false → members_have_float (with_prev prev ms) ≡ false
prev_whole None ms h = h
prev_whole (Some d) ms h = put_whole _ _ ms refl h

pub tracked_whole : (d : Dot) (r : Row) → IsTrue (is_meta r.meta) → has_float (tracked_of d r).meta ≡ false
tracked_whole d r h = prev_whole r.prev _ (put_whole _ _ (members_in r.meta) refl (members_in_whole r.meta (meta_whole r.meta h)))

-- ---- lists

whole_without : (test : List ℕ → Bool) (ls : Listing) → AllWhole ls → AllWhole (remove_entry test ls)
whole_without test [] h = tt
whole_without test (e ∷ ls) h = bool_cases (test e.0) (λ t. rw t h.1) (λ t. rw t (h.0, whole_without test ls h.1))

whole_inserted : (k : List ℕ) (ts : List TrackedMeta) (ls : Listing) → AreWhole ts → AllWhole ls → AllWhole (insert_entry text_cmp ls k ts)
whole_inserted k ts [] new h = (new, tt)
whole_inserted k ts (e ∷ ls) new h =
    order_cases (text_cmp k e.0) (λ o. rw o (new, h)) (λ o. rw o (new, h.1)) (λ o. rw o (h.0, whole_inserted k ts ls new h.1))

whole_put : (ls : Listing) (k : List ℕ) (ts : List TrackedMeta) → AreWhole ts → AllWhole ls → AllWhole (put ls k ts)
whole_put ls k [] new h = whole_without (is_at (text_cmp k)) ls h
whole_put ls k (t ∷ ts) new h = whole_inserted k (t ∷ ts) (without_key ls k) new (whole_without (is_at (text_cmp k)) ls h)

at_whole : (ls : Listing) (k : List ℕ) → AllWhole ls → AreWhole (at ls k)
at_whole [] k h = tt
at_whole (e ∷ ls) k h = bool_cases (same k e.0) (λ s. rw s h.0) (λ s. rw s (at_whole ls k h.1))

whole_push : (ts : List TrackedMeta) (t : TrackedMeta) → AreWhole ts → has_float t.meta ≡ false → AreWhole (ts ++ t ∷ [])
whole_push [] t h n = (n, tt)
whole_push (u ∷ ts) t h n = (h.0, whole_push ts t h.1 n)

-- lists stay whole with the meta of one more row
pub whole_added : (ls : Listing) (d : Dot) (r : Row) → IsTrue (is_meta r.meta) → AllWhole ls → AllWhole (add_row ls (d, r))
whole_added ls d r n h = whole_put ls r.key (at ls r.key ++ tracked_of d r ∷ []) (whole_push (at ls r.key) (tracked_of d r) (at_whole ls r.key h) (tracked_whole d r n)) h

items_whole : (ts : List TrackedMeta) → AreWhole ts → items_have_float (items_of (map (λ t. t.meta) ts)) ≡ false
items_whole [] h = refl
items_whole (t ∷ ts) h = or_false (has_float t.meta) (items_have_float (items_of (map (λ u. u.meta) ts))) h.0 (items_whole ts h.1)

metas_whole : (ts : List TrackedMeta) → AreWhole ts → has_float (metas_value ts) ≡ false
metas_whole ts h = or_false (items_have_float (items_of (map (λ t. t.meta) ts))) false (items_whole ts h) refl

keys_whole : (ms : Members) (ls : Listing) → members_have_float ms ≡ false → AllWhole ls → members_have_float (fold with_key ms ls) ≡ false
keys_whole ms [] h all = h
keys_whole ms (e ∷ ls) h all = keys_whole (with_key ms e) ls (put_whole e.0 (metas_value e.1) ms (metas_whole e.1 all.0) h) all.1

-- the object of whole lists is whole
pub listing_whole : (ls : Listing) → AllWhole ls → has_float (listing_value ls) ≡ false
listing_whole ls h = keys_whole no_members ls refl h
