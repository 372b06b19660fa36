-- What is small has small parts.
use Rattle.std.proofs.Common.{◌≡◌, ◌≤◌, ◌+◌, ◌*◌, ℕ, suc, List, [], ◌∷◌, ◌++◌, length, Bool, true, false, not, ◌&&◌, ◌||◌, nat_le, Option, Some, None, Ordering, Less, Equal, Greater, nat_cmp, refl, sym, ap, ◌∙◌, subst, arith, length-append}
use Rattle.std.proofs.lemmas.Bool.Decides.{nat_tests}
use Rattle.std.specs.Cmp.Lexicographic.{slice_cmp}
use Rattle.std.specs.Ordering.{match_ordering}
use Rattle.json.specs.Json as json
use Rattle.json.specs.Print.{quoted, escape}
use Rattle.serde_json.specs.Data.{Data, array, object, Items, no_items, item, Members, no_members, member, put, depth, items_depth, members_depth}
use Rattle.serde_json.specs.View.{view, items_view}
use Rattle.serde_json.specs.Written.{has_float, items_have_float, members_have_float, comma_if, compact_text, items_text, members_text}
use Rattle.serde_json.specs.declared.value.Value.{Value}
use Rattle.json_parts.specs.Places.{data_of, members_data}
use Rattle.json_parts.specs.Small.{is_small}
use Rattle.json_parts.proofs.Walks.{items_before}

le_test : (a b : ℕ) → a ≤ b → nat_le a b ≡ true
le_test a b h = grind (arith, nat_tests)

test_le : (a b : ℕ) → nat_le a b ≡ true → a ≤ b
test_le a b h = grind (arith, nat_tests)

first_true : (a b : Bool) → (a && b) ≡ true → a ≡ true
first_true true b e = refl
first_true false b e = e

second_true : (a b : Bool) → (a && b) ≡ true → b ≡ true
second_true true b e = e
second_true false b e = absurd (cc)

both_true : (a b : Bool) → a ≡ true → b ≡ true → (a && b) ≡ true
both_true true b e h = h
both_true false b e h = e

first_false : (a b : Bool) → (a || b) ≡ false → a ≡ false
first_false true b e = e
first_false false b e = refl

second_false : (a b : Bool) → (a || b) ≡ false → b ≡ false
second_false true b e = absurd (cc)
second_false false b e = e

not_true : (a : Bool) → not a ≡ true → a ≡ false
not_true true e = absurd (cc)
not_true false e = refl

not_false : (a : Bool) → a ≡ false → not a ≡ true
not_false true e = absurd (cc)
not_false false e = refl

-- what would make the other true is false with it
pub turned : (a b : Bool) → (b ≡ true → a ≡ true) → a ≡ false → b ≡ false
turned true b h e = absurd (cc)
turned false true h e = absurd (let z = h refl in cc)
turned false false h e = refl

pub record Parts (limit : ℕ) (d : Data) : Type 0 where
  pub nests : depth d ≤ limit
  pub whole : has_float d ≡ false
  pub short : length (compact_text d) ≤ 16384

pub parts : (limit : ℕ) (d : Data) → is_small limit d ≡ true → Parts limit d
parts limit d e =
    let short = second_true (nat_le (depth d) limit) _ e in
    record {
      nests = test_le (depth d) limit (first_true (nat_le (depth d) limit) _ e);
      whole = not_true (has_float d) (first_true (not (has_float d)) _ short);
      short = test_le (length (compact_text d)) 16384 (second_true (not (has_float d)) _ short);
    }

pub from_parts : (limit : ℕ) (d : Data) → Parts limit d → is_small limit d ≡ true
from_parts limit d p =
    both_true (nat_le (depth d) limit) _ (le_test (depth d) limit p.nests)
    (both_true (not (has_float d)) (nat_le (length (compact_text d)) 16384) (not_false (has_float d) p.whole) (le_test (length (compact_text d)) 16384 p.short))

-- what can't have small parts isn't small
pub never_small : (limit : ℕ) (d : Data) → (Parts limit d → ⊥) → is_small limit d ≡ false
never_small limit d h = turned false (is_small limit d) (λ all. absurd (h (parts limit d all))) refl

-- ---- the items of an array

-- the bytes of the items' texts, with one for each that parts it from the next
unfoldable pub total : List Value → ℕ
total [] = 0
total (v ∷ vs) = length (compact_text (view v)) + 1 + total vs

pub total_push : (vs : List Value) (v : Value) → total (vs ++ v ∷ []) ≡ total vs + (length (compact_text (view v)) + 1)
unfolding total
total_push [] v = omega arith
total_push (w ∷ vs) v = omega (arith, total_push vs v)

pub depth_push : (vs : List Value) (v : Value) (limit : ℕ) → items_depth (items_view vs) ≤ limit → depth (view v) ≤ limit → items_depth (items_view (vs ++ v ∷ [])) ≤ limit
depth_push [] v limit h k = omega (arith, h, k)
depth_push (w ∷ vs) v limit h k = omega (arith, h, depth_push vs v limit (omega (arith, h)) k)

depth_part : (vs : List Value) (d : Data) (ds : Items) → depth d ≤ items_depth (items_before vs (item d ds))
depth_part [] d ds = omega arith
depth_part (v ∷ vs) d ds = omega (arith, depth_part vs d ds)

float_part : (vs : List Value) (d : Data) (ds : Items) → items_have_float (items_before vs (item d ds)) ≡ false → has_float d ≡ false
float_part [] d ds e = first_false (has_float d) _ e
float_part (v ∷ vs) d ds e = float_part vs d ds (second_false (has_float (view v)) _ e)

closes : (ds : Items) → 1 ≤ length (items_text true ds)
closes no_items = omega arith
closes (item d ds) = omega (arith, length-append (comma_if true) (compact_text d ++ items_text true ds))

-- the text of an item that follows another, and of what follows it
later_text : (d : Data) (ds : Items) → length (items_text true (item d ds)) ≡ 1 + (length (compact_text d) + length (items_text true ds))
later_text d ds = omega (arith, length-append (comma_if true) (compact_text d ++ items_text true ds), length-append (compact_text d) (items_text true ds))

first_text : (d : Data) (ds : Items) → length (items_text false (item d ds)) ≡ length (compact_text d) + length (items_text true ds)
first_text d ds = omega (arith, length-append (compact_text d) (items_text true ds))

text_later : (vs : List Value) (d : Data) (ds : Items) → total vs + length (compact_text d) + 2 ≤ length (items_text true (items_before vs (item d ds)))
unfolding total
text_later [] d ds = omega (arith, later_text d ds, closes ds)
text_later (v ∷ vs) d ds = omega (arith, later_text (view v) (items_before vs (item d ds)), text_later vs d ds)

text_part : (vs : List Value) (d : Data) (ds : Items) → total vs + length (compact_text d) + 1 ≤ length (items_text false (items_before vs (item d ds)))
unfolding total
text_part [] d ds = omega (arith, first_text d ds, closes ds)
text_part (v ∷ vs) d ds = omega (arith, first_text (view v) (items_before vs (item d ds)), text_later vs d ds)

all_later : (vs : List Value) → total vs + 1 ≤ length (items_text true (items_view vs))
unfolding total
all_later [] = omega arith
all_later (v ∷ vs) = omega (arith, later_text (view v) (items_view vs), all_later vs)

pub text_all : (vs : List Value) → total vs ≤ length (items_text false (items_view vs))
unfolding total
text_all [] = omega arith
text_all (v ∷ vs) = omega (arith, first_text (view v) (items_view vs), all_later vs)

pub item_too_large : (limit : ℕ) (vs : List Value) (d : Data) (ds whole : Items) → items_before vs (item d ds) ≡ whole → is_small limit d ≡ false
    → is_small (suc limit) (array whole) ≡ false
item_too_large limit vs d ds whole e small =
    turned (is_small limit d) (is_small (suc limit) (array whole))
    (λ all.
    let p = parts (suc limit) (array whole) all in
    let deep : depth d ≤ items_depth whole = subst (λ w. depth d ≤ items_depth w) e (depth_part vs d ds) in
    let long : total vs + length (compact_text d) + 1 ≤ length (items_text false whole) = subst (λ w. total vs + length (compact_text d) + 1 ≤ length (items_text false w)) e (text_part vs d ds) in
    from_parts limit d (record {
      nests = omega (arith, p.nests, deep);
      whole = float_part vs d ds (ap items_have_float e ∙ p.whole);
      short = omega (arith, p.short, long);
    }))
    small

pub items_too_long : (limit : ℕ) (vs : List Value) (d : Data) (ds whole : Items) → items_before vs (item d ds) ≡ whole → 16384 ≤ total vs + length (compact_text d)
    → is_small (suc limit) (array whole) ≡ false
items_too_long limit vs d ds whole e many =
    let long : total vs + length (compact_text d) + 1 ≤ length (items_text false whole) = subst (λ w. total vs + length (compact_text d) + 1 ≤ length (items_text false w)) e (text_part vs d ds) in
    never_small (suc limit) (array whole) (λ p. omega (arith, p.short, long, many))

-- ---- the members of an object

unfoldable pub join : Members → Members → Members
join no_members more = more
join (member k d ms) more = member k d (join ms more)

pub join_none : (ms : Members) → join ms no_members ≡ ms
unfolding join
join_none no_members = refl
join_none (member k d ms) = ap (member k d) (join_none ms)

pub join_push : (done : Members) (k : List ℕ) (d : Data) (more : Members) → join (join done (member k d no_members)) more ≡ join done (member k d more)
unfolding join
join_push no_members k d more = refl
join_push (member l e done) k d more = ap (member l e) (join_push done k d more)

unfoldable pub count : Members → ℕ
count no_members = 0
count (member k d ms) = suc (count ms)

by_order : (o : Ordering) (a b c : Members) (n : ℕ) → n ≤ count a → n ≤ count b → n ≤ count c → n ≤ count (match_ordering o a b c)
by_order Less a b c n x y z = x
by_order Equal a b c n x y z = y
by_order Greater a b c n x y z = z

count_put : (k : List ℕ) (d : Data) (ms : Members) → count ms ≤ count (put k d ms)
unfolding count
count_put k d no_members = omega arith
count_put k d (member l e ms) =
    by_order (slice_cmp nat_cmp k l) (member k d (member l e ms)) (member l d ms) (member l e (put k d ms)) (suc (count ms)) (omega arith) (omega arith) (omega (arith, count_put k d ms))

pub count_data : (js : json.Members) (found : Members) → count found ≤ count (members_data js found)
count_data json.no_members found = omega arith
count_data (json.member k j js) found = omega (arith, count_put k (data_of j) found, count_data js (put k (data_of j) found))

text_count : (later : Bool) (ms : Members) → 3 * count ms ≤ length (members_text later ms)
unfolding count
text_count later no_members = omega arith
text_count later (member k d ms) =
    let rest = members_text true ms in
    omega (arith, length-append (comma_if later) (quoted k ++ 58 ∷ (compact_text d ++ rest)), length-append (quoted k) (58 ∷ (compact_text d ++ rest)), length-append (escape k) (34 ∷ []), length-append (compact_text d) rest, text_count true ms)

pub too_many : (limit : ℕ) (ms : Members) → 5462 ≤ count ms → is_small (suc limit) (object ms) ≡ false
too_many limit ms many = never_small (suc limit) (object ms) (λ p. let long = text_count false ms in omega (arith, p.short, long, many))

-- ---- the members that are let go

unfoldable pub total_members : Members → ℕ
total_members no_members = 0
total_members (member k d ms) = length (compact_text d) + 1 + total_members ms

pub total_join : (done : Members) (k : List ℕ) (d : Data) → total_members (join done (member k d no_members)) ≡ total_members done + (length (compact_text d) + 1)
unfolding total_members join
total_join no_members k d = omega arith
total_join (member l e done) k d = omega (arith, total_join done k d)

pub depth_join : (done : Members) (k : List ℕ) (d : Data) (limit : ℕ) → members_depth done ≤ limit → depth d ≤ limit → members_depth (join done (member k d no_members)) ≤ limit
unfolding join
depth_join no_members k d limit h p = omega (arith, h, p)
depth_join (member l e done) k d limit h p = omega (arith, h, depth_join done k d limit (omega (arith, h)) p)

member_deep : (front : Members) (k : List ℕ) (d : Data) (rest : Members) → depth d ≤ members_depth (join front (member k d rest))
unfolding join
member_deep no_members k d rest = omega arith
member_deep (member l e front) k d rest = omega (arith, member_deep front k d rest)

member_float : (front : Members) (k : List ℕ) (d : Data) (rest : Members) → members_have_float (join front (member k d rest)) ≡ false → has_float d ≡ false
unfolding join
member_float no_members k d rest e = first_false (has_float d) _ e
member_float (member l x front) k d rest e = member_float front k d rest (second_false (has_float x) _ e)

member_text : (later : Bool) (k : List ℕ) (d : Data) (ms : Members) → length (compact_text d) + 1 + length (members_text true ms) ≤ length (members_text later (member k d ms))
member_text later k d ms =
    let rest = members_text true ms in
    omega (arith, length-append (comma_if later) (quoted k ++ 58 ∷ (compact_text d ++ rest)), length-append (quoted k) (58 ∷ (compact_text d ++ rest)), length-append (compact_text d) rest)

member_long : (later : Bool) (front : Members) (k : List ℕ) (d : Data) (rest : Members) → total_members front + length (compact_text d) + 1 ≤ length (members_text later (join front (member k d rest)))
unfolding join total_members
member_long later no_members k d rest = omega (arith, member_text later k d rest)
member_long later (member l x front) k d rest = omega (arith, member_text later l x (join front (member k d rest)), member_long true front k d rest)

pub members_all : (later : Bool) (ms : Members) → total_members ms ≤ length (members_text later ms)
unfolding total_members
members_all later no_members = omega arith
members_all later (member k d ms) = omega (arith, member_text later k d ms, members_all true ms)

pub member_too_large : (limit : ℕ) (front : Members) (k : List ℕ) (d : Data) (rest ms : Members) → join front (member k d rest) ≡ ms → is_small limit d ≡ false
    → is_small (suc limit) (object ms) ≡ false
member_too_large limit front k d rest ms e small =
    turned (is_small limit d) (is_small (suc limit) (object ms))
    (λ all.
    let p = parts (suc limit) (object ms) all in
    let deep : depth d ≤ members_depth ms = subst (λ w. depth d ≤ members_depth w) e (member_deep front k d rest) in
    let long : total_members front + length (compact_text d) + 1 ≤ length (members_text false ms) =
    subst (λ w. total_members front + length (compact_text d) + 1 ≤ length (members_text false w)) e (member_long false front k d rest) in
    from_parts limit d (record {
      nests = omega (arith, p.nests, deep);
      whole = member_float front k d rest (ap members_have_float e ∙ p.whole);
      short = omega (arith, p.short, long);
    }))
    small

pub members_too_long : (limit : ℕ) (front : Members) (k : List ℕ) (d : Data) (rest ms : Members) → join front (member k d rest) ≡ ms → 16384 ≤ total_members front + length (compact_text d)
    → is_small (suc limit) (object ms) ≡ false
members_too_long limit front k d rest ms e many =
    let long : total_members front + length (compact_text d) + 1 ≤ length (members_text false ms) =
    subst (λ w. total_members front + length (compact_text d) + 1 ≤ length (members_text false w)) e (member_long false front k d rest) in
    never_small (suc limit) (object ms) (λ p. omega (arith, p.short, long, many))
