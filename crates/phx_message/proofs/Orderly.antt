-- What was read is orderly, and stays so as members are put in.
use Rattle.std.proofs.Common.{◌≡◌, ◌<◌, ◌≤◌, ◌^◌, ◌&&◌, ℕ, zero, suc, pos, neg_ℤ, List, Bool, true, false, cond, nat_lt, nat_le, Option, Some, None, option_map, option_and_then, Ordering, Less, Equal, Greater, refl, ap, ◌∙◌, arith}
use Rattle.std.specs.Float.{Float}
use Rattle.std.specs.Ordering.{nat_cmp, match_ordering, ordering_reverse}
use Rattle.std.specs.Cmp.Lexicographic.{slice_cmp}
use Rattle.std.proofs.lemmas.Bool.{and_parts, ltb-true, leb-true}
use Rattle.std.proofs.lemmas.Cmp.{nat_list_cmp_total}
use Rattle.json.specs.Json as json
use Rattle.json.specs.Lex.{tokens}
use Rattle.serde_json.specs.Data.{Num, unsigned, negative, float, Data, number, array, object, item, Members, no_members, member, put}
use Rattle.serde_json.specs.Read.{number_of, of_json, of_items, of_members, max_depth, read}
use Rattle.phx_message.specs.Orderly.{Is64Bits, IsBelow, IsOrderly, AreOrderly, MembersAreOrderly}

-- what is there is so
abbrev Has : {A : Type 0} → (A → Type 0) → Option A → Type 0
Has P None = Unit {0}
Has P (Some x) = P x

has_map : {A B : Type 0} (P : A → Type 0) (Q : B → Type 0) (f : A → B) → ((x : A) → P x → Q (f x)) → (o : Option A) → Has P o → Has Q (option_map f o)
has_map P Q f g None h = tt
has_map P Q f g (Some x) h = g x h

has_then : {A B : Type 0} (P : A → Type 0) (Q : B → Type 0) (f : A → Option B) → ((x : A) → P x → Has Q (f x)) → (o : Option A) → Has P o → Has Q (option_and_then f o)
has_then P Q f g None h = tt
has_then P Q f g (Some x) h = g x h

-- ---- numbers

either_fits : (b : Bool) (x y : Option Num) → Has Is64Bits x → Has Is64Bits y → Has Is64Bits (cond b x y)
either_fits true x y h k = h
either_fits false x y h k = k

float_fits : (b : Bool) (x : Float) → Has Is64Bits (cond b (Some (float x)) None)
float_fits true x = tt
float_fits false x = tt

plain_fits : (b : Bool) (n : ℕ) (o : Option Num) → Has Is64Bits o → Has Is64Bits (cond (b && nat_lt n (2 ^ 64)) (Some (unsigned n)) o)
plain_fits b n o h = go (b && nat_lt n (2 ^ 64)) refl
  where
    go : (c : Bool) → (b && nat_lt n (2 ^ 64)) ≡ c → Has Is64Bits (cond c (Some (unsigned n)) o)
    go true e = ltb-true n (2 ^ 64) (and_parts b (nat_lt n (2 ^ 64)) e).1
    go false e = h

below_zero : (n : ℕ) → 0 < n → n ≤ 2 ^ 63 → Is64Bits (negative (neg_ℤ (pos n)))
below_zero zero h k = absurd (omega arith)
below_zero (suc n) h k = omega arith

minus_fits : (b : Bool) (n : ℕ) (o : Option Num) → Has Is64Bits o → Has Is64Bits (cond (b && nat_lt 0 n && nat_le n (2 ^ 63)) (Some (negative (neg_ℤ (pos n)))) o)
minus_fits b n o h = go (b && nat_lt 0 n && nat_le n (2 ^ 63)) refl
  where
    go : (c : Bool) → (b && nat_lt 0 n && nat_le n (2 ^ 63)) ≡ c → Has Is64Bits (cond c (Some (negative (neg_ℤ (pos n)))) o)
    go true e =
        let both = and_parts (b && nat_lt 0 n) (nat_le n (2 ^ 63)) e in
        below_zero n (ltb-true 0 n (and_parts b (nat_lt 0 n) both.0).1) (leb-true n (2 ^ 63) both.1)
    go false e = h

number_fits : (s : List ℕ) → Has Is64Bits (number_of s)
unfolding number_of
number_fits s = search (either_fits, minus_fits, plain_fits, float_fits)

-- ---- members

pub above : (k l : List ℕ) → slice_cmp nat_cmp k l ≡ Greater → slice_cmp nat_cmp l k ≡ Less
above k l e = nat_list_cmp_total.antisymm l k ∙ ap ordering_reverse e

below_put : (l k : List ℕ) (d : Data) (ms : Members) → slice_cmp nat_cmp l k ≡ Less → IsBelow l ms → IsBelow l (put k d ms)
below_put l k d no_members e h = e
below_put l k d (member j x ms) e h = go (slice_cmp nat_cmp k j)
  where
    go : (o : Ordering) → IsBelow l (match_ordering o (member k d (member j x ms)) (member j d ms) (member j x (put k d ms)))
    go Less = e
    go Equal = h
    go Greater = h

pub put_orderly : (k : List ℕ) (d : Data) (ms : Members) → IsOrderly d → MembersAreOrderly ms → MembersAreOrderly (put k d ms)
put_orderly k d no_members h i = (tt, h, tt)
put_orderly k d (member l x ms) h i = go (slice_cmp nat_cmp k l) refl (put_orderly k d ms h i.2)
  where
    go : (o : Ordering) → slice_cmp nat_cmp k l ≡ o → MembersAreOrderly (put k d ms) → MembersAreOrderly (match_ordering o (member k d (member l x ms)) (member l d ms) (member l x (put k d ms)))
    go Less e more = (e, h, i)
    go Equal e more = (i.0, h, i.2)
    go Greater e more = (below_put l k d ms (above k l e) i.0, i.1, more)

-- ---- what was read

mutual
  of_json_orderly : (j : json.Json) → Has IsOrderly (of_json j)
  of_json_orderly json.null = tt
  of_json_orderly (json.boolean b) = tt
  of_json_orderly (json.number s) = has_map Is64Bits IsOrderly number (λ n h. h) (number_of s) (number_fits s)
  of_json_orderly (json.string s) = tt
  of_json_orderly (json.array js) = has_map AreOrderly IsOrderly array (λ ds h. h) (of_items js) (of_items_orderly js)
  of_json_orderly (json.object ms) = has_map MembersAreOrderly IsOrderly object (λ xs h. h) (of_members ms no_members) (of_members_orderly ms no_members tt)

  of_items_orderly : (js : json.Items) → Has AreOrderly (of_items js)
  of_items_orderly json.no_items = tt
  of_items_orderly (json.item j js) = has_then IsOrderly AreOrderly _ (λ d h. has_map AreOrderly AreOrderly (item d) (λ ds k. (h, k)) (of_items js) (of_items_orderly js)) (of_json j) (of_json_orderly j)

  of_members_orderly : (ms : json.Members) (found : Members) → MembersAreOrderly found → Has MembersAreOrderly (of_members ms found)
  of_members_orderly json.no_members found h = h
  of_members_orderly (json.member k j ms) found h = has_then IsOrderly MembersAreOrderly _ (λ d i. of_members_orderly ms (put k d found) (put_orderly k d found i h)) (of_json j) (of_json_orderly j)

whole_orderly : (o : Option json.Json) → Has IsOrderly (option_and_then of_json o)
whole_orderly None = tt
whole_orderly (Some j) = of_json_orderly j

read_has : (s : List ℕ) → Has IsOrderly (read s)
read_has s = whole_orderly (option_and_then (λ p. json.if_last p.0 p.1) (json.value max_depth (tokens s)))

found : (o : Option Data) (d : Data) → Has IsOrderly o → o ≡ Some d → IsOrderly d
found None d h e = absurd (cc)
found (Some x) d h e = let same : x ≡ d = cc in rw (← same) h

-- a value that a text reads as is orderly
pub read_orderly : (s : List ℕ) (d : Data) → read s ≡ Some d → IsOrderly d
read_orderly s d e = found (read s) d (read_has s) e
