-- Turns of the walks that read what is small.
use Rattle.std.proofs.Common.{◌≡◌, ◌≤◌, ◌<◌, ◌+◌, ◌-◌, ◌⊎◌, inl, inr, ℕ, suc, List, [], ◌∷◌, ◌++◌, length, Bool, true, false, Option, Some, None, Ordering, Less, Equal, Greater, String, Global, string_bytes, string_cmp, nat_cmp, refl, sym, ap, ◌∙◌, subst, arith}
use Rattle.std.proofs.lemmas.Cmp.{nat_list_cmp_total}
use Rattle.std.specs.BTreeMap.{insert_entry}
use Rattle.std.specs.Cmp.Lexicographic.{slice_cmp}
use Rattle.std.specs.List.{AllByRecursion}
use Rattle.std.specs.List.Sorted.{IsStrictlySortedBy}
use Rattle.std.specs.Map.{keys_of}
use Rattle.std.specs.Ordering.{match_ordering, ordering_reverse}
use Rattle.json.specs.Token.{Token}
use Rattle.json.specs.Json as json
use Rattle.json.specs.Json.{after_end_array, read_key}
use Rattle.json.specs.Tree.{items_tokens, members_tokens}
use Rattle.json.proofs.Found.{not_found}
use Rattle.serde_json.specs.Read.{number_of}
use Rattle.serde_json.specs.Data.{Num, Data, array, object, item, Members, no_members, member, put, depth, items_depth, members_depth}
use Rattle.serde_json.specs.View.{view, items_view}
use Rattle.serde_json.specs.Written.{compact_text}
use Rattle.serde_json.specs.declared.value.Value.{Value}
use Rattle.json_parts.specs.Outline.{brief}
use Rattle.json_parts.specs.Places.{number_data, data_of, items_data, members_data, At, AtItems, AtMembers}
use Rattle.json_parts.specs.Small.{is_small, Part, IsPart, IsTaken, part_in, Entry, HoldsAll}
use Rattle.json_parts.specs.declared.small.Held.{Held}
use Rattle.json_parts.proofs.Places.{led, items_next, members_next}
use Rattle.json_parts.proofs.Sizes.{never_small, total, total_push, depth_push, item_too_large, items_too_long, join, join_push, count, count_data, too_many, total_members, total_join, depth_join, member_too_large, members_too_long}
use Rattle.json_parts.proofs.Walks.{items_before, before_push}

-- ---- what is taken of a part

pub record Taken (limit left left2 : ℕ) (d v : Data) : Type 0 where
  pub same : v ≡ d
  pub nests : depth d ≤ limit
  pub counted : left ≤ left2 + (length (compact_text d) + 1)
  pub less : left2 ≤ left

pub was_taken : (limit left left2 : ℕ) (d v : Data) (o : Option Part) (x : Option Data) → x ≡ Some v → IsPart limit d o → IsTaken o left left2 x → Taken limit left left2 d v
was_taken limit left left2 d v None x some is took = absurd (not_found v (sym took ∙ some))
was_taken limit left left2 d v (Some p) x some is took =
    let taken = subst (IsTaken (Some p) left left2) some took in
    record { same = sym taken.0 ∙ is.0; nests = is.1; counted = omega (arith, is.2, taken.1); less = omega (arith, taken.1) }

pub wasnt_taken : (limit left left2 : ℕ) (d : Data) (o : Option Part) (x : Option Data) → x ≡ None → IsPart limit d o → IsTaken o left left2 x
    → (is_small limit d ≡ false) ⊎ (left ≤ length (compact_text d))
wasnt_taken limit left left2 d None x none is took = inl is
wasnt_taken limit left left2 d (Some p) x none is took =
    let long : left ≤ p.1 = subst (IsTaken (Some p) left left2) none took in
    inr (omega (arith, is.2, long))

pub never_more : (o : Option Part) (left left2 : ℕ) (v : Data) (x : Option Data) → x ≡ Some v → IsTaken o left left2 x → left2 ≤ left
never_more None left left2 v x some took = absurd (not_found v (sym took ∙ some))
never_more (Some p) left left2 v x some took =
    let taken = subst (IsTaken (Some p) left left2) some took in
    omega (arith, taken.1)

-- ---- the items of an array

-- one more item is small
pub item_kept : (limit left left2 : ℕ) (vs new : List Value) (v : Value) (o : Option Part) (x : Option Data) (ts r : List Token) (js all : json.Items) (rest : List Token)
    → AtItems ts js rest → after_end_array ts ≡ None → items_before vs (items_data js) ≡ items_data all → 16384 ≤ left + total vs → items_depth (items_view vs) ≤ limit
    → new ≡ vs ++ v ∷ [] → ((j : json.Json) (more : List Token) → At ts j more → IsPart limit (data_of j) o × (r ≡ more))
    → x ≡ Some (view v) → IsTaken o left left2 x
    → (next : json.Items) × AtItems r next rest × (items_before new (items_data next) ≡ items_data all) × (16384 ≤ left2 + total new) × (items_depth (items_view new) ≤ limit)
item_kept limit left left2 vs new v o x ts r js all rest at going was sum deep step read some taken =
    let n = items_next ts js rest at going in
    let got = read n.0 (items_tokens n.1 ++ rest) n.3 in
    let t = was_taken limit left left2 (data_of n.0) (view v) o x some got.0 taken in
    let sums : total new ≡ total vs + (length (compact_text (view v)) + 1) = ap total step ∙ total_push vs v in
    let text : length (compact_text (view v)) ≡ length (compact_text (data_of n.0)) = ap (λ d. length (compact_text d)) t.same in
    let deeper : depth (view v) ≤ limit = subst (λ d. depth d ≤ limit) (sym t.same) t.nests in (
      n.1,
      (got.1, n.4),
      ap (λ l. items_before l (items_data n.1)) step ∙ sym (before_push vs v (items_data n.1))
          ∙ ap (λ d. items_before vs (item d (items_data n.1))) t.same
          ∙ ap (λ l. items_before vs (items_data l)) (sym n.2) ∙ was,
      omega (arith, t.counted, sum, sums, text),
      subst (λ l. items_depth (items_view l) ≤ limit) (sym step) (depth_push vs v limit deep deeper),
    )

-- one isn't, or there are too many
pub item_dropped : (limit left left2 : ℕ) (vs : List Value) (o : Option Part) (x : Option Data) (ts r : List Token) (js all : json.Items) (rest : List Token)
    → AtItems ts js rest → after_end_array ts ≡ None → items_before vs (items_data js) ≡ items_data all → 16384 ≤ left + total vs
    → ((j : json.Json) (more : List Token) → At ts j more → IsPart limit (data_of j) o × (r ≡ more))
    → x ≡ None → IsTaken o left left2 x
    → (next : json.Items) × AtItems r next rest × (is_small (suc limit) (array (items_data all)) ≡ false)
item_dropped limit left left2 vs o x ts r js all rest at going was sum read none taken =
    let n = items_next ts js rest at going in
    let got = read n.0 (items_tokens n.1 ++ rest) n.3 in
    let whole : items_before vs (item (data_of n.0) (items_data n.1)) ≡ items_data all = ap (λ l. items_before vs (items_data l)) (sym n.2) ∙ was in (
      n.1,
      (got.1, n.4),
      refused n.0 n.1 whole (wasnt_taken limit left left2 (data_of n.0) o x none got.0 taken),
    )
  where
    refused : (j : json.Json) (more : json.Items) → items_before vs (item (data_of j) (items_data more)) ≡ items_data all
        → (is_small limit (data_of j) ≡ false) ⊎ (left ≤ length (compact_text (data_of j))) → is_small (suc limit) (array (items_data all)) ≡ false
    refused j more whole (inl large) = item_too_large limit vs (data_of j) (items_data more) (items_data all) whole large
    refused j more whole (inr long) = items_too_long limit vs (data_of j) (items_data more) (items_data all) whole (omega (arith, long, sum))

-- ---- the members of an object that are held

by_order : (limit : ℕ) (o : Ordering) (a b c : List Entry) (x y z : Members) → HoldsAll limit a x → HoldsAll limit b y → HoldsAll limit c z
    → HoldsAll limit (match_ordering o a b c) (match_ordering o x y z)
by_order limit Less a b c x y z p q r = p
by_order limit Equal a b c x y z p q r = q
by_order limit Greater a b c x y z p q r = r

holds_put : (limit : ℕ) (es : List Entry) (key : String Global) (h : Held) (d : Data) (found : Members) → HoldsAll limit es found → IsPart limit d (part_in h)
    → HoldsAll limit (insert_entry string_cmp es key h) (put (string_bytes key) d found)
holds_put limit [] key h d no_members all is = (refl, is, tt)
holds_put limit [] key h d (member l x ms) all is = absurd all
holds_put limit (e ∷ es) key h d no_members all is = absurd all
holds_put limit (e ∷ es) key h d (member l x ms) all is =
    let k = string_bytes e.0 in
    subst (λ n. HoldsAll limit (insert_entry string_cmp (e ∷ es) key h) (put (string_bytes key) d (member n x ms))) all.0
    (by_order limit (string_cmp key e.0) ((key, h) ∷ e ∷ es) ((e.0, h) ∷ es) (e ∷ insert_entry string_cmp es key h)
    (member (string_bytes key) d (member k x ms)) (member k d ms) (member k x (put (string_bytes key) d ms))
    (refl, is, (refl, all.1, all.2)) (refl, is, all.2) (refl, all.1, holds_put limit es key h d ms all.2 is))

holds_count : (limit : ℕ) (es : List Entry) (found : Members) → HoldsAll limit es found → length es ≡ count found
unfolding count
holds_count limit [] no_members all = refl
holds_count limit [] (member l x ms) all = absurd all
holds_count limit (e ∷ es) no_members all = absurd all
holds_count limit (e ∷ es) (member l x ms) all = ap (λ n. suc n) (holds_count limit es ms all.2)

-- one more member is held
pub member_held : (limit : ℕ) (es new : List Entry) (key : String Global) (h : Held) (k : List ℕ) (ts s r : List Token) (ms all : json.Members) (rest : List Token) (found : Members)
    → AtMembers ts ms rest → read_key ts ≡ Some (Some k, s) → members_data ms found ≡ members_data all no_members → HoldsAll limit es found
    → new ≡ insert_entry string_cmp es key h → string_bytes key ≡ k → ((j : json.Json) (more : List Token) → At s j more → IsPart limit (data_of j) (part_in h) × (r ≡ more))
    → (found2 : Members) × (left : json.Members) × AtMembers r left rest × (members_data left found2 ≡ members_data all no_members) × HoldsAll limit new found2
member_held limit es new key h k ts s r ms all rest found at named was same step copied read =
    let n = members_next ts s k ms rest at named in
    let took = read n.0 (members_tokens n.1 ++ rest) n.3 in
    let held = holds_put limit es key h (data_of n.0) found same took.0 in (
      put k (data_of n.0) found,
      n.1,
      (took.1, n.4),
      ap (λ m. members_data m found) (sym n.2) ∙ was,
      subst (λ es2. HoldsAll limit es2 (put k (data_of n.0) found)) (sym step)
          (subst (λ b. HoldsAll limit (insert_entry string_cmp es key h) (put b (data_of n.0) found)) copied held),
    )

pub members_too_many : (limit : ℕ) (es : List Entry) (ms all : json.Members) (found : Members) → 5462 ≤ length es
    → members_data ms found ≡ members_data all no_members → HoldsAll limit es found → is_small (suc limit) (object (members_data all no_members)) ≡ false
members_too_many limit es ms all found many was same =
    let counted : length es ≡ count found = holds_count limit es found same in
    let more : count found ≤ count (members_data all no_members) = subst (λ m. count found ≤ count m) was (count_data ms found) in
    too_many limit (members_data all no_members) (omega (arith, many, counted, more))

-- ---- the members that are let go

-- the next of the members that are held
pub next_held : (limit : ℕ) (e : Entry) (es : List Entry) (rest : Members) → HoldsAll limit (e ∷ es) rest
    → (d : Data) × (more : Members) × (rest ≡ member (string_bytes e.0) d more) × IsPart limit d (part_in e.1) × HoldsAll limit es more
next_held limit e es no_members all = absurd all
next_held limit e es (member k d more) all = (d, more, ap (λ l. member l d more) (sym all.0), all.1, all.2)

pub none_held : (limit : ℕ) (rest : Members) → HoldsAll limit [] rest → rest ≡ no_members
none_held limit no_members all = refl
none_held limit (member k d more) all = absurd all

holds_push : (limit : ℕ) (es : List Entry) (e : Entry) (d : Data) (found : Members) → HoldsAll limit es found → IsPart limit d (part_in e.1)
    → HoldsAll limit (es ++ e ∷ []) (join found (member (string_bytes e.0) d no_members))
unfolding join
holds_push limit [] e d no_members all is = (refl, is, tt)
holds_push limit [] e d (member l x ms) all is = absurd all
holds_push limit (first ∷ es) e d no_members all is = absurd all
holds_push limit (first ∷ es) e d (member l x ms) all is = (all.0, all.1, holds_push limit es e d ms all.2 is)

below_middle : (first : Entry) (es : List Entry) (e : Entry) (more : List Entry) → AllByRecursion (λ y. string_cmp first.0 y ≡ Less) (keys_of (es ++ e ∷ more)) → string_cmp first.0 e.0 ≡ Less
below_middle first [] e more h = h.0
below_middle first (x ∷ es) e more h = below_middle first es e more h.1

-- a key that is above those before it goes last
put_last : (limit : ℕ) (es : List Entry) (e : Entry) (more : List Entry) (done : Members) (d : Data) → IsStrictlySortedBy string_cmp (keys_of (es ++ e ∷ more)) → HoldsAll limit es done
    → put (string_bytes e.0) d done ≡ join done (member (string_bytes e.0) d no_members)
unfolding IsStrictlySortedBy join
put_last limit [] e more no_members d h same = refl
put_last limit [] e more (member l x done) d h same = absurd same
put_last limit (first ∷ es) e more no_members d h same = absurd same
put_last limit (first ∷ es) e more (member l x done) d h same =
    let above : slice_cmp nat_cmp (string_bytes e.0) (string_bytes first.0) ≡ Greater =
    nat_list_cmp_total.antisymm (string_bytes e.0) (string_bytes first.0) ∙ ap ordering_reverse (below_middle first es e more h.0) in
    let above_l : slice_cmp nat_cmp (string_bytes e.0) l ≡ Greater = subst (λ k. slice_cmp nat_cmp (string_bytes e.0) k ≡ Greater) same.0 above in
    ap (λ o. match_ordering o (member (string_bytes e.0) d (member l x done)) (member l d done) (member l x (put (string_bytes e.0) d done))) above_l
    ∙ ap (member l x) (put_last limit es e more done d h.1 same.2)

-- one more was let go
pub let_one_go : (limit left left2 : ℕ) (done es : List Entry) (e : Entry) (front rest ms old new : Members) (v : Data) (o : Option Part) (x : Option Data)
    → IsStrictlySortedBy string_cmp (keys_of (done ++ e ∷ es)) → join front rest ≡ ms → HoldsAll limit done front → HoldsAll limit (e ∷ es) rest
    → old ≡ front → 16384 ≤ left + total_members front → members_depth front ≤ limit
    → new ≡ put (string_bytes e.0) v old → o ≡ part_in e.1 → x ≡ Some v → IsTaken o left left2 x
    → (front2 : Members) × (rest2 : Members) × (join front2 rest2 ≡ ms) × HoldsAll limit (done ++ e ∷ []) front2 × HoldsAll limit es rest2
    × (new ≡ front2) × (16384 ≤ left2 + total_members front2) × (members_depth front2 ≤ limit)
let_one_go limit left left2 done es e front rest ms old new v o x sorted joined before behind was sum deep step held some taken =
    let n = next_held limit e es rest behind in
    let k = string_bytes e.0 in
    let t = was_taken limit left left2 n.0 v o x some (subst (IsPart limit n.0) (sym held) n.3) taken in
    let front2 = join front (member k n.0 no_members) in
    let sums = total_join front k n.0 in (
      front2,
      n.1,
      join_push front k n.0 n.1 ∙ ap (join front) (sym n.2) ∙ joined,
      holds_push limit done e n.0 front before n.3,
      n.4,
      step ∙ ap (λ d. put k d old) t.same ∙ ap (put k n.0) was ∙ put_last limit done e es front n.0 sorted before,
      omega (arith, t.counted, sum, sums),
      depth_join front k n.0 limit deep t.nests,
    )

-- one can't be
pub one_stays : (limit left left2 : ℕ) (es : List Entry) (e : Entry) (front rest ms : Members) (o : Option Part) (x : Option Data)
    → join front rest ≡ ms → HoldsAll limit (e ∷ es) rest → 16384 ≤ left + total_members front
    → o ≡ part_in e.1 → x ≡ None → IsTaken o left left2 x → is_small (suc limit) (object ms) ≡ false
one_stays limit left left2 es e front rest ms o x joined behind sum held none taken =
    let n = next_held limit e es rest behind in
    refused n.0 n.1 (ap (join front) (sym n.2) ∙ joined) (wasnt_taken limit left left2 n.0 o x none (subst (IsPart limit n.0) (sym held) n.3) taken)
  where
    refused : (d : Data) (more : Members) → join front (member (string_bytes e.0) d more) ≡ ms → (is_small limit d ≡ false) ⊎ (left ≤ length (compact_text d))
        → is_small (suc limit) (object ms) ≡ false
    refused d more whole (inl large) = member_too_large limit front (string_bytes e.0) d more ms whole large
    refused d more whole (inr long) = members_too_long limit front (string_bytes e.0) d more ms whole (omega (arith, long, sum))

-- ---- one value

abbrev pub is_nest_token : Token → Bool
is_nest_token Token.begin_array = true
is_nest_token Token.begin_object = true
is_nest_token _ = false

abbrev pub IsFlat : Data → Type 0
IsFlat d = (brief d ≡ d) × (depth d ≡ 0)

flat_number : (o : Option Num) → IsFlat (number_data o)
flat_number None = (refl, refl)
flat_number (Some n) = (refl, refl)

-- what is no array and no object is its own outline
pub flat : (t : Token) (ts : List Token) (j : json.Json) (rest : List Token) → At (t ∷ ts) j rest → is_nest_token t ≡ false → IsFlat (data_of j)
flat Token.begin_object ts j rest at e = absurd (cc)
flat Token.end_object ts j rest at e = absurd (led Token.end_object ts j rest at)
flat Token.begin_array ts j rest at e = absurd (cc)
flat Token.end_array ts j rest at e = absurd (led Token.end_array ts j rest at)
flat (Token.key s) ts j rest at e = absurd (led (Token.key s) ts j rest at)
flat (Token.string s) ts j rest at e = subst (λ i. IsFlat (data_of i)) (sym (led (Token.string s) ts j rest at).0) (refl, refl)
flat (Token.number s) ts j rest at e = subst (λ i. IsFlat (data_of i)) (sym (led (Token.number s) ts j rest at).0) (flat_number (number_of s))
flat (Token.boolean b) ts j rest at e = subst (λ i. IsFlat (data_of i)) (sym (led (Token.boolean b) ts j rest at).0) (refl, refl)
flat Token.null ts j rest at e = subst (λ i. IsFlat (data_of i)) (sym (led Token.null ts j rest at).0) (refl, refl)
flat Token.bad ts j rest at e = absurd (led Token.bad ts j rest at)

-- an array or an object has no room at depth 0
pub too_deep : (limit : ℕ) (d : Data) → limit ≡ 0 → 0 < depth d → is_small limit d ≡ false
too_deep limit d none deep = never_small limit d (λ p. omega (arith, p.nests, deep, none))
