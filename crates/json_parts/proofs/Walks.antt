-- Steps of walks over an array's items and an object's members.
use Rattle.std.proofs.Common.{◌≡◌, ◌≤◌, ◌<◌, ◌-◌, ℕ, zero, suc, List, [], ◌∷◌, ◌++◌, length, Bool, true, false, Option, Some, None, option_map, refl, sym, ap, ◌∙◌, subst, arith, length-append}
use Rattle.json.specs.Token.{Token}
use Rattle.json.specs.Json.{Json, Items, no_items, item, Members, after_end_array, read_key, skip_value, value}
use Rattle.json.specs.Tree.{items_tokens, members_tokens, items_depth}
use Rattle.json.proofs.Found.{Some_inj, not_found}
use Rattle.json.proofs.Printed.Trees.{value-json_tokens}
use Rattle.serde_json.specs.Data as datum
use Rattle.serde_json.specs.Data.{Data}
use Rattle.serde_json.specs.Read.{max_depth, number_of}
use Rattle.serde_json.specs.View.{view, items_view}
use Rattle.serde_json.specs.declared.value.Value.{Value}
use Rattle.json_parts.specs.Places.{number_data, data_of, items_data, At, AtItems, AtMembers}
use Rattle.json_parts.specs.Items.{after, is_other}
use Rattle.json_parts.specs.Outline.{brief, few, shallow}
use Rattle.json_parts.proofs.Places.{Led, led, not_empty, items_end, items_next, members_next}

-- ---- a value that is passed

skips : (ts : List Token) (j : Json) (rest : List Token) → At ts j rest → skip_value max_depth ts ≡ Some rest
skips ts j rest at = ap (option_map (λ p. p.1)) (ap (value max_depth) at.0 ∙ value-json_tokens j max_depth rest at.1)

pub skipped : (ts r : List Token) (j : Json) (rest : List Token) → At ts j rest → skip_value max_depth ts ≡ Some r → r ≡ rest
skipped ts r j rest at e = Some_inj r rest (sym e ∙ skips ts j rest at)

pub not_refused : (ts : List Token) (j : Json) (rest : List Token) → At ts j rest → skip_value max_depth ts ≡ None → ⊥
not_refused ts j rest at e = not_found rest (sym e ∙ skips ts j rest at)

pub item_passed : (ts r : List Token) (js : Items) (rest : List Token) → AtItems ts js rest → after_end_array ts ≡ None → skip_value max_depth ts ≡ Some r → (left : Items) × AtItems r left rest
item_passed ts r js rest at going e =
    let n = items_next ts js rest at going in
    (n.1, (skipped ts r n.0 (items_tokens n.1 ++ rest) n.3 e, n.4))

pub item_not_refused : (ts : List Token) (js : Items) (rest : List Token) → AtItems ts js rest → after_end_array ts ≡ None → skip_value max_depth ts ≡ None → ⊥
item_not_refused ts js rest at going e =
    let n = items_next ts js rest at going in
    not_refused ts n.0 (items_tokens n.1 ++ rest) n.3 e

pub member_passed : (ts s r : List Token) (k : List ℕ) (ms : Members) (rest : List Token) → AtMembers ts ms rest → read_key ts ≡ Some (Some k, s) → skip_value max_depth s ≡ Some r → (left : Members) × AtMembers r left rest
member_passed ts s r k ms rest at key e =
    let n = members_next ts s k ms rest at key in
    (n.1, (skipped s r n.0 (members_tokens n.1 ++ rest) n.3 e, n.4))

pub member_not_refused : (ts s : List Token) (k : List ℕ) (ms : Members) (rest : List Token) → AtMembers ts ms rest → read_key ts ≡ Some (Some k, s) → skip_value max_depth s ≡ None → ⊥
member_not_refused ts s k ms rest at key e =
    let n = members_next ts s k ms rest at key in
    not_refused s n.0 (members_tokens n.1 ++ rest) n.3 e

-- ---- what begins next in an array

abbrev pub ItemsLed : Token → List Token → Items → List Token → Type 0
ItemsLed Token.end_array ts js rest = (js ≡ no_items) × (ts ≡ rest)
ItemsLed t ts js rest = (j : Json) × (more : Items) × (js ≡ item j more) × (items_depth more ≤ max_depth) × Led t ts j (items_tokens more ++ rest)

abbrev WithNext : Token → List Token → Items → List Token → Option (List Token) → Type 0
WithNext t ts js rest o = after_end_array (t ∷ ts) ≡ o → ItemsLed t ts js rest

led_next : (t : Token) (ts : List Token) (js : Items) (rest : List Token) → AtItems (t ∷ ts) js rest → after_end_array (t ∷ ts) ≡ None
    → (j : Json) × (more : Items) × (js ≡ item j more) × (items_depth more ≤ max_depth) × Led t ts j (items_tokens more ++ rest)
led_next t ts js rest at going =
    let n = items_next (t ∷ ts) js rest at going in
    (n.0, n.1, n.2, n.4, led t ts n.0 (items_tokens n.1 ++ rest) n.3)

pub items_led : (t : Token) (ts : List Token) (js : Items) (rest : List Token) → AtItems (t ∷ ts) js rest → ItemsLed t ts js rest
items_led Token.begin_object ts js rest at = led_next Token.begin_object ts js rest at refl
items_led Token.end_object ts js rest at = led_next Token.end_object ts js rest at refl
items_led Token.begin_array ts js rest at = led_next Token.begin_array ts js rest at refl
items_led Token.end_array ts js rest at = items_end (Token.end_array ∷ ts) ts js rest at refl
items_led (Token.key s) ts js rest at = led_next (Token.key s) ts js rest at refl
items_led (Token.string s) ts js rest at = led_next (Token.string s) ts js rest at refl
items_led (Token.number s) ts js rest at = led_next (Token.number s) ts js rest at refl
items_led (Token.boolean b) ts js rest at = led_next (Token.boolean b) ts js rest at refl
items_led Token.null ts js rest at = led_next Token.null ts js rest at refl
items_led Token.bad ts js rest at = led_next Token.bad ts js rest at refl

pub items_stand : (js : Items) (rest : List Token) → AtItems [] js rest → ⊥
items_stand js rest at =
    let n = items_next [] js rest at refl in
    not_empty n.0 (items_tokens n.1 ++ rest) n.3

-- a token that is neither null nor a bracket of an array
abbrev pub is_other_token : Token → Bool
is_other_token Token.end_array = false
is_other_token Token.begin_array = false
is_other_token Token.null = false
is_other_token _ = true

other_number : (o : Option datum.Num) → is_other (number_data o) ≡ true
other_number None = refl
other_number (Some n) = refl

abbrev Other : Items → Type 0
Other js = (j : Json) × (more : Items) × (js ≡ item j more) × (is_other (data_of j) ≡ true)

pub other_begun : (t : Token) (ts : List Token) (js : Items) (rest : List Token) → AtItems (t ∷ ts) js rest → is_other_token t ≡ true → Other js
other_begun Token.begin_object ts js rest at e = let n = items_led Token.begin_object ts js rest at in (n.0, n.1, n.2, ap (λ j. is_other (data_of j)) n.4.1)
other_begun Token.end_object ts js rest at e = absurd (items_led Token.end_object ts js rest at).4
other_begun Token.begin_array ts js rest at e = absurd (cc)
other_begun Token.end_array ts js rest at e = absurd (cc)
other_begun (Token.key s) ts js rest at e = absurd (items_led (Token.key s) ts js rest at).4
other_begun (Token.string s) ts js rest at e = let n = items_led (Token.string s) ts js rest at in (n.0, n.1, n.2, ap (λ j. is_other (data_of j)) n.4.0)
other_begun (Token.number s) ts js rest at e = let n = items_led (Token.number s) ts js rest at in (n.0, n.1, n.2, ap (λ j. is_other (data_of j)) n.4.0 ∙ other_number (number_of s))
other_begun (Token.boolean b) ts js rest at e = let n = items_led (Token.boolean b) ts js rest at in (n.0, n.1, n.2, ap (λ j. is_other (data_of j)) n.4.0)
other_begun Token.null ts js rest at e = absurd (cc)
other_begun Token.bad ts js rest at e = absurd (items_led Token.bad ts js rest at).4

-- ---- the first few items

abbrev pub items_before : List Value → datum.Items → datum.Items
items_before [] rest = rest
items_before (v ∷ vs) rest = datum.item (view v) (items_before vs rest)

pub before_none : (vs : List Value) → items_before vs datum.no_items ≡ items_view vs
before_none [] = refl
before_none (v ∷ vs) = ap (datum.item (view v)) (before_none vs)

pub before_push : (vs : List Value) (v : Value) (rest : datum.Items) → items_before vs (datum.item (view v) rest) ≡ items_before (vs ++ v ∷ []) rest
before_push [] v rest = refl
before_push (w ∷ vs) v rest = ap (datum.item (view w)) (before_push vs v rest)

pub few_none : (n : ℕ) → few n datum.no_items ≡ datum.no_items
unfolding few
few_none zero = refl
few_none (suc n) = refl

pub few_over : (ds : datum.Items) → few 0 ds ≡ datum.no_items
unfolding few
few_over ds = refl

few_more : (n : ℕ) (d : Data) (ds : datum.Items) → 0 < n → few n (datum.item d ds) ≡ datum.item (brief d) (few (n - 1) ds)
unfolding few
few_more zero d ds some = absurd (omega arith)
few_more (suc n) d ds some = let m : n ≡ suc n - 1 = omega arith in ap (λ k. datum.item (brief d) (few k ds)) m

pub after_more : (n : ℕ) (all : Items) (j : Json) (more : Items) → after n all ≡ item j more → after (suc n) all ≡ more
unfolding after
after_more zero all j more e = ap (after 1) e
after_more (suc n) no_items j more e = absurd (cc)
after_more (suc n) (item i is) j more e = after_more n is j more e

-- one more of the first few was read
pub one_more : (most : ℕ) (vs : List Value) (v : Value) (js more : Items) (j : Json) (all : datum.Items) → length vs < most → js ≡ item j more → view v ≡ brief (data_of j)
    → items_before vs (few (most - length vs) (items_data js)) ≡ all → items_before (vs ++ v ∷ []) (few (most - length vs - 1) (items_data more)) ≡ all
one_more most vs v js more j all lt split seen was =
    sym (before_push vs v (few (most - length vs - 1) (items_data more)))
    ∙ ap (λ d. items_before vs (datum.item d (few (most - length vs - 1) (items_data more)))) seen
    ∙ ap (items_before vs) (sym (few_more (most - length vs) (data_of j) (items_data more) (omega arith)))
    ∙ ap (λ is. items_before vs (few (most - length vs) (items_data is))) (sym split)
    ∙ was

pub few_start : (most : ℕ) (vs : List Value) (all : Items) → vs ≡ [] → (after (length vs) all ≡ all) × (items_before vs (few (most - length vs) (items_data all)) ≡ few most (items_data all))
unfolding after
few_start most vs all e =
    let z : most - 0 ≡ most = omega arith in
    subst (λ l. (after (length l) all ≡ all) × (items_before l (few (most - length l) (items_data all)) ≡ few most (items_data all))) (sym e)
    (refl, ap (λ n. few n (items_data all)) z)

-- where the reader stands when one more was read, and what of the first few is left
pub few_step : (most : ℕ) (vs new : List Value) (v : Value) (ts r : List Token) (js all : Items) (rest : List Token) → length vs < most
    → AtItems ts js rest → after_end_array ts ≡ None → after (length vs) all ≡ js
    → items_before vs (few (most - length vs) (items_data js)) ≡ few most (items_data all)
    → new ≡ vs ++ v ∷ [] → ((j : Json) (more : List Token) → At ts j more → (view v ≡ brief (data_of j)) × (r ≡ more))
    → (left : Items) × AtItems r left rest × (after (length new) all ≡ left) × (items_before new (few (most - length new) (items_data left)) ≡ few most (items_data all))
few_step most vs new v ts r js all rest lt at going here was step was_read =
    let n = items_next ts js rest at going in
    let took = was_read n.0 (items_tokens n.1 ++ rest) n.3 in
    let longer : length new ≡ suc (length vs) = ap length step ∙ omega (arith, length-append vs (v ∷ [])) in
    let fewer : most - length new ≡ most - length vs - 1 = omega (arith, longer) in (
      n.1,
      (took.1, n.4),
      ap (λ k. after k all) longer ∙ after_more (length vs) all n.0 n.1 (here ∙ n.2),
      ap (λ l. items_before l (few (most - length new) (items_data n.1))) step
          ∙ ap (λ k. items_before (vs ++ v ∷ []) (few k (items_data n.1))) fewer
          ∙ one_more most vs v js n.1 n.0 (few most (items_data all)) lt n.2 took.0 was,
    )

-- the walk ends with the array
pub few_ended : (most : ℕ) (vs : List Value) (js all : Items) → js ≡ no_items → items_before vs (few (most - length vs) (items_data js)) ≡ few most (items_data all)
    → items_view vs ≡ few most (items_data all)
few_ended most vs js all end was =
    sym (before_none vs)
    ∙ ap (items_before vs) (sym (few_none (most - length vs)) ∙ ap (λ is. few (most - length vs) (items_data is)) (sym end))
    ∙ was

-- it ends with as many as were asked for
pub few_full : (most : ℕ) (vs : List Value) (js all : Items) → most ≤ length vs → items_before vs (few (most - length vs) (items_data js)) ≡ few most (items_data all)
    → items_view vs ≡ few most (items_data all)
few_full most vs js all full was =
    let none : most - length vs ≡ 0 = omega (arith, full) in
    sym (before_none vs)
    ∙ ap (items_before vs) (sym (few_over (items_data js)) ∙ ap (λ k. few k (items_data js)) (sym none))
    ∙ was

-- a value that is no array is as shallow as it is brief
abbrev pub is_array_token : Token → Bool
is_array_token Token.begin_array = true
is_array_token _ = false

abbrev IsBrief : Data → Type 0
IsBrief d = (n : ℕ) → shallow n d ≡ brief d

number_is_brief : (o : Option datum.Num) → IsBrief (number_data o)
number_is_brief None n = refl
number_is_brief (Some x) n = refl

pub no_array : (t : Token) (ts : List Token) (j : Json) (rest : List Token) (n : ℕ) → At (t ∷ ts) j rest → is_array_token t ≡ false → shallow n (data_of j) ≡ brief (data_of j)
no_array Token.begin_object ts j rest n at e = let l = led Token.begin_object ts j rest at in subst (λ i. shallow n (data_of i) ≡ brief (data_of i)) (sym l.1) refl
no_array Token.end_object ts j rest n at e = absurd (led Token.end_object ts j rest at)
no_array Token.begin_array ts j rest n at e = absurd (cc)
no_array Token.end_array ts j rest n at e = absurd (led Token.end_array ts j rest at)
no_array (Token.key s) ts j rest n at e = absurd (led (Token.key s) ts j rest at)
no_array (Token.string s) ts j rest n at e = let l = led (Token.string s) ts j rest at in subst (λ i. shallow n (data_of i) ≡ brief (data_of i)) (sym l.0) refl
no_array (Token.number s) ts j rest n at e = let l = led (Token.number s) ts j rest at in subst (λ i. shallow n (data_of i) ≡ brief (data_of i)) (sym l.0) (number_is_brief (number_of s) n)
no_array (Token.boolean b) ts j rest n at e = let l = led (Token.boolean b) ts j rest at in subst (λ i. shallow n (data_of i) ≡ brief (data_of i)) (sym l.0) refl
no_array Token.null ts j rest n at e = let l = led Token.null ts j rest at in subst (λ i. shallow n (data_of i) ≡ brief (data_of i)) (sym l.0) refl
no_array Token.bad ts j rest n at e = absurd (led Token.bad ts j rest at)
