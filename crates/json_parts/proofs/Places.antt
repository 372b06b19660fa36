-- How what stands there comes apart.
use Rattle.std.proofs.Common.{◌≡◌, ◌≤◌, ℕ, Bool, true, false, List, [], ◌∷◌, ◌++◌, Option, Some, None, refl, sym, subst, arith, append_assoc}
use Rattle.json.specs.Token.{Token}
use Rattle.json.specs.Json.{Json, null, boolean, number, string, array, object, Items, no_items, item, Members, no_members, member, after_end_array, read_key}
use Rattle.json.specs.Tree.{json_tokens, items_tokens, members_tokens, depth, items_depth, members_depth}
use Rattle.serde_json.specs.Read.{max_depth}
use Rattle.json_parts.specs.Places.{At, AtItems, AtMembers}

-- the value that a first token begins, and what follows the token
abbrev pub Led : Token → List Token → Json → List Token → Type 0
Led Token.null ts j rest = (j ≡ null) × (ts ≡ rest)
Led (Token.boolean b) ts j rest = (j ≡ boolean b) × (ts ≡ rest)
Led (Token.number s) ts j rest = (j ≡ number s) × (ts ≡ rest)
Led (Token.string s) ts j rest = (j ≡ string s) × (ts ≡ rest)
Led Token.begin_array ts j rest = (js : Items) × (j ≡ array js) × AtItems ts js rest
Led Token.begin_object ts j rest = (ms : Members) × (j ≡ object ms) × AtMembers ts ms rest
Led t ts j rest = ⊥

abbrev LedAll : List Token → Json → List Token → Type 0
LedAll [] j rest = ⊥
LedAll (t ∷ ts) j rest = Led t ts j rest

led_all : (j : Json) (rest : List Token) → depth j ≤ max_depth → LedAll (json_tokens j ++ rest) j rest
led_all null rest h = (refl, refl)
led_all (boolean b) rest h = (refl, refl)
led_all (number s) rest h = (refl, refl)
led_all (string s) rest h = (refl, refl)
led_all (array js) rest h = (js, refl, (refl, omega (arith, h)))
led_all (object ms) rest h = (ms, refl, (refl, omega (arith, h)))

pub led : (t : Token) (ts : List Token) (j : Json) (rest : List Token) → At (t ∷ ts) j rest → Led t ts j rest
led t ts j rest at = subst (λ l. LedAll l j rest) (sym at.0) (led_all j rest at.1)

pub not_empty : (j : Json) (rest : List Token) → At [] j rest → ⊥
not_empty j rest at = subst (λ l. LedAll l j rest) (sym at.0) (led_all j rest at.1)

-- the next of an array's items, or the end
abbrev Next : List Token → Items → List Token → Option (List Token) → Type 0
Next ts js rest (Some r) = (js ≡ no_items) × (r ≡ rest)
Next ts js rest None = (j : Json) × (more : Items) × (js ≡ item j more) × At ts j (items_tokens more ++ rest) × (items_depth more ≤ max_depth)

goes_on : (j : Json) (rest : List Token) → after_end_array (json_tokens j ++ rest) ≡ None
goes_on null rest = refl
goes_on (boolean b) rest = refl
goes_on (number s) rest = refl
goes_on (string s) rest = refl
goes_on (array js) rest = refl
goes_on (object ms) rest = refl

next_of : (js : Items) (rest : List Token) → items_depth js ≤ max_depth → Next (items_tokens js ++ rest) js rest (after_end_array (items_tokens js ++ rest))
next_of no_items rest h = (refl, refl)
next_of (item j js) rest h =
    let split = append_assoc (json_tokens j) (items_tokens js) rest in
    subst (λ l. Next l (item j js) rest (after_end_array l)) (sym split)
    (subst (Next (json_tokens j ++ (items_tokens js ++ rest)) (item j js) rest) (sym (goes_on j (items_tokens js ++ rest)))
    (j, js, refl, (refl, omega (arith, h)), omega (arith, h)))

next : (ts : List Token) (js : Items) (rest : List Token) → AtItems ts js rest → Next ts js rest (after_end_array ts)
next ts js rest at = subst (λ l. Next l js rest (after_end_array l)) (sym at.0) (next_of js rest at.1)

pub items_end : (ts r : List Token) (js : Items) (rest : List Token) → AtItems ts js rest → after_end_array ts ≡ Some r → (js ≡ no_items) × (r ≡ rest)
items_end ts r js rest at e = subst (Next ts js rest) e (next ts js rest at)

pub items_next : (ts : List Token) (js : Items) (rest : List Token) → AtItems ts js rest → after_end_array ts ≡ None
    → (j : Json) × (more : Items) × (js ≡ item j more) × At ts j (items_tokens more ++ rest) × (items_depth more ≤ max_depth)
items_next ts js rest at e = subst (Next ts js rest) e (next ts js rest at)

-- the next of an object's members, or the end
abbrev Named : Members → List Token → Option (Option (List ℕ) × List Token) → Type 0
Named ms rest None = ⊥
Named ms rest (Some (None, r)) = (ms ≡ no_members) × (r ≡ rest)
Named ms rest (Some (Some k, s)) =
    (j : Json) × (more : Members) × (ms ≡ member k j more) × At s j (members_tokens more ++ rest) × (members_depth more ≤ max_depth)

named_of : (ms : Members) (rest : List Token) → members_depth ms ≤ max_depth → Named ms rest (read_key (members_tokens ms ++ rest))
named_of no_members rest h = (refl, refl)
named_of (member k j ms) rest h = (j, ms, refl, (append_assoc (json_tokens j) (members_tokens ms) rest, omega (arith, h)), omega (arith, h))

named : (ts : List Token) (ms : Members) (rest : List Token) → AtMembers ts ms rest → Named ms rest (read_key ts)
named ts ms rest at = subst (λ l. Named ms rest (read_key l)) (sym at.0) (named_of ms rest at.1)

pub key_stands : (ts : List Token) (ms : Members) (rest : List Token) → AtMembers ts ms rest → read_key ts ≡ None → ⊥
key_stands ts ms rest at e = subst (Named ms rest) e (named ts ms rest at)

pub members_end : (ts r : List Token) (ms : Members) (rest : List Token) → AtMembers ts ms rest → read_key ts ≡ Some (None, r) → (ms ≡ no_members) × (r ≡ rest)
members_end ts r ms rest at e = subst (Named ms rest) e (named ts ms rest at)

pub members_next : (ts s : List Token) (k : List ℕ) (ms : Members) (rest : List Token) → AtMembers ts ms rest → read_key ts ≡ Some (Some k, s)
    → (j : Json) × (more : Members) × (ms ≡ member k j more) × At s j (members_tokens more ++ rest) × (members_depth more ≤ max_depth)
members_next ts s k ms rest at e = subst (Named ms rest) e (named ts ms rest at)

pub led_as : (u t : Token) (ts : List Token) (j : Json) (rest : List Token) → u ≡ t → At (u ∷ ts) j rest → Led t ts j rest
led_as u t ts j rest e at = led t ts j rest (subst (λ x. At (x ∷ ts) j rest) e at)

-- a token that begins no value
abbrev pub is_no_value : Token → Bool
is_no_value Token.end_object = true
is_no_value Token.end_array = true
is_no_value (Token.key s) = true
is_no_value Token.bad = true
is_no_value _ = false

pub never_led : (t : Token) (ts : List Token) (j : Json) (rest : List Token) → is_no_value t ≡ true → At (t ∷ ts) j rest → ⊥
never_led Token.begin_object ts j rest e at = absurd (cc)
never_led Token.end_object ts j rest e at = led Token.end_object ts j rest at
never_led Token.begin_array ts j rest e at = absurd (cc)
never_led Token.end_array ts j rest e at = led Token.end_array ts j rest at
never_led (Token.key s) ts j rest e at = led (Token.key s) ts j rest at
never_led (Token.string s) ts j rest e at = absurd (cc)
never_led (Token.number s) ts j rest e at = absurd (cc)
never_led (Token.boolean b) ts j rest e at = absurd (cc)
never_led Token.null ts j rest e at = absurd (cc)
never_led Token.bad ts j rest e at = led Token.bad ts j rest at
