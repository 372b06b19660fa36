-- How the walks that read what is small end.
use Rattle.std.proofs.Common.{◌≡◌, ◌≤◌, ◌+◌, ◌-◌, ℕ, suc, List, [], ◌∷◌, length, Bool, true, false, not, Option, Some, None, option_map, Result, Ok, Err, OnOk, IfSome, refl, sym, ap, ◌∙◌, subst, arith, add-one}
use Rattle.json.specs.Token.{Token}
use Rattle.json.specs.Json as json
use Rattle.json.specs.declared.error.Error.{Error}
use Rattle.serde_json.specs.Data.{Num, Data, array, object, Members, no_members, depth, items_depth, members_depth}
use Rattle.serde_json.specs.Read.{max_depth, number_of}
use Rattle.serde_json.specs.View.{view, items_view}
use Rattle.serde_json.specs.Written.{compact_text, items_text, members_text}
use Rattle.serde_json.specs.declared.value.Value.{Value}
use Rattle.presence_base.specs.Metas.{is_meta, is_plain}
use Rattle.presence_base.specs.Names.{guarded}
use Rattle.json_parts.specs.Outline.{brief}
use Rattle.json_parts.specs.Places.{number_data, data_of, items_data, members_data, AtItems, Gets, Leaves}
use Rattle.json_parts.specs.Small.{is_small, Part, IsPart, part_view, is_object, no_object_first}
use Rattle.json_parts.specs.declared.small.Part as declared
use Rattle.json_parts.proofs.Sizes.{Parts, never_small, total, text_all, total_members, members_all}
use Rattle.json_parts.proofs.Turns.{IsFlat}
use Rattle.json_parts.proofs.Walks.{items_before, before_none, items_led, items_stand}

-- what isn't small with one more level
pub one_deeper : (limit : ℕ) (d : Data) → is_small (suc limit) d ≡ false → is_small (limit + 1) d ≡ false
one_deeper limit d large = ap (λ n. is_small n d) (add-one limit) ∙ large

-- what is small nests no deeper than a text that is read
pub nests : (limit : ℕ) (d : Data) (o : Option declared.Part) → limit ≤ 32 → IsPart limit d (option_map part_view o) → IfSome o (λ p. depth (view p.value) ≤ max_depth)
nests limit d None low is = tt
nests limit d (Some p) low is = subst (λ e. depth e ≤ max_depth) (sym is.0) (omega (arith, is.1, low))

-- a value that is no array and no object
pub flat_part : (limit : ℕ) (d v : Data) → IsFlat d → v ≡ brief d → IsPart limit d (Some (v, 0))
flat_part limit d v flat seen = (seen ∙ flat.0, omega (arith, flat.1), omega arith)

pub array_part : (limit left : ℕ) (vs : List Value) (v : Data) (js all : json.Items)
    → js ≡ json.no_items → items_before vs (items_data js) ≡ items_data all → items_depth (items_view vs) ≤ limit → 16384 ≤ left + total vs → v ≡ array (items_view vs)
    → IsPart (limit + 1) (array (items_data all)) (Some (v, 16384 - left))
array_part limit left vs v js all over was deep sum seen =
    let same : items_view vs ≡ items_data all = sym (before_none vs) ∙ ap (λ l. items_before vs (items_data l)) (sym over) ∙ was in
    subst (λ ds. IsPart (limit + 1) (array ds) (Some (v, 16384 - left))) same
    (let text = text_all vs in (seen, omega (arith, deep), omega (arith, text, sum)))

pub object_part : (limit left : ℕ) (ms found : Members) (v : Data)
    → found ≡ ms → members_depth ms ≤ limit → 16384 ≤ left + total_members ms → v ≡ object found
    → IsPart (limit + 1) (object ms) (Some (v, 16384 - left))
object_part limit left ms found v same deep sum seen =
    let text = members_all false ms in
    (seen ∙ ap object same, omega (arith, deep), omega (arith, text, sum))

pub members_same : (left all : json.Members) (found : Members) → left ≡ json.no_members → members_data left found ≡ members_data all no_members → found ≡ members_data all no_members
members_same left all found over was = sym (ap (λ m. members_data m found) over) ∙ was

pub any_ok : (result : Result (Option declared.Part) Error) (P : Type 0) → P → OnOk result P
any_ok (Ok o) P p = p
any_ok (Err e) P p = tt

-- the object that was made of what was held is the one that stood there
pub object_leaves : (limit : ℕ) (found whole : Members) (result : Result (Option declared.Part) Error) (new rest : List Token)
    → found ≡ whole → new ≡ rest → Gets result (λ o. IsPart (limit + 1) (object found) (option_map part_view o))
    → Leaves new rest result (λ o. IsPart (limit + 1) (object whole) (option_map part_view o))
object_leaves limit found whole (Ok o) new rest same end got = (subst (λ m. IsPart (limit + 1) (object m) (option_map part_view o)) same got, end)
object_leaves limit found whole (Err e) new rest same end got = got

-- ---- what is next in an array

abbrev pub is_object_token : Token → Bool
is_object_token Token.begin_object = true
is_object_token _ = false

other_number : (o : Option Num) → is_object (number_data o) ≡ false
other_number None = refl
other_number (Some n) = refl

plain_first : (j : json.Json) (js more : json.Items) → js ≡ json.item j more → is_object (data_of j) ≡ false → no_object_first (items_data js) ≡ true
plain_first j js more split plain = ap (λ is. no_object_first (items_data is)) split ∙ ap not plain

pub no_object : (t : Token) (ts : List Token) (js : json.Items) (rest : List Token) → AtItems (t ∷ ts) js rest → is_object_token t ≡ false → no_object_first (items_data js) ≡ true
no_object Token.begin_object ts js rest at e = absurd (cc)
no_object Token.end_object ts js rest at e = absurd (items_led Token.end_object ts js rest at).4
no_object Token.begin_array ts js rest at e = let n = items_led Token.begin_array ts js rest at in plain_first n.0 js n.1 n.2 (ap (λ j. is_object (data_of j)) n.4.1)
no_object Token.end_array ts js rest at e = let n = items_led Token.end_array ts js rest at in ap (λ is. no_object_first (items_data is)) n.0
no_object (Token.key s) ts js rest at e = absurd (items_led (Token.key s) ts js rest at).4
no_object (Token.string s) ts js rest at e = let n = items_led (Token.string s) ts js rest at in plain_first n.0 js n.1 n.2 (ap (λ j. is_object (data_of j)) n.4.0)
no_object (Token.number s) ts js rest at e =
    let n = items_led (Token.number s) ts js rest at in
    plain_first n.0 js n.1 n.2 (ap (λ j. is_object (data_of j)) n.4.0 ∙ other_number (number_of s))
no_object (Token.boolean b) ts js rest at e = let n = items_led (Token.boolean b) ts js rest at in plain_first n.0 js n.1 n.2 (ap (λ j. is_object (data_of j)) n.4.0)
no_object Token.null ts js rest at e = let n = items_led Token.null ts js rest at in plain_first n.0 js n.1 n.2 (ap (λ j. is_object (data_of j)) n.4.0)
no_object Token.bad ts js rest at e = absurd (items_led Token.bad ts js rest at).4

-- the reader stands at a token that begins no object, or at the end of the text
pub no_object_next : (t : Token) (old new : List Token) (js : json.Items) (rest : List Token) → AtItems old js rest → old ≡ t ∷ new → is_object_token t ≡ false
    → no_object_first (items_data js) ≡ true
no_object_next t old new js rest at first e = no_object t new js rest (subst (λ l. AtItems l js rest) first at) e

pub never_over : (old : List Token) (js : json.Items) (rest : List Token) → AtItems old js rest → old ≡ [] → ⊥
never_over old js rest at none = items_stand js rest (subst (λ l. AtItems l js rest) none at)
