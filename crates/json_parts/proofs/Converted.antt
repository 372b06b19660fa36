-- A whole text as one value whose numbers are in range.
use Rattle.std.proofs.Common.{◌≡◌, ℕ, List, [], ◌∷◌, ◌++◌, Bool, true, false, ◌&&◌, Option, Some, None, is_some, option_map, option_and_then, refl, sym, ap, ◌∙◌, subst, append-nil}
use Rattle.json.specs.Token.{Token}
use Rattle.json.specs.Lex.{tokens}
use Rattle.json.specs.Json as json
use Rattle.json.specs.Json.{if_last, skip_value, value}
use Rattle.json.specs.Tree.{json_tokens, items_tokens, members_tokens}
use Rattle.json.proofs.Nesting.{value-depth}
use Rattle.json.proofs.Unique.Spelling.{value-json_tokens_back}
use Rattle.json.proofs.Grammar.{left_none, left_some}
use Rattle.serde_json.specs.Data.{Num, Data, number, array, object, item, Members, no_members, put}
use Rattle.serde_json.specs.Read.{number_of, of_json, of_items, of_members, max_depth, read}
use Rattle.json_parts.specs.Places.{number_data, data_of, items_data, members_data, is_token_in_range, are_in_range, At}

-- where the numbers are in range, the conversion gives the data, and else nothing
abbrev Converts : {A : Type 0} → Bool → Option A → A → Type 0
Converts true o a = o ≡ Some a
Converts false o a = o ≡ None

of_number : (o : Option Num) → Converts (is_some o && true) (option_map number o) (number_data o)
of_number None = refl
of_number (Some n) = refl

mapped : {A B : Type 0} (b : Bool) (f : A → B) (o : Option A) (a : A) → Converts b o a → Converts b (option_map f o) (f a)
mapped true f o a e = ap (option_map f) e
mapped false f o a e = ap (option_map f) e

both : {A B : Type 0} (a b : Bool) (o : Option A) (f : A → Option B) (x : A) (y : B) → Converts a o x → Converts b (f x) y → Converts (a && b) (option_and_then f o) y
both true true o f x y e h = ap (option_and_then f) e ∙ h
both true false o f x y e h = ap (option_and_then f) e ∙ h
both false b o f x y e h = ap (option_and_then f) e

range-append : (a b : List Token) → are_in_range (a ++ b) ≡ (are_in_range a && are_in_range b)
range-append [] b = refl
range-append (t ∷ ts) b = ap (λ r. is_token_in_range t && r) (range-append ts b) ∙ and_assoc (is_token_in_range t) (are_in_range ts) (are_in_range b)
  where
    and_assoc : (x y z : Bool) → (x && (y && z)) ≡ ((x && y) && z)
    and_assoc true y z = refl
    and_assoc false y z = refl

mutual
  of_value : (j : json.Json) → Converts (are_in_range (json_tokens j)) (of_json j) (data_of j)
  of_value json.null = refl
  of_value (json.boolean b) = refl
  of_value (json.number s) = of_number (number_of s)
  of_value (json.string s) = refl
  of_value (json.array js) = mapped (are_in_range (items_tokens js)) array (of_items js) (items_data js) (of_all js)
  of_value (json.object ms) = mapped (are_in_range (members_tokens ms)) object (of_members ms no_members) (members_data ms no_members) (of_each ms no_members)

  of_all : (js : json.Items) → Converts (are_in_range (items_tokens js)) (of_items js) (items_data js)
  of_all json.no_items = refl
  of_all (json.item j js) =
      subst (λ b. Converts b (of_items (json.item j js)) (items_data (json.item j js))) (sym (range-append (json_tokens j) (items_tokens js)))
      (both (are_in_range (json_tokens j)) (are_in_range (items_tokens js)) (of_json j) (λ d. option_map (item d) (of_items js)) (data_of j) _ (of_value j)
      (mapped (are_in_range (items_tokens js)) (item (data_of j)) (of_items js) (items_data js) (of_all js)))

  of_each : (ms : json.Members) (found : Members) → Converts (are_in_range (members_tokens ms)) (of_members ms found) (members_data ms found)
  of_each json.no_members found = refl
  of_each (json.member k j ms) found =
      subst (λ b. Converts b (of_members (json.member k j ms) found) (members_data (json.member k j ms) found)) (sym (range-append (json_tokens j) (members_tokens ms)))
      (both (are_in_range (json_tokens j)) (are_in_range (members_tokens ms)) (of_json j) (λ d. of_members ms (put k d found)) (data_of j) _ (of_value j)
      (of_each ms (put k (data_of j) found)))

is_converted : {A : Type 0} (b : Bool) (o : Option A) (a : A) → Converts b o a → is_some o ≡ b
is_converted true o a e = ap is_some e
is_converted false o a e = ap is_some e

converted_is : {A : Type 0} (b : Bool) (o : Option A) (a d : A) → Converts b o a → o ≡ Some d → a ≡ d
converted_is true o a d e h = cc
converted_is false o a d e h = absurd (cc)

whole : Option (json.Json × List Token) → Option Data
whole o = option_and_then of_json (option_and_then (λ p. if_last p.0 p.1) o)

-- the answers of the first walk
pub refused_read : (s : List ℕ) → skip_value max_depth (tokens s) ≡ None → read s ≡ None
refused_read s e = ap (λ o. option_and_then of_json (option_and_then (λ p. if_last p.0 p.1) o)) (left_none (value max_depth (tokens s)) e)

pub more_read : (s : List ℕ) (t : Token) (r : List Token) → skip_value max_depth (tokens s) ≡ Some (t ∷ r) → read s ≡ None
more_read s t r e = ap (λ o. option_and_then of_json (option_and_then (λ p. if_last p.0 p.1) o)) (left_some (value max_depth (tokens s)) (t ∷ r) e).1

pub last_read : (s : List ℕ) → skip_value max_depth (tokens s) ≡ Some [] → is_some (read s) ≡ are_in_range (tokens s)
last_read s e =
    let j = left_some (value max_depth (tokens s)) [] e in
    let spelled = value-json_tokens_back max_depth (tokens s) [] j.0 j.1 ∙ append-nil (json_tokens j.0) in
    ap (λ o. is_some (option_and_then of_json (option_and_then (λ p. if_last p.0 p.1) o))) j.1
    ∙ is_converted (are_in_range (json_tokens j.0)) (of_json j.0) (data_of j.0) (of_value j.0)
    ∙ ap are_in_range (sym spelled)

-- where the reader of a text stands at first
abbrev pub Stands : List ℕ → Data → Type 0
Stands s d = (j : json.Json) × At (tokens s) j [] × (data_of j ≡ d)

abbrev StandsIn : (s : List ℕ) → Data → Option (json.Json × List Token) → Type 0
StandsIn s d o = value max_depth (tokens s) ≡ o → option_and_then of_json (option_and_then (λ p. if_last p.0 p.1) o) ≡ Some d → Stands s d

stands_in : (s : List ℕ) (d : Data) (o : Option (json.Json × List Token)) → StandsIn s d o
stands_in s d None is e = absurd (cc)
stands_in s d (Some (j, t ∷ r)) is e = absurd (cc)
stands_in s d (Some (j, [])) is e = (
  j,
  (value-json_tokens_back max_depth (tokens s) [] j is, value-depth max_depth (tokens s) [] j is),
  converted_is (are_in_range (json_tokens j)) (of_json j) (data_of j) d (of_value j) e,
)

pub stands : (s : List ℕ) (d : Data) → read s ≡ Some d → Stands s d
stands s d e = stands_in s d (value max_depth (tokens s)) refl e
