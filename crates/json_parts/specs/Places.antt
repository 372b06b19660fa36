-- Where a reader stands in a text, and the data of what is there.
use Rattle.std.specs.Prelude.{◌≡◌, ◌≤◌, List, ◌++◌, Bool, true, false, Option, Some, None, is_some, Result, Ok, Err}
use Rattle.std.specs.List.{list_all}
use Rattle.json.specs.Token.{Token}
use Rattle.json.specs.Json as json
use Rattle.json.specs.Tree.{json_tokens, items_tokens, members_tokens, depth, items_depth, members_depth}
use Rattle.json.specs.declared.error.Error.{Error}
use Rattle.json.specs.declared.error.Error.TheVariants.{OutOfMemory}
use Rattle.serde_json.specs.Data.{Num, Data, null, boolean, number, string, array, object, Items, no_items, item, Members, no_members, put}
use Rattle.serde_json.specs.Read.{number_of, max_depth}

-- the number, or false where it is out of range
abbrev pub number_data : Option Num → Data
number_data (Some n) = number n
number_data None = boolean false

-- the data of a value whose numbers are all in range: of equal keys the last wins
abbrev mutual
  pub data_of : json.Json → Data
  data_of json.null = null
  data_of (json.boolean b) = boolean b
  data_of (json.number s) = number_data (number_of s)
  data_of (json.string s) = string s
  data_of (json.array js) = array (items_data js)
  data_of (json.object ms) = object (members_data ms no_members)

  pub items_data : json.Items → Items
  items_data json.no_items = no_items
  items_data (json.item j js) = item (data_of j) (items_data js)

  pub members_data : json.Members → Members → Members
  members_data json.no_members found = found
  members_data (json.member k j ms) found = members_data ms (put k (data_of j) found)

-- a number that is none is refused
abbrev pub is_token_in_range : Token → Bool
is_token_in_range (Token.number s) = is_some (number_of s)
is_token_in_range _ = true

abbrev pub are_in_range : List Token → Bool
are_in_range = list_all is_token_in_range

-- the tokens begin with the value, and rest follows it
abbrev pub At : List Token → json.Json → List Token → Type 0
At ts j rest = (ts ≡ json_tokens j ++ rest) × (depth j ≤ max_depth)

-- the same of an array's items and its closing bracket, and of an object's members and its closing brace
abbrev pub AtItems : List Token → json.Items → List Token → Type 0
AtItems ts js rest = (ts ≡ items_tokens js ++ rest) × (items_depth js ≤ max_depth)

abbrev pub AtMembers : List Token → json.Members → List Token → Type 0
AtMembers ts ms rest = (ts ≡ members_tokens ms ++ rest) × (members_depth ms ≤ max_depth)

-- what was read is such, and the reader stands at the rest, unless memory ran out
abbrev pub Leaves : {X : Type 0} → List Token → List Token → Result X Error → (X → Type 0) → Type 0
Leaves new rest (Ok x) Is = Is x × (new ≡ rest)
Leaves new rest (Err e) Is = e ≡ OutOfMemory

-- the value that stands there was read as such
abbrev pub Reads : {X : Type 0} → List Token → List Token → Result X Error → (Data → X → Type 0) → Type 0
Reads old new result Is = (j : json.Json) (rest : List Token) → At old j rest → Leaves new rest result (Is (data_of j))

abbrev pub ReadsItems : {X : Type 0} → List Token → List Token → Result X Error → (Items → X → Type 0) → Type 0
ReadsItems old new result Is = (js : json.Items) (rest : List Token) → AtItems old js rest
    → Leaves new rest result (Is (items_data js))

-- what was made is such, unless memory ran out
abbrev pub Gets : {X : Type 0} → Result X Error → (X → Type 0) → Type 0
Gets (Ok x) Is = Is x
Gets (Err e) Is = e ≡ OutOfMemory
