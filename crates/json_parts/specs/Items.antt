-- The items of an array, one by one or the first few.
use Rattle.std.specs.Prelude.{◌≡◌, ◌≤◌, ◌<◌, ℕ, zero, suc, ◌++◌, Bool, true, false, List, length, Option, Some, None, Result, Ok, Err, Vec}
use Rattle.json.specs.Token.{Token}
use Rattle.json.specs.Json as json
use Rattle.json.specs.Json.{Json, Items, no_items, item}
use Rattle.json.specs.Tree.{items_tokens, items_depth}
use Rattle.json.specs.declared.error.Error.{Error}
use Rattle.json.specs.declared.error.Error.TheVariants.{OutOfMemory}
use Rattle.serde_json.specs.Data.{Data, null, array}
use Rattle.serde_json.specs.Read.{max_depth}
use Rattle.serde_json.specs.View.{view, items_view}
use Rattle.serde_json.specs.declared.value.Value.{Value}
use Rattle.json_parts.specs.declared.items.Begun.{Begun}
use Rattle.json_parts.specs.declared.items.Begun.TheVariants as begun
use Rattle.json_parts.specs.Places.{data_of, items_data, AtItems}
use Rattle.json_parts.specs.Outline.{few, shallow}

-- neither null nor an array
abbrev pub is_other : Data → Bool
is_other null = false
is_other (array ds) = false
is_other _ = true

-- the items without the first n
unfoldable pub after : ℕ → Items → Items
after zero js = js
after (suc n) no_items = no_items
after (suc n) (item j js) = after n js

-- what was taken is what begins there; of what is neither null nor an array no more is said
abbrev pub Begins : Items → List Token → List Token → Begun → Type 0
Begins js rest new begun.End = (js ≡ no_items) × (new ≡ rest)
Begins js rest new begun.Array =
    (is : Items) × (more : Items) × (js ≡ item (json.array is) more) × AtItems new is (items_tokens more ++ rest) × (items_depth more ≤ max_depth)
Begins js rest new begun.Null = (more : Items) × (js ≡ item json.null more) × AtItems new more rest
Begins js rest new begun.Other =
    (j : Json) × (more : Items) × (js ≡ item j more) × (is_other (data_of j) ≡ true)

-- the first few were read
abbrev pub HasFew : {A : Type 0} → ℕ → Items → List Token → List Token → Result (Vec Value A) Error → Type 0
HasFew n js rest new (Ok v) =
    (items_view v.items ≡ few n (items_data js))
    × ((n ≤ length v.items → AtItems new (after n js) rest) × (length v.items < n → new ≡ rest))
HasFew n js rest new (Err e) = e ≡ OutOfMemory

-- the next one was read, or the end
abbrev pub IsNext : ℕ → Items → List Token → List Token → Result (Option Value) Error → Type 0
IsNext n js rest new (Ok None) = (js ≡ no_items) × (new ≡ rest)
IsNext n js rest new (Ok (Some v)) =
    (j : Json) × (more : Items) × (js ≡ item j more) × (view v ≡ shallow n (data_of j)) × AtItems new more rest
IsNext n js rest new (Err e) = e ≡ OutOfMemory
