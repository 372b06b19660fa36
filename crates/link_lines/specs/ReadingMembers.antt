-- What was read where a reader stands: the reading of the value there, or its fault, and where the reader stands then.
use Rattle.std.specs.Prelude.{◌≡◌, List, Option, Some, None, Result, Ok, Err}
use Rattle.json.specs.Token.{Token}
use Rattle.json.specs.Json as json
use Rattle.json.specs.declared.error.Error.{Error}
use Rattle.json.specs.declared.error.Error.TheVariants as error
use Rattle.serde_json.specs.Data.{Data, Items, no_items, item}
use Rattle.presence_base.specs.declared.dots.Dot.{Dot}
use Rattle.presence_base.specs.declared.row.Row.{Row}
use Rattle.orswot_core.specs.Telling.{ToldValue}
use Rattle.orswot_core.specs.declared.form.Form.{Form}
use Rattle.json_parts.specs.Places.{data_of, items_data, AtItems}
use Rattle.link_lines.specs.declared.fault.LinkFault.{LinkFault}
use Rattle.link_lines.specs.declared.fault.LinkFault.TheVariants.{NotJson, BadLine, OutOfMemory}
use Rattle.link_lines.specs.Results.{◌>>=◌, Fails, or_bad}
use Rattle.link_lines.specs.Rows.{kept, kept_row_in}
use Rattle.link_lines.specs.Telling.{each_in}
use Rattle.link_lines.specs.Told.{raw_told_in}

abbrev pub reading_fault : Error → LinkFault
reading_fault error.OutOfMemory = OutOfMemory
reading_fault _ = NotJson

-- what was read, seen by view, is the reading, and the reader stands at the rest, unless memory ran out
abbrev pub Found : {X Y : Type 0} → (X → Y) → List Token → List Token → Result X LinkFault → Result Y LinkFault → Type 0
Found view new rest (Ok x) reading = (reading ≡ Ok (view x)) × (new ≡ rest)
Found view new rest (Err e) reading = Fails e reading

-- what f finds in the first of the items, where there is one
abbrev pub first_in : {A : Type 0} → (Data → Option A) → Items → Option A
first_in f no_items = None
first_in f (item d ds) = f d

-- the same, where the reader stands at the items behind it then
abbrev pub FoundNext : {X Y : Type 0} → (X → Y) → (Data → Option Y) → json.Items → List Token → List Token → Result X LinkFault → Type 0
FoundNext view f js rest new (Ok x) =
    (j : json.Json) × (more : json.Items) × (js ≡ json.item j more)
    × (f (data_of j) ≡ Some (view x)) × AtItems new more rest
FoundNext view f js rest new (Err e) = Fails e (or_bad (first_in f (items_data js)))

-- the next row of a list, or the end of it
abbrev pub IsNextRow : json.Items → List Token → List Token → Result (Option (Dot × Row)) LinkFault → Type 0
IsNextRow js rest new (Ok None) = (js ≡ json.no_items) × (new ≡ rest)
IsNextRow js rest new (Ok (Some x)) =
    (j : json.Json) × (more : json.Items) × (js ≡ json.item j more) × (kept_row_in (data_of j) ≡ Some x) × AtItems new more rest
IsNextRow js rest new (Err e) = Fails e (or_bad (each_in kept_row_in (items_data js)))

-- what is kept of a told value of this form
abbrev pub kept_told_in : Form → Data → Result ToldValue LinkFault
kept_told_in form d = raw_told_in form d >>= (λ t. Ok (kept t))

-- no item is left
abbrev pub none_left : Items → Result Unit LinkFault
none_left no_items = Ok tt
none_left (item d ds) = Err BadLine
