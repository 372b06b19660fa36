-- JSON in which no object has a member twice (RFC 7515, section 4, and RFC 7519, section 4, let a reader refuse others).
use Rattle.std.specs.Prelude.{ℕ, List, [], ◌∷◌, Bool, true, not, ◌&&◌, if◌then◌else◌, Option, Some, None, Result, Ok, Err, bytes_eq}
use Rattle.std.specs.List.{list_any}
use Rattle.std.specs.Str.{is_utf8}
use Rattle.json.specs.Json.{Json, null, boolean, number, string, array, object, Items, no_items, item, Members, no_members, member, document}
use Rattle.json.specs.Strict.{keys}
use Rattle.json.specs.declared.error.Error.{Error}
use Rattle.json.specs.declared.error.Error.TheVariants as error
use Rattle.tokens.specs.declared.fault.TokenFault.{TokenFault}
use Rattle.tokens.specs.declared.fault.TokenFault.TheVariants.{Malformed, OutOfMemory}

-- no two names are the same
abbrev pub are_distinct : List (List ℕ) → Bool
are_distinct [] = true
are_distinct (k ∷ ks) = not (list_any (bytes_eq k) ks) && are_distinct ks

-- no object, at any depth, has a member twice
abbrev mutual
  pub is_unique : Json → Bool
  is_unique null = true
  is_unique (boolean b) = true
  is_unique (number s) = true
  is_unique (string s) = true
  is_unique (array js) = are_items_unique js
  is_unique (object ms) = are_distinct (keys ms) && are_members_unique ms

  pub are_items_unique : Items → Bool
  are_items_unique no_items = true
  are_items_unique (item j js) = is_unique j && are_items_unique js

  pub are_members_unique : Members → Bool
  are_members_unique no_members = true
  are_members_unique (member k j ms) = is_unique j && are_members_unique ms

abbrev pub unique_in : Option Json → Result Json TokenFault
unique_in None = Err Malformed
unique_in (Some j) = if is_unique j then Ok j else Err Malformed

-- the JSON value that bytes are
unfoldable pub json_in : List ℕ → Result Json TokenFault
json_in bytes = if is_utf8 bytes then unique_in (document bytes) else Err Malformed

-- why a text that isn't read is no part of a token
abbrev pub fault_in : Error → TokenFault
fault_in error.OutOfMemory = OutOfMemory
fault_in error.Invalid = Malformed
fault_in error.DuplicateKey = Malformed
fault_in error.TooLong = Malformed
