-- What a line of a file of keys is, and what such a file is.
use Rattle.std.specs.Prelude.{◌≡◌, ℕ, ◌+◌, ◌==◌, List, [], ◌∷◌, ◌++◌, length, take, drop, map, Bool, nat_lt, if◌then◌else◌, Option, Some, None, Result, Ok, Err, Vec, codes}
use Rattle.std.specs.declared.alloc.Global.{Global}
use Rattle.std.specs.Char.{is_ascii_graphic}
use Rattle.std.specs.Cmp.Lexicographic.{pointwise}
use Rattle.std.specs.List.{list_all}
use Rattle.std.specs.Result.{result_ok}
use Rattle.std.specs.Str.Lines.{lines}
use Rattle.base64.specs.GeneralPurpose.{decode_of}
use Rattle.base64.specs.Engines.{url_safe_no_pad}
use Rattle.hmac_keys.specs.declared.fault.KeyFault.{KeyFault}
use Rattle.hmac_keys.specs.declared.fault.KeyFault.TheVariants.{NotBase64, NotVisible, TooShort, OutOfMemory}
use Rattle.hmac_keys.specs.declared.fault.KeysFault.{KeysFault}
use Rattle.hmac_keys.specs.declared.fault.KeysFault.TheVariants.{Line, NoKey}
use Rattle.hmac_keys.specs.declared.fault.KeysFault.TheVariants as keys_fault
use Rattle.hmac_keys.specs.declared.line.TheConstants.{MIN_KEY_BYTES}

-- what was answered, seen by view, is the reading, unless memory ran out
abbrev pub Fails : {Y : Type 0} → KeyFault → Result Y KeyFault → Type 0
Fails OutOfMemory reading = Unit {0}
Fails e reading = reading ≡ Err e

abbrev pub Gives : {X Y : Type 0} → (X → Y) → Result X KeyFault → Result Y KeyFault → Type 0
Gives view (Ok x) reading = reading ≡ Ok (view x)
Gives view (Err e) reading = Fails e reading

abbrev pub or_fault : {A : Type 0} → KeyFault → Option A → Result A KeyFault
or_fault e None = Err e
or_fault e (Some x) = Ok x

abbrev pub decoded_in : List ℕ → Result (List ℕ) KeyFault
decoded_in text = or_fault NotBase64 (result_ok (decode_of url_safe_no_pad text))

abbrev pub are_visible : List ℕ → Bool
are_visible = list_all is_ascii_graphic

abbrev pub plain_in : List ℕ → Result (List ℕ) KeyFault
plain_in text = if are_visible text then Ok text else Err NotVisible

-- the line begins with this
abbrev pub has_front : List ℕ → List ℕ → Bool
has_front front line = pointwise ◌==◌ (take (length front) line) front

-- a line that begins with `base64url:` is the bytes that the rest of it encodes, and any other is its own bytes
abbrev pub bytes_in : List ℕ → Result (List ℕ) KeyFault
bytes_in line = if has_front (codes "base64url:") line then decoded_in (drop 10 line) else plain_in line

abbrev pub long_enough : Result (List ℕ) KeyFault → Result (List ℕ) KeyFault
long_enough (Ok key) = if nat_lt (length key) MIN_KEY_BYTES then Err TooShort else Ok key
long_enough (Err e) = Err e

-- the key of a line
abbrev pub key_in : List ℕ → Result (List ℕ) KeyFault
key_in line = long_enough (bytes_in line)

-- why a text is no file of keys, where this line of it is no key
abbrev pub line_fault : ℕ → KeyFault → KeysFault
line_fault line OutOfMemory = keys_fault.OutOfMemory
line_fault line NotBase64 = Line line NotBase64
line_fault line NotVisible = Line line NotVisible
line_fault line TooShort = Line line TooShort

-- the key of the line that follows those whose keys were found
abbrev pub behind : List (List ℕ) → Result (List ℕ) KeyFault → Result (List (List ℕ)) KeysFault
behind found (Ok key) = Ok (found ++ key ∷ [])
behind found (Err fault) = Err (line_fault (length found + 1) fault)

abbrev pub added : List (List ℕ) → List ℕ → Result (List (List ℕ)) KeysFault
added found line = behind found (key_in line)

-- one at least
abbrev pub some_keys : List (List ℕ) → Result (List (List ℕ)) KeysFault
some_keys found = if length found == 0 then Err NoKey else Ok found

abbrev pub then_keys : Result (List (List ℕ)) KeysFault → (List (List ℕ) → Result (List (List ℕ)) KeysFault) → Result (List (List ℕ)) KeysFault
then_keys (Ok found) more = more found
then_keys (Err e) more = Err e

-- the keys of lines behind those that were found: of each line one
unfoldable pub keys_from : List (List ℕ) → List (List ℕ) → Result (List (List ℕ)) KeysFault
keys_from [] found = some_keys found
keys_from (l ∷ ls) found = then_keys (added found l) (keys_from ls)

abbrev pub keys_in : List ℕ → Result (List (List ℕ)) KeysFault
keys_in text = keys_from (lines text) []

-- the same, beside the file's text
abbrev pub beside : {A B : Type 0} → A → Result B KeysFault → Result (A × B) KeysFault
beside x (Ok y) = Ok (x, y)
beside x (Err e) = Err e

abbrev pub keys_with : List ℕ → Result (List ℕ × List (List ℕ)) KeysFault
keys_with text = beside text (keys_in text)

abbrev pub FailsKeys : {Y : Type 0} → KeysFault → Result Y KeysFault → Type 0
FailsKeys keys_fault.OutOfMemory reading = Unit {0}
FailsKeys e reading = reading ≡ Err e

abbrev pub GivesKeys : {X Y : Type 0} → (X → Y) → Result X KeysFault → Result Y KeysFault → Type 0
GivesKeys view (Ok x) reading = reading ≡ Ok (view x)
GivesKeys view (Err e) reading = FailsKeys e reading

-- what keys are, as bytes
abbrev pub bytes_of : Vec (Vec ℕ Global) Global → List (List ℕ)
bytes_of keys = map (λ k. k.items) keys.items

-- these are the keys of a file with this text
abbrev pub AreKeysOf : List ℕ → Vec (Vec ℕ Global) Global → Type 0
AreKeysOf text keys = keys_in text ≡ Ok (bytes_of keys)
