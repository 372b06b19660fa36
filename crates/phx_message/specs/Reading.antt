-- Which message a text is, or the first thing that is wrong with it.
use Rattle.std.specs.Prelude.{◌≡◌, ℕ, List, length, Bool, if◌then◌else◌, nat_lt, nat_le, Option, Some, None, Result, Ok, Err}
use Rattle.serde_json.specs.Data.{unsigned, Data, null, number, string, array, Items, no_items, item, depth}
use Rattle.serde_json.specs.Written.{has_float}
use Rattle.serde_json.specs.Read.{read}
use Rattle.presence_base.specs.Names.{is_short_text}
use Rattle.phx_message.specs.Message.{is_event}
use Rattle.phx_message.specs.declared.message.MsgRef.{MsgRef}
use Rattle.phx_message.specs.declared.message.MsgRef.TheVariants.{Text, Number}
use Rattle.phx_message.specs.declared.message.Message.{Message}
use Rattle.phx_message.specs.declared.message.Limits.{Limits}
use Rattle.phx_message.specs.declared.message.MessageFault.{MessageFault}
use Rattle.phx_message.specs.declared.message.MessageFault.TheVariants.{TooLong, NotJson, NotFive, BadRef, BadTopic, BadEvent, TooDeep, Fraction, OutOfMemory}

infixl 10 ◌>>=◌
abbrev pub ◌>>=◌ : {A B : Type 0} → Result A MessageFault → (A → Result B MessageFault) → Result B MessageFault
(Ok x) >>= f = f x
(Err e) >>= f = Err e

-- the fault that is told is the one that stands, unless memory ran out
abbrev pub Fails : {Y : Type 0} → MessageFault → Result Y MessageFault → Type 0
Fails OutOfMemory reading = Unit {0}
Fails e reading = reading ≡ Err e

-- what was answered, seen by view, is the reading, unless memory ran out
abbrev pub Gives : {X Y : Type 0} → (X → Y) → Result X MessageFault → Result Y MessageFault → Type 0
Gives view (Ok x) reading = reading ≡ Ok (view x)
Gives view (Err e) reading = Fails e reading

-- what was answered is the reading, unless memory ran out
abbrev pub Answers : {X : Type 0} → Result X MessageFault → Result X MessageFault → Type 0
Answers = Gives (λ x. x)

-- what was answered, seen by view, is the reading, whatever memory there was
abbrev pub IsGiven : {X Y : Type 0} → (X → Y) → Result X MessageFault → Result Y MessageFault → Type 0
IsGiven view (Ok x) reading = reading ≡ Ok (view x)
IsGiven view (Err e) reading = reading ≡ Err e

-- the value that the text is
abbrev pub found_value : Option Data → Result Data MessageFault
found_value None = Err NotJson
found_value (Some d) = Ok d

abbrev pub value_in : ℕ → List ℕ → Result Data MessageFault
value_in bytes s = if nat_lt bytes (length s) then Err TooLong else found_value (read s)

pub record Five : Type 0 where
  pub first : Data
  pub second : Data
  pub third : Data
  pub fourth : Data
  pub fifth : Data

abbrev pub five_items : Items → Result Five MessageFault
five_items (item a (item b (item c (item d (item e no_items))))) =
    Ok (record { first = a; second = b; third = c; fourth = d; fifth = e })
five_items _ = Err NotFive

abbrev pub five_in : Data → Result Five MessageFault
five_in (array ds) = five_items ds
five_in _ = Err NotFive

-- null, a text or a whole number from 0 to 2^64 - 1
abbrev pub ref_in : Data → Result (Option MsgRef) MessageFault
ref_in null = Ok None
ref_in (number (unsigned n)) = Ok (Some (Number n))
ref_in (string s) = Ok (Some (Text s))
ref_in _ = Err BadRef

-- a text that passes the test
abbrev pub text_in : (List ℕ → Bool) → MessageFault → Data → Result (List ℕ) MessageFault
text_in test e (string s) = if test s then Ok s else Err e
text_in test e _ = Err e

-- a payload within the depth, with whole numbers alone
abbrev pub payload_in : ℕ → Data → Result Data MessageFault
payload_in max_depth d =
    if nat_le (depth d) max_depth then (if has_float d then Err Fraction else Ok d) else Err TooDeep

-- the message that the value is
abbrev pub message_in : ℕ → Data → Result Message MessageFault
message_in max_depth d = do
  five ← five_in d
  join_ref ← ref_in five.first
  msg_ref ← ref_in five.second
  topic ← text_in is_short_text BadTopic five.third
  event ← text_in is_event BadEvent five.fourth
  payload ← payload_in max_depth five.fifth
  Ok (record { join_ref = join_ref; msg_ref = msg_ref; topic = topic; event = event; payload = payload })

unfoldable pub decoded : Limits → List ℕ → Result Message MessageFault
decoded limits s = value_in limits.bytes s >>= message_in limits.depth
