-- The JSON value that a message is written as, and the limits of messages.
use Rattle.std.specs.Prelude.{◌≡◌, ◌≤◌, ℕ, List, length, Bool, false, IsTrue, ◌&&◌, nat_le, Option, Some, None}
use Rattle.serde_json.specs.Data.{unsigned, Data, null, number, string, array, no_items, item, depth}
use Rattle.serde_json.specs.Written.{has_float}
use Rattle.presence_base.specs.Names.{is_short_text}
use Rattle.phx_message.specs.declared.message.TheConstants.{MAX_EVENT_BYTES}
use Rattle.phx_message.specs.declared.message.MsgRef.{MsgRef}
use Rattle.phx_message.specs.declared.message.MsgRef.TheVariants.{Text, Number}
use Rattle.phx_message.specs.declared.message.Message.{Message}

abbrev pub ref_value : Option MsgRef → Data
ref_value None = null
ref_value (Some (Text s)) = string s
ref_value (Some (Number n)) = number (unsigned n)

-- the array of the five members
abbrev pub value_of : Message → Data
value_of m = array (item (ref_value m.join_ref)
    (item (ref_value m.msg_ref) (item (string m.topic) (item (string m.event) (item m.payload no_items)))))

-- 1 to 64 bytes (MAX_EVENT_BYTES)
abbrev pub is_event : List ℕ → Bool
is_event s = nat_le 1 (length s) && nat_le (length s) MAX_EVENT_BYTES

-- what may be read: topic and event within their limits, a payload no deeper than allowed and without fractions
pub record IsWithin (max_depth : ℕ) (m : Message) : Type 0 where
  pub topic : IsTrue (is_short_text m.topic)
  pub event : IsTrue (is_event m.event)
  pub shallow : depth m.payload ≤ max_depth
  pub whole : has_float m.payload ≡ false
