-- As what a payload is kept that isn't sent as it is, and what it tells. An event of one's own is a shout whose payload
-- names the event; the last item tells it from any other payload.
use Rattle.std.specs.Prelude.{ℕ, Bool, true, false, if◌then◌else◌, List, [], ◌∷◌, Option, Some, None}
use Rattle.std.specs.Str.{bytes_eq}
use Rattle.serde_json.specs.View.{view}
use Rattle.serde_json.specs.Data.{unsigned, Data, null, number, string, array, Items, no_items, item}
use Rattle.client_settings.specs.declared.kept.Told.{Told as TellsValue}
use Rattle.client_settings.specs.declared.kept.Told.TheVariants as tells

-- the text U+0000
abbrev pub mark : List ℕ
mark = 0 ∷ []

abbrev pub mark_item : Items
mark_item = item (string mark) no_items

-- the session that sent an event, where it doesn't go there: by its number, so that what is kept is for this node's sessions
-- alone, of which no two have one number
abbrev pub sender_value : Option ℕ → Data
sender_value None = null
sender_value (Some pid) = number (unsigned pid)

-- `[event,sender,payload,"\u0000"]`
abbrev pub kept_event : List ℕ → Option ℕ → Data → Data
kept_event event sender payload =
    array (item (string event) (item (sender_value sender) (item payload mark_item)))

-- `[payload,"\u0000"]`
abbrev pub kept_shout : Data → Data
kept_shout payload = array (item payload mark_item)

-- what a payload tells: itself, as any shout, or what it is kept for
pub data Told : Type 0 where
  itself : Told
  shouted : (payload : Data) → Told
  evented : (event : List ℕ) → (sender : Option ℕ) → (payload : Data) → Told

abbrev pub marked : Bool → Told → Told
marked true told = told
marked false told = itself

abbrev pub is_mark : Data → Bool
is_mark (string s) = bytes_eq s mark
is_mark _ = false

abbrev pub sent_by : List ℕ → Data → Data → Told
sent_by event null payload = evented event None payload
sent_by event (number (unsigned pid)) payload = evented event (Some pid) payload
sent_by event _ payload = itself

abbrev pub event_in : Data → Data → Data → Told
event_in (string event) sender payload = sent_by event sender payload
event_in _ sender payload = itself

abbrev pub told_items : Items → Told
told_items (item payload (item last no_items)) = marked (is_mark last) (shouted payload)
told_items (item event (item sender (item payload (item last no_items)))) =
    marked (is_mark last) (event_in event sender payload)
told_items _ = itself

abbrev pub told_of : Data → Told
told_of (array items) = told_items items
told_of _ = itself

-- a client's shout that would be taken for what is kept so
abbrev pub is_itself : Told → Bool
is_itself itself = true
is_itself _ = false

-- as what a shout is kept, where there are events of one's own
abbrev pub kept_by : Data → Data
kept_by payload = if is_itself (told_of payload) then payload else kept_shout payload

-- ---- as it is told by code

abbrev pub seen_told : TellsValue → Told
seen_told tells.Itself = itself
seen_told (tells.Shouted payload) = shouted (view payload.now)
seen_told (tells.Evented event sender payload) = evented event.now sender (view payload.now)
