-- Which items tell a state: it alone, or pieces of a long one.
use Rattle.std.specs.Prelude.{◌≡◌, ◌⊎◌, ◌+◌, ◌<◌, ◌≤◌, ◌&&◌, ◌==◌, ℕ, Bool, true, false, nat_eq, nat_le, nat_lt, if◌then◌else◌, List, [], ◌∷◌, length, take, drop, Option, Some, None}
use Rattle.std.specs.Str.{bytes_eq}
use Rattle.serde_json.specs.Data.{Data}
use Rattle.serde_json.specs.Written.{compact_text}
use Rattle.presence_base.specs.declared.dots.Dot.{Dot}
use Rattle.presence_base.specs.declared.row.Row.{Row}
use Rattle.presence_metas.specs.Values.{state_of, diff_of}
use Rattle.presence_journal.specs.declared.rows.Item.{Item}
use Rattle.presence_journal.specs.declared.rows.Item.TheVariants as items_are
use Rattle.channel_pieces.specs.declared.piece.TheConstants.{MAX_STATE_BYTES, PIECE_BYTES}
use Rattle.channel_pieces.specs.declared.telling.UntoldState.{UntoldState}

-- ---- texts

-- the payload that tells an item
abbrev pub payload_of : Item → Data
payload_of (items_are.State rows) = state_of rows
payload_of (items_are.Diff d) = diff_of d.joins d.leaves
payload_of (items_are.Shout payload) = payload

abbrev pub text_bytes : Item → ℕ
text_bytes i = length (compact_text (payload_of i))

-- whether the text that tells rows as a state has so many bytes at most
abbrev pub is_within : ℕ → List (Dot × Row) → Bool
is_within most rows = nat_le (text_bytes (items_are.State rows)) most

-- ---- pieces

-- The item that tells these rows of a state behind so many others: the first as a state, and any others as a diff that joins them.
abbrev pub telling : ℕ → List (Dot × Row) → Item
telling told rows = if told == 0 then items_are.State rows else items_are.Diff (record { joins = rows; leaves = [] })

-- A piece tells some of the rows behind those that were told, if there are any. Its text is short, but for that of one row.
pub record IsPiece (rows : List (Dot × Row)) (told next : ℕ) (item : Item) : Type 0 where
  pub count : ℕ
  pub some : told < length rows → 0 < count
  pub next_is : next ≡ told + count
  pub item_is : item ≡ telling told (take count (drop told rows))
  pub short : (count ≤ 1) ⊎ (text_bytes item ≤ PIECE_BYTES)

-- Once the item is told so many rows are told: all of them, where the state is told whole, or those of one piece more.
abbrev pub Comes : Bool → List (Dot × Row) → ℕ → ℕ → Item → Type 0
Comes true rows told next item = (item ≡ items_are.State rows) × (next ≡ length rows)
Comes false rows told next item = IsPiece rows told next item

-- What comes next of a state of which so many rows were told. One whose text is longer comes in pieces.
abbrev pub ComesNext : List (Dot × Row) → ℕ → ℕ → Item → Type 0
ComesNext rows told next item = Comes (told == 0 && is_within MAX_STATE_BYTES rows) rows told next item

-- ---- what a client is yet to be told

-- The state is told to the subscriber of this topic and number. (Numbers are a shard's own: two topics may have one each.)
abbrev pub is_to : List ℕ → ℕ → UntoldState → Bool
is_to topic number u = bytes_eq u.topic topic && nat_eq u.number number

abbrev pub is_told_to : List ℕ → ℕ → Option UntoldState → Bool
is_told_to topic number None = false
is_told_to topic number (Some u) = is_to topic number u

-- a subscriber's state of which nothing was told
abbrev pub begun : List ℕ → ℕ → List (Dot × Row) → UntoldState
begun topic number rows = record { topic = topic; number = number; rows = rows; told = 0 }

-- nothing more of it is told to this subscriber
abbrev pub without : List ℕ → ℕ → Option UntoldState → Option UntoldState
without topic number None = None
without topic number (Some u) = if is_to topic number u then None else Some u

-- the state of which so many rows are told, if some aren't
abbrev pub left_of : UntoldState → ℕ → Option UntoldState
left_of u next = if nat_lt next (length u.rows) then Some (record u { told = next }) else None

abbrev pub left_behind : Option UntoldState → ℕ → Option UntoldState
left_behind None next = None
left_behind (Some u) next = left_of u next

-- The item is what comes next of the state, and this is then yet to be told.
abbrev pub TellsNext : UntoldState → Item → Option UntoldState → Type 0
TellsNext u item after = (next : ℕ) × ComesNext u.rows u.told next item × (after ≡ left_of u next)

abbrev pub Tells : Option UntoldState → List Item → Option UntoldState → Type 0
Tells None items after = (items ≡ []) × (after ≡ None)
Tells (Some u) items after = (item : Item) × (items ≡ item ∷ []) × TellsNext u item after
