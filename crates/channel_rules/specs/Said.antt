-- What a session says. The members that a fetch adds are no part of it: they come in where it is told.
use Rattle.std.specs.Prelude.{◌≡◌, ◌++◌, ℕ, List, [], ◌∷◌, map, Bool, true, false, Option, codes}
use Rattle.serde_json.specs.Data.{Data, Members}
use Rattle.serde_json.specs.Written.{compact_text}
use Rattle.presence_base.specs.declared.dots.Dot.{Dot}
use Rattle.presence_base.specs.declared.row.Row.{Row}
use Rattle.phx_message.specs.declared.message.Message.{Message}
use Rattle.phx_message.specs.declared.message.MsgRef.{MsgRef}
use Rattle.phx_message.specs.Making.{ok_reply, push_of, broadcast_of}
use Rattle.phx_message.specs.Message.{value_of}
use Rattle.presence_journal.specs.declared.rows.Item.{Item}
use Rattle.presence_journal.specs.declared.rows.Item.TheVariants as items_are
use Rattle.presence_metas.specs.Values.{state_of}
use Rattle.hook_registry.specs.Noted.{NoticesOf}
use Rattle.hook_registry.specs.Rendered.{RendersState, RendersDiff}
use Rattle.channel_rules.specs.Frames.{message_of}
use Rattle.channel_rules.specs.InForce.{Joined}

-- a message of its own, rows in reply to a message on a topic of this kind, or an item to the join of its topic
pub data Said : Type 0 where
  message : (m : Message) → Said
  listed : (kind : ℕ) (join_ref : Option MsgRef) (m : Message) (rows : List (Dot × Row)) → Said
  told : (join : Joined) (item : Item) → Said

abbrev pub text_of : Message → List ℕ
text_of m = compact_text (value_of m)

-- ---- messages

-- the message that tells it where nothing is added
abbrev pub plainly : Said → Message
plainly (message m) = m
plainly (listed kind r m rows) = ok_reply r m.msg_ref m.topic (state_of rows)
plainly (told j i) = message_of j.join_ref j.topic i

-- The message tells an item to its join, for some answers of the fetch of that kind and topic.
abbrev pub TellsItem : (List ℕ → Members → Type 0) → Joined → Item → Message → Type 0
TellsItem answers j (items_are.State rows) x = (d : Data) × RendersState answers rows d
    × (x ≡ push_of j.join_ref j.topic (codes "presence_state") d)
TellsItem answers j (items_are.Diff r) x = (d : Data) × RendersDiff answers r.joins r.leaves d
    × (x ≡ broadcast_of j.topic (codes "presence_diff") d)
TellsItem answers j (items_are.Shout payload) x = x ≡ broadcast_of j.topic (codes "shout") payload

-- The message tells it, for some answers of this fetch, which is asked with a kind, a topic and a key.
abbrev pub Tells : (ℕ → List ℕ → List ℕ → Members → Type 0) → Said → Message → Type 0
Tells fetched (message m) x = x ≡ m
Tells fetched (listed kind r m rows) x = (d : Data) × RendersState (fetched kind m.topic) rows d
    × (x ≡ ok_reply r m.msg_ref m.topic d)
Tells fetched (told j i) x = TellsItem (fetched j.kind j.topic) j i x

-- and tells it plainly where the fetch adds nothing
abbrev pub Worded : (ℕ → List ℕ → List ℕ → Members → Type 0) → Bool → Said → Message → Type 0
Worded fetched plain said x = Tells fetched said x × (plain ≡ true → x ≡ plainly said)

-- one for each, in order
abbrev pub EachBy : {A B : Type 0} → (A → B → Type 0) → List A → List B → Type 0
EachBy R [] [] = Unit {0}
EachBy R (x ∷ xs) (y ∷ ys) = R x y × EachBy R xs ys
EachBy R xs ys = ⊥

-- the text is of a message that tells it
abbrev pub Writes : (Said → Message → Type 0) → Said → List ℕ → Type 0
Writes W said text = (m : Message) × W said m × (text ≡ text_of m)

-- these texts are of messages that tell all that is said
abbrev pub WritesAll : (Said → Message → Type 0) → List Said → List (List ℕ) → Type 0
WritesAll W said texts = (ms : List Message) × EachBy W said ms × (texts ≡ map text_of ms)

-- ---- notices

-- what is noted of it: of a diff one notice for each row, of anything else none
abbrev pub Notes : (joined left : ℕ → List ℕ → List ℕ → Dot → List ℕ → Type 0) → Said → List (List ℕ) → Type 0
Notes joined left (told j (items_are.Diff d)) ns =
    NoticesOf (joined j.kind j.topic) (left j.kind j.topic) d.joins d.leaves ns
Notes joined left _ ns = ns ≡ []

-- nothing where all is quiet
abbrev pub Noted : (joined left : ℕ → List ℕ → List ℕ → Dot → List ℕ → Type 0) → Bool → Said → List (List ℕ) → Type 0
Noted joined left quiet said ns = (quiet ≡ false → Notes joined left said ns) × (quiet ≡ true → ns ≡ [])

-- the notices of all that is said, one after the other
abbrev pub NotesAll : (Said → List (List ℕ) → Type 0) → List Said → List (List ℕ) → Type 0
NotesAll N [] ns = ns ≡ []
NotesAll N (x ∷ xs) ns = (of_it : List (List ℕ)) × (rest : List (List ℕ)) × (ns ≡ of_it ++ rest) × N x of_it
    × NotesAll N xs rest
