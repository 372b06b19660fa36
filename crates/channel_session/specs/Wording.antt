-- By which messages hooks tell what is said, and by which notices they note it.
use Rattle.std.specs.Prelude.{ℕ, List, [], ◌∷◌, Result, is_ok}
use Rattle.hook_registry.specs.declared.hooks.PresenceHooks.{Ghosts}
use Rattle.phx_message.specs.declared.message.Message.{Message}
use Rattle.presence_base.specs.declared.dots.Dot.{Dot}
use Rattle.presence_base.specs.declared.row.Row.{Row}
use Rattle.presence_journal.specs.declared.Item.{Item}
use Rattle.channel_rules.specs.InForce.{Joined}
use Rattle.channel_rules.specs.Replies.{RepliesBy, messages_of}
use Rattle.channel_rules.specs.Said.{Said, told, EachBy, Worded, Writes, Noted}
use Rattle.channel_rules.specs.declared.replies.Reply.{Reply}
use Rattle.channel_rules.specs.declared.stop.Stop.{Stop}
use Rattle.channel_rules.specs.declared.topics.Join.{Join}
use Rattle.channel_rules.specs.declared.refusal.Refusal.{Refusal}
use Rattle.channel_session.specs.Under.{listed_under, rows_told_under}

-- the message tells it, with what these hooks add
abbrev pub worded_by : {H : Type 0} → Ghosts H → H → Said → Message → Type 0
worded_by G hooks = Worded (G.fetched hooks) (G.plain hooks)

-- these are the notices that these hooks give of it
abbrev pub noted_by : {H : Type 0} → Ghosts H → H → Said → List (List ℕ) → Type 0
noted_by G hooks = Noted (G.joined hooks) (G.left hooks) (G.quiet hooks)

-- the text is of a message that tells the item to its join
abbrev pub Frames : {H : Type 0} → Ghosts H → H → Joined → Item → List ℕ → Type 0
Frames G hooks j item text = Writes (worded_by G hooks) (told j item) text

-- the port's answer to a list or a get is told under this join: its rows, or its refusal
abbrev pub TellsRows : {H : Type 0} → Ghosts H → H → Join → Message → Result (List (Dot × Row)) Refusal
    → Result Reply Stop → Type 0
TellsRows G hooks join m answer result =
    RepliesBy (worded_by G hooks) (rows_told_under join m answer) (is_ok answer) result

-- the reply tells these rows
abbrev pub ListsRows : {H : Type 0} → Ghosts H → H → Join → Message → List (Dot × Row) → Reply → Type 0
ListsRows G hooks join m rows reply = EachBy (worded_by G hooks) (listed_under join m rows ∷ []) (messages_of reply)
