-- The message that tells an item, taken from a subscriber, to the join of its topic.
use Rattle.std.specs.Prelude.{ℕ, List, Option, codes}
use Rattle.phx_message.specs.Making.{push_of, broadcast_of}
use Rattle.phx_message.specs.declared.message.Message.{Message}
use Rattle.phx_message.specs.declared.message.MsgRef.{MsgRef}
use Rattle.presence_journal.specs.declared.rows.Item.{Item}
use Rattle.presence_journal.specs.declared.rows.Item.TheVariants as items_are
use Rattle.presence_metas.specs.Values.{state_of, diff_of}

-- A state goes to the join alone, under its reference; diffs and shouts go out as they do to everybody on the topic.
abbrev pub message_of : Option MsgRef → List ℕ → Item → Message
message_of join_ref topic (items_are.State rows) = push_of join_ref topic (codes "presence_state") (state_of rows)
message_of join_ref topic (items_are.Diff d) = broadcast_of topic (codes "presence_diff") (diff_of d.joins d.leaves)
message_of join_ref topic (items_are.Shout payload) = broadcast_of topic (codes "shout") payload
