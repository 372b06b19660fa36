-- The rules of events, under the present join of their topic.
use Rattle.std.specs.Prelude.{ℕ, List, Option, Result}
use Rattle.phx_message.specs.declared.message.Message.{Message}
use Rattle.presence_base.specs.declared.dots.Dot.{Dot}
use Rattle.presence_base.specs.declared.row.Row.{Row}
use Rattle.channel_rules.specs.Asked.{key_asked}
use Rattle.channel_rules.specs.InForce.{InForce}
use Rattle.channel_rules.specs.Rules.{End, after_list, on_event, on_list, on_get}
use Rattle.channel_rules.specs.Said.{Said, listed}
use Rattle.channel_rules.specs.Script.{Script}
use Rattle.channel_rules.specs.Seen.{seen_by}
use Rattle.channel_rules.specs.declared.kind.TopicEvent.{TopicEvent}
use Rattle.channel_rules.specs.declared.topics.Join.{Join}
use Rattle.channel_rules.specs.declared.refusal.Refusal.{Refusal}

-- an answer of which only that it was accepted is told
abbrev pub done_by : {A : Type 0} → Result A Refusal → Result (Unit {0}) Refusal
done_by r = seen_by (λ _. tt) r

abbrev pub event_under : Join → Message → TopicEvent → InForce → Script End
event_under j m event s = on_event j.kind s j.join_ref m event

abbrev pub list_under : Join → Message → InForce → Script End
list_under j m s = on_list j.kind s j.join_ref m

abbrev pub get_under : Join → Message → Option (List ℕ) → InForce → Script End
get_under j m key s = on_get j.kind s j.join_ref m key

-- the get of the key that the message names
abbrev pub gets_under : Join → Message → InForce → Script End
gets_under j m s = get_under j m (key_asked m.payload) s

-- what a port's answer with rows leads to
abbrev pub rows_told_under : Join → Message → Result (List (Dot × Row)) Refusal → InForce → End
rows_told_under j m answer s = after_list j.kind s j.join_ref m answer

-- rows, told in reply to a message
abbrev pub listed_under : Join → Message → List (Dot × Row) → Said
listed_under j m rows = listed j.kind j.join_ref m rows
