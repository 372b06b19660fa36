-- Which events are a client's own, by the names that a server was given.
use Rattle.std.specs.Prelude.{ℕ, ◌==◌, ◌&&◌, ◌||◌, not, Bool, true, false, List, [], ◌∷◌, Option, Some, None, codes}
use Rattle.std.specs.List.{starts_with}
use Rattle.std.specs.Str.{bytes_eq}
use Rattle.channel_rules.specs.Rules.{kind_of}
use Rattle.channel_rules.specs.declared.kind.EventKind.{EventKind}
use Rattle.channel_rules.specs.declared.kind.EventKind.TheVariants as kinds_are
use Rattle.channel_rules.specs.declared.kind.TopicEvent.{TopicEvent}
use Rattle.channel_rules.specs.declared.kind.TopicEvent.TheVariants as events_are
use Rattle.client_settings.specs.Names.{Names}

-- an event of which the channel knows nothing
abbrev pub is_unknown_topic_event : TopicEvent → Bool
is_unknown_topic_event events_are.Unknown = true
is_unknown_topic_event _ = false

abbrev pub is_unknown_kind : EventKind → Bool
is_unknown_kind (kinds_are.Topic event) = is_unknown_topic_event event
is_unknown_kind _ = false

-- an event that is none of clients' own: a server alone sends it, or it shows a token
abbrev pub is_reserved : List ℕ → Bool
is_reserved event = starts_with ◌==◌ event (codes "phx_")
    || (bytes_eq event (codes "presence_state")
    || (bytes_eq event (codes "presence_diff") || bytes_eq event (codes "access_token")))

-- an event that a client may have as its own
abbrev pub is_free : List ℕ → Bool
is_free event = is_unknown_kind (kind_of event) && not (is_reserved event)

-- the name is the event's, or that of all
abbrev pub names : List ℕ → List ℕ → Bool
names event name = bytes_eq name (codes "*") || bytes_eq name event

abbrev pub is_named : List (List ℕ) → List ℕ → Bool
is_named [] event = false
is_named (name ∷ rest) event = names event name || is_named rest event

-- Each option names events: an event that one of them names is a client's own.
abbrev pub is_own_by : Names → List ℕ → Bool
is_own_by given event = is_free event
    && (is_named given.sent event || (is_named given.answered event || is_named given.to_others event))

-- one's own event, where any is
abbrev pub is_own : Option Names → List ℕ → Bool
is_own None event = false
is_own (Some given) event = is_own_by given event

-- it is answered too
abbrev pub is_answered : Option Names → List ℕ → Bool
is_answered None event = false
is_answered (Some given) event = is_named given.answered event

-- it doesn't go to who sent it
abbrev pub goes_to_others : Option Names → List ℕ → Bool
goes_to_others None event = false
goes_to_others (Some given) event = is_named given.to_others event
