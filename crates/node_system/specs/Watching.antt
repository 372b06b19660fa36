-- What a watch reports.
use Rattle.std.specs.Prelude.{ℕ, ◌==◌, Option, None, Some, if◌then◌else◌}
use Rattle.mio.specs.Event.{event_token}
use Rattle.mio.specs.declared.event.event.Event.{Event}
use Rattle.node_system.specs.declared.watch.TheConstants.{BELL}

-- the number of the source, if the event isn't the bell's
abbrev pub reported : Event → Option ℕ
reported event = if (event_token event).0 == BELL then None else Some (event_token event).0
