-- Who gets a WebSocket.
use Rattle.std.specs.Prelude.{ℕ, cond, ◌==◌, ◌-◌}
use Rattle.serve_handshakes.specs.declared.answer.Answer.{Answer}
use Rattle.serve_handshakes.specs.declared.answer.Answer.TheVariants.{Socket, Full, Crowded, Hasty}
use Rattle.serve_handshakes.specs.declared.seating.Admission.{Admission}
use Rattle.serve_handshakes.specs.declared.seating.Admission.TheVariants.{Welcome, OneTooMany, TooSoon, NoRoom}

-- Who asks for a WebSocket gets it where it is welcome and there is a place, and else it is told why not. Another request gets
-- what it gets.
abbrev pub seated_in : Admission → ℕ → Answer → Answer
seated_in Welcome places (Socket has_protocol) = cond (places == 0) Full (Socket has_protocol)
seated_in OneTooMany places (Socket has_protocol) = Crowded
seated_in TooSoon places (Socket has_protocol) = Hasty
seated_in NoRoom places (Socket has_protocol) = Full
seated_in standing places answer = answer

-- the places that are left behind it
abbrev pub places_behind : Admission → ℕ → Answer → ℕ
places_behind Welcome places (Socket has_protocol) = places - 1
places_behind standing places answer = places
