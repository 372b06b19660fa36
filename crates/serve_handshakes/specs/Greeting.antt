-- What one look at a handshake gives.
use Rattle.std.specs.Prelude.{◌≡◌, ◌+◌, false, List, Option, None, Some}
use Rattle.std.specs.declared.net.ip_addr.IpAddr.{IpAddr}
use Rattle.std.specs.declared.io.traits.Read.{Ghosts as ReadGhosts}
use Rattle.std.specs.declared.io.traits.Write.{Ghosts as WriteGhosts}
use Rattle.tungstenite.specs.Config.{HasLimits}
use Rattle.tungstenite.specs.Socket.{IsFresh, Socket}
use Rattle.websocket.specs.declared.protocol.config.Role.TheVariants as Role
use Rattle.serve_handshakes.specs.Clients.{is_proxy}
use Rattle.serve_handshakes.specs.Heads.{HasAsked}
use Rattle.serve_handshakes.specs.declared.answer.Answer.{Answer}
use Rattle.serve_handshakes.specs.declared.answer.Answer.TheVariants.{Draining, Health, Unwell}
use Rattle.serve_handshakes.specs.declared.answer.Answer.TheVariants as answers
use Rattle.serve_handshakes.specs.declared.front.Wellness.{Wellness}
use Rattle.serve_handshakes.specs.declared.front.Wellness.TheVariants as wellness
use Rattle.serve_handshakes.specs.declared.greeting.Greeting.{Greeting}
use Rattle.serve_handshakes.specs.declared.greeting.Greeted.{Greeted}
use Rattle.serve_handshakes.specs.declared.greeting.Greeted.TheVariants.{Open, Waits, GivenUp}
use Rattle.serve_handshakes.specs.declared.greeting.GivenUp.TheVariants.{Answered, Failed, Junk, Silent}
use Rattle.serve_handshakes.specs.declared.party.Party.{Party}
use Rattle.serve_handshakes.specs.declared.party.TheConstants.{MAX_EMPTY_READS}

-- a program that isn't well says so where it is asked, and one that lets its clients go takes no further one
abbrev pub while_so_in : Wellness → Answer → Answer
while_so_in wellness.Well answer = answer
while_so_in wellness.Unwell Health = Unwell
while_so_in wellness.Unwell answer = answer
while_so_in wellness.Draining Health = Draining
while_so_in wellness.Draining (answers.Socket has_protocol) = Draining
while_so_in wellness.Draining answer = answer

-- a client's address, as it is known behind what these proxies may have told of it: nobody else's word is believed
abbrev pub IsKnownFrom : List IpAddr → IpAddr → IpAddr → Type 0
IsKnownFrom proxies peer address = is_proxy proxies peer ≡ false → address ≡ peer

module _ {S : Type 0} where
  -- a server's socket that a handshake gave: a client asked for it as it must, and it has done nothing since
  abbrev pub Serves : Socket S → Type 0
  Serves socket = HasAsked × ((stream : S) × IsFresh socket stream Role.Server)

module _ {S : Type 0} {reads : ReadGhosts S} {writes : WriteGhosts S} where
  -- An open socket took the head of a request for a WebSocket, has done nothing since, and has the limits of the
  -- configuration. A look after which the handshake waits is counted, and the last one that may be ends it. Who is given up
  -- is told by the party's address.
  abbrev pub Follows : Party S reads writes → Greeted S reads writes → Type 0
  Follows party (Open socket) = Serves socket × HasLimits socket.conn.config party.config
  Follows party (Waits new) = (new.party.config ≡ party.config) × (new.party.empty_reads ≡ party.empty_reads + 1)
      × (new.party.address ≡ party.address)
  Follows party (GivenUp Answered address) = address ≡ party.address
  Follows party (GivenUp Failed address) = address ≡ party.address
  Follows party (GivenUp Silent address) = (address ≡ party.address) × (party.empty_reads + 1 ≡ MAX_EMPTY_READS)
  Follows party (GivenUp Junk address) = address ≡ party.address

  -- What is read changes nothing of how the handshake is done, but it may tell whom the party is.
  abbrev pub GoesOn : Greeting S reads writes → Greeted S reads writes → Type 0
  GoesOn old gave = (party : Party S reads writes) × (party.config ≡ old.party.config)
      × (party.empty_reads ≡ old.party.empty_reads) × Follows party gave

  -- whom a look leaves waiting or gives up, by the address that its party had
  abbrev pub IsOf : List IpAddr → IpAddr → Greeted S reads writes → Type 0
  IsOf proxies peer (Open socket) = Unit {0}
  IsOf proxies peer (Waits new) = IsKnownFrom proxies peer new.party.address
  IsOf proxies peer (GivenUp cause address) = IsKnownFrom proxies peer address

  -- the socket of a handshake that is done
  abbrev pub socket_of : Greeted S reads writes → Option (Socket S)
  socket_of (Open socket) = Some socket
  socket_of (Waits new) = None
  socket_of (GivenUp cause address) = None

  -- the handshake, if it is not over
  abbrev pub rest_of : Greeted S reads writes → Option (Greeting S reads writes)
  rest_of (Open socket) = None
  rest_of (Waits new) = Some new
  rest_of (GivenUp cause address) = None
