-- What marks, newcomers and turns do to the clients whose handshakes are not over.
use Rattle.std.specs.Prelude.{◌≡◌, ◌≤◌, ◌<◌, ℕ, Bool, true, false, ◌||◌, ◌==◌, List, drop, length, [], ◌∷◌, ◌++◌, filter, Option, None, Some, is_some}
use Rattle.std.specs.declared.io.traits.Read.{Ghosts as ReadGhosts}
use Rattle.std.specs.declared.io.traits.Write.{Ghosts as WriteGhosts}
use Rattle.tungstenite.specs.Socket.{Socket}
use Rattle.tungstenite.specs.declared.protocol.WebSocketConfig.{WebSocketConfig}
use Rattle.serve_handshakes.specs.Greeting.{GoesOn, socket_of, rest_of}
use Rattle.serve_handshakes.specs.declared.greeting.Greeting.{Greeting}
use Rattle.serve_handshakes.specs.declared.greeting.Greeted.{Greeted}
use Rattle.serve_handshakes.specs.declared.guests.Guest.{Guest}
use Rattle.serve_handshakes.specs.declared.guests.TheConstants.{MAX_HANDSHAKES}

-- a socket, if there is one, under the number of its client
abbrev pub numbered : {S : Type 0} → ℕ → Option (Socket S) → List (ℕ × Socket S)
numbered number None = []
numbered number (Some socket) = (number, socket) ∷ []

module _ {S : Type 0} {reads : ReadGhosts S} {writes : WriteGhosts S} where
  -- the client of this number is looked at in the next turn
  abbrev pub marked : ℕ → Guest S reads writes → Guest S reads writes
  marked number g = record g { ready = g.ready || (g.number == number) }

  -- it is looked at in the next turn, whatever its number
  abbrev pub readied : Guest S reads writes → Guest S reads writes
  readied g = record g { ready = true }

  -- a client whose handshake begins
  pub record IsNew (number : ℕ) (config : WebSocketConfig) (g : Guest S reads writes) : Type 0 where
    pub greeting : Greeting S reads writes
    pub new : g ≡ record { number = number; ready = true; greeting = Some greeting }
    pub config_is : greeting.party.config ≡ config
    pub no_looks : greeting.party.empty_reads ≡ 0

  -- The oldest gives way to one too many, and nobody else goes.
  abbrev pub Fits : List (Guest S reads writes) → Bool → List (Guest S reads writes) → Type 0
  Fits all false new = (new ≡ all) × (length all ≤ MAX_HANDSHAKES)
  Fits all true new = (new ≡ drop 1 all) × (MAX_HANDSHAKES < length all)

  -- It stands behind the others, of which the oldest may give way.
  abbrev pub Admits : ℕ → WebSocketConfig → List (Guest S reads writes) → Bool → List (Guest S reads writes) → Type 0
  Admits number config old gave_way new =
      (g : Guest S reads writes) × IsNew number config g × Fits (old ++ g ∷ []) gave_way new

  -- One look at the handshake, if it is not over.
  abbrev pub LooksAt : Option (Greeting S reads writes) → Guest S reads writes → Guest S reads writes
      → Option (Socket S) → Type 0
  LooksAt None old new opened = (new ≡ record old { ready = false }) × (opened ≡ None)
  LooksAt (Some greeting) old new opened =
      (gave : Greeted S reads writes) × GoesOn greeting gave
      × (new ≡ record old { ready = false; greeting = rest_of gave })
      × (opened ≡ socket_of gave)

  -- A client that is ready is looked at once.
  abbrev pub LooksIf : Bool → Guest S reads writes → Guest S reads writes → Option (Socket S) → Type 0
  LooksIf true old new opened = LooksAt old.greeting old new opened
  LooksIf false old new opened = (new ≡ old) × (opened ≡ None)

  abbrev pub Looks : Guest S reads writes → Guest S reads writes → Option (Socket S) → Type 0
  Looks old new opened = LooksIf old.ready old new opened

  -- It is looked at if it is ready, and its socket, if the handshake is done, stands behind the others.
  abbrev pub LooksInto : Guest S reads writes → Guest S reads writes → List (ℕ × Socket S) → List (ℕ × Socket S)
      → Type 0
  LooksInto old new before after = (opened : Option (Socket S)) × Looks old new opened
      × (after ≡ before ++ numbered old.number opened)

  -- Each that is ready is looked at once, in their order, and the sockets of those that are done are `opened`.
  abbrev pub LooksAll : List (Guest S reads writes) → List (Guest S reads writes) → List (ℕ × Socket S) → Type 0
  LooksAll [] [] opened = opened ≡ []
  LooksAll [] (g ∷ news) opened = ⊥
  LooksAll (g ∷ olds) [] opened = ⊥
  LooksAll (g ∷ olds) (h ∷ news) opened =
      (first : Option (Socket S)) × (others : List (ℕ × Socket S))
      × Looks g h first × LooksAll olds news others × (opened ≡ numbered g.number first ++ others)

  abbrev pub is_under_way : Guest S reads writes → Bool
  is_under_way g = is_some g.greeting

  -- The ready ones are looked at, and then those whose handshakes are over go.
  pub record Turns (olds news : List (Guest S reads writes)) (opened : List (ℕ × Socket S)) : Type 0 where
    pub looked : List (Guest S reads writes)
    pub looks : LooksAll olds looked opened
    pub left : news ≡ filter is_under_way looked
