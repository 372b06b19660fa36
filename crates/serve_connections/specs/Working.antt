-- What a worker's turn, a flush and a look at the queue do to its connections.
use Rattle.std.specs.Prelude.{◌≡◌, ◌<◌, ◌≤◌, ◌+◌, ℕ, Bool, true, false, not, ◌==◌, ◌||◌, ◌&&◌, List, [], ◌∷◌, ◌++◌, length, filter, Option, Some, None, Result, Ok, Err}
use Rattle.std.specs.declared.alloc.AllocError.{AllocError}
use Rattle.std.specs.List.{AllByRecursion}
use mathlib.Core.HLevel.{×_prop}
use denote.Struct.Props as logic
use Rattle.tungstenite.specs.Socket.{Socket}
use Rattle.client_settings.specs.declared.settings.Settings.{Settings}
use Rattle.serve_connections.specs.SigningIn.{SignsIn}
use Rattle.serve_connections.specs.Turning.{Around, Turns, Delivers as DeliversAt, Flushes, StopsServing}
use Rattle.serve_connections.specs.declared.cause.Cause.TheVariants.{Unsigned}
use Rattle.serve_connections.specs.declared.connection.Connection.{Connection}
use Rattle.serve_connections.specs.declared.connection.Progress.{Progress}
use Rattle.serve_connections.specs.declared.connection.Progress.TheVariants as progress
use Rattle.serve_connections.specs.declared.connection.Stage.{Stage}
use Rattle.serve_connections.specs.declared.connection.Stage.TheVariants.{Open, Ending, Over}
use Rattle.serve_connections.specs.declared.client.Client.{Client}
use Rattle.serve_connections.specs.declared.moment.Moment.{Moment}
use Rattle.serve_connections.specs.declared.worker.NoMore.{NoMore}
use Rattle.serve_connections.specs.declared.worker.NoMore.TheVariants.{Full, NoneWaits}
use Rattle.serve_connections.specs.declared.worker.TheConstants.{MAX_CONNECTIONS}

-- a connection that may go on, or whose end was refused, takes the turn behind this one too
abbrev pub stays_ready : Progress → Bool
stays_ready progress.Busy = true
stays_ready progress.Idle = false
stays_ready progress.Ending = true
stays_ready progress.Over = false

abbrev pub is_ending : Stage → Bool
is_ending Open = false
is_ending (Ending cause) = true
is_ending (Over cause) = false

abbrev pub is_over : Stage → Bool
is_over Open = false
is_over (Ending cause) = false
is_over (Over cause) = true

abbrev pub has_ended : {S : Type 0} → Client S → Bool
has_ended c = is_over c.connection.stage

abbrev pub goes_on : {S : Type 0} → Client S → Bool
goes_on c = not (has_ended c)

-- whether there is one that has ended
abbrev pub ended_at : {S : Type 0} → Option (Client S) → Bool
ended_at None = false
ended_at (Some c) = has_ended c

-- ---- lists of connections

-- each in its place is led by R to the other's, one behind the other, and from the one state to the other
abbrev pub Chained : {X P : Type 0} → (X → X → P → P → Type 0) → List X → List X → P → P → Type 0
Chained R [] [] before after = after ≡ before
Chained R [] (y ∷ ys) before after = ⊥
Chained R (x ∷ xs) [] before after = ⊥
Chained {X} {P} R (x ∷ xs) (y ∷ ys) before after = (between : P) × R x y before between × Chained R xs ys between after

-- each in its place is led by R to the other's
abbrev pub Pairwise : {X : Type 0} → (X → X → Type 0) → List X → List X → Type 0
Pairwise R [] [] = Unit {0}
Pairwise R [] (y ∷ ys) = ⊥
Pairwise R (x ∷ xs) [] = ⊥
Pairwise R (x ∷ xs) (y ∷ ys) = R x y × Pairwise R xs ys

-- from above `floor` the numbers rise, and the last is at most `top`
abbrev pub RisesBetween : {S : Type 0} → ℕ → ℕ → List (Client S) → Type 0
RisesBetween floor top [] = floor ≤ top
RisesBetween floor top (c ∷ cs) = (floor < c.number) × RisesBetween c.number top cs

-- that numbers rise is a fact
pub rises_prop : {S : Type 0} (floor top : ℕ) (cs : List (Client S)) → IsProp (RisesBetween floor top cs)
rises_prop floor top [] = Prim.hlevel logic.props
rises_prop floor top (c ∷ cs) = ×_prop (Prim.hlevel logic.props) (rises_prop c.number top cs)

-- ---- a turn

module _ {S P : Type 0} (w : Around S P) (routes : List (List ℕ × ℕ)) (now : Moment) where
  -- A connection takes its turn.
  pub record TakesTurn (old new : Client S) (before after : P) : Type 0 where
    pub progress : Progress
    pub turns : Turns w old.connection.stage routes now old.connection new.connection before after progress
    pub client : new ≡ record old { ready = stays_ready progress; unsent = true; connection = new.connection }

  -- It takes one where it is ready.
  abbrev pub ServesIf : Bool → Client S → Client S → P → P → Type 0
  ServesIf true old new before after = TakesTurn old new before after
  ServesIf false old new before after = (new ≡ old) × (after ≡ before)

  abbrev pub Serves : Client S → Client S → P → P → Type 0
  Serves old new before after = ServesIf old.ready old new before after

  -- Each ready connection takes its turn, in their order.
  abbrev pub ServesAll : List (Client S) → List (Client S) → P → P → Type 0
  ServesAll olds news before after = Chained Serves olds news before after

-- ---- a turn that reads nothing

module _ {S P : Type 0} (w : Around S P) where
  -- What waits for a connection is delivered. It stays ready, since it may have more to be read.
  pub record IsDealt (old new : Client S) (before after : P) : Type 0 where
    pub progress : Progress
    pub delivers : DeliversAt w old.connection.stage old.connection new.connection before after progress
    pub client : new ≡ record old { unsent = true; connection = new.connection }

  -- It is, where it is ready.
  abbrev pub DeliversIf : Bool → Client S → Client S → P → P → Type 0
  DeliversIf true old new before after = IsDealt old new before after
  DeliversIf false old new before after = (new ≡ old) × (after ≡ before)

  abbrev pub Delivers : Client S → Client S → P → P → Type 0
  Delivers old new before after = DeliversIf old.ready old new before after

  -- Each ready connection has what waits delivered, in their order.
  abbrev pub DeliversAll : List (Client S) → List (Client S) → P → P → Type 0
  DeliversAll olds news before after = Chained Delivers olds news before after

-- ---- a flush

module _ {S : Type 0} (contents : S → Option (List ℕ)) where
  -- What waits of a connection is sent. Where its stream fails it is ready for a turn.
  pub record SendsOne (old new : Client S) : Type 0 where
    pub all : Bool
    pub flushes : Flushes contents old.connection new.connection all
    pub client : new
        ≡ record old {
          ready = old.ready || is_ending new.connection.stage;
          unsent = not all;
          connection = new.connection;
        }

  abbrev pub SendsIf : Bool → Client S → Client S → Type 0
  SendsIf true old new = SendsOne old new
  SendsIf false old new = new ≡ old

  abbrev pub SendsAll : List (Client S) → List (Client S) → Type 0
  SendsAll olds news = Pairwise (λ old new. SendsIf old.unsent old new) olds news

  -- What waits is sent, and then those that have ended go.
  pub record Sends (olds news : List (Client S)) : Type 0 where
    pub sent : List (Client S)
    pub sends : SendsAll olds sent
    pub left : news ≡ filter goes_on sent

-- ---- marks

-- the connection of this token takes the next turn
abbrev pub marked : {S : Type 0} → ℕ → Client S → Client S
marked token c = record c { ready = c.ready || (c.token == token) }

-- it takes the next turn, whatever its token
abbrev pub readied : {S : Type 0} → Client S → Client S
readied c = record c { ready = true }

-- the connection of this token takes no turn until it is marked
abbrev pub held : {S : Type 0} → ℕ → Client S → Client S
held token c = record c { ready = c.ready && not (c.token == token) }

-- it takes none, whatever its token
abbrev pub unreadied : {S : Type 0} → Client S → Client S
unreadied c = record c { ready = false }

-- ---- the stop

module _ {S : Type 0} (contents : S → Option (List ℕ)) where
  -- The server stops: what its client is told waits to be sent, and it takes the next turn.
  pub record StopsOne (old new : Client S) : Type 0 where
    pub stops : StopsServing contents old.connection.stage old.connection new.connection
    pub client : new ≡ record old { ready = true; unsent = true; connection = new.connection }

  abbrev pub StopsAll : List (Client S) → List (Client S) → Type 0
  StopsAll olds news = Pairwise StopsOne olds news

  abbrev pub StopsIf : Bool → Client S → Client S → Type 0
  StopsIf true old new = StopsOne old new
  StopsIf false old new = new ≡ old

  -- It does so for the connection of this token alone.
  abbrev pub StopsAt : ℕ → List (Client S) → List (Client S) → Type 0
  StopsAt token olds news = Pairwise (λ old new. StopsIf (old.token == token) old new) olds news

-- ---- new connections

-- a connection over a socket whose handshake is done: its session has joined nothing
abbrev pub fresh : {S K : Type 0} → Settings → ℕ → Socket S → ℕ → Connection S K
fresh settings number socket now = record {
  socket = socket;
  session = record { pid = number; failed = false; joined = []; cut_short = None };
  telling = record { untold = None };
  settings = settings;
  heard = now;
  pinged = false;
  messages = 0;
  stage = Open;
  grant = Err Unsigned;
}

-- a connection that was just taken: its number is its pid
abbrev pub newcomer : {S : Type 0} → Settings → ℕ → ℕ → Socket S → ℕ → Client S
newcomer settings number token socket now =
    record { number = number; token = token; ready = true; unsent = false; connection = fresh settings number socket now }

-- It is a connection that was just taken, and its client is signed in by what its stream carries, where clients sign in.
pub record IsNew {S : Type 0} (settings : Settings) (carried : S → Option (List ℕ)) (now : Moment) (c : Client S) : Type 0 where
  pub number : ℕ
  pub token : ℕ
  pub socket : Socket S
  pub signs_in : SignsIn carried now.signing (fresh settings number socket now.milliseconds) c.connection
  pub new : c ≡ record (newcomer settings number token socket now.milliseconds) { connection = c.connection }

-- Why no more are taken: the worker serves as many as it may, or none waited when it looked, of which a look alone makes the token.
abbrev pub EndsAt : {S : Type 0} → List (Client S) → NoMore → Type 0
EndsAt cs Full = length cs ≡ MAX_CONNECTIONS
EndsAt cs (NoneWaits looked) = Unit {0}

-- One was taken and stands behind the others, or none was.
abbrev pub TakesOne : {S : Type 0} → Settings → (S → Option (List ℕ)) → Moment → List (Client S) → List (Client S)
    → Result (Option NoMore) AllocError → Type 0
TakesOne {S} settings carried now old new (Ok None) = (c : Client S) × IsNew settings carried now c × (new ≡ old ++ c ∷ [])
TakesOne settings carried now old new (Ok (Some why)) = (new ≡ old) × EndsAt new why
TakesOne settings carried now old new (Err e) = new ≡ old

-- Those that were taken stand behind the others, each as new.
pub record TakesIn {S : Type 0} (settings : Settings) (carried : S → Option (List ℕ)) (now : Moment) (old new : List (Client S)) : Type 0 where
  pub taken : List (Client S)
  pub new_ones : AllByRecursion (IsNew settings carried now) taken
  pub behind : new ≡ old ++ taken

-- As many connections stand more at the worker as have left the queue at its end: none that was taken is lost.
abbrev pub NoneLost : {S : Type 0} → ℕ → ℕ → List (Client S) → List (Client S) → Type 0
NoneLost before after old new = after + length old ≡ before + length new
