-- What the session of a client that signs in answers to a text.
use Rattle.std.specs.Prelude.{◌≡◌, ◌⊎◌, ℕ, List, [], ◌∷◌, Bool, true, false, nat_le, if◌then◌else◌, Option, Some, None, Result, Ok, Err, String, Vec, codes}
use Rattle.std.specs.Global.{Global}
use Rattle.phx_message.specs.declared.message.Message.{Message}
use Rattle.phx_message.specs.declared.message.MessageFault.{MessageFault}
use Rattle.channel_pieces.specs.Piecewise.{Piecewise}
use Rattle.channel_pieces.specs.declared.telling.UntoldState.{UntoldState}
use Rattle.channel_rules.specs.Asks.{Ask, Answer}
use Rattle.channel_rules.specs.Rules.{InForce, empty, error, ok}
use Rattle.channel_rules.specs.Said.{Said, text_of}
use Rattle.channel_session.specs.Ending.{topics_named}
use Rattle.channel_session.specs.Ran.{RanBy, texts_in}
use Rattle.channel_session.specs.declared.fault.SessionFault.{SessionFault}
use Rattle.channel_session.specs.declared.fault.SessionFault.TheVariants as faults
use Rattle.tokens.specs.Claimed.{Granted}
use Rattle.tokens.specs.Granting.{is_of_topics}
use Rattle.tokens.specs.Held.{granted}
use Rattle.tokens.specs.declared.grant.Grant.{Grant}
use Rattle.tokens.specs.declared.signing.Signing.{Signing}
use Rattle.serve_connections.specs.Granted.{AsksGranted}
use Rattle.serve_connections.specs.Renewing.{IsShown, is_renewal, renewal, token_shown}
use Rattle.serve_connections.specs.declared.cause.Cause.{Cause}
use Rattle.serve_connections.specs.declared.cause.Cause.TheVariants.{Expired}
use Rattle.serve_connections.specs.declared.asking.Asking.{Asking}
use Rattle.serve_connections.specs.declared.asking.Asking.TheVariants.{Renewal, Elsewhere, Usual, NoMemory}
use Rattle.serve_connections.specs.declared.renewing.Unrenewed.{Unrenewed}
use Rattle.serve_connections.specs.declared.renewing.Unrenewed.TheVariants.{BadPayload, Unauthorized, OutOfMemory}

-- ---- whether a client may go on

abbrev pub stays : Result Grant Cause → ℕ → Result (Unit {0}) Cause
stays (Ok held) now = if nat_le (granted held).ends now then Err Expired else Ok tt
stays (Err cause) now = Err cause

-- Where clients sign in, one goes on to whom something is granted that hasn't ended. Where they don't, each goes on.
abbrev pub leave : Option Signing → Result Grant Cause → Result (Unit {0}) Cause
leave None held = Ok tt
leave (Some signing) held = stays held signing.second

-- ---- what a text is answered

-- the topic is granted
abbrev pub has_topic : Result Grant Cause → List ℕ → Bool
has_topic (Ok held) topic = is_of_topics (granted held).topics topic
has_topic (Err cause) topic = false

-- The routes by which a message is answered: where its topic isn't granted there are none.
abbrev pub routes_for : Result Grant Cause → List ℕ → List (List ℕ × ℕ) → List (List ℕ × ℕ)
routes_for held topic routes = if has_topic held topic then routes else []

-- What a text asks of a client to whom this is granted: by a message that shows a further token, by one whose topic isn't
-- granted, or by any other text; memory aside.
abbrev pub IsAsked : Result Grant Cause → Result Message MessageFault → Asking → Type 0
IsAsked held (Ok m) (Renewal n) = (n ≡ m) × (is_renewal m ≡ true)
IsAsked held (Ok m) Elsewhere = (is_renewal m ≡ false) × (has_topic held m.topic ≡ false)
IsAsked held (Ok m) Usual = (is_renewal m ≡ false) × (has_topic held m.topic ≡ true)
IsAsked held (Err fault) (Renewal n) = ⊥
IsAsked held (Err fault) Elsewhere = ⊥
IsAsked held (Err fault) Usual = Unit {0}
IsAsked held reading NoMemory = Unit {0}

abbrev pub reason_of : Unrenewed → List ℕ
reason_of BadPayload = codes "bad payload"
reason_of Unauthorized = codes "unauthorized"
reason_of OutOfMemory = []

-- what is told of it, and what is granted behind it
abbrev pub Tells : Signing → Result Grant Cause → Message → Result Granted Unrenewed → List (List ℕ) → Result Grant Cause → Type 0
Tells signing held m (Ok next) texts after =
    (now : Grant) × (after ≡ Ok now) × (granted now ≡ next) × IsShown signing (token_shown m.payload) now
    × (texts ≡ text_of (ok None m empty) ∷ [])
Tells signing held m (Err why) texts after = (after ≡ held) × (texts ≡ text_of (error None m (reason_of why)) ∷ [])

-- that, or memory ran out
abbrev pub TellsOr : Signing → Result Grant Cause → Message → Result Granted Unrenewed → Result Grant Cause
    → Result (Vec (String Global) Global) SessionFault → Type 0
TellsOr signing held m renewal after (Ok texts) = Tells signing held m renewal (texts_in texts) after
TellsOr signing held m renewal after (Err fault) = (fault ≡ faults.OutOfMemory) × (after ≡ held)

-- what a client is told to whom nothing is granted anew
abbrev pub RefusedBy : Message → Unrenewed → Result (Vec (String Global) Global) SessionFault → Type 0
RefusedBy m OutOfMemory (Ok texts) = ⊥
RefusedBy m why (Ok texts) = texts_in texts ≡ text_of (error None m (reason_of why)) ∷ []
RefusedBy m why (Err fault) = fault ≡ faults.OutOfMemory

module _ {P : Type 0} (W : Said → Message → Type 0) (step : P → (q : Ask) → Answer q → P → Type 0)
    (routes : List (List ℕ × ℕ)) where
  -- A client shows a further token: nothing is asked of the port.
  pub record Renews (signing : Signing) (held : Result Grant Cause) (s : InForce) (m : Message)
      (old new : P × Option UntoldState) (after : InForce) (later : Result Grant Cause)
      (result : Result (Vec (String Global) Global) SessionFault) : Type 0 where
    pub port : new ≡ old
    pub session : after ≡ s
    pub told : TellsOr signing held m (renewal signing held (topics_named s) (token_shown m.payload)) later result

  -- A text is answered by these routes, over a port that is asked what is granted.
  pub record RunsGranted (signing : Signing) (held : Result Grant Cause) (allowed : List (List ℕ × ℕ)) (s : InForce)
      (reading : Result Message MessageFault) (old new : P × Option UntoldState) (after : InForce) (later : Result Grant Cause)
      (result : Result (Vec (String Global) Global) SessionFault) : Type 0 where
    pub ran : RanBy W (Piecewise (AsksGranted held signing.second step)) allowed s reading old new after result
    pub kept : later ≡ held

  -- by whether the message shows a further token
  abbrev pub RunsMessage : Bool → Signing → Result Grant Cause → InForce → Message → P × Option UntoldState
      → P × Option UntoldState → InForce → Result Grant Cause → Result (Vec (String Global) Global) SessionFault → Type 0
  RunsMessage true signing held s m old new after later result = Renews signing held s m old new after later result
  RunsMessage false signing held s m old new after later result =
      RunsGranted signing held (routes_for held m.topic routes) s (Ok m) old new after later result

  abbrev pub RunsRead : Signing → Result Grant Cause → InForce → Result Message MessageFault → P × Option UntoldState
      → P × Option UntoldState → InForce → Result Grant Cause → Result (Vec (String Global) Global) SessionFault → Type 0
  RunsRead signing held s (Ok m) old new after later result =
      RunsMessage (is_renewal m) signing held s m old new after later result
  RunsRead signing held s (Err fault) old new after later result =
      RunsGranted signing held routes s (Err fault) old new after later result

  -- nothing was done, since memory ran out
  pub record LacksMemory (held : Result Grant Cause) (s : InForce) (old new : P × Option UntoldState) (after : InForce)
      (later : Result Grant Cause) (result : Result (Vec (String Global) Global) SessionFault) : Type 0 where
    pub fault : result ≡ Err faults.OutOfMemory
    pub port : new ≡ old
    pub session : after ≡ s
    pub kept : later ≡ held

  -- Where clients sign in a text is answered so, and where they don't by all routes, over the port as it is.
  abbrev pub RunsText : Option Signing → Result Grant Cause → InForce → Result Message MessageFault → P × Option UntoldState
      → P × Option UntoldState → InForce → Result Grant Cause → Result (Vec (String Global) Global) SessionFault → Type 0
  RunsText None held s reading old new after later result =
      RanBy W (Piecewise step) routes s reading old new after result × (later ≡ held)
  RunsText (Some signing) held s reading old new after later result =
      RunsRead signing held s reading old new after later result ⊎ LacksMemory held s old new after later result
