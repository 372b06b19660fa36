-- What holds where clients sign in.
use Rattle.std.specs.Prelude.{◌≡◌, ◌⊎◌, ℕ, List, true, Option, Some, Result, Ok, Err, String, Vec}
use Rattle.std.specs.Global.{Global}
use Rattle.phx_message.specs.declared.message.Message.{Message}
use Rattle.phx_message.specs.declared.message.MessageFault.{MessageFault}
use Rattle.channel_pieces.specs.declared.telling.UntoldState.{UntoldState}
use Rattle.channel_rules.specs.Asks.{Ask, Answer}
use Rattle.channel_rules.specs.InForce.{InForce}
use Rattle.channel_rules.specs.Said.{Said}
use Rattle.channel_rules.specs.declared.refusal.Refusal.TheVariants.{NotGranted}
use Rattle.channel_session.specs.Ending.{topics_named}
use Rattle.channel_session.specs.declared.fault.SessionFault.{SessionFault}
use Rattle.client_settings.specs.declared.settings.Settings.{Settings}
use Rattle.tokens.specs.Held.{granted}
use Rattle.tokens.specs.declared.grant.Grant.{Grant}
use Rattle.tokens.specs.declared.signing.Signing.{Signing}
use Rattle.serve_connections.specs.Granted.{AsksGranted, gives, takes_away}
use Rattle.serve_connections.specs.Renewing.{IsShown, follows, is_renewal, token_shown}
use Rattle.serve_connections.specs.Signed.{RunsText}
use Rattle.serve_connections.specs.Working.{IsNew}
use Rattle.serve_connections.specs.declared.cause.Cause.{Cause}
use Rattle.serve_connections.specs.declared.client.Client.{Client}
use Rattle.serve_connections.specs.declared.moment.Moment.{Moment}

-- ---- what is granted

-- What is granted to a client that is taken is what the token grants that its stream carries, under the server's keys.
abbrev pub NewcomersAreShown : {S : Type 0} → (S → Option (List ℕ)) → Type 0
NewcomersAreShown {S} carried = (settings : Settings) (now : Moment) (c : Client S) (signing : Signing) (g : Grant)
    → now.signing ≡ Some signing → IsNew settings carried now c → c.connection.grant ≡ Ok g
    → IsShown signing (carried c.connection.socket.stream) g

-- The message shows a token, which grants this under the server's keys, and which may follow what was granted.
pub record IsRenewed (signing : Signing) (held : Result Grant Cause) (s : InForce) (reading : Result Message MessageFault)
    (later : Result Grant Cause) : Type 0 where
  pub message : Message
  pub read : reading ≡ Ok message
  pub renews : is_renewal message ≡ true
  pub grant : Grant
  pub later_is : later ≡ Ok grant
  pub shown : IsShown signing (token_shown message.payload) grant
  pub may_follow : follows held (topics_named s) (granted grant) ≡ true

-- Behind a text the same is granted as before, or what a token grants that the client shows by this text.
abbrev pub RenewalsAreShown : {P : Type 0} → (Said → Message → Type 0) → (P → (q : Ask) → Answer q → P → Type 0) → Type 0
RenewalsAreShown {P} W step = (routes : List (List ℕ × ℕ)) (signing : Signing) (held : Result Grant Cause) (s : InForce)
    (reading : Result Message MessageFault) (old new : P × Option UntoldState) (after : InForce) (later : Result Grant Cause)
    (result : Result (Vec (String Global) Global) SessionFault)
    → RunsText W step routes (Some signing) held s reading old new after later result
    → (later ≡ held) ⊎ IsRenewed signing held s reading later

-- ---- what is asked

-- this is granted to the client at this second
pub record IsGranted (held : Result Grant Cause) (now : ℕ) (q : Ask) : Type 0 where
  pub grant : Grant
  pub held_is : held ≡ Ok grant
  pub gives : gives (granted grant) now q ≡ true

-- it is granted, or only takes away what its caller has
abbrev pub MayAsk : Result Grant Cause → ℕ → Ask → Type 0
MayAsk held now q = (takes_away q ≡ true) ⊎ IsGranted held now q

-- What is asked of a port may be; and else it is refused, and the port isn't asked.
abbrev pub AsksAreGranted : {P : Type 0} → (P → (q : Ask) → Answer q → P → Type 0) → Type 0
AsksAreGranted {P} step = (held : Result Grant Cause) (now : ℕ) (old : P) (q : Ask) (a : Answer q) (new : P)
    → AsksGranted held now step old q a new
    → (MayAsk held now q × step old q a new) ⊎ ((new ≡ old) × (a ≡ Err NotGranted))
