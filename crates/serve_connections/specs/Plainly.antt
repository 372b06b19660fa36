-- What a connection does where clients don't sign in, and may do nothing beyond the usual.
use Rattle.std.specs.Prelude.{◌≡◌, ◌||◌, ℕ, Bool, true, false, List, IfOk, is_some, Option, None, Result, Ok, Err, String, Vec}
use Rattle.std.specs.Global.{Global}
use Rattle.phx_message.specs.Reading.{decoded}
use Rattle.phx_message.specs.declared.message.TheConstants.Limits as the_limits
use Rattle.channel_pieces.specs.Piecewise.{Piecewise}
use Rattle.channel_session.specs.Delivery.{DeliveredBy}
use Rattle.channel_session.specs.Ran.{RanBy}
use Rattle.channel_session.specs.declared.frames.Delivery.{Delivery}
use Rattle.channel_session.specs.declared.fault.SessionFault.{SessionFault}
use Rattle.channel_session.specs.declared.fault.SessionFault.TheVariants.{Failed}
use Rattle.client_settings.specs.Meaning.{IsPlain}
use Rattle.client_settings.specs.declared.settings.Settings.{Settings}
use Rattle.tokens.specs.declared.grant.Grant.{Grant}
use Rattle.serve_connections.specs.Signed.{leave}
use Rattle.serve_connections.specs.Sparing.{Spares}
use Rattle.serve_connections.specs.Turning.{Around, AnswersText, Deals, GoOut, dealt, dealt_texts, may_have_more, ran_texts, room_in}
use Rattle.serve_connections.specs.Working.{IsNew, newcomer}
use Rattle.serve_connections.specs.declared.cause.Cause.{Cause}
use Rattle.serve_connections.specs.declared.client.Client.{Client}
use Rattle.serve_connections.specs.declared.connection.Connection.{Connection}
use Rattle.serve_connections.specs.declared.connection.TheConstants.{MAX_DEALT}
use Rattle.serve_connections.specs.declared.moment.Moment.{Moment}
use Rattle.tungstenite.specs.Socket.{Socket}

-- each client goes on
abbrev pub AllGoOn : Type 0
AllGoOn = (held : Result Grant Cause) → leave None held ≡ Ok tt

-- it is as one that was just taken, and nothing else was done
pub record IsNewcomer {S : Type 0} (settings : Settings) (now : Moment) (c : Client S) : Type 0 where
  pub number : ℕ
  pub token : ℕ
  pub socket : Socket S
  pub new : c ≡ newcomer settings number token socket now.milliseconds

abbrev pub NewcomersArePlain : {S : Type 0} → (S → Option (List ℕ)) → Type 0
NewcomersArePlain {S} carried = (settings : Settings) (now : Moment) (c : Client S) → now.signing ≡ None
    → IsNew settings carried now c → IsNewcomer settings now c

module _ {S K P : Type 0} (w : Around S P) where
  -- The session answers a text as it came, by all routes, over the port as it is; and what it answers goes out.
  pub record AnswersPlainly (routes : List (List ℕ × ℕ)) (text : List ℕ) (old new : Connection S K) (before after : P)
      (result : Result (Unit {0}) Cause) : Type 0 where
    pub answer : Result (Vec (String Global) Global) SessionFault
    pub ran : RanBy w.worded (Piecewise (w.step old.session.pid)) routes old.session (decoded the_limits.CLIENT text)
        (before, old.telling.untold) (after, new.telling.untold) new.session answer
    pub sent : GoOut w.contents old.socket new.socket (ran_texts answer) result
    pub kept : new ≡ record old { socket = new.socket; session = new.session; telling = new.telling }

  -- What waits for the session is delivered, and goes out as it is.
  pub record DealsPlainly (old new : Connection S K) (before after : P) (result : Result Bool Cause) : Type 0 where
    pub delivery : Result Delivery SessionFault
    pub room : ℕ
    pub failed : old.session.failed ≡ true
        → (delivery ≡ Err Failed) × (new.session ≡ old.session) × (after ≡ before) × (new.telling ≡ old.telling)
    pub delivered : old.session.failed ≡ false
        → DeliveredBy w.worded w.noted (Spares (Piecewise (w.step old.session.pid))) MAX_DEALT old.session
        ((before, old.telling.untold), room_in old.socket) ((after, new.telling.untold), room) new.session delivery
    pub sent : GoOut w.contents old.socket new.socket (dealt_texts delivery) (dealt result)
    pub more : IfOk result
        (λ told. told ≡ may_have_more delivery room (is_some old.telling.untold || is_some new.telling.untold))
    pub kept : new ≡ record old { socket = new.socket; session = new.session; telling = new.telling }

module _ {S P : Type 0} (K : Type 0) (w : Around S P) where
  abbrev pub AllAnswerPlainly : Type 0
  AllAnswerPlainly = (routes : List (List ℕ × ℕ)) (text : List ℕ) (old new : Connection S K) (before after : P)
      (result : Result (Unit {0}) Cause) → IsPlain old.settings
      → AnswersText w None routes text old new before after result → AnswersPlainly w routes text old new before after result

  abbrev pub AllDealPlainly : Type 0
  AllDealPlainly = (old new : Connection S K) (before after : P) (result : Result Bool Cause) → IsPlain old.settings
      → Deals w old new before after result → DealsPlainly w old new before after result
