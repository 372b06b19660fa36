-- The steps of a turn, put together.
use Rattle.std.proofs.Common.{◌≡◌, ℕ, List, Bool, true, false, ◌||◌, is_some, Option, Result, Ok, Err, IfOk, inl, inr, refl, sym, ap, ◌∙◌, subst}
use Rattle.std.specs.Prelude.{String, Vec}
use Rattle.std.specs.Global.{Global}
use Rattle.tungstenite.specs.Socket.{Socket}
use Rattle.phx_message.specs.Reading.{decoded}
use Rattle.phx_message.specs.declared.message.TheConstants.Limits as the_limits
use Rattle.channel_session.specs.Delivery.{DeliveredBy, InForce}
use Rattle.channel_session.specs.declared.frames.Delivery.{Delivery}
use Rattle.channel_session.specs.Ran.{texts_in}
use Rattle.channel_session.specs.declared.fault.SessionFault.{SessionFault}
use Rattle.channel_session.specs.declared.fault.SessionFault.TheVariants.{Failed, OutOfMemory}
use Rattle.channel_pieces.specs.Piecewise.{Piecewise}
use Rattle.channel_pieces.specs.declared.telling.Telling.{Telling}
use Rattle.serve_connections.specs.Hearing.{Hears, is_message}
use Rattle.client_settings.specs.Meaning.{IsPlain, Meant, reads, answers, meaning}
use Rattle.client_settings.specs.declared.settings.Settings.{Settings}
use Rattle.serve_connections.specs.Turning.{Around, Acts, ActsOn, AnswersText, BearsOut, BearsSilence, ClosesFor, Continues, Deals, EndsSession, Responds, Serves, ServesIf, StopsServing, TakesDelivery, TakesTurn, Tells, dealt, dealt_texts, is_owed_ping, may_have_more, patience, progress_of, ran_texts, room_in, said_for}
use Rattle.serve_connections.specs.Signed.{RunsText, leave}
use Rattle.serve_connections.specs.Sparing.{Spares}
use Rattle.serve_connections.specs.declared.connection.TheConstants.{MAX_DEALT}
use Rattle.serve_connections.specs.declared.cause.Cause.{Cause}
use Rattle.serve_connections.specs.declared.cause.Cause.TheVariants.{Fault, Stopping}
use Rattle.serve_connections.specs.declared.connection.Connection.{Connection}
use Rattle.serve_connections.specs.declared.connection.Progress.{Progress}
use Rattle.serve_connections.specs.declared.connection.Stage.{Stage}
use Rattle.serve_connections.specs.declared.connection.Stage.TheVariants.{Open, Ending}
use Rattle.serve_connections.specs.declared.hearing.Heard.{Heard}
use Rattle.serve_connections.specs.declared.moment.Moment.{Moment}
use Rattle.tokens.specs.declared.signing.Signing.{Signing}

module _ {S K P : Type 0} (w : Around S P) (routes : List (List ℕ × ℕ)) (now : Moment) where
  pub serves : (old mid new : Connection S K) (before between after : P) (heard : Heard) (socket : Socket S) (first : Result (Unit {0}) Cause) (came : Bool) (result : Result Bool Cause)
      → Hears w.remaining old.socket socket heard → Responds w routes now heard (record old { socket = socket }) mid before between first
      → came ≡ is_message heard → Continues w came first mid new between after result → Serves w routes now old new before after result
  serves old mid new before between after heard socket first came result hears responds is continues =
      record {
        heard = heard;
        socket = socket;
        hears = hears;
        mid = mid;
        between = between;
        first = first;
        responds = responds;
        continues = subst (λ (b : Bool). Continues w b first mid new between after result) is continues;
      }

  pub goes_on : (old new : Connection S K) (before after : P) (came : Bool) → ServesIf w (leave now.signing old.grant) routes now old new before after (Ok came) → TakesTurn w routes now old new before after (progress_of came)
  goes_on old new before after came h =
      record { served = new; between = after; outcome = Ok came; serves = h; goes_on = (refl, refl, refl) }

  pub ends : (old served closed new : Connection S K) (before between after : P) (cause : Cause) (result : Progress) → ServesIf w (leave now.signing old.grant) routes now old served before between (Err cause)
      → ClosesFor w.contents cause served.socket closed.socket → closed ≡ record served { socket = closed.socket } → EndsSession w.step cause closed new between after result
      → TakesTurn w routes now old new before after result
  ends old served closed new before between after cause result h closes kept e =
      record {
        served = served;
        between = between;
        outcome = Err cause;
        serves = h;
        goes_on = (closed.socket, closes, subst (λ (c : Connection S K). EndsSession w.step cause c new between after result) kept e);
      }

-- a turn that reads nothing goes on, or ends
module _ {S K P : Type 0} (w : Around S P) where
  pub delivered : (old new : Connection S K) (before after : P) (more : Bool) → Deals w old new before after (Ok more) → TakesDelivery w old new before after (progress_of more)
  delivered old new before after more h =
      record { served = new; between = after; outcome = Ok more; deals = h; goes_on = (refl, refl, refl) }

  pub undelivered : (old served closed new : Connection S K) (before between after : P) (cause : Cause) (result : Progress) → Deals w old served before between (Err cause)
      → ClosesFor w.contents cause served.socket closed.socket → closed ≡ record served { socket = closed.socket } → EndsSession w.step cause closed new between after result
      → TakesDelivery w old new before after result
  undelivered old served closed new before between after cause result h closes kept e =
      record {
        served = served;
        between = between;
        outcome = Err cause;
        deals = h;
        goes_on = (closed.socket, closes, subst (λ (c : Connection S K). EndsSession w.step cause c new between after result) kept e);
      }

-- an open connection was told the stop, and ends
pub stops : {S K : Type 0} (contents : S → Option (List ℕ)) (stage : Stage) (old told : Connection S K) → stage ≡ Open → ClosesFor contents Stopping old.socket told.socket
    → told ≡ record old { socket = told.socket } → StopsServing contents stage old (record told { stage = Ending Stopping })
stops {S} {K} contents stage old told is closes kept =
    rw is (told.socket, closes, ap (λ (c : Connection S K). record c { stage = Ending Stopping }) kept)

-- a silence is borne, and a ping sent if one is owed
pub borne : {S K : Type 0} (contents : S → Option (List ℕ)) (now : ℕ) (old new : Connection S K) (result : Result (Unit {0}) Cause) → result ≡ patience old.heard now
    → BearsOut contents result (is_owed_ping old.heard old.pinged now) old new → BearsSilence contents now old new result
borne {S} {K} contents now old new result is asks =
    record { outcome = is; asks = subst (λ (r : Result (Unit {0}) Cause). BearsOut contents r (is_owed_ping old.heard old.pinged now) old new) is asks }

-- the parts of a connection that a call and then its sending change
turned : {S K : Type 0} (old mid new : Connection S K) → new ≡ record mid { socket = new.socket } → mid ≡ record old { session = mid.session; telling = mid.telling }
    → new.session ≡ mid.session → new.telling ≡ mid.telling → new ≡ record old { socket = new.socket; session = new.session; telling = new.telling }
turned {S} {K} old mid new kept held session told =
    kept
    ∙ (ap (λ (c : Connection S K). record c { socket = new.socket }) held
    ∙ (ap (λ (s : InForce). record old { socket = new.socket; session = s; telling = mid.telling }) (sym session)
    ∙ ap (λ (u : Telling). record old { socket = new.socket; session = new.session; telling = u }) (sym told)))

-- the same of a call behind which something else may be granted
answered : {S K : Type 0} (old mid new : Connection S K) → new ≡ record mid { socket = new.socket } → mid ≡ record old { session = mid.session; telling = mid.telling; grant = mid.grant }
    → new ≡ record old { socket = new.socket; session = new.session; telling = new.telling; grant = new.grant }
answered {S} {K} old mid new kept held =
    let P : Connection S K → Type 0 = λ c. c ≡ record old { socket = c.socket; session = c.session; telling = c.telling; grant = c.grant } in
    let at_mid : record mid { socket = new.socket } ≡ record old { socket = new.socket; session = mid.session; telling = mid.telling; grant = mid.grant } = ap (λ (c : Connection S K). record c { socket = new.socket }) held in
    subst P (sym kept) at_mid

-- ---- what a text means

-- the session reads what a text means
pub acts_reading : {S K P : Type 0} (w : Around S P) (signing : Option Signing) (routes : List (List ℕ × ℕ)) (text read : List ℕ) (ok : List (List ℕ)) (old new : Connection S K) (before after : P)
    (answer result : Result (Vec (String Global) Global) SessionFault) → reads read ok ≡ meaning old.settings old.session text
    → RunsText w.worded (w.step old.session.pid) routes signing old.grant old.session (decoded the_limits.CLIENT read) (before, old.telling.untold) (after, new.telling.untold) new.session new.grant answer
    → ran_texts result ≡ said_for (ran_texts answer) ok → Acts w signing routes text old new before after result
acts_reading w signing routes text read ok old new before after answer result is ran said =
    inl (subst (λ (m : Meant). ActsOn w signing routes m old new before after result) is (record { answer = answer; ran = ran; said = said }))

-- or what it means is said
pub acts_saying : {S K P : Type 0} (w : Around S P) (signing : Option Signing) (routes : List (List ℕ × ℕ)) (text : List ℕ) (old : Connection S K) (before : P) (texts : Vec (String Global) Global)
    → answers (texts_in texts) ≡ meaning old.settings old.session text → Acts w signing routes text old old before before (Ok texts)
acts_saying w signing routes text old before texts is =
    inl (subst (λ (m : Meant). ActsOn w signing routes m old old before before (Ok texts)) is (record { said = refl; aside = record { session = refl; telling = refl; grant = refl; port = refl } }))

-- or memory is wanted for it
pub acts_wanting : {S K P : Type 0} (w : Around S P) (signing : Option Signing) (routes : List (List ℕ × ℕ)) (text : List ℕ) (old : Connection S K) (before : P)
    → (IsPlain old.settings → ⊥) → Acts w signing routes text old old before before (Err OutOfMemory)
acts_wanting w signing routes text old before other = inr (record { other = other; fault = refl; aside = record { session = refl; telling = refl; grant = refl; port = refl } })

-- what comes of a text has nothing to do with the socket
acts_past : {S K P : Type 0} (w : Around S P) (signing : Option Signing) (routes : List (List ℕ × ℕ)) (meant : Meant) (old mid : Connection S K) (socket : Socket S) (before after : P)
    (answer : Result (Vec (String Global) Global) SessionFault) → ActsOn w signing routes meant old mid before after answer → ActsOn w signing routes meant old (record mid { socket = socket }) before after answer
acts_past w signing routes (reads text ok) old mid socket before after answer h = record { answer = h.answer; ran = h.ran; said = h.said }
acts_past w signing routes (answers texts) old mid socket before after answer h =
    record { said = h.said; aside = record { session = h.aside.session; telling = h.aside.telling; grant = h.aside.grant; port = h.aside.port } }

past_socket : {S K P : Type 0} (w : Around S P) (signing : Option Signing) (routes : List (List ℕ × ℕ)) (text : List ℕ) (old mid : Connection S K) (socket : Socket S) (before after : P)
    (answer : Result (Vec (String Global) Global) SessionFault) → Acts w signing routes text old mid before after answer → Acts w signing routes text old (record mid { socket = socket }) before after answer
past_socket w signing routes text old mid socket before after answer (inl h) =
    inl (acts_past w signing routes (meaning old.settings old.session text) old mid socket before after answer h)
past_socket w signing routes text old mid socket before after answer (inr h) =
    inr (record { other = h.other; fault = h.fault; aside = record { session = h.aside.session; telling = h.aside.telling; grant = h.aside.grant; port = h.aside.port } })

-- what its client gets of what was answered goes out
pub answers_out : {S K P : Type 0} (w : Around S P) (signing : Option Signing) (routes : List (List ℕ × ℕ)) (text : List ℕ) (old mid new : Connection S K) (before after : P)
    (answer : Result (Vec (String Global) Global) SessionFault) (texts : Vec (String Global) Global) (result : Result (Unit {0}) Cause)
    → Acts w signing routes text old mid before after answer
    → mid ≡ record old { session = mid.session; telling = mid.telling; grant = mid.grant } → answer ≡ Ok texts
    → Tells w.contents mid.settings old.session.pid mid.socket new.socket (Ok (texts_in texts)) result → new ≡ record mid { socket = new.socket } → AnswersText w signing routes text old new before after result
answers_out {S} {K} {P} w signing routes text old mid new before after answer texts result acts held is sent kept =
    let socket : mid.socket ≡ old.socket = ap (λ (c : Connection S K). c.socket) held in
    let settings : mid.settings ≡ old.settings = ap (λ (c : Connection S K). c.settings) held in
    record {
      answer = Ok texts;
      acts =
          subst (λ (r : Result (Vec (String Global) Global) SessionFault). Acts w signing routes text old new before after r) is
          (subst (λ (c : Connection S K). Acts w signing routes text old c before after answer) (sym kept)
          (past_socket w signing routes text old mid new.socket before after answer acts));
      sent =
          subst (λ (g : Settings). Tells w.contents g old.session.pid old.socket new.socket (Ok (texts_in texts)) result) settings
          (subst (λ (s : Socket S). Tells w.contents mid.settings old.session.pid s new.socket (Ok (texts_in texts)) result) socket sent);
      kept = answered old mid new kept held;
    }

-- or the connection ends, where the session has a fault
pub answers_fault : {S K P : Type 0} (w : Around S P) (signing : Option Signing) (routes : List (List ℕ × ℕ)) (text : List ℕ) (old new : Connection S K) (before after : P)
    (answer : Result (Vec (String Global) Global) SessionFault) (fault : SessionFault) → Acts w signing routes text old new before after answer
    → new ≡ record old { session = new.session; telling = new.telling; grant = new.grant } → answer ≡ Err fault → AnswersText w signing routes text old new before after (Err (Fault fault))
answers_fault {S} {K} {P} w signing routes text old new before after answer fault acts held is =
    let socket : new.socket ≡ old.socket = ap (λ (c : Connection S K). c.socket) held in
    record {
      answer = Err fault;
      acts = subst (λ (r : Result (Vec (String Global) Global) SessionFault). Acts w signing routes text old new before after r) is acts;
      sent = inl (refl, socket);
      kept = held ∙ ap (λ (s : Socket S). record old { socket = s; session = new.session; telling = new.telling; grant = new.grant }) (sym socket);
    }

-- what was delivered within the room that there was goes out
pub deals : {S K P : Type 0} (w : Around S P) (old mid new : Connection S K) (before after : P) (delivery : Result Delivery SessionFault) (given room : ℕ) (telling : Bool)
    (result : Result Bool Cause) → given ≡ room_in old.socket → telling ≡ is_some old.telling.untold
    → (old.session.failed ≡ true → (delivery ≡ Err Failed) × (mid.session ≡ old.session) × (after ≡ before) × (mid.telling ≡ old.telling))
    → (old.session.failed ≡ false → DeliveredBy w.worded w.noted (Spares (Piecewise (w.step old.session.pid))) MAX_DEALT old.session ((before, old.telling.untold), given) ((after, mid.telling.untold), room) mid.session delivery)
    → mid ≡ record old { session = mid.session; telling = mid.telling }
    → Tells w.contents mid.settings old.session.pid mid.socket new.socket (dealt_texts delivery) (dealt result) → IfOk result (λ told. told ≡ may_have_more delivery room (telling || is_some mid.telling.untold))
    → new ≡ record mid { socket = new.socket } → Deals w old new before after result
deals {S} {K} {P} w old mid new before after delivery given room telling result is was failed came held sent more kept =
    let session : new.session ≡ mid.session = ap (λ (c : Connection S K). c.session) kept in
    let told : new.telling ≡ mid.telling = ap (λ (c : Connection S K). c.telling) kept in
    let socket : mid.socket ≡ old.socket = ap (λ (c : Connection S K). c.socket) held in
    let settings : mid.settings ≡ old.settings = ap (λ (c : Connection S K). c.settings) held in
    record {
      delivery = delivery;
      room = room;
      failed = λ so. ((failed so).0, session ∙ (failed so).1, (failed so).2, told ∙ (failed so).3);
      delivered = λ so.
          subst (λ (s : InForce). DeliveredBy w.worded w.noted (Spares (Piecewise (w.step old.session.pid))) MAX_DEALT old.session ((before, old.telling.untold), room_in old.socket) ((after, new.telling.untold), room) s delivery) (sym session)
          (subst (λ (u : Telling). DeliveredBy w.worded w.noted (Spares (Piecewise (w.step old.session.pid))) MAX_DEALT old.session ((before, old.telling.untold), room_in old.socket) ((after, u.untold), room) mid.session delivery) (sym told)
          (subst (λ (n : ℕ). DeliveredBy w.worded w.noted (Spares (Piecewise (w.step old.session.pid))) MAX_DEALT old.session ((before, old.telling.untold), n) ((after, mid.telling.untold), room) mid.session delivery) is (came so)));
      sent =
          subst (λ (g : Settings). Tells w.contents g old.session.pid old.socket new.socket (dealt_texts delivery) (dealt result)) settings
          (subst (λ (s : Socket S). Tells w.contents mid.settings old.session.pid s new.socket (dealt_texts delivery) (dealt result)) socket sent);
      more =
          subst (λ (t : Bool). IfOk result (λ b. b ≡ may_have_more delivery room (t || is_some new.telling.untold))) was
          (subst (λ (u : Telling). IfOk result (λ b. b ≡ may_have_more delivery room (telling || is_some u.untold))) (sym told) more);
      kept = turned old mid new kept held session told;
    }
