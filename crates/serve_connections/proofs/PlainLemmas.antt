-- By default, and where clients don't sign in, a text is answered and a delivery told as it is.
use Rattle.std.proofs.Common.{◌≡◌, ℕ, List, [], ◌∷◌, Option, None, Result, Ok, Err, inl, inr, refl, ap, ◌∙◌, subst}
use Rattle.std.specs.Prelude.{String, Vec}
use Rattle.std.specs.Global.{Global}
use Rattle.tungstenite.specs.Socket.{Socket}
use Rattle.channel_session.specs.declared.fault.SessionFault.{SessionFault}
use Rattle.client_settings.specs.Laws.{ChangesNothing, PlainChangesNothing}
use Rattle.client_settings.specs.Meaning.{IsPlain, Meant}
use Rattle.client_settings.specs.declared.settings.Settings.{Settings}
use Rattle.tokens.specs.declared.grant.Grant.{Grant}
use Rattle.tokens.specs.declared.signing.Signing.{Signing}
use Rattle.serve_connections.specs.Plainly.{AllAnswerPlainly, AllDealPlainly, AnswersPlainly, NewcomersArePlain}
use Rattle.serve_connections.specs.SigningIn.{SignsIn}
use Rattle.serve_connections.specs.Turning.{Around, Acts, ActsOn, GoOut, Runs, Tells, dealt, dealt_texts, ran_texts, said_for, told_texts}
use Rattle.serve_connections.specs.Working.{fresh, newcomer}
use Rattle.serve_connections.specs.declared.cause.Cause.{Cause}
use Rattle.serve_connections.specs.declared.client.Client.{Client}
use Rattle.serve_connections.specs.declared.connection.Connection.{Connection}

said_as_is : (r : Result (List (List ℕ)) SessionFault) → said_for r [] ≡ r
said_as_is (Ok []) = refl
said_as_is (Ok (t ∷ ts)) = refl
said_as_is (Err fault) = refl

told_as_is : (given : Settings) → ChangesNothing given → (pid : ℕ) (r : Result (List (List ℕ)) SessionFault) → told_texts given pid r ≡ r
told_as_is given plain pid (Ok texts) = ap (λ (l : List (List ℕ)). Ok l) (plain.told pid texts)
told_as_is given plain pid (Err fault) = refl

-- what is told goes out as it is
goes_out : {S : Type 0} (contents : S → Option (List ℕ)) (given : Settings) → IsPlain given → ChangesNothing given → (pid : ℕ) (old new : Socket S) (r : Result (List (List ℕ)) SessionFault)
    (result : Result (Unit {0}) Cause) → Tells contents given pid old new r result → GoOut contents old new r result
goes_out contents given plain nothing pid old new r result (inl h) =
    subst (λ (t : Result (List (List ℕ)) SessionFault). GoOut contents old new t result) (told_as_is given nothing pid r) h
goes_out contents given plain nothing pid old new r result (inr h) = absurd (h.other plain)

module _ {S K P : Type 0} (w : Around S P) where
  -- the same is granted as before
  ungranted : (old new : Connection S K) → new ≡ record old { socket = new.socket; session = new.session; telling = new.telling; grant = new.grant } → new.grant ≡ old.grant
      → new ≡ record old { socket = new.socket; session = new.session; telling = new.telling }
  ungranted old new kept is = kept ∙ ap (λ (g : Result Grant Cause). record old { socket = new.socket; session = new.session; telling = new.telling; grant = g }) is

  runs_plainly : (routes : List (List ℕ × ℕ)) (text : List ℕ) (old new : Connection S K) (before after : P) (answer : Result (Vec (String Global) Global) SessionFault) (result : Result (Unit {0}) Cause)
      → IsPlain old.settings → ChangesNothing old.settings → Runs w None routes text [] old new before after answer
      → Tells w.contents old.settings old.session.pid old.socket new.socket (ran_texts answer) result
      → new ≡ record old { socket = new.socket; session = new.session; telling = new.telling; grant = new.grant } → AnswersPlainly w routes text old new before after result
  runs_plainly routes text old new before after answer result plain nothing runs sent kept =
      record {
        answer = runs.answer;
        ran = runs.ran.0;
        sent =
            subst (λ (r : Result (List (List ℕ)) SessionFault). GoOut w.contents old.socket new.socket r result) (runs.said ∙ said_as_is (ran_texts runs.answer))
            (goes_out w.contents old.settings plain nothing old.session.pid old.socket new.socket (ran_texts answer) result sent);
        kept = ungranted old new kept runs.ran.1;
      }

  acts_plainly : (routes : List (List ℕ × ℕ)) (text : List ℕ) (old new : Connection S K) (before after : P) (answer : Result (Vec (String Global) Global) SessionFault)
      → IsPlain old.settings → ChangesNothing old.settings → Acts w None routes text old new before after answer → Runs w None routes text [] old new before after answer
  acts_plainly routes text old new before after answer plain nothing (inl h) =
      subst (λ (m : Meant). ActsOn w None routes m old new before after answer) (nothing.meaning old.session text) h
  acts_plainly routes text old new before after answer plain nothing (inr h) = absurd (h.other plain)

  pub all_answer_plainly : PlainChangesNothing → AllAnswerPlainly K w
  all_answer_plainly law routes text old new before after result plain h =
      let nothing : ChangesNothing old.settings = law old.settings plain in
      runs_plainly routes text old new before after h.answer result plain nothing (acts_plainly routes text old new before after h.answer plain nothing h.acts) h.sent h.kept

  pub all_deal_plainly : PlainChangesNothing → AllDealPlainly K w
  all_deal_plainly law old new before after result plain h =
      record {
        delivery = h.delivery;
        room = h.room;
        failed = h.failed;
        delivered = h.delivered;
        sent = goes_out w.contents old.settings plain (law old.settings plain) old.session.pid old.socket new.socket (dealt_texts h.delivery) (dealt result) h.sent;
        more = h.more;
        kept = h.kept;
      }

-- ---- newcomers

unsigned : {S K : Type 0} (carried : S → Option (List ℕ)) (signing : Option Signing) (old new : Connection S K) → signing ≡ None → SignsIn carried signing old new → new ≡ old
unsigned {S} {K} carried signing old new is h = subst (λ (o : Option Signing). SignsIn {S = S} {K = K} carried o old new) is h

-- one that is as a newcomer but for its connection, which is a newcomer's
newly : {S : Type 0} (n c : Client S) → c ≡ record n { connection = c.connection } → c.connection ≡ n.connection → c ≡ n
newly {S} n c is e =
    let same : record n { connection = c.connection } ≡ n = rw e refl in
    is ∙ same

pub newcomers_plain : {S : Type 0} (carried : S → Option (List ℕ)) → NewcomersArePlain carried
newcomers_plain carried settings now c is h =
    let e = unsigned carried now.signing (fresh settings h.number h.socket now.milliseconds) c.connection is h.signs_in in
    record { number = h.number; token = h.token; socket = h.socket; new = newly (newcomer settings h.number h.token h.socket now.milliseconds) c h.new e }
