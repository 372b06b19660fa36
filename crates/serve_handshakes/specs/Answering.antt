-- How a request comes to its answer.
use Rattle.std.specs.Prelude.{◌≡◌, ℕ, Bool, List, Option, Some, None, Result, Ok, Err}
use Rattle.tokens.specs.declared.signing.Signing.{Signing}
use Rattle.serve_handshakes.specs.Answers.{answer_in}
use Rattle.serve_handshakes.specs.Greeting.{while_so_in}
use Rattle.serve_handshakes.specs.Replies.{IsReplyTo}
use Rattle.serve_handshakes.specs.Seating.{seated_in}
use Rattle.serve_handshakes.specs.Shown.{shown_in}
use Rattle.serve_handshakes.specs.SigningIn.{SignsIn, let_in}
use Rattle.serve_handshakes.specs.declared.answer.Answer.{Answer}
use Rattle.serve_handshakes.specs.declared.answer.Answer.TheVariants.{Socket, Unauthorized}
use Rattle.serve_handshakes.specs.declared.answer.Site.{Site}
use Rattle.serve_handshakes.specs.declared.front.Wellness.{Wellness}
use Rattle.serve_handshakes.specs.declared.head.Request.{Request}
use Rattle.serve_handshakes.specs.declared.seating.Admission.{Admission}
use Rattle.serve_handshakes.specs.declared.seating.Admission.TheVariants.{Welcome}

-- who may not come in is told why, and another one gets a place, or is told that there is none
abbrev pub entered : Admission → ℕ → Answer → Result (Unit {0}) Answer → Answer
entered standing places asked (Ok u) = seated_in standing places asked
entered standing places asked (Err refused) = refused

-- Who is welcome signs in, where clients have to.
abbrev pub AnsweredAt : Admission → Option Signing → ℕ → Request → Answer → Answer → Type 0
AnsweredAt Welcome signing places request asked answer =
    (entry : Result (Unit {0}) Answer) × SignsIn signing request entry × (answer ≡ entered Welcome places asked entry)
AnsweredAt standing signing places request asked answer = answer ≡ seated_in standing places asked

-- What comes of what a request gets by itself: a WebSocket is for who stands so that it may have one.
abbrev pub Seats : Option Signing → ℕ → Request → Answer → Answer → Type 0
Seats signing places request (Socket told) answer =
    (standing : Admission) × AnsweredAt standing signing places request (Socket told) answer
Seats signing places request asked answer = answer ≡ asked

-- What a request is answered at this place, where so many further places are there.
abbrev pub Answers : Site → Option Signing → ℕ → Request → Answer → Type 0
Answers site signing places request answer =
    (well : Wellness) × Seats signing places request (while_so_in well (answer_in site request)) answer

-- the token that the stream carries is the request's, and lets its client in
abbrev pub IsCarried : Option Signing → Request → Option (List ℕ) → Type 0
IsCarried None request carried = Unit {0}
IsCarried (Some signing) request carried = (carried ≡ shown_in request) × (let_in signing carried ≡ Ok tt)

-- so it is where a WebSocket follows
abbrev pub Admits : Option Signing → Request → Option (List ℕ) → Answer → Type 0
Admits signing request carried (Socket told) = IsCarried signing request carried
Admits signing request carried answer = Unit {0}

-- What a request is answered where no client signs in.
abbrev pub AnswersAll : Site → ℕ → Request → Answer → Type 0
AnswersAll site places request answer =
    (well : Wellness) × (standing : Admission)
    × (answer ≡ seated_in standing places (while_so_in well (answer_in site request)))

-- the answer tells nobody to sign in
abbrev pub NamesNoToken : Answer → Type 0
NamesNoToken (Unauthorized why) = ⊥
NamesNoToken answer = Unit {0}

-- what is sent for a request: the reply of its answer, and the stream carries the token by which its client is let in
pub record IsAnsweredBy (site : Site) (signing : Option Signing) (places : ℕ) (request : Request) (carried : Option (List ℕ))
    (reply : List ℕ × Bool) : Type 0 where
  pub answer : Answer
  pub metrics : List ℕ
  pub answers : Answers site signing places request answer
  pub admits : Admits signing request carried answer
  pub sent : IsReplyTo request metrics answer reply
