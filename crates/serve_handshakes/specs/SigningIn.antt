-- What a client gets by the token that it shows.
use Rattle.std.specs.Prelude.{◌≡◌, ◌⊎◌, List, ℕ, Option, Some, None, Result, Ok, Err}
use Rattle.tokens.specs.Claimed.{Granted}
use Rattle.tokens.specs.Signing.{judged_at}
use Rattle.tokens.specs.declared.fault.TokenFault.{TokenFault}
use Rattle.tokens.specs.declared.fault.TokenFault.TheVariants as faults
use Rattle.tokens.specs.declared.signing.Signing.{Signing}
use Rattle.serve_handshakes.specs.Shown.{shown_in}
use Rattle.serve_handshakes.specs.declared.answer.Answer.{Answer}
use Rattle.serve_handshakes.specs.declared.answer.Answer.TheVariants.{Full, Unauthorized}
use Rattle.serve_handshakes.specs.declared.head.Request.{Request}
use Rattle.serve_handshakes.specs.declared.unsigned.Unsigned.TheVariants.{NoToken, Malformed, OtherAlgorithm, BadSignature, BadClaims, TooEarly, Expired}

-- what it gets whose token isn't taken for this
abbrev pub refused_for : TokenFault → Answer
refused_for faults.Malformed = Unauthorized Malformed
refused_for faults.OtherAlgorithm = Unauthorized OtherAlgorithm
refused_for faults.BadSignature = Unauthorized BadSignature
refused_for faults.BadClaims = Unauthorized BadClaims
refused_for faults.TooEarly = Unauthorized TooEarly
refused_for faults.Expired = Unauthorized Expired
refused_for faults.OutOfMemory = Full

-- the client is let in whose token grants something
abbrev pub let_in_by : Result Granted TokenFault → Result (Unit {0}) Answer
let_in_by (Ok granted) = Ok tt
let_in_by (Err fault) = Err (refused_for fault)

abbrev pub let_in : Signing → Option (List ℕ) → Result (Unit {0}) Answer
let_in signing None = Err (Unauthorized NoToken)
let_in signing (Some token) = let_in_by (judged_at signing token)

-- Where clients sign in one is let in whose request shows a token that is taken, and another one is told why it isn't, or that
-- there is no memory. Where none do all are let in.
abbrev pub SignsIn : Option Signing → Request → Result (Unit {0}) Answer → Type 0
SignsIn None request result = result ≡ Ok tt
SignsIn (Some signing) request result = (result ≡ let_in signing (shown_in request)) ⊎ (result ≡ Err Full)

-- The stream carries the token that the request shows, where clients sign in and one is let in.
abbrev pub Carries : Option Signing → Request → Result (Unit {0}) Answer → Option (List ℕ) → Type 0
Carries None request result carried = Unit {0}
Carries (Some signing) request (Ok u) carried = carried ≡ shown_in request
Carries (Some signing) request (Err answer) carried = Unit {0}
