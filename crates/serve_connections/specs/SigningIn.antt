-- How a client is signed in by the token that its stream carries.
use Rattle.std.specs.Prelude.{◌≡◌, ◌⊎◌, ℕ, List, Option, Some, None, Result, Ok, Err}
use Rattle.channel_session.specs.declared.fault.SessionFault.TheVariants as faults
use Rattle.tokens.specs.Signing.{judged_at}
use Rattle.tokens.specs.declared.fault.TokenFault.{TokenFault}
use Rattle.tokens.specs.declared.fault.TokenFault.TheVariants as token_faults
use Rattle.tokens.specs.declared.grant.Grant.{Grant}
use Rattle.tokens.specs.declared.signing.Signing.{Signing}
use Rattle.serve_connections.specs.Renewing.{IsShown}
use Rattle.serve_connections.specs.declared.cause.Cause.{Cause}
use Rattle.serve_connections.specs.declared.cause.Cause.TheVariants.{Expired, Fault, Unsigned}
use Rattle.serve_connections.specs.declared.connection.Connection.{Connection}

-- for which cause a connection ends whose client's token has this fault
abbrev pub cause_by : TokenFault → Cause
cause_by token_faults.Expired = Expired
cause_by token_faults.OutOfMemory = Fault faults.OutOfMemory
cause_by _ = Unsigned

-- The fault of the token is the cause, or memory ran out.
abbrev pub IsRefusedBy : Signing → List ℕ → Cause → Type 0
IsRefusedBy signing token cause =
    ((fault : TokenFault) × (judged_at signing token ≡ Err fault) × (cause ≡ cause_by fault)) ⊎ (cause ≡ Fault faults.OutOfMemory)

-- what is granted to a client that shows this, or for which cause its connection ends
abbrev pub IsGrantedBy : Signing → Option (List ℕ) → Result Grant Cause → Type 0
IsGrantedBy signing shown (Ok g) = IsShown signing shown g
IsGrantedBy signing None (Err cause) = cause ≡ Unsigned
IsGrantedBy signing (Some token) (Err cause) = IsRefusedBy signing token cause

module _ {S K : Type 0} (carried : S → Option (List ℕ)) where
  -- to its client is granted what the token grants that its stream carries
  pub record IsSignedIn (signing : Signing) (old new : Connection S K) : Type 0 where
    pub grant : IsGrantedBy signing (carried new.socket.stream) new.grant
    pub kept : new ≡ record old { grant = new.grant }

  -- so it is where clients sign in
  abbrev pub SignsIn : Option Signing → Connection S K → Connection S K → Type 0
  SignsIn None old new = new ≡ old
  SignsIn (Some signing) old new = IsSignedIn signing old new
