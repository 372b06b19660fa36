-- What reading a byte or a line does to the bytes that a reader has left, where these are known, and what writing does.
use Rattle.std.specs.Prelude.{◌≡◌, ◌≤◌, ◌<◌, ◌+◌, ℕ, List, [], ◌∷◌, ◌++◌, length, take, Bool, true, false, Option, Some, None, Result, Ok, Err, MatchResult, MatchOption}
use Rattle.std.specs.List.{list_all}
use Rattle.std.specs.Io.KnownBytes.{Keeps, Consumes, IsAtEnd, Appends}
use Rattle.presence_stdio.specs.declared.lines.Unread.{Unread}
use Rattle.presence_stdio.specs.declared.lines.Unread.TheVariants.{Failed, Interrupted}
use Rattle.phx_message.specs.Lines.{lacks_feed}
use Rattle.presence_stdio.specs.Lines.{first_line, after_line, is_line, BeginsWith}

-- no byte is left
abbrev pub FindsEnd : Option (List ℕ) → Option (List ℕ) → Type 0
FindsEnd old new = Consumes old new [] × IsAtEnd new

-- a byte, or none at the end, or nothing at an error
abbrev pub TakesByte : {E : Type 0} → Option (List ℕ) → Option (List ℕ) → Result (Option ℕ) E → Type 0
TakesByte old new r =
    MatchResult r (λ o. MatchOption o (FindsEnd old new) (λ b. Consumes old new (b ∷ []))) (λ _. Keeps old new)

-- interrupted reads end an input only after this many in a row
abbrev pub IsPatient : ℕ → Unread → Type 0
IsPatient most Failed = Unit {0}
IsPatient most (Interrupted times) = times ≡ most

-- whether the end was found; where it wasn't, a byte was read
abbrev pub AsksEnd : {E : Type 0} → Option (List ℕ) → Option (List ℕ) → Result Bool E → Type 0
AsksEnd old new (Ok true) = FindsEnd old new
AsksEnd old new (Ok false) = (b : ℕ) × Consumes old new (b ∷ [])
AsksEnd old new (Err e) = Keeps old new

-- These bytes are of one line: nothing follows its line feed, and at most limit + 1 bytes are read of it.
pub record IsPart (limit : ℕ) (part : List ℕ) : Type 0 where
  pub one : after_line part ≡ []
  pub short : length part ≤ limit + 1

-- They are a line: its line feed or the end stands behind it, or it is longer than the limit.
pub record IsWhole (limit : ℕ) (part : List ℕ) (left : Option (List ℕ)) : Type 0 where
  pub some : 0 < length part
  pub is_part : IsPart limit part
  pub ends : lacks_feed part ≡ true → length part ≤ limit → IsAtEnd left

-- a line was read
pub record TakesLine (limit : ℕ) (old new : Option (List ℕ)) (line : List ℕ) : Type 0 where
  pub part : List ℕ
  pub taken : Consumes old new part
  pub is_whole : IsWhole limit part new
  pub is_line : first_line part ≡ line

-- some bytes of a line were read, and no line feed
pub record BreaksLine (limit : ℕ) (old new : Option (List ℕ)) : Type 0 where
  pub part : List ℕ
  pub taken : Consumes old new part
  pub is_part : IsPart limit part
  pub plain : lacks_feed part ≡ true

-- a line, or none at the end, or a fault within a line
abbrev pub TakesNext : {V E : Type 0} → ℕ → Option (List ℕ) → Option (List ℕ) → Result (Option V) E → (V → List ℕ)
    → Type 0
TakesNext limit old new r bytes = MatchResult r
    (λ o. MatchOption o (FindsEnd old new) (λ v. TakesLine limit old new (bytes v))) (λ _. BreaksLine limit old new)

-- known bytes were these lines, then these bytes, and then what is left
abbrev pub Splits : Option (List ℕ) → Option (List ℕ) → List (List ℕ) → List ℕ → Type 0
Splits None left lines part = Unit {0}
Splits (Some input) None lines part = ⊥
Splits (Some input) (Some rest) lines part = BeginsWith input lines (part ++ rest)

-- These lines were read, none longer than the limit, and then these bytes.
pub record HasRead (limit : ℕ) (before left : Option (List ℕ)) (lines : List (List ℕ)) (part : List ℕ) : Type 0 where
  pub each : list_all (is_line limit) lines ≡ true
  pub splits : Splits before left lines part

-- some of these bytes were appended, and not all
pub record AppendsFront (old new : Option (List ℕ)) (bytes : List ℕ) : Type 0 where
  pub count : ℕ
  pub fewer : count < length bytes
  pub text : Appends old new (take count bytes)
