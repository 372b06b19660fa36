-- What reading a byte or a line's bytes does to what a reader has left, and what writing does, where these are known.
use Rattle.std.specs.Prelude.{◌≡◌, ◌≤◌, ◌<◌, ◌+◌, ℕ, List, [], ◌∷◌, ◌++◌, ◌==◌, length, take, Bool, true, not, Option, Some, None, Result, Ok, Err}
use Rattle.std.specs.List.{list_all}
use Rattle.std.specs.Io.KnownBytes.{Keeps, Consumes, IsAtEnd, Appends}
use Rattle.link_lines.specs.declared.fault.LinkFault.{LinkFault}
use Rattle.link_lines.specs.declared.fault.LinkFault.TheVariants.{LineTooLong, ReadFailed, WriteFailed, OutOfMemory, CutLine}
use Rattle.link_lines.specs.declared.lines.TheConstants.{MAX_LINE_BYTES}
use Rattle.node_links.specs.declared.bytes.Unread.{Unread}
use Rattle.node_links.specs.declared.bytes.Unread.TheVariants.{Failed, Interrupted}

-- what a reader has left, or a writer holds
abbrev pub Known : Type 0
Known = Option (List ℕ)

-- no byte is left, and none was read
abbrev pub FindsEnd : Known → Known → Type 0
FindsEnd old new = Consumes old new [] × IsAtEnd new

-- a byte, or none at the end; a failed read reads nothing
abbrev pub TakesByte : {E : Type 0} → Known → Known → Result (Option ℕ) E → Type 0
TakesByte old new (Ok None) = FindsEnd old new
TakesByte old new (Ok (Some b)) = Consumes old new (b ∷ [])
TakesByte old new (Err e) = Keeps old new

-- interrupted reads are a failed read only after this many in a row
abbrev pub IsPatient : ℕ → Unread → Type 0
IsPatient most Failed = Unit {0}
IsPatient most (Interrupted times) = times ≡ most

abbrev pub lacks_feed : List ℕ → Bool
lacks_feed = list_all (λ b. not (b == 10))

-- these bytes were read, and then a line feed
pub record TakesWhole (old new : Known) (text : List ℕ) : Type 0 where
  pub taken : Consumes old new (text ++ 10 ∷ [])
  pub plain : lacks_feed text ≡ true
  pub short : length text ≤ MAX_LINE_BYTES

-- some bytes of a line were read, at most one more than the limit, and no line feed
pub record BreaksLine (old new : Known) : Type 0 where
  pub part : List ℕ
  pub taken : Consumes old new part
  pub plain : lacks_feed part ≡ true
  pub short : length part ≤ MAX_LINE_BYTES + 1

-- one byte more than the limit was read, and no line feed
pub record PassesLimit (old new : Known) : Type 0 where
  pub part : List ℕ
  pub taken : Consumes old new part
  pub plain : lacks_feed part ≡ true
  pub long : length part ≡ MAX_LINE_BYTES + 1

-- some bytes of a line were read, and then the end was found
pub record CutsLine (old new : Known) : Type 0 where
  pub part : List ℕ
  pub taken : Consumes old new part
  pub plain : lacks_feed part ≡ true
  pub some : 0 < length part
  pub short : length part ≤ MAX_LINE_BYTES
  pub ends : IsAtEnd new

-- a line's bytes, or none at an end between lines, or what stands in their way
abbrev pub TakesText : {V : Type 0} → (V → List ℕ) → Known → Known → Result (Option V) LinkFault → Type 0
TakesText view old new (Ok None) = FindsEnd old new
TakesText view old new (Ok (Some text)) = TakesWhole old new (view text)
TakesText view old new (Err LineTooLong) = PassesLimit old new
TakesText view old new (Err CutLine) = CutsLine old new
TakesText view old new (Err ReadFailed) = BreaksLine old new
TakesText view old new (Err OutOfMemory) = BreaksLine old new
TakesText view old new (Err _) = ⊥

-- some of these bytes were appended, and not all
pub record AppendsFront (old new : Known) (bytes : List ℕ) : Type 0 where
  pub count : ℕ
  pub fewer : count < length bytes
  pub text : Appends old new (take count bytes)

-- all of these bytes were appended, or at a failed write some
abbrev pub WritesAll : Known → Known → List ℕ → Result Unit LinkFault → Type 0
WritesAll old new bytes (Ok done) = Appends old new bytes
WritesAll old new bytes (Err WriteFailed) = AppendsFront old new bytes
WritesAll old new bytes (Err e) = ⊥
