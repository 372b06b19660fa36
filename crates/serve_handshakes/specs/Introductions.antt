-- Whom a connection is from, by the line that a proxy writes before all else.
use Rattle.std.specs.Prelude.{◌≡◌, ◌≤◌, ◌<◌, ◌+◌, ◌==◌, ◌||◌, ℕ, Bool, true, false, cond, nat_lt, List, length, take, drop, slice_range, position, bytes_eq, codes, min, MatchOption, Option, None, Some}
use Rattle.std.specs.Net.Grammar.{IsIpText}
use Rattle.std.specs.declared.net.ip_addr.IpAddr.{IpAddr}
use Rattle.serve_handshakes.specs.Clients.{Writes}
use Rattle.serve_handshakes.specs.declared.introduction.Introduced.{Introduced}
use Rattle.serve_handshakes.specs.declared.introduction.Introduced.TheVariants.{Partial, Nothing, Line}
use Rattle.serve_handshakes.specs.declared.introduction.TheConstants.{MAX_LINE_BYTES}

-- where the first space stands
abbrev pub space_in : List ℕ → Option ℕ
space_in words = position (λ b. b == 32) words

abbrev pub is_family : List ℕ → Bool
is_family word = bytes_eq word (codes "TCP4") || bytes_eq word (codes "TCP6")

-- the word before the place of a space
abbrev pub word_at : Option ℕ → List ℕ → Option (List ℕ)
word_at None words = None
word_at (Some i) words = Some (take i words)

-- the word of the source's address: the second, where the first is a family's, and a space ends each
abbrev pub source_behind : Option ℕ → List ℕ → Option (List ℕ)
source_behind None words = None
source_behind (Some i) words =
    cond (is_family (take i words)) (word_at (space_in (drop (i + 1) words)) (drop (i + 1) words)) None

-- the address that such a word writes, if it writes one
abbrev pub IsToldBy : Option (List ℕ) → Option IpAddr → Type 0
IsToldBy None told = told ≡ None
IsToldBy (Some source) told = MatchOption told ((a : IpAddr) → IsIpText source a → ⊥) (Writes source)

-- the address that the words of a line tell, if they tell one
abbrev pub TellsBy : List ℕ → Option IpAddr → Type 0
TellsBy words told = IsToldBy (source_behind (space_in words) words) told

-- where the first line feed stands, if it does where it must
abbrev pub feed_in : List ℕ → Option ℕ
feed_in bytes = position (λ b. b == 10) (take (min (length bytes) MAX_LINE_BYTES) bytes)

-- A line ends with the first line feed. Without one the bytes may become a line as long as one may still come.
abbrev pub IsLineBy : Option ℕ → List ℕ → Introduced → Type 0
IsLineBy None bytes introduced = introduced ≡ cond (nat_lt (length bytes) MAX_LINE_BYTES) Partial Nothing
IsLineBy (Some feed) bytes Partial = ⊥
IsLineBy (Some feed) bytes Nothing = feed < 6
IsLineBy (Some feed) bytes (Line end told) =
    (6 ≤ feed) × (end ≡ feed + 1) × TellsBy (slice_range bytes 6 end) told

abbrev pub IsLine : List ℕ → Introduced → Type 0
IsLine bytes introduced = IsLineBy (feed_in bytes) bytes introduced

-- the bytes begin as a line does, as far as they go
abbrev pub begins_line : List ℕ → Bool
begins_line bytes = bytes_eq (take (min (length bytes) 6) bytes) (take (min (length bytes) 6) (codes "PROXY "))

-- by whether they begin so, and are too few to tell
abbrev pub IsIntroducedBy : Bool → Bool → List ℕ → Introduced → Type 0
IsIntroducedBy false few bytes introduced = introduced ≡ Nothing
IsIntroducedBy true true bytes introduced = introduced ≡ Partial
IsIntroducedBy true false bytes introduced = IsLine bytes introduced

-- the first bytes of a connection: a line, what may become one, or nothing of it
abbrev pub IsIntroduced : List ℕ → Introduced → Type 0
IsIntroduced bytes introduced = IsIntroducedBy (begins_line bytes) (nat_lt (length bytes) 6) bytes introduced
