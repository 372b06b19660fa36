-- What reading and writing a line does to a stream.
use Rattle.std.specs.Prelude.{◌≡◌, ◌≤◌, ◌<◌, ◌+◌, ℕ, Bool, true, false, List, [], ◌∷◌, ◌++◌, length, if◌then◌else◌, Option, Some, None, Result, Ok, Err}
use Rattle.std.specs.Io.KnownBytes.{Keeps, Consumes, Appends}
use Rattle.std.specs.Str.{is_utf8}
use Rattle.orswot_core.specs.Checks.{is_too_many_in}
use Rattle.link_lines.specs.declared.lines.Line.{Line}
use Rattle.link_lines.specs.declared.lines.Line.TheVariants as lines_are
use Rattle.link_lines.specs.declared.hearer.Hearer.{Hearer}
use Rattle.link_lines.specs.declared.hearer.Telling.{Telling}
use Rattle.link_lines.specs.declared.fault.LinkFault.{LinkFault}
use Rattle.link_lines.specs.declared.fault.LinkFault.TheVariants.{LineTooLong, NotJson, ReadFailed, WriteFailed, OutOfMemory, CutLine}
use Rattle.link_lines.specs.declared.lines.TheConstants.{MAX_LINE_BYTES}
use Rattle.link_lines.specs.Reading.{decoded}
use Rattle.link_lines.specs.Writing.{text_of}
use Rattle.node_links.specs.Bytes.{Known, FindsEnd, TakesWhole, BreaksLine, PassesLimit, CutsLine, AppendsFront}

-- the line that these bytes are to a hearer
abbrev pub line_in_bytes : Hearer → List ℕ → Result Line LinkFault
line_in_bytes h bytes = if is_utf8 bytes then decoded h bytes else Err NotJson

-- a line's bytes and its line feed were read, and they come to this
pub record ReadsAs (h : Hearer) (old new : Known) (r : Result Line LinkFault) : Type 0 where
  pub text : List ℕ
  pub whole : TakesWhole old new text
  pub comes_to : line_in_bytes h text ≡ r

-- at most one byte more than the limit was read
pub record ReadsLittle (old new : Known) : Type 0 where
  pub part : List ℕ
  pub taken : Consumes old new part
  pub short : length part ≤ MAX_LINE_BYTES + 1

-- a line, or none at an end between lines, or the first fault
abbrev pub ReadsLine : Hearer → Known → Known → Result (Option Line) LinkFault → Type 0
ReadsLine h old new (Ok None) = FindsEnd old new
ReadsLine h old new (Ok (Some line)) = ReadsAs h old new (Ok line)
ReadsLine h old new (Err LineTooLong) = PassesLimit old new
ReadsLine h old new (Err CutLine) = CutsLine old new
ReadsLine h old new (Err ReadFailed) = BreaksLine old new
ReadsLine h old new (Err OutOfMemory) = ReadsLittle old new
ReadsLine h old new (Err e) = ReadsAs h old new (Err e)

-- the line's text, and its line feed
abbrev pub fed : Line → List ℕ
fed line = text_of line ++ 10 ∷ []

-- what a line tells is more than a node takes in: rows and extras, or in the second form rows and ranges
abbrev pub is_above : Telling → Bool
is_above t = is_too_many_in t.form t.told

abbrev pub news_are_too_many : Option Telling → Bool
news_are_too_many None = false
news_are_too_many (Some t) = is_above t

abbrev pub tells_too_many : Line → Bool
tells_too_many (lines_are.Beat k r c t) = news_are_too_many t
tells_too_many (lines_are.Told k t) = is_above t
tells_too_many _ = false

-- Ok: all of it went out, and nothing else. A text that is too long, or for which memory is wanting, leaves nothing.
abbrev pub WritesText : Line → Known → Known → Result Unit LinkFault → Type 0
WritesText line old new (Ok done) = Appends old new (fed line) × (length (text_of line) ≤ MAX_LINE_BYTES)
WritesText line old new (Err LineTooLong) = Keeps old new × (MAX_LINE_BYTES < length (text_of line))
WritesText line old new (Err OutOfMemory) = Keeps old new
WritesText line old new (Err WriteFailed) = AppendsFront old new (fed line)
WritesText line old new (Err e) = ⊥

-- a line that tells too much is too long, whatever memory there is
abbrev pub WritesCounted : Bool → Line → Known → Known → Result Unit LinkFault → Type 0
WritesCounted true line old new r = Keeps old new × (r ≡ Err LineTooLong)
WritesCounted false line old new r = WritesText line old new r

-- the line goes out, whole, unless what it tells or its text is too long
abbrev pub WritesLine : Line → Known → Known → Result Unit LinkFault → Type 0
WritesLine line old new r = WritesCounted (tells_too_many line) line old new r

-- the text that goes out for a line, or why none does
abbrev pub GivesFed : {V : Type 0} → (V → List ℕ) → Line → Result V LinkFault → Type 0
GivesFed view line (Ok text) = (view text ≡ fed line) × (length (text_of line) ≤ MAX_LINE_BYTES)
GivesFed view line (Err LineTooLong) = MAX_LINE_BYTES < length (text_of line)
GivesFed view line (Err OutOfMemory) = Unit {0}
GivesFed view line (Err e) = ⊥
