-- What bytes come to as a line, and what was written of one.
use Rattle.std.proofs.Common.{◌≡◌, ◌≤◌, ℕ, List, length, Bool, true, false, Result, Ok, Err, refl, subst, arith}
use Rattle.std.specs.Str.{IsUtf8, is_utf8}
use Rattle.std.proofs.lemmas.Str.{IsUtf8-from_is_utf8, is_utf8-from_IsUtf8}
use Rattle.std.specs.Io.KnownBytes.{Appends}
use Rattle.link_lines.specs.declared.lines.Line.{Line}
use Rattle.link_lines.specs.declared.hearer.Hearer.{Hearer}
use Rattle.link_lines.specs.declared.fault.LinkFault.{LinkFault}
use Rattle.link_lines.specs.declared.fault.LinkFault.TheVariants.{LineTooLong, NotJson, BadLine, BadTold, OtherShards, ReadFailed, WriteFailed, OutOfMemory, CutLine}
use Rattle.link_lines.specs.declared.lines.TheConstants.{MAX_LINE_BYTES}
use Rattle.link_lines.specs.Reading.{decoded, IsTextFault}
use Rattle.link_lines.specs.Results.{Answers}
use Rattle.link_lines.specs.Writing.{text_of}
use Rattle.node_links.specs.Bytes.{Known, TakesWhole, AppendsFront, WritesAll}
use Rattle.node_links.specs.Streams.{line_in_bytes, ReadsLine, fed, WritesText}
use Rattle.node_links.proofs.Known.{little_here}

-- bytes that are UTF-8 are what their text is
pub text_line : (n : Hearer) (bytes : List ℕ) → IsUtf8 bytes → line_in_bytes n bytes ≡ decoded n bytes
text_line n bytes utf8 = rw (is_utf8-from_IsUtf8 bytes utf8) refl

no_text : (b : Bool) (bytes : List ℕ) → is_utf8 bytes ≡ b → ¬ (IsUtf8 bytes) → b ≡ false
no_text true bytes e lacks = absurd (lacks (IsUtf8-from_is_utf8 bytes e))
no_text false bytes e lacks = refl

-- others are no JSON
pub not_text : (n : Hearer) (bytes : List ℕ) → ¬ (IsUtf8 bytes) → line_in_bytes n bytes ≡ Err NotJson
not_text n bytes lacks = rw (no_text (is_utf8 bytes) bytes refl lacks) refl

-- a whole line was read that is refused
pub read_fault : (n : Hearer) (a b : Known) (text : List ℕ) (e : LinkFault) → TakesWhole a b text → Answers {X = Line} (Err e) (line_in_bytes n text) → IsTextFault text e → ReadsLine n a b (Err e)
read_fault n a b text LineTooLong whole is of_text = let short = whole.short in absurd (omega arith)
read_fault n a b text NotJson whole is of_text = record { text = text; whole = whole; comes_to = is }
read_fault n a b text BadLine whole is of_text = record { text = text; whole = whole; comes_to = is }
read_fault n a b text (BadTold f) whole is of_text = record { text = text; whole = whole; comes_to = is }
read_fault n a b text OtherShards whole is of_text = absurd of_text
read_fault n a b text ReadFailed whole is of_text = absurd of_text
read_fault n a b text WriteFailed whole is of_text = absurd of_text
read_fault n a b text OutOfMemory whole is of_text = little_here a b text whole
read_fault n a b text CutLine whole is of_text = absurd of_text

-- what was written of these bytes was written of the line
pub written : (line : Line) (a b : Known) (bytes : List ℕ) (r : Result Unit LinkFault) → bytes ≡ fed line → length (text_of line) ≤ MAX_LINE_BYTES → WritesAll a b bytes r → WritesText line a b r
written line a b bytes (Ok done) is short h = (subst (Appends a b) is h, short)
written line a b bytes (Err WriteFailed) is short h = subst (AppendsFront a b) is h
written line a b bytes (Err LineTooLong) is short h = absurd h
written line a b bytes (Err NotJson) is short h = absurd h
written line a b bytes (Err BadLine) is short h = absurd h
written line a b bytes (Err (BadTold f)) is short h = absurd h
written line a b bytes (Err OtherShards) is short h = absurd h
written line a b bytes (Err ReadFailed) is short h = absurd h
written line a b bytes (Err OutOfMemory) is short h = absurd h
written line a b bytes (Err CutLine) is short h = absurd h
