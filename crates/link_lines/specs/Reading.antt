-- Which line a text is, or the first thing that is wrong with it.
use Rattle.std.specs.Prelude.{◌≡◌, ◌≤◌, ◌<◌, ℕ, List, length, true, nat_lt, if◌then◌else◌, Option, Some, None, Result, Ok, Err}
use Rattle.json.specs.Json as json
use Rattle.json.specs.Token.{Token}
use Rattle.serde_json.specs.Data.{Data, array, Items, no_items, item}
use Rattle.serde_json.specs.Read.{read}
use Rattle.json_parts.specs.Outline.{shallow}
use Rattle.json_parts.specs.Places.{items_data, AtItems}
use Rattle.presence_base.specs.Names.{guarded}
use Rattle.link_lines.specs.declared.lines.Line.{Line}
use Rattle.link_lines.specs.declared.lines.Line.TheVariants as lines_are
use Rattle.link_lines.specs.declared.fault.LinkFault.{LinkFault}
use Rattle.link_lines.specs.declared.fault.LinkFault.TheVariants.{LineTooLong, NotJson, BadLine, BadTold, OutOfMemory}
use Rattle.presence_base.specs.declared.names.TheConstants.{MAX_SHARDS}
use Rattle.link_lines.specs.declared.lines.TheConstants.{MAX_LINE_BYTES}
use Rattle.link_lines.specs.declared.kinds.Kind.{Kind}
use Rattle.link_lines.specs.declared.kinds.Kind.TheVariants as kinds_are
use Rattle.link_lines.specs.declared.hearer.Hearer.{Hearer}
use Rattle.link_lines.specs.declared.telling.TheConstants.{MOST}
use Rattle.link_lines.specs.Arrays.{three_in, Four, four_in, Five, five_in, six_in}
use Rattle.link_lines.specs.Limits.{is_within}
use Rattle.link_lines.specs.Kinds.{kind_in}
use Rattle.link_lines.specs.Members.{whole_in, number_in, count_in, bound_in, replica_in}
use Rattle.link_lines.specs.Results.{◌>>=◌, Answers, or_bad}
use Rattle.link_lines.specs.Told.{told_in, delta_in}
use Rattle.link_lines.specs.Values.{value_of}

-- the number of one of n shards
abbrev pub below : ℕ → ℕ → Option ℕ
below n k = guarded (nat_lt k n) k

abbrev pub hello_with : Data → Data → Data → Option ℕ → Result Line LinkFault
hello_with name incarnation shards version = do
  replica ← or_bad (replica_in name incarnation)
  n ← or_bad (number_in 1 MAX_SHARDS shards)
  Ok (lines_are.Hello replica n version)

-- the fifth member is the version
abbrev pub hello_of_five : Option Five → Result Line LinkFault
hello_of_five None = Err BadLine
hello_of_five (Some m) = or_bad (count_in m.4) >>= (λ v. hello_with m.1 m.2 m.3 (Some v))

abbrev pub hello_of : Option Four → Option Five → Result Line LinkFault
hello_of (Some m) five = hello_with m.1 m.2 m.3 None
hello_of None five = hello_of_five five

-- four members, or five
abbrev pub hello_in : Data → Result Line LinkFault
hello_in d = hello_of (four_in d) (five_in d)

abbrev pub shard_in : ℕ → Data → Result ℕ LinkFault
shard_in n d = do
  k ← or_bad (whole_in d)
  or_bad (below n k)

abbrev pub beat_in : Hearer → Data → Result Line LinkFault
beat_in h d = do
  m ← or_bad (six_in d)
  shard ← shard_in h.shards m.1
  replica ← or_bad (replica_in m.2 m.3)
  count ← or_bad (bound_in m.4)
  delta ← delta_in shard h replica m.5
  Ok (lines_are.Beat shard replica count delta)

abbrev pub want_in : ℕ → Data → Result Line LinkFault
want_in n d = do
  m ← or_bad (five_in d)
  shard ← shard_in n m.1
  replica ← or_bad (replica_in m.2 m.3)
  top ← or_bad (bound_in m.4)
  Ok (lines_are.Want shard replica top)

abbrev pub told_line_in : Hearer → Data → Result Line LinkFault
told_line_in h d = do
  m ← or_bad (three_in d)
  shard ← shard_in h.shards m.1
  told ← told_in shard h m.2
  Ok (lines_are.Told shard told)

abbrev pub permdown_in : Data → Result Line LinkFault
permdown_in d = do
  m ← or_bad (three_in d)
  replica ← or_bad (replica_in m.1 m.2)
  Ok (lines_are.PermDown replica)

abbrev pub gone_in : Data → Result Line LinkFault
gone_in d = do
  m ← or_bad (three_in d)
  replica ← or_bad (replica_in m.1 m.2)
  Ok (lines_are.Gone replica)

-- `["ok"]` alone
abbrev pub ok_items : Items → Result Line LinkFault
ok_items (item d no_items) = Ok lines_are.Ok
ok_items _ = Err BadLine

abbrev pub ok_in : Data → Result Line LinkFault
ok_in (array ds) = ok_items ds
ok_in _ = Err BadLine

abbrev pub line_of_kind : Hearer → Data → Kind → Result Line LinkFault
line_of_kind h d kinds_are.Hello = hello_in d
line_of_kind h d kinds_are.Beat = beat_in h d
line_of_kind h d kinds_are.Want = want_in h.shards d
line_of_kind h d kinds_are.Told = told_line_in h d
line_of_kind h d kinds_are.PermDown = permdown_in d
line_of_kind h d kinds_are.Gone = gone_in d
line_of_kind h d kinds_are.Ok = ok_in d

-- the line that a JSON value is to a hearer
abbrev pub line_in : Hearer → Data → Result Line LinkFault
line_in h d = or_bad (kind_in d) >>= line_of_kind h d

-- in the array in which a reader stands, and that was seen without what is in its members, this is what is read
abbrev pub AnswersArray : List Token → Data → (Data → Result Line LinkFault) → Result Line LinkFault → Type 0
AnswersArray ts seen reading result = (js : json.Items) (rest : List Token) → AtItems ts js rest
    → seen ≡ shallow MOST (array (items_data js)) → Answers result (reading (array (items_data js)))

abbrev pub found_value : Option Data → Result Data LinkFault
found_value None = Err NotJson
found_value (Some d) = Ok d

abbrev pub value_in : List ℕ → Result Data LinkFault
value_in s = if nat_lt MAX_LINE_BYTES (length s) then Err LineTooLong else found_value (read s)

-- the line that a text of any length is to a hearer
abbrev pub line_in_text : Hearer → List ℕ → Result Line LinkFault
line_in_text h s = found_value (read s) >>= line_in h

-- a fault that a text can have
abbrev pub IsTextFault : List ℕ → LinkFault → Type 0
IsTextFault s LineTooLong = MAX_LINE_BYTES < length s
IsTextFault s NotJson = Unit {0}
IsTextFault s BadLine = Unit {0}
IsTextFault s (BadTold f) = Unit {0}
IsTextFault s OutOfMemory = Unit {0}
IsTextFault s _ = ⊥

-- the line that a text is to a hearer
abbrev pub decoded : Hearer → List ℕ → Result Line LinkFault
decoded h s = value_in s >>= line_in h

-- the text is the line's, which may come to this hearer
pub record IsLine (h : Hearer) (s : List ℕ) (line : Line) : Type 0 where
  pub within : is_within h line ≡ true
  pub short : length s ≤ MAX_LINE_BYTES
  pub reads : read s ≡ Some (value_of line)
