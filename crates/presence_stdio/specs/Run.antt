-- What is said to the lines of an input, up to the first that is refused, and what is written of it.
use Rattle.std.specs.Prelude.{◌≡◌, ◌≤◌, ◌<◌, ◌⊎◌, ℕ, suc, List, [], ◌∷◌, ◌++◌, length, Bool, true, false, Option, Result, Ok, Err}
use Rattle.std.specs.Io.KnownBytes.{Keeps, Consumes, Appends, IsAtEnd}
use Rattle.presence_stdio.specs.declared.fault.LineFault.{LineFault}
use Rattle.presence_stdio.specs.declared.fault.LineFault.TheVariants.{Message as no_message, Session as stopped_by}
use Rattle.presence_stdio.specs.Bytes.{FindsEnd, IsPart, IsWhole, TakesLine, BreaksLine, HasRead, AppendsFront}
use Rattle.phx_message.specs.Lines.{lacks_feed}
use Rattle.presence_stdio.specs.Lines.{lines_of, first_line}
use Rattle.presence_stdio.specs.Reading.{line_limit}
use Rattle.presence_stdio.specs.declared.stream_fault.ReadFault.TheVariants.{Failed, TooManyLines}
use Rattle.presence_stdio.specs.Session.{State, Answer, Speech, silence, and_then, Voice, Says, answer}
use Rattle.presence_stdio.specs.declared.fault.StdioFault.{StdioFault}
use Rattle.presence_stdio.specs.declared.fault.StdioFault.TheVariants.{Line, Session, Read, Write, Memory}

pub data Ending : Type 0 where
  finished : Ending
  refused : LineFault → Ending

-- what is said, how many lines were read, and how it ended
pub record Run : Type 0 where
  pub speech : Speech
  pub lines : ℕ
  pub ending : Ending

abbrev pub behind : Speech → Run → Run
behind speech r = record { speech = and_then speech r.speech; lines = suc r.lines; ending = r.ending }

-- a line to which this is said, and then what follows it
abbrev pub run_next : Speech → Result State LineFault → (State → Run) → Run
run_next speech (Err f) more = record { speech = speech; lines = 1; ending = refused f }
run_next speech (Ok s) more = behind speech (more s)

abbrev pub run_line : Answer → (State → Run) → Run
run_line a more = run_next a.speech a.next more

-- the run of a session over these lines
abbrev pub run : State → List (List ℕ) → Run
run s [] = record { speech = silence; lines = 0; ending = finished }
run s (l ∷ ls) = run_line (answer s l) (λ after. run after ls)

-- ---- the two writers

-- what the writer of texts and that of notices hold, where that is known
pub record Outs : Type 0 where
  pub texts : Option (List ℕ)
  pub notes : Option (List ℕ)

abbrev pub outs : Option (List ℕ) → Option (List ℕ) → Outs
outs texts notes = record { texts = texts; notes = notes }

-- these bytes went out, or some of them and not all: those of texts first
abbrev pub WritesFront : Outs → Outs → List ℕ → List ℕ → Type 0
WritesFront old new text notes =
    (AppendsFront old.texts new.texts text × Keeps old.notes new.notes)
    ⊎ (Appends old.texts new.texts text × AppendsFront old.notes new.notes notes)

abbrev pub Writes : {T : Type 0} → Outs → Outs → List ℕ → List ℕ → Result T StdioFault → Type 0
Writes old new text notes (Ok x) = Appends old.texts new.texts text × Appends old.notes new.notes notes
Writes old new text notes (Err f) = (f ≡ Write) × WritesFront old new text notes

-- nothing went out
abbrev pub KeepsOuts : Outs → Outs → Type 0
KeepsOuts old new = Keeps old.texts new.texts × Keeps old.notes new.notes

-- texts and notices of this went out whole
pub record Sends (v : Voice) (old new : Outs) (speech : Speech) : Type 0 where
  pub text : List ℕ
  pub notes : List ℕ
  pub says : Says v speech text notes
  pub texts_out : Appends old.texts new.texts text
  pub notes_out : Appends old.notes new.notes notes

-- of texts and notices of this some bytes went out, and not all
pub record SendsFront (v : Voice) (old new : Outs) (speech : Speech) : Type 0 where
  pub text : List ℕ
  pub notes : List ℕ
  pub says : Says v speech text notes
  pub out : WritesFront old new text notes

-- ---- what a run wrote

-- the whole run went out
pub record TellsAll (v : Voice) (max : ℕ) (old new : Outs) (r : Run) (n : ℕ) (ending : Ending) : Type 0 where
  pub sent : Sends v old new r.speech
  pub lines : r.lines ≡ n
  pub ends : r.ending ≡ ending
  pub few : n ≤ max

-- what these lines are answered went out whole, and then a part of what the next line is
pub record BreaksOff (v : Voice) (s : State) (old new : Outs) (lines : List (List ℕ)) (line : List ℕ) : Type 0 where
  pub done : Speech
  pub next : Speech
  pub answered : run s lines ≡ record { speech = done; lines = length lines; ending = finished }
  pub follows : (run s (lines ++ line ∷ [])).speech ≡ and_then done next
  pub between : Outs
  pub sent : Sends v old between done
  pub front : SendsFront v between new next

-- the next line was refused, and what was said to it went out
abbrev pub RefusesLine : Voice → ℕ → State → List (List ℕ) → List ℕ → Option (List ℕ) → Outs → Outs → ℕ → LineFault
    → Type 0
RefusesLine v max s lines part left old new n f = IsWhole line_limit part left
    × TellsAll v max old new (run s (lines ++ first_line part ∷ [])) n (refused f)

-- What was written where these lines were read and answered, and then these bytes were read. Of more lines than are allowed a byte is read.
abbrev pub ToldBy : Voice → ℕ → State → List (List ℕ) → List ℕ → Option (List ℕ) → Outs → Outs → Result ℕ StdioFault
    → Type 0
ToldBy v max s lines part left old new (Ok n) = (part ≡ []) × IsAtEnd left
    × TellsAll v max old new (run s lines) n finished
ToldBy v max s lines part left old new (Err (Line n f)) = RefusesLine v max s lines part left old new n (no_message f)
ToldBy v max s lines part left old new (Err (Session n f)) =
    RefusesLine v max s lines part left old new n (stopped_by f)
ToldBy v max s lines part left old new (Err (Read Failed)) =
    TellsAll v max old new (run s lines) (length lines) finished × IsPart line_limit part × (lacks_feed part ≡ true)
ToldBy v max s lines part left old new (Err (Read TooManyLines)) =
    TellsAll v max old new (run s lines) (length lines) finished × (length lines ≡ max) × (length part ≡ 1)
ToldBy v max s lines part left old new (Err Write) = IsWhole line_limit part left
    × BreaksOff v s old new lines (first_line part) × (length lines < max)
ToldBy v max s lines part left old new (Err Memory) = IsPart line_limit part
    × TellsAll v max old new (run s lines) (length lines) finished

-- What a run read and wrote, by how it ended.
pub record Tells (v : Voice) (max : ℕ) (s : State) (before left : Option (List ℕ)) (old new : Outs)
    (r : Result ℕ StdioFault) : Type 0 where
  pub lines : List (List ℕ)
  pub part : List ℕ
  pub read : HasRead line_limit before left lines part
  pub told : ToldBy v max s lines part left old new r

-- a run that comes to the end or to a refused line tells what the lines of the whole input do
abbrev pub TellsInput : Voice → ℕ → State → Outs → Outs → List ℕ → Result ℕ StdioFault → Type 0
TellsInput v max s old new input (Ok n) = TellsAll v max old new (run s (lines_of input)) n finished
TellsInput v max s old new input (Err (Line n f)) =
    TellsAll v max old new (run s (lines_of input)) n (refused (no_message f))
TellsInput v max s old new input (Err (Session n f)) =
    TellsAll v max old new (run s (lines_of input)) n (refused (stopped_by f))
TellsInput v max s old new input (Err (Read f)) = Unit {0}
TellsInput v max s old new input (Err Write) = Unit {0}
TellsInput v max s old new input (Err Memory) = Unit {0}

-- ---- one line

-- what is said to the line went out, and this follows it
pub record AnswersLine (v : Voice) (s : State) (next : Result State LineFault) (old new : Outs)
    (line : List ℕ) : Type 0 where
  pub follows : (answer s line).next ≡ next
  pub sent : Sends v old new (answer s line).speech

abbrev pub AnswerOf : {T : Type 0} → Voice → ℕ → State → State → Outs → Outs → List ℕ → Result T StdioFault → Type 0
AnswerOf v n s after old new line (Ok x) = AnswersLine v s (Ok after) old new line
AnswerOf v n s after old new line (Err (Line k f)) = (k ≡ n) × AnswersLine v s (Err (no_message f)) old new line
AnswerOf v n s after old new line (Err (Session k f)) = (k ≡ n) × AnswersLine v s (Err (stopped_by f)) old new line
AnswerOf v n s after old new line (Err (Read f)) = ⊥
AnswerOf v n s after old new line (Err Write) = SendsFront v old new (answer s line).speech
AnswerOf v n s after old new line (Err Memory) = KeepsOuts old new

-- ---- one turn: a line of the input is read and answered

pub record TurnsLine (v : Voice) (s : State) (next : Result State LineFault) (before left : Option (List ℕ))
    (old new : Outs) : Type 0 where
  pub line : List ℕ
  pub read : TakesLine line_limit before left line
  pub answers : AnswersLine v s next old new line

pub record LosesLine (v : Voice) (s : State) (before left : Option (List ℕ)) (old new : Outs) : Type 0 where
  pub line : List ℕ
  pub read : TakesLine line_limit before left line
  pub part : SendsFront v old new (answer s line).speech

-- some of a line was read, and nothing written
pub record Stops (before left : Option (List ℕ)) (old new : Outs) : Type 0 where
  pub part : List ℕ
  pub taken : Consumes before left part
  pub is_part : IsPart line_limit part
  pub kept : KeepsOuts old new

abbrev pub TurnOf : Voice → ℕ → State → State → Option (List ℕ) → Option (List ℕ) → Outs → Outs
    → Result Bool StdioFault → Type 0
TurnOf v n s after before left old new (Ok true) = TurnsLine v s (Ok after) before left old new
TurnOf v n s after before left old new (Ok false) = FindsEnd before left × KeepsOuts old new
TurnOf v n s after before left old new (Err (Line k f)) = (k ≡ n)
    × TurnsLine v s (Err (no_message f)) before left old new
TurnOf v n s after before left old new (Err (Session k f)) = (k ≡ n)
    × TurnsLine v s (Err (stopped_by f)) before left old new
TurnOf v n s after before left old new (Err (Read TooManyLines)) = ⊥
TurnOf v n s after before left old new (Err (Read Failed)) = BreaksLine line_limit before left × KeepsOuts old new
TurnOf v n s after before left old new (Err Write) = LosesLine v s before left old new
TurnOf v n s after before left old new (Err Memory) = Stops before left old new
