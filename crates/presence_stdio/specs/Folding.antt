-- What frames are folded to, one a line, up to the first line that is refused.
use Rattle.std.specs.Prelude.{◌≡◌, ◌≤◌, ◌<◌, ◌+◌, ℕ, List, [], ◌∷◌, ◌++◌, length, Bool, true, false, Option, Result, Ok, Err}
use Rattle.std.specs.Io.KnownBytes.{Keeps, Consumes, Appends, IsAtEnd}
use Rattle.phx_message.specs.declared.message.Message.{Message}
use Rattle.phx_message.specs.declared.message.MessageFault.{MessageFault}
use Rattle.presence_metas.specs.declared.frame.Frame.{Frame}
use Rattle.presence_metas.specs.declared.frame.FrameFault.{FrameFault}
use Rattle.presence_metas.specs.declared.frame.FrameFault.TheVariants.{NotPresence, BadShape, NoRef, OutOfMemory}
use Rattle.presence_metas.specs.Frames.{frame_in}
use Rattle.presence_stdio.specs.Bytes.{FindsEnd, IsPart, IsWhole, TakesLine, BreaksLine, HasRead, AppendsFront}
use Rattle.phx_message.specs.Lines.{lacks_feed}
use Rattle.presence_stdio.specs.Lines.{lines_of, first_line}
use Rattle.presence_stdio.specs.Mirrors.{Mirrors, with_frame, mirrors_text}
use Rattle.presence_stdio.specs.Reading.{frame_message, frame_limit}
use Rattle.presence_stdio.specs.declared.stream_fault.ReadFault.TheVariants.{Failed, TooManyLines}
use Rattle.presence_stdio.specs.declared.fold_fault.FoldFault.{FoldFault}
use Rattle.presence_stdio.specs.declared.fold_fault.FoldFault.TheVariants.{Line, Frame as BadFrame, Read, Write, Memory}

-- the nth line's frame is folded in; a message of another event is skipped
abbrev pub fold_frame : ℕ → Mirrors → Message → Result Frame FrameFault → Result Mirrors FoldFault
fold_frame n ms m (Ok f) = Ok (with_frame ms m.topic f)
fold_frame n ms m (Err NotPresence) = Ok ms
fold_frame n ms m (Err e) = Err (BadFrame n e)

abbrev pub fold_message : ℕ → Mirrors → Result Message MessageFault → Result Mirrors FoldFault
fold_message n ms (Ok m) = fold_frame n ms m (frame_in m)
fold_message n ms (Err f) = Err (Line n f)

abbrev pub fold_line : ℕ → Mirrors → List ℕ → Result Mirrors FoldFault
fold_line n ms line = fold_message n ms (frame_message line)

abbrev pub fold_on : Result Mirrors FoldFault → (Mirrors → Result Mirrors FoldFault) → Result Mirrors FoldFault
fold_on (Ok ms) more = more ms
fold_on (Err e) more = Err e

-- the lists after these lines, the first of which is the nth, or the first refusal
abbrev pub folded : ℕ → Mirrors → List (List ℕ) → Result Mirrors FoldFault
folded n ms [] = Ok ms
folded n ms (l ∷ ls) = fold_on (fold_line n ms l) (λ after. folded (n + 1) after ls)

-- what the lines of a whole input are folded to
abbrev pub folded_input : List ℕ → Result Mirrors FoldFault
folded_input input = folded 1 [] (lines_of input)

-- ---- reading

-- lines that are folded
abbrev pub FoldsTo : List (List ℕ) → Mirrors → Type 0
FoldsTo lines ms = folded 1 [] lines ≡ Ok ms

abbrev pub Folds : List (List ℕ) → Type 0
Folds lines = (ms : Mirrors) × FoldsTo lines ms

-- What it comes to that these lines were read and folded, and then these bytes were read. Of more lines than are allowed a byte is read.
abbrev pub FoldedBy : ℕ → List (List ℕ) → List ℕ → Option (List ℕ) → Result Mirrors FoldFault → Type 0
FoldedBy max lines part left (Ok ms) = (part ≡ []) × IsAtEnd left × FoldsTo lines ms
FoldedBy max lines part left (Err (Line n f)) = IsWhole frame_limit part left
    × (folded 1 [] (lines ++ first_line part ∷ []) ≡ Err (Line n f)) × (length lines < max)
FoldedBy max lines part left (Err (BadFrame n f)) = IsWhole frame_limit part left
    × (folded 1 [] (lines ++ first_line part ∷ []) ≡ Err (BadFrame n f)) × (length lines < max)
FoldedBy max lines part left (Err (Read Failed)) = Folds lines × IsPart frame_limit part × (lacks_feed part ≡ true)
FoldedBy max lines part left (Err (Read TooManyLines)) = Folds lines × (length lines ≡ max) × (length part ≡ 1)
FoldedBy max lines part left (Err Memory) = Folds lines × IsPart frame_limit part
FoldedBy max lines part left (Err Write) = ⊥

-- What was read of frames, and what it was folded to or why not.
pub record ReadsFrames (max : ℕ) (before left : Option (List ℕ)) (r : Result Mirrors FoldFault) : Type 0 where
  pub lines : List (List ℕ)
  pub part : List ℕ
  pub few : length lines ≤ max
  pub read : HasRead frame_limit before left lines part
  pub told : FoldedBy max lines part left r

-- ---- printing

-- the object of the lists went out, or of a fault of the writer a part of it
abbrev pub Prints : Mirrors → Option (List ℕ) → Option (List ℕ) → Result (Unit {0}) FoldFault → Type 0
Prints ms old new (Ok x) = Appends old new (mirrors_text ms)
Prints ms old new (Err Write) = AppendsFront old new (mirrors_text ms)
Prints ms old new (Err Memory) = Keeps old new
Prints ms old new (Err (Read f)) = ⊥
Prints ms old new (Err (Line n f)) = ⊥
Prints ms old new (Err (BadFrame n f)) = ⊥

-- nothing goes out where the lines are refused
abbrev pub PrintsRead : Result Mirrors FoldFault → Option (List ℕ) → Option (List ℕ) → Result (Unit {0}) FoldFault
    → Type 0
PrintsRead (Ok ms) old new r = Prints ms old new r
PrintsRead (Err e) old new r = (r ≡ Err e) × Keeps old new

-- What a fold read, and what it printed of it.
pub record TellsFold (max : ℕ) (before left old new : Option (List ℕ)) (r : Result (Unit {0}) FoldFault) : Type 0 where
  pub read : Result Mirrors FoldFault
  pub lines : ReadsFrames max before left read
  pub told : PrintsRead read old new r

-- Of a whole input: its object, or its first refusal and nothing printed.
abbrev pub FoldsInput : List ℕ → Option (List ℕ) → Option (List ℕ) → Result (Unit {0}) FoldFault → Type 0
FoldsInput input old new (Ok x) = (ms : Mirrors) × (folded_input input ≡ Ok ms) × Appends old new (mirrors_text ms)
FoldsInput input old new (Err (Line n f)) = (folded_input input ≡ Err (Line n f)) × Keeps old new
FoldsInput input old new (Err (BadFrame n f)) = (folded_input input ≡ Err (BadFrame n f)) × Keeps old new
FoldsInput input old new (Err (Read f)) = Keeps old new
FoldsInput input old new (Err Write) = (ms : Mirrors) × (folded_input input ≡ Ok ms)
    × AppendsFront old new (mirrors_text ms)
FoldsInput input old new (Err Memory) = Keeps old new

-- ---- one line

-- the nth line was folded in, or refused, unless memory ran out
abbrev pub FoldsLine : {T : Type 0} → ℕ → Mirrors → Mirrors → List ℕ → Result T FoldFault → Type 0
FoldsLine n ms after line (Ok x) = fold_line n ms line ≡ Ok after
FoldsLine n ms after line (Err (Line k f)) = fold_line n ms line ≡ Err (Line k f)
FoldsLine n ms after line (Err (BadFrame k f)) = fold_line n ms line ≡ Err (BadFrame k f)
FoldsLine n ms after line (Err (Read f)) = ⊥
FoldsLine n ms after line (Err Write) = ⊥
FoldsLine n ms after line (Err Memory) = Unit {0}

-- the same of a message and of what it carries
abbrev pub FoldsMessage : Mirrors → Mirrors → Message → Result (Unit {0}) FrameFault → Type 0
FoldsMessage ms after m (Ok x) = (n : ℕ) → fold_frame n ms m (frame_in m) ≡ Ok after
FoldsMessage ms after m (Err NotPresence) = ⊥
FoldsMessage ms after m (Err BadShape) = frame_in m ≡ Err BadShape
FoldsMessage ms after m (Err NoRef) = frame_in m ≡ Err NoRef
FoldsMessage ms after m (Err OutOfMemory) = Unit {0}

-- ---- one turn: a line of the input is read and folded in

pub record FoldsTurn (n : ℕ) (ms : Mirrors) (before left : Option (List ℕ))
    (r : Result Mirrors FoldFault) : Type 0 where
  pub line : List ℕ
  pub read : TakesLine frame_limit before left line
  pub folds : fold_line n ms line ≡ r

pub record StopsFold (before left : Option (List ℕ)) : Type 0 where
  pub part : List ℕ
  pub taken : Consumes before left part
  pub is_part : IsPart frame_limit part

abbrev pub FoldTurnOf : ℕ → Mirrors → Mirrors → Option (List ℕ) → Option (List ℕ) → Result Bool FoldFault → Type 0
FoldTurnOf n ms after before left (Ok true) = FoldsTurn n ms before left (Ok after)
FoldTurnOf n ms after before left (Ok false) = FindsEnd before left × (after ≡ ms)
FoldTurnOf n ms after before left (Err (Line k f)) = FoldsTurn n ms before left (Err (Line k f))
FoldTurnOf n ms after before left (Err (BadFrame k f)) = FoldsTurn n ms before left (Err (BadFrame k f))
FoldTurnOf n ms after before left (Err (Read Failed)) = BreaksLine frame_limit before left
FoldTurnOf n ms after before left (Err (Read TooManyLines)) = ⊥
FoldTurnOf n ms after before left (Err Write) = ⊥
FoldTurnOf n ms after before left (Err Memory) = StopsFold before left

-- the result with its lists seen
abbrev pub seen : {V : Type 0} → (V → Mirrors) → Result V FoldFault → Result Mirrors FoldFault
seen view (Ok v) = Ok (view v)
seen view (Err e) = Err e
