-- One turn of a fold, and a fold of turns.
use Rattle.std.proofs.Common.{◌≡◌, ◌≤◌, ◌<◌, ◌+◌, ℕ, List, [], ◌∷◌, ◌++◌, length, Option, Some, None, IfSome, Result, Ok, Err, refl, sym, ap, subst, ◌∙◌, append_assoc, arith, rules}
use Rattle.std.proofs.lemmas.Grind.{common_steps}
use Rattle.std.specs.Io.KnownBytes.{Keeps, Consumes}
use Rattle.phx_message.specs.declared.message.MessageFault.{MessageFault}
use Rattle.phx_message.specs.declared.message.MessageFault.TheVariants.{TooLong}
use Rattle.phx_message.specs.declared.message.TheConstants.Limits as the_limits
use Rattle.presence_stdio.specs.declared.stream_fault.ReadFault.TheVariants.{Failed, TooManyLines}
use Rattle.presence_stdio.specs.declared.fold_fault.FoldFault.{FoldFault}
use Rattle.presence_stdio.specs.declared.fold_fault.FoldFault.TheVariants.{Line, Frame as BadFrame, Read, Write, Memory}
use Rattle.presence_stdio.specs.Bytes.{FindsEnd, IsWhole, TakesLine, HasRead}
use Rattle.presence_stdio.specs.Lines.{lines_of, first_line, after_line}
use Rattle.presence_stdio.specs.Mirrors.{Mirrors}
use Rattle.presence_stdio.specs.Reading.{frame_message, frame_limit}
use Rattle.presence_stdio.specs.Folding.{fold_message, fold_line, fold_on, folded, folded_input, ReadsFrames, Prints, PrintsRead, TellsFold, FoldsInput, FoldsLine, FoldsTurn, FoldTurnOf}
use Rattle.presence_stdio.proofs.Fronts.{all_lines, kept_front}
use Rattle.presence_stdio.proofs.Messages.{too_long, kept_within}
use Rattle.presence_stdio.proofs.Splits.{lines_of-first}
use Rattle.presence_stdio.proofs.Taken.{reads_none, reads_part, reads_more, none_part}
use Rattle.presence_stdio.proofs.Known.{consumes-itself, consumes-keeps}

-- ---- one turn

-- a line was read, and a fault came
pub turn_refused : (n : ℕ) (ms after : Mirrors) (before left : Option (List ℕ)) (line shown : List ℕ) (fault : FoldFault) → TakesLine frame_limit before left line → shown ≡ line
    → FoldsLine {T = Unit {0}} n ms after shown (Err fault) → FoldTurnOf n ms after before left (Err fault)
turn_refused n ms after before left line shown (Line k f) t e a = record { line = line; read = t; folds = ap (fold_line n ms) (sym e) ∙ a }
turn_refused n ms after before left line shown (BadFrame k f) t e a = record { line = line; read = t; folds = ap (fold_line n ms) (sym e) ∙ a }
turn_refused n ms after before left line shown (Read f) t e a = absurd a
turn_refused n ms after before left line shown Write t e a = absurd a
turn_refused n ms after before left line shown Memory t e a = record { part = t.part; taken = t.taken; is_part = t.is_whole.is_part }

two_ends : {A : Type 0} (ms : A) (n : ℕ) (f : MessageFault) → Err (Line n f) ≡ Ok ms → ⊥
two_ends ms n f h = cc

or_longer : (n k : ℕ) → (n < k → ⊥) → k ≤ n
or_longer n k h = omega (arith, h)

-- a line that is folded is whole
is_whole : (n : ℕ) (ms after : Mirrors) (line : List ℕ) → fold_line n ms line ≡ Ok after → length line ≤ frame_limit
is_whole n ms after line h = or_longer frame_limit (length line) (λ long. two_ends after n TooLong (sym (ap (fold_message n ms) (too_long the_limits.FRAME line long)) ∙ h))

-- ---- a fold

-- these first lines are folded to these lists, whatever lines follow
pub record GoesTo (front : List (List ℕ)) (ms : Mirrors) (n : ℕ) : Type 0 where
  pub goes : (ls : List (List ℕ)) → folded 1 [] (front ++ ls) ≡ folded (n + 1) ms ls

goes_more : (front : List (List ℕ)) (ms after : Mirrors) (n : ℕ) (l : List ℕ) → GoesTo front ms n → fold_line (n + 1) ms l ≡ Ok after → GoesTo (front ++ l ∷ []) after (n + 1)
goes_more front ms after n l h e = record {
  goes = λ ls. ap (folded 1 []) (append_assoc front (l ∷ []) ls) ∙ h.goes (l ∷ ls) ∙ ap (λ r. fold_on r (λ next. folded (n + 1 + 1) next ls)) e;
}

-- where a fold stands: the lines behind it
pub record StandsAt (before left : Option (List ℕ)) (ms : Mirrors) (n : ℕ) : Type 0 where
  pub lines : List (List ℕ)
  pub read : HasRead frame_limit before left lines []
  pub count : length lines ≡ n
  pub going : GoesTo lines ms n

pub fold_start : (before : Option (List ℕ)) (ms : Mirrors) → ms ≡ [] → StandsAt before before ms 0
fold_start before ms e = record { lines = []; read = reads_none frame_limit before; count = refl; going = record { goes = λ ls. ap (λ m. folded 1 m ls) (sym e) } }

pub fold_more : (before mid left : Option (List ℕ)) (ms after : Mirrors) (n : ℕ) → StandsAt before mid ms n → FoldsTurn (n + 1) ms mid left (Ok after) → StandsAt before left after (n + 1)
fold_more before mid left ms after n st t = record {
  lines = st.lines ++ t.line ∷ [];
  read = reads_more frame_limit before mid left st.lines t.line st.read t.read (is_whole (n + 1) ms after t.line t.folds);
  count = counted st.lines t.line n st.count;
  going = goes_more st.lines ms after n t.line st.going t.folds;
}
  where
    counted : (xs : List (List ℕ)) (x : List ℕ) (n : ℕ) → length xs ≡ n → length (xs ++ x ∷ []) ≡ n + 1
    counted xs x n h = grind (arith, common_steps)

none_more : {A : Type 0} (xs : List A) → xs ++ [] ≡ xs
none_more xs = search rules

front_folds : (before left : Option (List ℕ)) (ms : Mirrors) (n : ℕ) (st : StandsAt before left ms n) → folded 1 [] st.lines ≡ Ok ms
front_folds before left ms n st = ap (folded 1 []) (sym (none_more st.lines)) ∙ st.going.goes []

-- the end of the input
pub folds_last : (max : ℕ) (before mid left : Option (List ℕ)) (ms : Mirrors) (n : ℕ) → StandsAt before mid ms n → n ≤ max → FindsEnd mid left → ReadsFrames max before left (Ok ms)
folds_last max before mid left ms n st few ended = record {
  lines = st.lines;
  part = [];
  few = let same = st.count in omega arith;
  read = reads_part frame_limit before mid left st.lines [] st.read ended.0;
  told = (refl, ended.1, front_folds before mid ms n st);
}

pub folds_end : (max : ℕ) (before mid left : Option (List ℕ)) (ms after : Mirrors) (n : ℕ) → StandsAt before mid ms n → n ≤ max → FindsEnd mid left × (after ≡ ms) → ReadsFrames max before left (Ok after)
folds_end max before mid left ms after n st few turned = subst (λ m. ReadsFrames max before left (Ok m)) (sym turned.1) (folds_last max before mid left ms n st few turned.0)

-- the line of this turn is refused, and no line after it is looked at
refused_here : (before mid left : Option (List ℕ)) (ms : Mirrors) (n : ℕ) (fault : FoldFault) (st : StandsAt before mid ms n) (t : FoldsTurn (n + 1) ms mid left (Err fault))
    → folded 1 [] (st.lines ++ first_line t.read.part ∷ []) ≡ Err fault
refused_here before mid left ms n fault st t =
    st.going.goes (first_line t.read.part ∷ []) ∙ ap (λ r. fold_on r (λ next. folded (n + 1 + 1) next [])) (ap (fold_line (n + 1) ms) t.read.is_line ∙ t.folds)

-- a fault in a turn
pub folds_fault : (max : ℕ) (before mid left : Option (List ℕ)) (ms after : Mirrors) (n : ℕ) (fault : FoldFault) → StandsAt before mid ms n → n < max
    → FoldTurnOf (n + 1) ms after mid left (Err fault) → ReadsFrames max before left (Err fault)
folds_fault max before mid left ms after n (Line k f) st few t = record {
  lines = st.lines;
  part = t.read.part;
  few = let same = st.count in omega arith;
  read = reads_part frame_limit before mid left st.lines t.read.part st.read t.read.taken;
  told = (t.read.is_whole, refused_here before mid left ms n (Line k f) st t, let same = st.count in omega arith);
}
folds_fault max before mid left ms after n (BadFrame k f) st few t = record {
  lines = st.lines;
  part = t.read.part;
  few = let same = st.count in omega arith;
  read = reads_part frame_limit before mid left st.lines t.read.part st.read t.read.taken;
  told = (t.read.is_whole, refused_here before mid left ms n (BadFrame k f) st t, let same = st.count in omega arith);
}
folds_fault max before mid left ms after n (Read TooManyLines) st few t = absurd t
folds_fault max before mid left ms after n (Read Failed) st few t = record {
  lines = st.lines;
  part = t.part;
  few = let same = st.count in omega arith;
  read = reads_part frame_limit before mid left st.lines t.part st.read t.taken;
  told = ((ms, front_folds before mid ms n st), t.is_part, t.plain);
}
folds_fault max before mid left ms after n Write st few t = absurd t
folds_fault max before mid left ms after n Memory st few t = record {
  lines = st.lines;
  part = t.part;
  few = let same = st.count in omega arith;
  read = reads_part frame_limit before mid left st.lines t.part st.read t.taken;
  told = ((ms, front_folds before mid ms n st), t.is_part);
}

-- a byte follows the last line that may be read
pub folds_beyond : (max : ℕ) (before mid left : Option (List ℕ)) (ms : Mirrors) (n : ℕ) → StandsAt before mid ms n → n ≡ max → (b : ℕ) × Consumes mid left (b ∷ []) → ReadsFrames max before left (Err (Read TooManyLines))
folds_beyond max before mid left ms n st e more = record {
  lines = st.lines;
  part = more.0 ∷ [];
  few = let same = st.count in omega arith;
  read = reads_part frame_limit before mid left st.lines (more.0 ∷ []) st.read more.1;
  told = ((ms, front_folds before mid ms n st), st.count ∙ e, refl);
}

-- or it can't be told what follows
pub folds_unread : (max : ℕ) (before mid left : Option (List ℕ)) (ms : Mirrors) (n : ℕ) → StandsAt before mid ms n → n ≡ max → Keeps mid left → ReadsFrames max before left (Err (Read Failed))
folds_unread max before mid left ms n st e kept = record {
  lines = st.lines;
  part = [];
  few = let same = st.count in omega arith;
  read = reads_part frame_limit before mid left st.lines [] st.read (consumes-keeps mid mid left [] (consumes-itself mid) kept);
  told = ((ms, front_folds before mid ms n st), none_part frame_limit, refl);
}

-- ---- what is told of the whole input

err_differs : {A P : Type 0} (e : FoldFault) (x : A) → Ok x ≡ Err e → P
err_differs e x h = cc

same_on : (r : Result Mirrors FoldFault) (f g : Mirrors → Result Mirrors FoldFault) → ((ms : Mirrors) → f ms ≡ g ms) → fold_on r f ≡ fold_on r g
same_on (Ok ms) f g h = h ms
same_on (Err e) f g h = refl

-- what is kept of a line folds the same
same_last : (n : ℕ) (ms : Mirrors) (lines : List (List ℕ)) (l m : List ℕ) → frame_message l ≡ frame_message m → folded n ms (lines ++ l ∷ []) ≡ folded n ms (lines ++ m ∷ [])
same_last n ms [] l m e = ap (λ r. fold_on (fold_message n ms r) (λ after. Ok after)) e
same_last n ms (x ∷ lines) l m e = same_on (fold_line n ms x) _ _ (λ after. same_last (n + 1) after lines l m e)

refused_stays : (n : ℕ) (ms : Mirrors) (xs ys : List (List ℕ)) (e : FoldFault) → folded n ms xs ≡ Err e → folded n ms (xs ++ ys) ≡ Err e
refused_stays n ms [] ys e h = err_differs e ms h
refused_stays n ms (x ∷ xs) ys e h = at_line (fold_line n ms x) (λ after k. refused_stays (n + 1) after xs ys e k) h
  where
    at_line : (r : Result Mirrors FoldFault) → ((after : Mirrors) → folded (n + 1) after xs ≡ Err e → folded (n + 1) after (xs ++ ys) ≡ Err e)
        → fold_on r (λ after. folded (n + 1) after xs) ≡ Err e → fold_on r (λ after. folded (n + 1) after (xs ++ ys)) ≡ Err e
    at_line (Ok after) more h = more after h
    at_line (Err f) more h = h

first_some : (part rest : List ℕ) → 0 < length part → 0 < length (part ++ rest)
first_some part rest h = grind (arith, common_steps)

refused_input : (input : List ℕ) (left : Option (List ℕ)) (lines : List (List ℕ)) (part : List ℕ) (e : FoldFault) → HasRead frame_limit (Some input) left lines part → IsWhole frame_limit part left
    → folded 1 [] (lines ++ first_line part ∷ []) ≡ Err e → folded_input input ≡ Err e
refused_input input None lines part e h w refused = absurd h.splits
refused_input input (Some rest) lines part e h w refused =
    let line = first_line (part ++ rest) in
    let more = lines_of (after_line (part ++ rest)) in
    let alike = same_last 1 [] lines (first_line part) line (ap frame_message (kept_front frame_limit part rest w) ∙ kept_within the_limits.FRAME line) in
    ap (folded 1 []) (h.splits.begins ∙ ap (λ ls. lines ++ ls) (lines_of-first (part ++ rest) (first_some part rest w.some)) ∙ sym (append_assoc lines (line ∷ []) more))
    ∙ refused_stays 1 [] (lines ++ line ∷ []) more e (sym alike ∙ refused)

folded_all : (max : ℕ) (input : List ℕ) (left : Option (List ℕ)) (ms : Mirrors) → ReadsFrames max (Some input) left (Ok ms) → folded_input input ≡ Ok ms
folded_all max input left ms r = ap (folded 1 []) (all_lines frame_limit input left r.lines r.part r.read r.told.0 r.told.1) ∙ r.told.2

refused_all : (max : ℕ) (input : List ℕ) (left old new : Option (List ℕ)) (e : FoldFault) → ReadsFrames max (Some input) left (Err e) → Keeps old new → FoldsInput input old new (Err e)
refused_all max input left old new (Line n f) r kept = (refused_input input left r.lines r.part (Line n f) r.read r.told.0 r.told.1, kept)
refused_all max input left old new (BadFrame n f) r kept = (refused_input input left r.lines r.part (BadFrame n f) r.read r.told.0 r.told.1, kept)
refused_all max input left old new (Read f) r kept = kept
refused_all max input left old new Write r kept = absurd r.told
refused_all max input left old new Memory r kept = kept

printed_all : (max : ℕ) (input : List ℕ) (left old new : Option (List ℕ)) (ms : Mirrors) (r : Result (Unit {0}) FoldFault) → ReadsFrames max (Some input) left (Ok ms) → Prints ms old new r → FoldsInput input old new r
printed_all max input left old new ms (Ok x) all p = (ms, folded_all max input left ms all, p)
printed_all max input left old new ms (Err Write) all p = (ms, folded_all max input left ms all, p)
printed_all max input left old new ms (Err Memory) all p = p
printed_all max input left old new ms (Err (Read f)) all p = absurd p
printed_all max input left old new ms (Err (Line n f)) all p = absurd p
printed_all max input left old new ms (Err (BadFrame n f)) all p = absurd p

input_told : (max : ℕ) (input : List ℕ) (left old new : Option (List ℕ)) (read : Result Mirrors FoldFault) (r : Result (Unit {0}) FoldFault) → ReadsFrames max (Some input) left read → PrintsRead read old new r → FoldsInput input old new r
input_told max input left old new (Ok ms) r all p = printed_all max input left old new ms r all p
input_told max input left old new (Err e) r all p = subst (λ r. FoldsInput input old new r) (sym p.0) (refused_all max input left old new e all p.1)

pub fold_told : (max : ℕ) (before left old new : Option (List ℕ)) (r : Result (Unit {0}) FoldFault) → TellsFold max before left old new r → IfSome before (λ input. FoldsInput input old new r)
fold_told max None left old new r t = tt
fold_told max (Some input) left old new r t = input_told max input left old new t.read r t.lines t.told
