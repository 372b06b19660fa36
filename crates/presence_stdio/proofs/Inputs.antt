-- What a run tells of an input whose bytes are known.
use Rattle.std.proofs.Common.{◌≡◌, ◌<◌, ℕ, List, [], ◌∷◌, ◌++◌, length, Option, Some, None, IfSome, Result, Ok, Err, refl, sym, ap, subst, ◌∙◌, append_assoc, arith}
use Rattle.std.proofs.lemmas.Grind.{common_steps}
use Rattle.presence_stdio.specs.declared.fault.LineFault.{LineFault}
use Rattle.presence_stdio.specs.declared.fault.LineFault.TheVariants.{Message as no_message, Session as stopped_by}
use Rattle.presence_stdio.specs.declared.fault.StdioFault.{StdioFault}
use Rattle.presence_stdio.specs.declared.fault.StdioFault.TheVariants.{Line, Session, Read, Write, Memory}
use Rattle.presence_stdio.specs.Bytes.{IsWhole, HasRead}
use Rattle.presence_stdio.specs.Lines.{lines_of, first_line, after_line}
use Rattle.presence_stdio.specs.Reading.{line_limit}
use Rattle.presence_stdio.specs.Session.{State, Answer, Speech, Voice, answer}
use Rattle.presence_stdio.specs.Run.{finished, refused, Run, behind, run_next, run_line, run, Outs, TellsAll, Tells, TellsInput}
use Rattle.presence_stdio.proofs.Fronts.{all_lines, kept_front}
use Rattle.presence_stdio.proofs.Splits.{lines_of-first}
use Rattle.presence_stdio.proofs.Sessions.{kept_answer}

-- ---- the first line that is refused ends a run

next_same : (speech : Speech) (next : Result State LineFault) (f g : State → Run) → ((t : State) → f t ≡ g t) → run_next speech next f ≡ run_next speech next g
next_same speech (Ok t) f g e = ap (behind speech) (e t)
next_same speech (Err k) f g e = refl

-- what is kept of a line tells the same
same_last : (s : State) (lines : List (List ℕ)) (l m : List ℕ) → ((t : State) → answer t l ≡ answer t m) → run s (lines ++ l ∷ []) ≡ run s (lines ++ m ∷ [])
same_last s [] l m e = ap (λ (a : Answer). run_line a (λ after. run after [])) (e s)
same_last s (x ∷ lines) l m e = next_same (answer s x).speech (answer s x).next _ _ (λ t. same_last t lines l m e)

not_refused : (f : LineFault) → finished ≡ refused f → ⊥
not_refused f h = cc

refused_stays : (s : State) (xs ys : List (List ℕ)) (f : LineFault) → (run s xs).ending ≡ refused f → run s (xs ++ ys) ≡ run s xs
refused_stays s [] ys f h = absurd (not_refused f h)
refused_stays s (x ∷ xs) ys f h = at_next (answer s x).speech (answer s x).next (λ t k. refused_stays t xs ys f k) h
  where
    at_next : (speech : Speech) (next : Result State LineFault) → ((t : State) → (run t xs).ending ≡ refused f → run t (xs ++ ys) ≡ run t xs)
        → (run_next speech next (λ t. run t xs)).ending ≡ refused f → run_next speech next (λ t. run t (xs ++ ys)) ≡ run_next speech next (λ t. run t xs)
    at_next speech (Ok t) more h = ap (behind speech) (more t h)
    at_next speech (Err k) more h = refl

-- ---- what is told of the whole input

first_some : (part rest : List ℕ) → 0 < length part → 0 < length (part ++ rest)
first_some part rest h = grind (arith, common_steps)

refused_input : (s : State) (input rest : List ℕ) (lines : List (List ℕ)) (part : List ℕ) (f : LineFault) → HasRead line_limit (Some input) (Some rest) lines part → IsWhole line_limit part (Some rest)
    → (run s (lines ++ first_line part ∷ [])).ending ≡ refused f → run s (lines_of input) ≡ run s (lines ++ first_line part ∷ [])
refused_input s input rest lines part f h w ends =
    let line = first_line (part ++ rest) in
    let more = lines_of (after_line (part ++ rest)) in
    let alike = same_last s lines (first_line part) line (λ t. ap (answer t) (kept_front line_limit part rest w) ∙ kept_answer t line) in
    ap (run s) (h.splits.begins ∙ ap (λ ls. lines ++ ls) (lines_of-first (part ++ rest) (first_some part rest w.some)) ∙ sym (append_assoc lines (line ∷ []) more))
    ∙ refused_stays s (lines ++ line ∷ []) more f (ap (λ (r : Run). r.ending) (sym alike) ∙ ends)
    ∙ sym alike

tells_input : (v : Voice) (max : ℕ) (s : State) (input : List ℕ) (left : Option (List ℕ)) (old new : Outs) (r : Result ℕ StdioFault) → Tells v max s (Some input) left old new r → TellsInput v max s old new input r
tells_input v max s input left old new (Ok n) t = subst (λ ls. TellsAll v max old new (run s ls) n finished) (sym (all_lines line_limit input left t.lines t.part t.read t.told.0 t.told.1)) t.told.2
tells_input v max s input None old new (Err (Line n f)) t = absurd t.read.splits
tells_input v max s input None old new (Err (Session n f)) t = absurd t.read.splits
tells_input v max s input (Some rest) old new (Err (Line n f)) t =
    subst (λ (r : Run). TellsAll v max old new r n (refused (no_message f))) (sym (refused_input s input rest t.lines t.part (no_message f) t.read t.told.0 t.told.1.ends)) t.told.1
tells_input v max s input (Some rest) old new (Err (Session n f)) t =
    subst (λ (r : Run). TellsAll v max old new r n (refused (stopped_by f))) (sym (refused_input s input rest t.lines t.part (stopped_by f) t.read t.told.0 t.told.1.ends)) t.told.1
tells_input v max s input left old new (Err (Read f)) t = tt
tells_input v max s input left old new (Err Write) t = tt
tells_input v max s input left old new (Err Memory) t = tt

pub told_input : (v : Voice) (max : ℕ) (s : State) (before left : Option (List ℕ)) (old new : Outs) (r : Result ℕ StdioFault) → Tells v max s before left old new r → IfSome before (λ input. TellsInput v max s old new input r)
told_input v max s None left old new r t = tt
told_input v max s (Some input) left old new r t = tells_input v max s input left old new r t
