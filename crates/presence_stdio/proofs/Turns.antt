-- One turn of the engine, and a run of turns.
use Rattle.std.proofs.Common.{◌≡◌, ◌≤◌, ◌<◌, ◌+◌, ℕ, suc, List, [], ◌∷◌, ◌++◌, length, false, Option, Result, Ok, Err, refl, sym, ap, subst, ◌∙◌, append_assoc, arith, rules}
use Rattle.std.proofs.lemmas.Grind.{common_steps}
use Rattle.std.specs.Io.KnownBytes.{Keeps, Consumes}
use Rattle.presence_stdio.specs.declared.fault.LineFault.{LineFault}
use Rattle.presence_stdio.specs.declared.fault.LineFault.TheVariants.{Message as no_message, Session as stopped_by}
use Rattle.presence_stdio.specs.declared.fault.StdioFault.{StdioFault}
use Rattle.presence_stdio.specs.declared.fault.StdioFault.TheVariants.{Line, Session, Read, Write, Memory}
use Rattle.presence_stdio.specs.Bytes.{FindsEnd, TakesLine, HasRead}
use Rattle.presence_stdio.specs.Lines.{first_line}
use Rattle.presence_stdio.specs.Reading.{line_limit}
use Rattle.presence_stdio.specs.declared.stream_fault.ReadFault.TheVariants.{Failed, TooManyLines}
use Rattle.presence_stdio.specs.Session.{State, Speech, silence, and_then, Voice, answer}
use Rattle.presence_stdio.specs.Run.{Ending, finished, refused, Run, behind, run_next, run, Outs, KeepsOuts, Sends, SendsFront, TellsAll, RefusesLine, Tells, AnswersLine, AnswerOf, TurnsLine, TurnOf}
use Rattle.presence_stdio.proofs.Known.{consumes-itself, consumes-keeps}
use Rattle.presence_stdio.proofs.Taken.{reads_none, reads_part, reads_more, none_part}
use Rattle.presence_stdio.proofs.Sessions.{is_whole}
use Rattle.presence_stdio.proofs.Speaking.{then_assoc, then_silence, sends_none, sends_then, sends_keeps, keeps_outs}

-- ---- a run

abbrev pub further : ℕ → Speech → Run → Run
further k t r = record { speech = and_then t r.speech; lines = k + r.lines; ending = r.ending }

-- from the state at the start these first lines are answered this and lead to the state s, whatever lines follow
pub record Goes (from : State) (front : List (List ℕ)) (done : Speech) (s : State) : Type 0 where
  pub goes : (ls : List (List ℕ)) → run from (front ++ ls) ≡ further (length front) done (run s ls)

same_run : (t u : Speech) (k n : ℕ) (e : Ending) → t ≡ u → k ≡ n → record { speech = t; lines = k; ending = e } ≡ (let r : Run = record { speech = u; lines = n; ending = e } in r)
same_run t u k n e h i = rw (h, i) refl

goes_start : (from : State) → Goes from [] silence from
goes_start from = record { goes = λ ls. same_run _ _ _ _ _ refl (omega arith) }

-- a line after which the run goes on
after_line_run : (s after : State) (l : List ℕ) (ls : List (List ℕ)) → (answer s l).next ≡ Ok after → run s (l ∷ ls) ≡ behind (answer s l).speech (run after ls)
after_line_run s after l ls h = ap (λ r. run_next (answer s l).speech r (λ t. run t ls)) h

-- a line at which it ends
last_line_run : (s : State) (f : LineFault) (l : List ℕ) (ls : List (List ℕ)) → (answer s l).next ≡ Err f → run s (l ∷ ls) ≡ record { speech = (answer s l).speech; lines = 1; ending = refused f }
last_line_run s f l ls h = ap (λ r. run_next (answer s l).speech r (λ t. run t ls)) h

goes_more : (from : State) (front : List (List ℕ)) (done : Speech) (s after : State) (l : List ℕ) → Goes from front done s → (answer s l).next ≡ Ok after → Goes from (front ++ l ∷ []) (and_then done (answer s l).speech) after
goes_more from front done s after l h e = record {
  goes = λ ls.
      ap (run from) (append_assoc front (l ∷ []) ls)
      ∙ h.goes (l ∷ ls)
      ∙ ap (further (length front) done) (after_line_run s after l ls e)
      ∙ same_run _ _ _ _ _ (sym (then_assoc done (answer s l).speech (run after ls).speech)) (count front l (run after ls).lines);
}
  where
    count : (xs : List (List ℕ)) (x : List ℕ) (n : ℕ) → length xs + suc n ≡ length (xs ++ x ∷ []) + n
    count xs x n = grind (arith, common_steps)

none_more : {A : Type 0} (xs : List A) → xs ++ [] ≡ xs
none_more xs = search rules

-- what is said to one line by itself
line_speech : (s : State) (l : List ℕ) → (run s (l ∷ [])).speech ≡ (answer s l).speech
line_speech s l = told (answer s l).speech (answer s l).next
  where
    told : (speech : Speech) (next : Result State LineFault) → (run_next speech next (λ t. run t [])).speech ≡ speech
    told speech (Ok t) = then_silence speech
    told speech (Err f) = refl

-- where a run stands: the lines behind it, and what they were answered
pub record Stands (v : Voice) (from : State) (before left : Option (List ℕ)) (old new : Outs) (s : State) (n : ℕ) : Type 0 where
  pub lines : List (List ℕ)
  pub done : Speech
  pub read : HasRead line_limit before left lines []
  pub count : length lines ≡ n
  pub going : Goes from lines done s
  pub sent : Sends v old new done

module _ (v : Voice) where
  -- what was read is the line that was shown
  turned_line : (s : State) (next : Result State LineFault) (before left : Option (List ℕ)) (old new : Outs) (line shown : List ℕ) → TakesLine line_limit before left line → shown ≡ line → AnswersLine v s next old new shown
      → TurnsLine v s next before left old new
  turned_line s next before left old new line shown t e a = record { line = line; read = t; answers = subst (λ l. AnswersLine v s next old new l) e a }

  -- a line was read, and a fault came
  pub turn_refused : (n : ℕ) (s after : State) (before left : Option (List ℕ)) (old new : Outs) (line shown : List ℕ) (fault : StdioFault) → TakesLine line_limit before left line → shown ≡ line
      → AnswerOf {T = Unit {0}} v n s after old new shown (Err fault) → TurnOf v n s after before left old new (Err fault)
  turn_refused n s after before left old new line shown (Line k f) t e a = (a.0, turned_line s (Err (no_message f)) before left old new line shown t e a.1)
  turn_refused n s after before left old new line shown (Session k f) t e a = (a.0, turned_line s (Err (stopped_by f)) before left old new line shown t e a.1)
  turn_refused n s after before left old new line shown (Read f) t e a = absurd a
  turn_refused n s after before left old new line shown Write t e a = record { line = line; read = t; part = subst (λ l. SendsFront v old new (answer s l).speech) e a }
  turn_refused n s after before left old new line shown Memory t e a = record { part = t.part; taken = t.taken; is_part = t.is_whole.is_part; kept = a }

  pub stands_start : (from : State) (before : Option (List ℕ)) (old : Outs) → Stands v from before before old old from 0
  stands_start from before old = record {
    lines = [];
    done = silence;
    read = reads_none line_limit before;
    count = refl;
    going = goes_start from;
    sent = sends_none v old;
  }

  pub stands_more : (from : State) (before mid left : Option (List ℕ)) (old between new : Outs) (s after : State) (n : ℕ) → Stands v from before mid old between s n → TurnsLine v s (Ok after) mid left between new
      → Stands v from before left old new after (n + 1)
  stands_more from before mid left old between new s after n st t = record {
    lines = st.lines ++ t.line ∷ [];
    done = and_then st.done (answer s t.line).speech;
    read = reads_more line_limit before mid left st.lines t.line st.read t.read (is_whole s after t.line t.answers.follows);
    count = counted st.lines t.line n st.count;
    going = goes_more from st.lines st.done s after t.line st.going t.answers.follows;
    sent = sends_then v old between new st.done (answer s t.line).speech st.sent t.answers.sent;
  }
    where
      counted : (xs : List (List ℕ)) (x : List ℕ) (n : ℕ) → length xs ≡ n → length (xs ++ x ∷ []) ≡ n + 1
      counted xs x n h = grind (arith, common_steps)

  -- the lines behind it, by themselves
  front_run : (from : State) (before left : Option (List ℕ)) (old new : Outs) (s : State) (n : ℕ) (st : Stands v from before left old new s n) → run from st.lines ≡ record { speech = st.done; lines = length st.lines; ending = finished }
  front_run from before left old new s n st = ap (run from) (sym (none_more st.lines)) ∙ st.going.goes [] ∙ same_run _ _ _ _ _ (then_silence st.done) (omega arith)

  -- what they were answered went out
  front_told : (max : ℕ) (from : State) (before left : Option (List ℕ)) (old between new : Outs) (s : State) (n k : ℕ) (st : Stands v from before left old between s n) → KeepsOuts between new → n ≤ max → k ≡ n
      → TellsAll v max old new (run from st.lines) k finished
  front_told max from before left old between new s n k st kept few e =
      let whole = front_run from before left old between s n st in record {
        sent = subst (λ (r : Run). Sends v old new r.speech) (sym whole) (sends_keeps v old between new st.done st.sent kept);
        lines = ap (λ (r : Run). r.lines) whole ∙ st.count ∙ sym e;
        ends = ap (λ (r : Run). r.ending) whole;
        few = let same = e in omega arith;
      }

  -- the end of the input
  tells_last : (max : ℕ) (from : State) (before mid left : Option (List ℕ)) (old between new : Outs) (s : State) (n : ℕ) → Stands v from before mid old between s n → n ≤ max → FindsEnd mid left → KeepsOuts between new
      → Tells v max from before left old new (Ok n)
  tells_last max from before mid left old between new s n st few ended kept = record {
    lines = st.lines;
    part = [];
    read = reads_part line_limit before mid left st.lines [] st.read ended.0;
    told = (refl, ended.1, front_told max from before mid old between new s n n st kept few refl);
  }

  pub tells_end : (max : ℕ) (from : State) (before mid left : Option (List ℕ)) (old between new : Outs) (s after : State) (n m : ℕ) → Stands v from before mid old between s n → n ≤ max → TurnOf v m s after mid left between new (Ok false)
      → Tells v max from before left old new (Ok n)
  tells_end max from before mid left old between new s after n m st few turned = tells_last max from before mid left old between new s n st few turned.0 turned.1

  -- no memory before the first line
  pub tells_none : (max : ℕ) (from : State) (before : Option (List ℕ)) (old : Outs) → Tells v max from before before old old (Err Memory)
  tells_none max from before old = record {
    lines = [];
    part = [];
    read = reads_none line_limit before;
    told = (record { one = refl; short = omega arith }, record { sent = sends_none v old; lines = refl; ends = refl; few = omega arith });
  }

  -- a refused line in a turn
  told_refused : (max : ℕ) (from : State) (before mid left : Option (List ℕ)) (old between new : Outs) (s : State) (n k : ℕ) (f : LineFault) (st : Stands v from before mid old between s n) → n < max → k ≡ n + 1
      → (t : TurnsLine v s (Err f) mid left between new) → RefusesLine v max from st.lines t.read.part left old new k f
  told_refused max from before mid left old between new s n k f st few same t =
      let shown = subst (λ l. AnswersLine v s (Err f) between new l) (sym t.read.is_line) t.answers in
      let whole = st.going.goes (first_line t.read.part ∷ []) ∙ ap (further (length st.lines) st.done) (last_line_run s f (first_line t.read.part) [] shown.follows) in (
        t.read.is_whole,
        record {
          sent = subst (λ (r : Run). Sends v old new r.speech) (sym whole) (sends_then v old between new st.done (answer s (first_line t.read.part)).speech st.sent shown.sent);
          lines = ap (λ (r : Run). r.lines) whole ∙ ap (λ i. i + 1) st.count ∙ sym same;
          ends = ap (λ (r : Run). r.ending) whole;
          few = omega (arith, few, same);
        },
      )

  -- a fault in a turn
  pub tells_fault : (max : ℕ) (from : State) (before mid left : Option (List ℕ)) (old between new : Outs) (s after : State) (n : ℕ) (fault : StdioFault) → Stands v from before mid old between s n → n < max
      → TurnOf v (n + 1) s after mid left between new (Err fault) → Tells v max from before left old new (Err fault)
  tells_fault max from before mid left old between new s after n (Line k f) st few turned = record {
    lines = st.lines;
    part = turned.1.read.part;
    read = reads_part line_limit before mid left st.lines turned.1.read.part st.read turned.1.read.taken;
    told = told_refused max from before mid left old between new s n k (no_message f) st few turned.0 turned.1;
  }
  tells_fault max from before mid left old between new s after n (Session k f) st few turned = record {
    lines = st.lines;
    part = turned.1.read.part;
    read = reads_part line_limit before mid left st.lines turned.1.read.part st.read turned.1.read.taken;
    told = told_refused max from before mid left old between new s n k (stopped_by f) st few turned.0 turned.1;
  }
  tells_fault max from before mid left old between new s after n (Read TooManyLines) st few turned = absurd turned
  tells_fault max from before mid left old between new s after n (Read Failed) st few turned = record {
    lines = st.lines;
    part = turned.0.part;
    read = reads_part line_limit before mid left st.lines turned.0.part st.read turned.0.taken;
    told = (front_told max from before mid old between new s n (length st.lines) st turned.1 (omega arith) st.count, turned.0.is_part, turned.0.plain);
  }
  tells_fault max from before mid left old between new s after n Write st few turned = record {
    lines = st.lines;
    part = turned.read.part;
    read = reads_part line_limit before mid left st.lines turned.read.part st.read turned.read.taken;
    told = (
      turned.read.is_whole,
      record {
        done = st.done;
        next = (answer s (first_line turned.read.part)).speech;
        answered = front_run from before mid old between s n st;
        follows =
            ap (λ (r : Run). r.speech) (st.going.goes (first_line turned.read.part ∷ []))
            ∙ ap (λ t. and_then st.done t) (line_speech s (first_line turned.read.part));
        between = between;
        sent = st.sent;
        front = subst (λ l. SendsFront v between new (answer s l).speech) (sym turned.read.is_line) turned.part;
      },
      let same = st.count in omega arith,
    );
  }
  tells_fault max from before mid left old between new s after n Memory st few turned = record {
    lines = st.lines;
    part = turned.part;
    read = reads_part line_limit before mid left st.lines turned.part st.read turned.taken;
    told = (turned.is_part, front_told max from before mid old between new s n (length st.lines) st turned.kept (omega arith) st.count);
  }

  -- what follows the last line that may be read
  pub tells_at_limit : (max : ℕ) (from : State) (before mid left : Option (List ℕ)) (old new : Outs) (s : State) → Stands v from before mid old new s max → FindsEnd mid left → Tells v max from before left old new (Ok max)
  tells_at_limit max from before mid left old new s st ended = tells_last max from before mid left old new new s max st (omega arith) ended (keeps_outs new)

  -- a byte follows it
  pub tells_beyond : (max : ℕ) (from : State) (before mid left : Option (List ℕ)) (old new : Outs) (s : State) → Stands v from before mid old new s max → (b : ℕ) × Consumes mid left (b ∷ [])
      → Tells v max from before left old new (Err (Read TooManyLines))
  tells_beyond max from before mid left old new s st more = record {
    lines = st.lines;
    part = more.0 ∷ [];
    read = reads_part line_limit before mid left st.lines (more.0 ∷ []) st.read more.1;
    told = (front_told max from before mid old new new s max (length st.lines) st (keeps_outs new) (omega arith) st.count, st.count, refl);
  }

  -- or it can't be told what follows
  pub tells_unread : (max : ℕ) (from : State) (before mid left : Option (List ℕ)) (old new : Outs) (s : State) → Stands v from before mid old new s max → Keeps mid left → Tells v max from before left old new (Err (Read Failed))
  tells_unread max from before mid left old new s st kept = record {
    lines = st.lines;
    part = [];
    read = reads_part line_limit before mid left st.lines [] st.read (consumes-keeps mid mid left [] (consumes-itself mid) kept);
    told = (front_told max from before mid old new new s max (length st.lines) st (keeps_outs new) (omega arith) st.count, none_part line_limit, refl);
  }
