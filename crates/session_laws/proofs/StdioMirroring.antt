-- The lines of a run are a session's lines over its shard's history.
use Rattle.std.proofs.Common.{◌≡◌, ◌≤◌, ◌⊎◌, inl, inr, ◌^◌, ℕ, Bool, true, false, cond, List, [], ◌∷◌, ◌++◌, length, map, nat_lt, nat_le, ◌&&◌, Option, Some, None, Result, Ok, Err, refl, sym, ◌∙◌, ap, subst, arith, append-nil, append_assoc}
use Rattle.std.specs.Prelude.{IsTrue}
use Rattle.std.proofs.lemmas.Bool.{ltb-true, leb-true}
use Rattle.std.proofs.lemmas.Option.{same_Some}
use Rattle.std.specs.List.{AllByRecursion}
use Rattle.std.specs.Str.{is_utf8}
use Rattle.hook_registry.specs.declared.hooks.PresenceHooks.{Ghosts}
use Rattle.phx_message.proofs.Decoded.{decoded_orderly, reads_back}
use Rattle.phx_message.specs.Reading.{decoded}
use Rattle.phx_message.specs.declared.message.TheConstants.Limits as the_limits
use Rattle.phx_message.specs.declared.message.MessageFault.TheVariants.{TooLong, NotJson}
use Rattle.phx_message.specs.declared.message.Message.{Message}
use Rattle.phx_message.specs.declared.message.MessageFault.{MessageFault}
use Rattle.presence_base.specs.Names.{is_node_name}
use Rattle.presence_base.specs.Order.{same_replica}
use Rattle.presence_base.specs.Refs.{IsCount}
use Rattle.presence_journal.specs.History.{History}
use Rattle.presence_journal.specs.Table.{IsLegal}
use Rattle.channel_session.specs.Delivery.{delivery}
use Rattle.session_laws.specs.Keeping.{Past, behind, then_past, served, lined, all_lined, fresh}
use Rattle.session_laws.specs.Keeping as keeping
use Rattle.presence_journal.specs.declared.limits.TheConstants.{MAX_TAKEN}
use Rattle.presence_stdio.specs.Local.{played}
use Rattle.channel_rules.specs.Rules.{End, answers, full, memory, rules}
use Rattle.channel_rules.specs.Said.{Said, plainly, EachBy, Worded}
use Rattle.session_laws.proofs.Kept.{MirroredWhere, fresh_in_step, stays_in_step, mirrored_where}
use Rattle.session_laws.proofs.KeptAsks.{all_of}
use Rattle.session_laws.proofs.KeptWords.{worded_anyhow, worded_plainly}
use Rattle.session_laws.proofs.SoundValues.{IsFramed, IsHeard}
use Rattle.presence_options.specs.declared.options.StdioOptions.{StdioOptions}
use Rattle.session_laws.specs.Mirrored.{goes_on, after_lines, IsReadBack, FetchesOrderly, JoinedAreMirrored}
use Rattle.session_laws.proofs.Fetching.{worded_framed}
use Rattle.presence_stdio.specs.Reading.{message_in, line_message}
use Rattle.presence_stdio.specs.Run.{run, run_next}
use Rattle.presence_stdio.specs.Session.{State, Speech, silence, and_then, answering, dealing, Answer, start, ends, delivered, ruled, answer_to, answer}
use Rattle.channel_session.specs.declared.fault.SessionFault.TheVariants.{Failed}
use Rattle.presence_stdio.specs.declared.fault.LineFault.{LineFault}
use Rattle.presence_stdio.specs.declared.fault.LineFault.TheVariants.{Session as stopped_by}

-- this is what was said and what there is now
abbrev past : List Said → State → Past
past said s = record { said = said; session = s.session; history = s.shard }

abbrev failed_already : Answer
failed_already = ends silence (stopped_by Failed)

-- what a line did, behind what was said before it
record LineIs (routes : List (List ℕ × ℕ)) (before : List Said) (o : Option Past) (speech : Speech) (t : State) : Type 0 where
  lined_so : o ≡ Some (past (before ++ speech.said) t)
  routes_are : t.routes ≡ routes

stopped : (f : LineFault) (t : State) → ◌≡◌ {A = Result State LineFault} (Err f) (Ok t) → ⊥
stopped f t e = cc

same_state : (s t : State) → ◌≡◌ {A = Result State LineFault} (Ok s) (Ok t) → s ≡ t
same_state s t e = cc

module _ (routes : List (List ℕ × ℕ)) (before : List Said) where
  dealt_is : (said : List Said) (e : End) (g : History) (t : State) → (delivered routes (answering said) e g).next ≡ Ok t
      → LineIs routes before (behind (before ++ said) e g) (delivered routes (answering said) e g).speech t
  dealt_is said (answers items s) g t is =
      subst (λ u. LineIs routes before (Some (record { said = (before ++ said) ++ items; session = s; history = g })) (and_then (answering said) (dealing items)) u) (same_state (record { routes = routes; session = s; shard = g }) t is)
      (record {
        lined_so = ap (λ ts. Some (record { said = ts; session = s; history = g })) (append_assoc before said items);
        routes_are = refl;
      })
  dealt_is said full g t is = absurd (stopped _ t is)
  dealt_is said memory g t is = absurd (stopped _ t is)

  ruled_is : (e : End) (g : History) (t : State) → (ruled routes e g).next ≡ Ok t → LineIs routes before (then_past (behind before e g) served) (ruled routes e g).speech t
  ruled_is (answers said s) g t is = dealt_is said (played s.pid (delivery MAX_TAKEN s) g).0 (played s.pid (delivery MAX_TAKEN s) g).1 t is
  ruled_is full g t is = absurd (stopped _ t is)
  ruled_is memory g t is = absurd (stopped _ t is)

no_message : (f : MessageFault) (m : Message) → ◌≡◌ {A = Result Message MessageFault} (Err f) (Ok m) → ⊥
no_message f m e = cc

-- the message of a line was decoded
line_heard : (line : List ℕ) (m : Message) → line_message line ≡ Ok m → IsHeard m
unfolding message_in
line_heard line m = go (nat_lt the_limits.CLIENT.bytes (length line)) (is_utf8 line)
  where
    go : (long text : Bool) → cond long (Err TooLong) (cond text (decoded the_limits.CLIENT line) (Err NotJson)) ≡ Ok m → IsHeard m
    go true text e = absurd (no_message TooLong m e)
    go false true e = decoded_orderly the_limits.CLIENT line m e
    go false false e = absurd (no_message NotJson m e)

module _ (s : State) (before : List Said) (t : State) where
  -- the message of a line, and what it did
  abbrev OfLine : Answer → Type 0
  OfLine a = (m : Message) × IsHeard m × LineIs s.routes before (lined s.routes (past before s) m) a.speech t

  read_is : (r : Result Message MessageFault) → ((m : Message) → r ≡ Ok m → IsHeard m) → (answer_to s r).next ≡ Ok t → OfLine (answer_to s r)
  read_is (Ok m) heard is = (m, heard m refl, ruled_is s.routes before (played s.session.pid (rules s.routes s.session m) s.shard).0 (played s.session.pid (rules s.routes s.session m) s.shard).1 t is)
  read_is (Err f) heard is = absurd (stopped _ t is)

  line_is : (line : List ℕ) → (answer s line).next ≡ Ok t → OfLine (answer s line)
  line_is line is = go s.session.failed is
    where
      go : (b : Bool) → (cond b failed_already (answer_to s (line_message line))).next ≡ Ok t → OfLine (cond b failed_already (answer_to s (line_message line)))
      go true e = absurd (stopped _ t e)
      go false e = read_is (line_message line) (line_heard line) e

-- ---- all lines

record LinesAre (s : State) (before : List Said) (ls : List (List ℕ)) (t : State) : Type 0 where
  messages : List Message
  heard : AllByRecursion IsHeard messages
  lined_so : all_lined s.routes (past before s) messages ≡ Some (past (before ++ (run s ls).speech.said) t)

module _ (s : State) (before : List Said) (l : List ℕ) (ls : List (List ℕ)) (t : State) where
  more_lines : (u : State) → (answer s l).next ≡ Ok u → (line : OfLine s before u (answer s l)) → LinesAre u (before ++ (answer s l).speech.said) ls t → LinesAre s before (l ∷ ls) t
  more_lines u e line rest = record {
    messages = line.0 ∷ rest.messages;
    heard = (line.1, rest.heard);
    lined_so =
        ap (λ o. then_past o (λ q. all_lined s.routes q rest.messages)) line.2.lined_so
        ∙ (ap (λ r. all_lined r (past (before ++ (answer s l).speech.said) u) rest.messages) (sym line.2.routes_are)
        ∙ (rest.lined_so
        ∙ (ap (λ ts. Some (past ts t)) (append_assoc before (answer s l).speech.said (run u ls).speech.said)
        ∙ ap (λ r. Some (past (before ++ (run_next (answer s l).speech r (λ after. run after ls)).speech.said) t)) (sym e))));
  }

no_state : (t : State) → ◌≡◌ {A = Option State} None (Some t) → ⊥
no_state t e = cc

lines_are : (ls : List (List ℕ)) (s t : State) (before : List Said) → after_lines s ls ≡ Some t → LinesAre s before ls t
lines_are [] s t before is = subst (λ u. LinesAre s before [] u) (same_Some s t is) (record {
  messages = [];
  heard = tt;
  lined_so = ap (λ ts. Some (past ts s)) (sym (append-nil before));
})
lines_are (l ∷ ls) s t before is = go (answer s l).next refl is (λ u b e. lines_are ls u t b e)
  where
    go : (r : Result State LineFault) → (answer s l).next ≡ r → goes_on r (λ u. after_lines u ls) ≡ Some t
        → ((u : State) (b : List Said) → after_lines u ls ≡ Some t → LinesAre u b ls t) → LinesAre s before (l ∷ ls) t
    go (Ok u) e f rest = let line : OfLine s before u (answer s l) = line_is s before u l e in more_lines s before l ls t u e line (rest u (before ++ (answer s l).speech.said) f)
    go (Err x) e f rest = absurd (no_state t f)

-- what was said is framed where it is told plainly or with orderly members
framed_either : {S : Type 0} (H : Ghosts S) (hooks : S) (said : List Said) (ms : List Message) → EachBy (Worded (H.fetched hooks) (H.plain hooks)) said ms → (H.plain hooks ≡ true) ⊎ FetchesOrderly H hooks
    → AllByRecursion IsFramed (map plainly said) → AllByRecursion IsFramed ms
framed_either H hooks said ms e (inl p) f = subst (AllByRecursion IsFramed) (sym (worded_plainly (H.fetched hooks) (H.plain hooks) p said ms e)) f
framed_either H hooks said ms e (inr o) f = worded_framed (H.fetched hooks) o (H.plain hooks) said ms e f

-- no count is one of 1 to 0
none_counted : (same : Bool) (n : ℕ) → (same && (nat_lt 0 n && nat_le n 0)) ≡ false
none_counted false n = refl
none_counted true n = go (nat_lt 0 n) refl (nat_le n 0) refl
  where
    go : (b : Bool) → nat_lt 0 n ≡ b → (c : Bool) → nat_le n 0 ≡ c → (b && c) ≡ false
    go false p c q = refl
    go true p false q = refl
    go true p true q = absurd (omega (arith, ltb-true 0 n p, leb-true n 0 q))

begun_legal : (o : StdioOptions) → IsTrue (is_node_name o.name) → IsCount o.incarnation → IsLegal (start o).shard
begun_legal o name incarnation = record {
  name = name;
  incarnation = incarnation;
  number = omega arith;
  count = omega arith;
  content = refl;
  own_dots = λ d e. sym (none_counted (same_replica d.replica (record { name = o.name; incarnation = o.incarnation })) d.count);
  cut = omega arith;
  older = tt;
  older_low = refl;
  chains = tt;
  kept = λ d next. tt;
  subscribers = refl;
  subscribers_once = refl;
  seated = omega arith;
}

pub mirrored : {S : Type 0} (H : Ghosts S) (hooks : S) → JoinedAreMirrored H hooks
mirrored H hooks o name incarnation lines s is =
    let all : LinesAre (start o) [] lines s = lines_are lines (start o) s [] is in
    let said = (run (start o) lines).speech.said in
    let legal : IsLegal (start o).shard = begun_legal o name incarnation in
    let low : 1 ≤ 2 ^ 62 = omega arith in
    let told : MirroredWhere (Unit {0}) (past said s) = mirrored_where (Unit {0}) o.routes 1 (start o).shard low legal (λ u. tt) all.messages (past said s) (λ u. all.heard) all.lined_so in
    let kept : keeping.IsMirrored (past said s) = told.mirrored in
    record {
      said = kept.said;
      in_step = stays_in_step o.routes (fresh 1) (start o).shard (fresh_in_step 1 (start o).shard low legal) all.messages (past said s) all.lined_so;
      mirrors = λ ms e. kept.mirrors ms (worded_anyhow (H.fetched hooks) (H.plain hooks) said ms e);
      read_back = λ ms e p. all_of IsFramed IsReadBack (λ m f. reads_back m f.0 f.1) ms (framed_either H hooks said ms e p (told.framed tt));
    }
