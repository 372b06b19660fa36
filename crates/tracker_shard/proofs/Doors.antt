-- What a call comes to becomes its answer.
use Rattle.std.proofs.Common.{◌≡◌, Bool, true, false, cond, List, Option, Some, None, ℕ, nat_eq, refl, sym, ◌∙◌, ap, subst}
use Rattle.std.proofs.lemmas.Bool.{false≢true}
use Rattle.std.specs.Prelude.{Result, Ok, Err, OnOk, OnErr, IfOk, IfErr, is_some}
use Rattle.presence_base.specs.declared.dots.Replica.{Replica}
use Rattle.presence_base.specs.declared.dots.Dot.{Dot}
use Rattle.orswot_core.specs.Telling.{ToldValue}
use Rattle.presence_journal.specs.declared.step.Step.{Step}
use Rattle.presence_journal.specs.declared.step.Step.TheVariants as steps_are
use Rattle.presence_journal.specs.declared.entry.Outcome.{Outcome}
use Rattle.presence_journal.specs.declared.entry.Outcome.TheVariants as outcomes_are
use Rattle.presence_journal.specs.History.{History, is_full, count, last_cut}
use Rattle.presence_journal.specs.Queue.{topic_of, queue, is_waiting}
use Rattle.presence_journal.specs.StepLimits.{is_within_limits}
use Rattle.presence_journal.specs.Table.{IsLegal, outcome_of}
use Rattle.tracker_shard.specs.declared.call.Found.{Found}
use Rattle.tracker_shard.specs.declared.fault.ShardFault.{ShardFault}
use Rattle.tracker_shard.specs.declared.fault.ShardFault.TheVariants.{AlreadyTracked, NoPresence, ClockFull, JournalFull, NoSub, BadIncarnation, OutOfMemory}
use Rattle.tracker_shard.specs.Asks.{TellsWaiting}
use Rattle.tracker_shard.specs.Calls.{AnswersMade, IsFound, Finds, IsAdmitted, Looks, MayMake, is_callers}
use Rattle.tracker_shard.specs.Steps.{Made, Stepped, Answers, AnswersPairs, IsDue, KeepsRows, MayRunOut, RefusesForRoom, is_found, refusal, cause}
use Rattle.tracker_shard.specs.declared.shard.Sub.{Sub}
use Rattle.tracker_shard.proofs.Tables.{ended, heard_noted, tick_noted, permdown_noted, merge_taken_in, rebirth_keeps}

-- what is found

pub found_is : {A : Type 0} (Gives : A → Type 0) (h : History) (s : Step) (f : Found A) → f.step ≡ s → is_within_limits f.step ≡ true → outcome_of h s ≡ Some f.outcome → AnswersMade Gives f.outcome f.answer → IsFound Gives h s f
found_is Gives h s f step limits table answer = record { step = step; limits = limits; table = table; answer = answer }

-- a subscriber that is there

pub there_by : (h : History) (slot n : ℕ) (t : List ℕ) (b : Bool) → topic_of h n ≡ Some t → b ≡ nat_eq slot 0 → b ≡ is_found h slot n
there_by h slot n t b topic same = rw topic same

pub not_there : (h : History) (slot n : ℕ) → topic_of h n ≡ None → false ≡ is_found h slot n
not_there h slot n topic = rw topic refl

pub ruleset subscribers = (there_by, not_there)

pub never_missing : (h : History) (slot n : ℕ) → topic_of h n ≡ None → is_found h slot n ≡ true → ⊥
never_missing h slot n topic found = let missing = not_there h slot n topic in absurd (cc)

pub ended_there : (h : History) (slot n : ℕ) → is_found h slot n ≡ true → outcome_of h (steps_are.Unsubscribe n) ≡ Some outcomes_are.Ended
ended_there h slot n found = go (topic_of h n) refl
  where
    go : (o : Option (List ℕ)) → topic_of h n ≡ o → outcome_of h (steps_are.Unsubscribe n) ≡ Some outcomes_are.Ended
    go (Some t) topic = ended h n t topic
    go None topic = absurd (never_missing h slot n topic found)

pub ruleset finding = (found_is, never_missing, ended_there)

-- what stands against a call

pub no_sub_stands : (there : Bool) (h : History) (s : Step) → there ≡ false → refusal there h s ≡ Some NoSub
no_sub_stands there h s missing = rw missing refl

full_stands_by : (there full : Bool) (o : Option ShardFault) → there ≡ true → full ≡ true
    → cond there (cond full (Some JournalFull) o) (Some NoSub) ≡ Some JournalFull
full_stands_by there full o is room = rw (is, room) refl

pub full_stands : (there : Bool) (h : History) (s : Step) → there ≡ true → is_full h ≡ true → refusal there h s ≡ Some JournalFull
full_stands there h s is full = full_stands_by there (is_full h) _ is full

pub none_stands : (there : Bool) (h : History) (s : Step) (o : Outcome) → there ≡ true → is_full h ≡ false → outcome_of h s ≡ Some o → refusal there h s ≡ None
none_stands there h s o is room table = rw (is, room, table) refl

pub cause_stands : (there : Bool) (h : History) (s : Step) (f : ShardFault) → there ≡ true → is_full h ≡ false → outcome_of h s ≡ None → cause s ≡ f → refusal there h s ≡ Some f
cause_stands there h s f is room table by = rw (is, room, table) (ap Some by)

-- any cause gives way to want of memory
cause_may : (s : Step) → MayRunOut (Some (cause s))
cause_may (steps_are.Rebirth incarnation) = tt
cause_may _ = tt

memory_may_by : (s : Step) (there full some : Bool) → there ≡ true → full ≡ false
    → MayRunOut (cond there (cond full (Some JournalFull) (cond some None (Some (cause s)))) (Some NoSub))
memory_may_by s true false true is room = tt
memory_may_by s true false false is room = cause_may s
memory_may_by s true true some is room = absurd (cc)
memory_may_by s false full some is room = absurd (cc)

pub memory_may : (there : Bool) (h : History) (s : Step) → there ≡ true → is_full h ≡ false → MayRunOut (refusal there h s)
memory_may there h s is room = memory_may_by s there (is_full h) (is_some (outcome_of h s)) is room

looks_by : {A : Type 0} (Gives : A → Type 0) (there : Bool) (h : History) (s : Step) (r : Result (Found A) ShardFault) → there ≡ true → is_full h ≡ false → Finds Gives h s r → Looks Gives there h s r
looks_by Gives there h s (Ok f) is room found = record { there = is; room = room; is = found }
looks_by Gives there h s (Err AlreadyTracked) is room found = absurd found
looks_by Gives there h s (Err NoPresence) is room found = absurd found
looks_by Gives there h s (Err ClockFull) is room found = cause_stands there h s ClockFull is room found.0 found.1
looks_by Gives there h s (Err JournalFull) is room found = absurd found
looks_by Gives there h s (Err NoSub) is room found = absurd found
looks_by Gives there h s (Err BadIncarnation) is room found = cause_stands there h s BadIncarnation is room found.0 found.1
looks_by Gives there h s (Err OutOfMemory) is room found = memory_may there h s is room

-- what is found in a table of the same history
pub looks_there : {A : Type 0} (Gives : History → A → Type 0) (There : History → Bool) (h g : History) (s : Step) (r : Result (Found A) ShardFault) → g ≡ h → There h ≡ true → is_full h ≡ false → Finds (Gives g) g s r → Looks (Gives h) (There h) h s r
looks_there Gives There h g s r same is room found = looks_by (Gives h) (There h) h s r is room (subst (λ (k : History). Finds (Gives k) k s r) same found)

pub ruleset looking = (no_sub_stands, full_stands, memory_may, looks_there)

-- an entry that is written, or not for want of memory

pub entered_by : (old new : History) (seat : Option ℕ) (s : Step) (r : Result Unit ShardFault) → OnOk r (Made old new seat s) → OnErr r (new ≡ old) → IfErr r (λ f. f ≡ OutOfMemory) → Stepped old new seat s r
entered_by old new seat s (Ok x) made same memory = made
entered_by old new seat s (Err AlreadyTracked) made same memory = absurd (cc)
entered_by old new seat s (Err NoPresence) made same memory = absurd (cc)
entered_by old new seat s (Err ClockFull) made same memory = same
entered_by old new seat s (Err JournalFull) made same memory = same
entered_by old new seat s (Err NoSub) made same memory = same
entered_by old new seat s (Err BadIncarnation) made same memory = same
entered_by old new seat s (Err OutOfMemory) made same memory = same

-- written in a table of the same history
pub entered_there : (old mid new : History) (seat : Option ℕ) (s : Step) (r : Result Unit ShardFault) → mid ≡ old → OnOk r (Made mid new seat s) → OnErr r (new ≡ mid) → IfErr r (λ f. f ≡ OutOfMemory) → Stepped old new seat s r
entered_there old mid new seat s r is made same memory = subst (λ (k : History). Stepped k new seat s r) is (entered_by mid new seat s r made same memory)

pub unready : (old new : History) (seat : Option ℕ) (s : Step) (f : ShardFault) → f ≡ OutOfMemory → new ≡ old → Stepped {A = Unit {0}} old new seat s (Err f)
unready old new seat s f is same = entered_by old new seat s (Err f) tt same is

pub ruleset entered = (entered_there, unready)

-- what is found becomes the answer where its step is made

answer_made : {A : Type 0} (Gives : A → Type 0) (old new : History) (seat : Option ℕ) (s : Step) (o : Outcome) (r : Result A ShardFault) → AnswersMade Gives o r → Made old new seat s → Stepped old new seat s r
answer_made Gives old new seat s o (Ok x) answer made = made
answer_made Gives old new seat s o (Err AlreadyTracked) answer made = made
answer_made Gives old new seat s o (Err NoPresence) answer made = made
answer_made Gives old new seat s o (Err ClockFull) answer made = absurd answer
answer_made Gives old new seat s o (Err JournalFull) answer made = absurd answer
answer_made Gives old new seat s o (Err NoSub) answer made = absurd answer
answer_made Gives old new seat s o (Err BadIncarnation) answer made = absurd answer
answer_made Gives old new seat s o (Err OutOfMemory) answer made = absurd answer

pub made_steps : {A : Type 0} (Gives : A → Type 0) (there : Bool) (old new : History) (seat : Option ℕ) (s : Step) (f : Found A) → IsAdmitted Gives there old s f → Made old new seat f.step → Stepped old new seat s f.answer
made_steps Gives there old new seat s f found made = answer_made Gives old new seat s f.outcome f.answer found.is.answer (subst (Made old new seat) found.is.step made)

answers_by : {A : Type 0} (Gives : A → Type 0) (o : Option Outcome) (p : Outcome) (r : Result A ShardFault) → o ≡ Some p → AnswersMade Gives p r → Answers Gives o r
answers_by Gives o p (Ok x) table answer = answer
answers_by Gives o p (Err AlreadyTracked) table answer = table ∙ ap Some answer
answers_by Gives o p (Err NoPresence) table answer = table ∙ ap Some answer
answers_by Gives o p (Err ClockFull) table answer = tt
answers_by Gives o p (Err JournalFull) table answer = tt
answers_by Gives o p (Err NoSub) table answer = tt
answers_by Gives o p (Err BadIncarnation) table answer = tt
answers_by Gives o p (Err OutOfMemory) table answer = tt

pub made_answers : {A : Type 0} (Gives : A → Type 0) (there : Bool) (h : History) (s : Step) (f : Found A) → IsAdmitted Gives there h s f → Answers Gives (outcome_of h s) f.answer
made_answers Gives there h s f found = answers_by Gives (outcome_of h s) f.outcome f.answer found.is.table found.is.answer

due_by : {A : Type 0} (Gives : A → Type 0) (stands : Option ShardFault) (o : Outcome) (r : Result A ShardFault) → stands ≡ None → AnswersMade Gives o r → IsDue r stands
due_by Gives stands o (Ok x) none answer = none
due_by Gives stands o (Err AlreadyTracked) none answer = none
due_by Gives stands o (Err NoPresence) none answer = none
due_by Gives stands o (Err ClockFull) none answer = absurd answer
due_by Gives stands o (Err JournalFull) none answer = absurd answer
due_by Gives stands o (Err NoSub) none answer = absurd answer
due_by Gives stands o (Err BadIncarnation) none answer = absurd answer
due_by Gives stands o (Err OutOfMemory) none answer = absurd answer

pub made_due : {A : Type 0} (Gives : A → Type 0) (there : Bool) (h : History) (s : Step) (f : Found A) → IsAdmitted Gives there h s f → IsDue f.answer (refusal there h s)
made_due Gives there h s f found = due_by Gives (refusal there h s) f.outcome f.answer (none_stands there h s f.outcome found.there found.room found.is.table) found.is.answer

-- the refusal of what is looked up is that of the call

pub refused_steps : {A : Type 0} (Gives : A → Type 0) (there : Bool) (old new : History) (seat : Option ℕ) (s : Step) (f : ShardFault) → Looks Gives there old s (Err f) → new ≡ old → Stepped {A = A} old new seat s (Err f)
refused_steps Gives there old new seat s AlreadyTracked looks same = absurd looks
refused_steps Gives there old new seat s NoPresence looks same = absurd looks
refused_steps Gives there old new seat s ClockFull looks same = same
refused_steps Gives there old new seat s JournalFull looks same = same
refused_steps Gives there old new seat s NoSub looks same = same
refused_steps Gives there old new seat s BadIncarnation looks same = same
refused_steps Gives there old new seat s OutOfMemory looks same = same

pub refused_answers : {A : Type 0} (Gives : A → Type 0) (there : Bool) (h : History) (s : Step) (f : ShardFault) → Looks Gives there h s (Err f) → Answers Gives (outcome_of h s) (Err f)
refused_answers Gives there h s AlreadyTracked looks = absurd looks
refused_answers Gives there h s NoPresence looks = absurd looks
refused_answers Gives there h s ClockFull looks = tt
refused_answers Gives there h s JournalFull looks = tt
refused_answers Gives there h s NoSub looks = tt
refused_answers Gives there h s BadIncarnation looks = tt
refused_answers Gives there h s OutOfMemory looks = tt

pub refused_due : {A : Type 0} (Gives : A → Type 0) (there : Bool) (h : History) (s : Step) (f : ShardFault) → Looks Gives there h s (Err f) → IsDue {A = A} (Err f) (refusal there h s)
refused_due Gives there h s AlreadyTracked looks = absurd looks
refused_due Gives there h s NoPresence looks = absurd looks
refused_due Gives there h s ClockFull looks = looks
refused_due Gives there h s JournalFull looks = looks
refused_due Gives there h s NoSub looks = looks
refused_due Gives there h s BadIncarnation looks = looks
refused_due Gives there h s OutOfMemory looks = looks

-- memory was wanting for the entry
pub unmade_due : {A : Type 0} (Gives : A → Type 0) (there : Bool) (h : History) (s : Step) (f : Found A) → IsAdmitted Gives there h s f → MayRunOut (refusal there h s)
unmade_due Gives there h s f found = memory_may there h s found.there found.room

-- want of memory for the entry leaves all as it was
pub unmade_steps : (old new : History) (seat : Option ℕ) (s t : Step) (f : ShardFault) → f ≡ OutOfMemory → Stepped {A = Unit {0}} old new seat t (Err f) → Stepped {A = Unit {0}} old new seat s (Err f)
unmade_steps old new seat s t AlreadyTracked is m = absurd (cc)
unmade_steps old new seat s t NoPresence is m = absurd (cc)
unmade_steps old new seat s t ClockFull is m = m
unmade_steps old new seat s t JournalFull is m = m
unmade_steps old new seat s t NoSub is m = m
unmade_steps old new seat s t BadIncarnation is m = m
unmade_steps old new seat s t OutOfMemory is m = m

-- who makes a step

pub found_may : {A : Type 0} (Gives : A → Type 0) (there : Bool) (h : History) (s : Step) (f : Found A) (seat : Option ℕ) → IsAdmitted Gives there h s f → MayMake seat s → MayMake seat f.step
found_may Gives there h s f seat found may = subst (λ (k : Step). MayMake seat k) (sym found.is.step) may

pub callers_may : (seat : Option ℕ) (s : Step) → is_callers s ≡ true → MayMake seat s
callers_may seat s is some = is

pub nobody_may : (s : Step) → MayMake None s
nobody_may s some = absurd (false≢true some)

pub ruleset sitting = (callers_may, nobody_may)

-- a step that the table always accepts is refused for want of room alone

abbrev is_refusal : Outcome → Bool
is_refusal outcomes_are.AlreadyTracked = true
is_refusal outcomes_are.NoPresence = true
is_refusal _ = false

full_or_none : (h : History) (s : Step) (o : Outcome) → outcome_of h s ≡ Some o → refusal true h s ≡ cond (is_full h) (Some JournalFull) None
full_or_none h s o table = rw table refl

other_stands : (full : Bool) (f : ShardFault) → (f ≡ JournalFull → ⊥) → cond full (Some JournalFull) None ≡ Some f → ⊥
other_stands true f other e = other (cc)
other_stands false f other e = absurd (cc)

never_due : (h : History) (s : Step) (o : Outcome) (f : ShardFault) → outcome_of h s ≡ Some o → (f ≡ JournalFull → ⊥) → refusal true h s ≡ Some f → ⊥
never_due h s o f table other e = other_stands (is_full h) f other (sym (full_or_none h s o table) ∙ e)

never_refused : (h : History) (s : Step) (o p : Outcome) → outcome_of h s ≡ Some o → is_refusal o ≡ false → outcome_of h s ≡ Some p → is_refusal p ≡ true → ⊥
never_refused h s o p table plain answered is =
    let same : p ≡ o = cc in
    false≢true (sym plain ∙ (ap is_refusal (sym same) ∙ is))

pub always_room : {A : Type 0} (Gives : A → Type 0) (h : History) (s : Step) (o : Outcome) (r : Result A ShardFault) → outcome_of h s ≡ Some o → is_refusal o ≡ false → Answers Gives (outcome_of h s) r → IsDue r (refusal true h s) → RefusesForRoom r
always_room Gives h s o (Ok x) table plain answer due = tt
always_room Gives h s o (Err AlreadyTracked) table plain answer due = never_refused h s o outcomes_are.AlreadyTracked table plain answer refl
always_room Gives h s o (Err NoPresence) table plain answer due = never_refused h s o outcomes_are.NoPresence table plain answer refl
always_room Gives h s o (Err ClockFull) table plain answer due = never_due h s o ClockFull table (λ e. absurd (cc)) due
always_room Gives h s o (Err JournalFull) table plain answer due = tt
always_room Gives h s o (Err NoSub) table plain answer due = never_due h s o NoSub table (λ e. absurd (cc)) due
always_room Gives h s o (Err BadIncarnation) table plain answer due = never_due h s o BadIncarnation table (λ e. absurd (cc)) due
always_room Gives h s o (Err OutOfMemory) table plain answer due = tt

cut_at : (h : History) → outcome_of h steps_are.Cut ≡ Some (outcomes_are.CutAt (last_cut h) (count h))
unfolding outcome_of
cut_at h = refl

pub room_heard : {A : Type 0} (Gives : A → Type 0) (h : History) (replica : Replica) (now : ℕ) (r : Result A ShardFault) → Answers Gives (outcome_of h (steps_are.Heard replica now)) r → IsDue r (refusal true h (steps_are.Heard replica now)) → RefusesForRoom r
room_heard Gives h replica now r answer due = always_room Gives h (steps_are.Heard replica now) outcomes_are.Noted r (heard_noted h replica now) refl answer due

pub room_tick : {A : Type 0} (Gives : A → Type 0) (h : History) (now : ℕ) (r : Result A ShardFault) → Answers Gives (outcome_of h (steps_are.Tick now)) r → IsDue r (refusal true h (steps_are.Tick now)) → RefusesForRoom r
room_tick Gives h now r answer due = always_room Gives h (steps_are.Tick now) outcomes_are.Noted r (tick_noted h now) refl answer due

pub room_permdown : {A : Type 0} (Gives : A → Type 0) (h : History) (replica : Replica) (r : Result A ShardFault) → Answers Gives (outcome_of h (steps_are.PermDown replica)) r → IsDue r (refusal true h (steps_are.PermDown replica)) → RefusesForRoom r
room_permdown Gives h replica r answer due = always_room Gives h (steps_are.PermDown replica) outcomes_are.Noted r (permdown_noted h replica) refl answer due

pub room_cut : {A : Type 0} (Gives : A → Type 0) (h : History) (r : Result A ShardFault) → Answers Gives (outcome_of h steps_are.Cut) r → IsDue r (refusal true h steps_are.Cut) → RefusesForRoom r
room_cut Gives h r answer due = always_room Gives h steps_are.Cut (outcomes_are.CutAt (last_cut h) (count h)) r (cut_at h) refl answer due

pub room_merge : {A : Type 0} (Gives : A → Type 0) (h : History) (t : ToldValue) (r : Result A ShardFault) → Answers Gives (outcome_of h (steps_are.Merge t)) r → IsDue r (refusal true h (steps_are.Merge t)) → RefusesForRoom r
room_merge Gives h t r answer due = always_room Gives h (steps_are.Merge t) outcomes_are.Merged r (merge_taken_in h t) refl answer due

pub ruleset noted = (room_heard, room_tick, room_permdown, room_cut, room_merge)

-- a rebirth keeps the rows

room_of_none : (h : History) (s : Step) → refusal true h s ≡ None → is_full h ≡ false
room_of_none h s e = go (is_full h) (is_some (outcome_of h s)) e
  where
    go : (full some : Bool) → cond full (Some JournalFull) (cond some None (Some (cause s))) ≡ None → full ≡ false
    go true some p = absurd (cc)
    go false some p = refl

pub kept_rows : (old new : History) (i : ℕ) (r : Result (List (Dot × Dot)) ShardFault) → IsLegal old → Stepped old new None (steps_are.Rebirth i) r → AnswersPairs old i r → IsDue r (refusal true old (steps_are.Rebirth i)) → IfOk r (KeepsRows old new)
kept_rows old new i (Ok pairs) legal made answer due = rebirth_keeps old i None pairs legal answer (room_of_none old (steps_are.Rebirth i) due) new made.journal
kept_rows old new i (Err e) legal made answer due = tt

-- whether something waits, of a subscriber that is there

pub waits_told : (h : History) (sub : Sub) (r : Result Bool ShardFault) → OnOk r (is_found h sub.slot sub.number ≡ true) → OnErr r (is_found h sub.slot sub.number ≡ false) → IfErr r (λ e. e ≡ NoSub) → IfOk r (λ w. w ≡ is_waiting (queue h sub.number)) → TellsWaiting h sub r
waits_told h sub (Ok w) found missing refusal value = (found, value)
waits_told h sub (Err e) found missing refusal value = (missing, refusal)

pub ruleset waiting = (waits_told)

pub ruleset performed = (found_may, made_steps, made_answers, made_due, refused_steps, refused_answers, refused_due, unmade_due, unmade_steps)
