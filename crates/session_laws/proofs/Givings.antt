-- All that a subscriber was given: how calls add to it, and that it ends with what was taken since the last state.
use Rattle.std.proofs.Common.{◌≡◌, ℕ, Bool, true, false, cond, nat_eq, List, [], ◌∷◌, ◌++◌, map as each, Option, Some, None, is_some, Result, Ok, Err, refl, sym, ◌∙◌, ap, subst, append-nil, append_assoc}
use Rattle.std.proofs.lemmas.Bool.{eqb-true}
use Rattle.phx_message.specs.declared.message.Message.{Message}
use Rattle.presence_base.specs.declared.dots.Dot.{Dot}
use Rattle.presence_base.specs.declared.row.Row.{Row}
use Rattle.presence_journal.specs.declared.entry.Outcome.{Outcome}
use Rattle.presence_journal.specs.declared.entry.Outcome.TheVariants as outcomes_are
use Rattle.presence_journal.specs.declared.rows.Item.{Item}
use Rattle.presence_journal.specs.declared.step.Step.{Step}
use Rattle.presence_journal.specs.declared.step.Step.TheVariants as steps_are
use Rattle.presence_journal.specs.History.{History, Begin, Then}
use Rattle.presence_journal.specs.Present.{listed}
use Rattle.presence_journal.specs.Queue.{Waiting, Behind, Queued, queue, topic_of, listed_for, given, took, taken, taken_after, items_given, is_waiting}
use Rattle.presence_journal.specs.Table.{take_outcome, for_present, outcome_of, accepted, after, with_outcome}
use Rattle.presence_metas.specs.Frames.{frame_in}
use Rattle.presence_metas.specs.Listing.{Listing}
use Rattle.tracker_shard.specs.Steps.{Made, Stepped}
use Rattle.tracker_shard.specs.declared.shard.Sub.{Sub}
use Rattle.tracker_shard.specs.declared.fault.ShardFault.{ShardFault}
use Rattle.tracker_shard.specs.declared.fault.ShardFault.TheVariants.{AlreadyTracked, NoPresence, ClockFull, JournalFull, NoSub, BadIncarnation, OutOfMemory}
use Rattle.channel_rules.specs.Asks.{Ask, Given, track, update, untrack, untrack_all, list, get, subscribe, take, unsubscribe, waits, shout}
use Rattle.channel_rules.specs.Frames.{message_of}
use Rattle.session_laws.specs.Laws.{AllFramesMirror, CallsGive}
use Rattle.presence_stdio.specs.Local.{TableStep}
use Rattle.channel_rules.specs.Seen.{in_table}
use Rattle.channel_rules.specs.declared.refusal.Refusal.TheVariants.{OverRation, NotGranted, Table}
use Rattle.session_laws.specs.Mirrors.{after_reading, mirror_from, Mirrors, given_after, given_to, given_by}
use Rattle.session_laws.proofs.Mirroring.{frames_mirror}

-- ---- what was taken since the last state comes last

abbrev EndsWith : List Item → List Item → Type 0
EndsWith all last = (front : List Item) × (all ≡ front ++ last)

took_last : (rows : List (Dot × Row)) (max : ℕ) (w : Waiting) (all last : List Item) → EndsWith all last → EndsWith (all ++ given rows max w) (took rows max w last)
took_last rows max Behind all last e = (all, refl)
took_last rows max (Queued q) all last e = (e.0, ap (λ xs. xs ++ given rows max (Queued q)) e.1 ∙ append_assoc e.0 last (given rows max (Queued q)))

given_last : (s : Step) (n : ℕ) (rows : List (Dot × Row)) (w : Waiting) (all last : List Item) → EndsWith all last → EndsWith (given_after s n rows w all) (taken_after s n rows w last)
given_last (steps_are.Take m max) n rows w all last e = go (nat_eq m n)
  where
    go : (b : Bool) → EndsWith (cond b (all ++ given rows max w) all) (cond b (took rows max w last) last)
    go true = took_last rows max w all last e
    go false = e
given_last _ n rows w all last e = e

taken_last : (h : History) (n : ℕ) → EndsWith (given_to h n) (taken h n)
unfolding given_to taken
taken_last (Begin s) n = ([], refl)
taken_last (Then h e) n = given_last e.step n (listed_for h (topic_of h n)) (queue h n) (given_to h n) (taken h n) (taken_last h n)

mirror_append : (ls : Listing) (f : Item → Message) (xs ys : List Item) → mirror_from ls (each f (xs ++ ys)) ≡ mirror_from (mirror_from ls (each f xs)) (each f ys)
mirror_append ls f [] ys = refl
mirror_append ls f (x ∷ xs) ys = mirror_append (after_reading ls (frame_in (f x))) f xs ys

quiet_queue : (w : Waiting) → is_waiting w ≡ false → w ≡ Queued []
quiet_queue Behind e = absurd (cc)
quiet_queue (Queued []) e = refl
quiet_queue (Queued (i ∷ is)) e = absurd (cc)

pub all_frames_mirror : AllFramesMirror
all_frames_mirror h l n t is_topic quiet join_ref before =
    let ends = taken_last h n in
    let start : Listing = mirror_from before (each (message_of join_ref t) ends.0) in
    let same : mirror_from start (each (message_of join_ref t) (taken h n ++ [])) ≡ mirror_from before (each (message_of join_ref t) (given_to h n)) =
    ap (λ xs. mirror_from start (each (message_of join_ref t) xs)) (append-nil (taken h n))
    ∙ (sym (mirror_append before (message_of join_ref t) ends.0 (taken h n)) ∙ ap (λ xs. mirror_from before (each (message_of join_ref t) xs)) (sym ends.1)) in
    subst (λ (ls : Listing). Mirrors ls (listed h t)) same (frames_mirror h l n t is_topic [] (quiet_queue (queue h n) quiet) join_ref start)

-- ---- calls

-- what a step gives
abbrev step_gives : Step → History → ℕ → List Item
step_gives (steps_are.Take m max) h n = cond (nat_eq m n) (items_given h n max) []
step_gives _ h n = []

given_more : (s : Step) (h : History) (n : ℕ) (all : List Item) → given_after s n (listed_for h (topic_of h n)) (queue h n) all ≡ all ++ step_gives s h n
given_more (steps_are.Take m max) h n all = go (nat_eq m n)
  where
    go : (b : Bool) → cond b (all ++ items_given h n max) all ≡ all ++ cond b (items_given h n max) []
    go true = refl
    go false = sym (append-nil all)
given_more _ h n all = sym (append-nil all)

made_gives : (old new : History) (s : Step) (n : ℕ) → Made old new None s → given_to new n ≡ given_to old n ++ step_gives s old n
unfolding given_to after
made_gives old new s n made = ap (λ h. given_to h n) made.journal ∙ go (accepted old s) made.accepted
  where
    go : (o : Option Outcome) → is_some o ≡ true → given_to (with_outcome old s None o) n ≡ given_to old n ++ step_gives s old n
    go None e = absurd (cc)
    go (Some o) e = given_more s old n (given_to old n)

kept : (old new : History) (n : ℕ) → new ≡ old → given_to new n ≡ given_to old n ++ []
kept old new n e = ap (λ h. given_to h n) e ∙ sym (append-nil (given_to old n))

-- a step that gives nothing, however it was answered
quiet_call : {A : Type 0} (old new : History) (s : Step) (n : ℕ) → step_gives s old n ≡ [] → (a : Result A ShardFault) → Stepped old new None s a → given_to new n ≡ given_to old n ++ []
quiet_call old new s n none (Ok x) made = made_gives old new s n made ∙ ap (λ xs. given_to old n ++ xs) none
quiet_call old new s n none (Err AlreadyTracked) made = made_gives old new s n made ∙ ap (λ xs. given_to old n ++ xs) none
quiet_call old new s n none (Err NoPresence) made = made_gives old new s n made ∙ ap (λ xs. given_to old n ++ xs) none
quiet_call old new s n none (Err ClockFull) e = kept old new n e
quiet_call old new s n none (Err JournalFull) e = kept old new n e
quiet_call old new s n none (Err NoSub) e = kept old new n e
quiet_call old new s n none (Err BadIncarnation) e = kept old new n e
quiet_call old new s n none (Err OutOfMemory) e = kept old new n e

-- a take is never answered as a track or an update is
never_tracked : (t : Option (List ℕ)) (max : ℕ) (w : Waiting) → for_present t (take_outcome max w) ≡ Some outcomes_are.AlreadyTracked → ⊥
never_tracked None max w e = cc
never_tracked (Some t) max Behind e = cc
never_tracked (Some t) max (Queued q) e = cc

never_absent : (t : Option (List ℕ)) (max : ℕ) (w : Waiting) → for_present t (take_outcome max w) ≡ Some outcomes_are.NoPresence → ⊥
never_absent None max w e = cc
never_absent (Some t) max Behind e = cc
never_absent (Some t) max (Queued q) e = cc

same_items : (old : History) (m n max : ℕ) (items : List Item) → items ≡ items_given old m max → (b : Bool) → nat_eq m n ≡ b → cond b (items_given old n max) [] ≡ cond b items []
same_items old m n max items e true s = ap (λ z. items_given old z max) (sym (eqb-true m n s)) ∙ sym e
same_items old m n max items e false s = refl

take_call : (pid : ℕ) (old new : History) (n : ℕ) (t : List ℕ) (sub : Sub) (max : ℕ) (a : Result (List Item) ShardFault) → TableStep pid old (take t sub max) a new → given_to new n ≡ given_to old n ++ given_by (take t sub max) (in_table a) n
unfolding outcome_of
take_call pid old new n t sub max (Ok items) h =
    made_gives old new (steps_are.Take sub.number max) n h.stepped ∙ ap (λ xs. given_to old n ++ xs) (same_items old sub.number n max items h.given (nat_eq sub.number n) refl)
take_call pid old new n t sub max (Err AlreadyTracked) h = absurd (never_tracked (topic_of old sub.number) max (queue old sub.number) h.given)
take_call pid old new n t sub max (Err NoPresence) h = absurd (never_absent (topic_of old sub.number) max (queue old sub.number) h.given)
take_call pid old new n t sub max (Err ClockFull) h = kept old new n h.stepped
take_call pid old new n t sub max (Err JournalFull) h = kept old new n h.stepped
take_call pid old new n t sub max (Err NoSub) h = kept old new n h.stepped
take_call pid old new n t sub max (Err BadIncarnation) h = kept old new n h.stepped
take_call pid old new n t sub max (Err OutOfMemory) h = kept old new n h.stepped

-- a call gives what the table answers to it
table_gives : (pid : ℕ) (old new : History) (q : Ask) (a : Result (Given q) ShardFault) → TableStep pid old q a new → (n : ℕ) → given_to new n ≡ given_to old n ++ given_by q (in_table a) n
table_gives pid old new (track t k m) a h n = quiet_call old new (steps_are.Track pid t k m) n refl a h.stepped
table_gives pid old new (update t k m) a h n = quiet_call old new (steps_are.Update pid t k m) n refl a h.stepped
table_gives pid old new (untrack t k) a h n = quiet_call old new (steps_are.Untrack pid t k) n refl a h.stepped
table_gives pid old new (untrack_all t) a h n = quiet_call old new (steps_are.UntrackAll pid t) n refl a h.stepped
table_gives pid old new (list t) a h n = quiet_call old new (steps_are.List t) n refl a h.stepped
table_gives pid old new (get t k) a h n = quiet_call old new (steps_are.Get t k) n refl a h.stepped
table_gives pid old new (subscribe t) a h n = quiet_call old new (steps_are.Subscribe t) n refl a h.stepped
table_gives pid old new (take t sub max) a h n = take_call pid old new n t sub max a h
table_gives pid old new (unsubscribe t sub) a h n = quiet_call old new (steps_are.Unsubscribe sub.number) n refl a h.stepped
table_gives pid old new (waits t sub) a h n = kept old new n h.0
table_gives pid old new (shout t p) a h n = quiet_call old new (steps_are.Shout t p) n refl a h.stepped

pub calls_give : CallsGive
calls_give pid old new q (Ok x) h n = table_gives pid old new q (Ok x) h n
calls_give pid old new q (Err (Table e)) h n = table_gives pid old new q (Err e) h n
calls_give pid old new q (Err OverRation) h n = absurd h
calls_give pid old new q (Err NotGranted) h n = absurd h
