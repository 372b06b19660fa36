-- What a call of a shard leaves: its step and the row that it adds, or all as it was.
use Rattle.std.proofs.Common.{◌≡◌, ℕ, Bool, true, false, cond, is_some, Option, Some, None, Result, Ok, Err, refl, sym, ◌∙◌, ap, subst, List, ◌&&◌, OnOk}
use Rattle.presence_base.specs.declared.dots.Dot.{Dot}
use Rattle.presence_base.specs.declared.row.Row.{Row}
use Rattle.presence_journal.specs.declared.step.Step.TheVariants as steps_are
use Rattle.presence_journal.specs.declared.step.Step.{Step}
use Rattle.presence_journal.specs.declared.entry.Outcome.{Outcome}
use Rattle.presence_journal.specs.History.{History, is_full}
use Rattle.presence_journal.specs.Queue.{topic_of}
use Rattle.presence_journal.specs.Table.{outcome_of, accepted, after, for_present}
use Rattle.presence_journal.proofs.FoldOthers.{refused_stays}
use Rattle.tracker_shard.specs.declared.fault.ShardFault.{ShardFault}
use Rattle.tracker_shard.specs.declared.fault.ShardFault.TheVariants.{AlreadyTracked, NoPresence, ClockFull, JournalFull, NoSub, BadIncarnation, OutOfMemory}
use Rattle.tracker_shard.specs.declared.call.Found.{Found}
use Rattle.tracker_shard.specs.Calls.{IsAdmitted, Looks}
use Rattle.tracker_shard.specs.Steps.{Made, Stepped, cause, refusal, is_found}
use Rattle.tracker_shard.proofs.Doors.{nobody_may}
use Rattle.node_world.specs.Taken.{Took, AddsRow, RefusesMissing}
use Rattle.node_world.specs.World.{added, with_row}

-- ---- a step that is entered

pub made_took : (old new : History) (s : Step) → Made old new None s → Took old new s true
made_took old new s m = record { is = sym m.accepted; journal = m.journal }

accepted_here : (h : History) (s : Step) (o : Outcome) → outcome_of h s ≡ Some o → is_full h ≡ false → accepted h s ≡ Some o
unfolding accepted
accepted_here h s o table room = rw (room) table

pub row_kept : (h : History) (s : Step) (o : Outcome) (a : Option (Dot × Row)) (xs ys zs : List (Dot × Row)) → outcome_of h s ≡ Some o → is_full h ≡ false → a ≡ added s (Some o) → ys ≡ xs → zs ≡ with_row ys a → AddsRow h s xs zs
row_kept h s o a xs ys zs table room is same rows =
    rows ∙ (ap (λ (ws : List (Dot × Row)). with_row ws a) same ∙ ap (with_row xs) (is ∙ ap (added s) (sym (accepted_here h s o table room))))

-- want of memory leaves all as it was
pub unmade : (old new : History) (s : Step) (f : ShardFault) → f ≡ OutOfMemory → Stepped {A = Unit {0}} old new None s (Err f) → new ≡ old
unmade old new s f is m = subst (λ (e : ShardFault). Stepped {A = Unit {0}} old new None s (Err e)) is m

pub ruleset entering = (nobody_may, made_took, row_kept, unmade)

-- ---- a step that is refused by no entry

pub stands : (old : History) (s : Step) (found : Bool) (f : ShardFault) → (found ≡ false → outcome_of old s ≡ None) → refusal found old s ≡ Some f → accepted old s ≡ None
unfolding accepted
stands old s false f missing r = go (is_full old) (missing refl)
  where
    go : (b : Bool) → outcome_of old s ≡ None → cond b None (outcome_of old s) ≡ None
    go true n = refl
    go false n = n
stands old s true f missing r = go (is_full old) (outcome_of old s) r
  where
    go : (b : Bool) (o : Option Outcome) → cond b (Some JournalFull) (cond (is_some o) None (Some (cause s))) ≡ Some f → cond b None o ≡ None
    go true o q = refl
    go false None q = refl
    go false (Some o) q = absurd (cc)

none_missing : (there : Bool) (o : Option Outcome) → RefusesMissing there o → there ≡ false → o ≡ None
none_missing true o m e = absurd (cc)
none_missing false o m e = m

refused_by : {A : Type 0} (Gives : A → Type 0) (there : Bool) (h : History) (s : Step) (f : ShardFault) → RefusesMissing there (outcome_of h s) → Looks Gives there h s (Err f) → (f ≡ OutOfMemory → ⊥) → accepted h s ≡ None
refused_by Gives there h s AlreadyTracked m looks good = absurd looks
refused_by Gives there h s NoPresence m looks good = absurd looks
refused_by Gives there h s ClockFull m looks good = stands h s there ClockFull (none_missing there (outcome_of h s) m) looks
refused_by Gives there h s JournalFull m looks good = stands h s there JournalFull (none_missing there (outcome_of h s) m) looks
refused_by Gives there h s NoSub m looks good = stands h s there NoSub (none_missing there (outcome_of h s) m) looks
refused_by Gives there h s BadIncarnation m looks good = stands h s there BadIncarnation (none_missing there (outcome_of h s) m) looks
refused_by Gives there h s OutOfMemory m looks good = absurd (good refl)

pub refused_after : {A E : Type 0} (Gives : A → Type 0) (there : Bool) (h g : History) (s : Step) (f : ShardFault) (q : Result (Unit {0}) E) → RefusesMissing there (outcome_of h s) → Looks Gives there h s (Err f) → g ≡ h → OnOk q (f ≡ OutOfMemory → ⊥) → OnOk q (g ≡ after h s None)
refused_after Gives there h g s f (Ok x) m looks same good = same ∙ sym (refused_stays h s None (refused_by Gives there h s f m looks good))
refused_after Gives there h g s f (Err e) m looks same good = tt

pub refused_adds : {A E : Type 0} (Gives : A → Type 0) (there : Bool) (h : History) (s : Step) (f : ShardFault) (xs : List (Dot × Row)) (q : Result (Unit {0}) E) → RefusesMissing there (outcome_of h s) → Looks Gives there h s (Err f) → OnOk q (f ≡ OutOfMemory → ⊥) → OnOk q (AddsRow h s xs xs)
refused_adds Gives there h s f xs (Ok x) m looks good = ap (λ (o : Option Outcome). with_row xs (added s o)) (sym (refused_by Gives there h s f m looks good))
refused_adds Gives there h s f xs (Err e) m looks good = tt

-- ---- what was found

pub found_after : {A E : Type 0} (Gives : A → Type 0) (there : Bool) (h mid g : History) (s : Step) (f : Found A) (q : Result (Unit {0}) E) → IsAdmitted Gives there h s f → mid ≡ h → OnOk q (Took mid g f.step true) → OnOk q (g ≡ after h s None)
found_after Gives there h mid g s f (Ok x) found same took = took.journal ∙ (λ i. after (same i) (found.is.step i) None)
found_after Gives there h mid g s f (Err e) found same took = tt

pub found_adds : {A E : Type 0} (Gives : A → Type 0) (there : Bool) (h mid : History) (s : Step) (f : Found A) (xs ys : List (Dot × Row)) (q : Result (Unit {0}) E) → IsAdmitted Gives there h s f → mid ≡ h → OnOk q (AddsRow mid f.step xs ys) → OnOk q (AddsRow h s xs ys)
found_adds Gives there h mid s f xs ys (Ok x) found same adds = adds ∙ (λ i. with_row xs (added (found.is.step i) (accepted (same i) (found.is.step i))))
found_adds Gives there h mid s f xs ys (Err e) found same adds = tt

pub found_table : {A : Type 0} (Gives : A → Type 0) (there : Bool) (h mid : History) (s : Step) (f : Found A) → IsAdmitted Gives there h s f → mid ≡ h → outcome_of mid f.step ≡ Some f.outcome
found_table Gives there h mid s f found same = (λ i. outcome_of (same i) (found.is.step i)) ∙ found.is.table

pub found_room : {A : Type 0} (Gives : A → Type 0) (there : Bool) (h mid : History) (s : Step) (f : Found A) → IsAdmitted Gives there h s f → mid ≡ h → is_full mid ≡ false
found_room Gives there h mid s f found same = ap is_full same ∙ found.room

pub ruleset taking = (refused_after, refused_adds, found_after, found_adds, found_table, found_room)

-- ---- a step that names a subscriber

missing_by : (o : Option (List ℕ)) (p : Outcome) → RefusesMissing (is_some o && true) (for_present o p)
missing_by None p = refl
missing_by (Some t) p = tt

pub take_missing : (h : History) (slot n max : ℕ) → slot ≡ 0 → RefusesMissing (is_found h slot n) (outcome_of h (steps_are.Take n max))
unfolding outcome_of
take_missing h slot n max e = subst (λ (k : ℕ). RefusesMissing (is_found h k n) (outcome_of h (steps_are.Take n max))) (sym e) (missing_by (topic_of h n) _)

pub end_missing : (h : History) (slot n : ℕ) → slot ≡ 0 → RefusesMissing (is_found h slot n) (outcome_of h (steps_are.Unsubscribe n))
unfolding outcome_of
end_missing h slot n e = subst (λ (k : ℕ). RefusesMissing (is_found h k n) (outcome_of h (steps_are.Unsubscribe n))) (sym e) (missing_by (topic_of h n) _)

pub ruleset missing = (take_missing, end_missing)
