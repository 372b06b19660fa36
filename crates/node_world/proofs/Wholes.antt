-- What a shard tells, and what is left where it refused.
use Rattle.std.proofs.Common.{◌≡◌, ℕ, ◌^◌, Bool, true, false, cond, is_some, nat_lt, nat_le, Option, Some, None, Result, Ok, Err, OnOk, refl, sym, subst, arith}
use Rattle.std.proofs.lemmas.Bool.Decides.{nat_tests}
use Rattle.orswot_core.specs.declared.form.Form.{Form}
use Rattle.orswot_core.specs.Telling.{ToldValue}
use Rattle.delta_range.specs.Deltas.{DeltaValue, telling_in, IsDelta}
use Rattle.presence_journal.specs.StepLimits.{is_heard}
use Rattle.presence_journal.specs.declared.step.Step.TheVariants as steps_are
use Rattle.presence_journal.specs.History.{History, is_full, last_number}
use Rattle.presence_journal.specs.Table.{outcome_of, accepted}
use Rattle.presence_journal_known.specs.Full.{IsFullOf}
use Rattle.presence_journal_cuts.specs.Cuts.{IsCut}
use Rattle.presence_journal_cuts.specs.KeptDeltas.{IsToldFrom}
use Rattle.tracker_shard.specs.declared.fault.ShardFault.{ShardFault}
use Rattle.tracker_shard.specs.declared.fault.ShardFault.TheVariants.{AlreadyTracked, NoPresence, ClockFull, JournalFull, NoSub, BadIncarnation, OutOfMemory}
use Rattle.tracker_shard.specs.Steps.{Stepped, Answers, IsDue, RefusesForRoom, cause, refusal, checkpoint_refusal}
use Rattle.node_world.specs.Living.{CutsIf, Cuts, BeginsIf, BeginsAgain}
use Rattle.node_world.specs.World.{TellsCut, TellsWhole}

pub whole_all : (form : Form) (h : History) (from : Option ℕ) (t u : ToldValue) → from ≡ None → IsFullOf form h t → u ≡ t → is_heard u ≡ true → TellsWhole form h from u
whole_all form h from t u n f same limits = subst (λ o. TellsWhole form h o u) (sym n) (record { tells = subst (IsFullOf form h) (sym same) f; limits = limits })

pub whole_from : (form : Form) (h : History) (from : Option ℕ) (m : ℕ) (t u : ToldValue) → from ≡ Some m → IsToldFrom form h m t → u ≡ t → is_heard u ≡ true → TellsWhole form h from u
whole_from form h from m t u n f same limits = subst (λ o. TellsWhole form h o u) (sym n) (record { tells = subst (IsToldFrom form h m) (sym same) f; limits = limits })

-- a cut that is told in a form
pub cut_told : (form : Form) (h : History) (t : ToldValue) (d : DeltaValue) → IsCut h d → IsDelta d → t ≡ telling_in form d → is_heard t ≡ true → TellsCut form h t
cut_told form h t d cut sound tells limits = record { delta = d; cut = cut; sound = sound; tells = tells; limits = limits }

-- a full journal takes no cut
cut_none : (form : Form) (h g : History) → g ≡ h → refusal true h steps_are.Cut ≡ Some JournalFull → Cuts form h g None
unfolding accepted outcome_of
cut_none form h g same r = go (is_full h) r
  where
    go : (b : Bool) → cond b (Some JournalFull) (cond true None (Some (cause steps_are.Cut))) ≡ Some JournalFull → CutsIf form (is_some (cond b None (outcome_of h steps_are.Cut))) h g None
    go true f = same
    go false f = absurd (cc)

pub cut_refused : (form : Form) (h g : History) → g ≡ h → refusal true h steps_are.Cut ≡ Some JournalFull → Cuts form h g None
cut_refused = cut_none

pub begin_refused : (h g : History) → g ≡ h → checkpoint_refusal h ≡ Some JournalFull → BeginsAgain h g
begin_refused h g same r = go (nat_le (2 ^ 62) (last_number h)) refl r
  where
    below : (a b : ℕ) → nat_le b a ≡ true → nat_lt a b ≡ false
    below a b f = grind (arith, nat_tests)

    go : (b : Bool) → nat_le (2 ^ 62) (last_number h) ≡ b → cond b (Some JournalFull) None ≡ Some JournalFull → BeginsIf (nat_lt (last_number h) (2 ^ 62)) h g
    go true e f = subst (λ b. BeginsIf b h g) (sym (below (last_number h) (2 ^ 62) e)) same
    go false e f = absurd (cc)

-- where a cut is refused nothing changes
pub cut_short : {A : Type 0} (Gives : A → Type 0) (h g : History) (f : ShardFault) → Stepped {A = A} h g None steps_are.Cut (Err f) → Answers Gives (outcome_of h steps_are.Cut) (Err f) → g ≡ h
unfolding outcome_of
cut_short Gives h g AlreadyTracked k a = absurd (cc)
cut_short Gives h g NoPresence k a = absurd (cc)
cut_short Gives h g ClockFull k a = k
cut_short Gives h g JournalFull k a = k
cut_short Gives h g NoSub k a = k
cut_short Gives h g BadIncarnation k a = k
cut_short Gives h g OutOfMemory k a = k

pub ruleset wholes = (whole_all, whole_from, cut_told, cut_refused, cut_short, begin_refused)

-- ---- refused for want of room

-- any other refusal than that of a full journal is want of memory
pub short_of : (f : ShardFault) → RefusesForRoom {A = Unit {0}} (Err f) → (f ≡ JournalFull → ⊥) → f ≡ OutOfMemory
short_of AlreadyTracked k n = absurd k
short_of NoPresence k n = absurd k
short_of ClockFull k n = absurd k
short_of JournalFull k n = absurd (n refl)
short_of NoSub k n = absurd k
short_of BadIncarnation k n = absurd k
short_of OutOfMemory k n = refl

room_of : (A B : Type 0) (f : ShardFault) → RefusesForRoom {A = A} (Err f) → RefusesForRoom {A = B} (Err f)
room_of A B AlreadyTracked k = k
room_of A B NoPresence k = k
room_of A B ClockFull k = k
room_of A B JournalFull k = k
room_of A B NoSub k = k
room_of A B BadIncarnation k = k
room_of A B OutOfMemory k = k

pub room_at : {A : Type 0} (r : Result A ShardFault) (f : ShardFault) → r ≡ Err f → RefusesForRoom r → RefusesForRoom {A = Unit {0}} (Err f)
room_at {A} r f e k = room_of A (Unit {0}) f (subst (λ (y : Result A ShardFault). RefusesForRoom y) e k)

pub cut_full : (form : Form) (h g : History) (f : ShardFault) → f ≡ JournalFull → g ≡ h → IsDue {A = DeltaValue} (Err f) (refusal true h steps_are.Cut) → Cuts form h g None
cut_full form h g f e same d = cut_refused form h g same (subst (λ (x : ShardFault). IsDue {A = DeltaValue} (Err x) (refusal true h steps_are.Cut)) e d)

pub begin_full : {E : Type 0} (h g : History) (f : ShardFault) (q : Result (Unit {0}) E) → g ≡ h → IsDue {A = Unit {0}} (Err f) (checkpoint_refusal h) → OnOk q (f ≡ JournalFull) → OnOk q (BeginsAgain h g)
begin_full h g f (Err e) same d k = tt
begin_full h g f (Ok x) same d k = begin_refused h g same (subst (λ (x : ShardFault). IsDue {A = Unit {0}} (Err x) (checkpoint_refusal h)) k d)

pub ruleset rooms = (short_of, room_at, cut_full, begin_full)
