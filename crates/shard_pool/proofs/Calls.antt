-- A call behind a lock, as it is seen once the lock is let go.
use Rattle.std.proofs.Common.{arith, ◌≡◌, ◌≤◌, ◌<◌, ◌-◌, ◌^◌, inl, inr, ℕ, Bool, List, [], ◌∷◌, Some, None, Option, true, false, refl, sym, ◌∙◌, ap, subst}
use Rattle.std.specs.Prelude.{min, Result, Ok, Err, IfOk, OnOk, OnErr, Vec}
use Rattle.presence_base.specs.declared.dots.Dot.{Dot}
use Rattle.presence_journal.specs.declared.step.Step.{Step}
use Rattle.presence_journal.specs.declared.step.Step.TheVariants as steps_are
use Rattle.presence_journal.specs.History.{History, own, entry_count, is_full}
use Rattle.presence_journal.specs.Queue.{CurrentStay, AllAreBehind}
use Rattle.presence_journal.specs.Table.{IsLegal, outcome_of}
use Rattle.presence_journal.proofs.Topics.{queues_stay}
use Rattle.tracker_feeds.specs.Quiet.{TellsQuiet}
use Rattle.tracker_shard.specs.declared.fault.ShardFault.{ShardFault}
use Rattle.tracker_shard.specs.declared.fault.ShardFault.TheVariants.{AlreadyTracked, NoPresence, ClockFull, JournalFull, NoSub, BadIncarnation, OutOfMemory}
use Rattle.tracker_index.specs.Starting.{IsBegunAgain}
use Rattle.tracker_shard.specs.Steps.{Stepped, Answers, IsDue, RefusesForRoom, refusal, checkpoint_refusal, AnswersPairs, KeepsRows}
use Rattle.shard_pool.specs.declared.reply.Reply.{Reply}
use Rattle.shard_pool.specs.Hands.{Hand}
use Rattle.shard_pool.specs.Lines.{IsOfLane, IsOfShard}
use Rattle.shard_pool.specs.Lent.{CalledFrom, MadeFrom}
use Rattle.presence_journal.specs.KeptBytes.{kept_bytes}
use Rattle.shard_pool.specs.declared.due.DueFrom.{DueFrom}
use Rattle.shard_pool.specs.Due.{HasMany, TellsMany}
use Rattle.shard_pool.specs.Seated.{Called, IsDueOnceNoted}
use Rattle.shard_pool.specs.Unseated.{IsBehindOf, IsCheckpointed, IsDone, IsMadeWhereQuiet}

once_noted : {A : Type 0} (r : Result A ShardFault) (stands : Option ShardFault) → IsDue r stands → IsDueOnceNoted r stands
once_noted (Ok x) stands d = d
once_noted (Err AlreadyTracked) stands d = d
once_noted (Err NoPresence) stands d = d
once_noted (Err ClockFull) stands d = d
once_noted (Err JournalFull) stands d = d
once_noted (Err NoSub) stands d = d
once_noted (Err BadIncarnation) stands d = d
once_noted (Err OutOfMemory) stands d = tt

pub called_in : {A : Type 0} (Here : History → Type 0) (there : History → Bool) (lent left : History) (old new : Hand) (step : Step) (Gives : History → A → Type 0) (r : Result (Reply A) ShardFault)
    → CalledFrom Here there lent left old new step Gives r → Called Here there old new step Gives r
called_in Here there lent left old new step Gives r c =
    record { history = c.history; left = left; legal = c.legal; here = c.here; made = c.made; notes = c.notes; answer = c.answer; due = once_noted r (refusal (there c.history) c.history step) c.due }

pub ruleset called = (called_in)

pub is_behind_lane : (h : History) (node : List ℕ) (Begins : History → Type 0) (Is : History → Type 0) → IsLegal h
    → (own h).name ≡ node → IsOfLane Begins h → Is h → IsBehindOf (IsOfShard node Begins) Is
is_behind_lane h node Begins Is legal of_node of_lane is =
    record { history = h; legal = legal; here = record { of_node = of_node; of_lane = of_lane }; is = is }

pub is_done : {A : Type 0} (Here : History → Type 0) (there : History → Bool) (lent left : History) (step : Step) (Gives : History → A → Type 0) (r : Result A ShardFault)
    → MadeFrom Here there lent left step Gives r → IsBehindOf Here (λ h. IsDone there Gives h step r)
is_done Here there lent left step Gives r m =
    record { history = m.history; legal = m.legal; here = m.here; is = record { left = left; step = m.made; answer = m.answer; due = m.due } }

pub is_checkpointed : (h left : History) (r : Result Unit ShardFault) → OnOk r (IsBegunAgain h left) → OnOk r (AllAreBehind left) → OnErr r (left ≡ h) → IsDue r (checkpoint_refusal h) → RefusesForRoom r → IsCheckpointed h r
is_checkpointed h left r again behind same due room = record { left = left; again = again; behind = behind; same = same; due = due; room = room }

pub ruleset unseated = (is_behind_lane, is_done, is_checkpointed)

-- a checkpoint that is made only where it is due

abbrev refused : {A : Type 0} → ShardFault → Result A ShardFault
refused f = Err f

room_of : (f : ShardFault) → RefusesForRoom (refused {A = Unit {0}} f) → RefusesForRoom (refused {A = Bool} f)
room_of AlreadyTracked d = d
room_of NoPresence d = d
room_of ClockFull d = d
room_of JournalFull d = d
room_of NoSub d = d
room_of BadIncarnation d = d
room_of OutOfMemory d = d

pub too_few : (h : History) (due : DueFrom) → TellsMany due h false → IsMadeWhereQuiet due h (Ok false)
too_few h due few = record { left = h; leaves = refl; queues = λ n t e. refl; told = inl few; asked = tt; full = λ e. absurd (cc); room = tt }

pub not_quiet : (h : History) (due : DueFrom) → TellsQuiet h false → IsMadeWhereQuiet due h (Ok false)
not_quiet h due busy = record { left = h; leaves = refl; queues = λ n t e. refl; told = inr busy; asked = tt; full = λ e. absurd (cc); room = tt }

pub no_look : (h : History) (due : DueFrom) → HasMany due h → IsMadeWhereQuiet due h (Err OutOfMemory)
no_look h due many = record { left = h; leaves = refl; queues = tt; told = tt; asked = many; full = λ e. absurd (cc); room = tt }

pub made_quiet : (h left : History) (due : DueFrom) → HasMany due h → TellsQuiet h true → IsBegunAgain h left → CurrentStay h left → IsMadeWhereQuiet due h (Ok true)
made_quiet h left due many quiet again stay = record { left = left; leaves = again; queues = queues_stay h left quiet stay; told = (many, quiet); asked = tt; full = λ e. absurd (cc); room = tt }

full_due : (r : Result Unit ShardFault) (stands : Option ShardFault) → IsDue r stands → r ≡ Err JournalFull → stands ≡ Some JournalFull
full_due (Ok x) stands d e = absurd (cc)
full_due (Err AlreadyTracked) stands d e = absurd (cc)
full_due (Err NoPresence) stands d e = absurd (cc)
full_due (Err ClockFull) stands d e = absurd (cc)
full_due (Err JournalFull) stands d e = d
full_due (Err NoSub) stands d e = absurd (cc)
full_due (Err BadIncarnation) stands d e = absurd (cc)
full_due (Err OutOfMemory) stands d e = absurd (cc)

pub refused_quiet : (h left : History) (due : DueFrom) (r : Result Unit ShardFault) (f : ShardFault) → HasMany due h → r ≡ Err f → OnErr r (left ≡ h) → IsDue r (checkpoint_refusal h) → RefusesForRoom r → IsMadeWhereQuiet due h (Err f)
refused_quiet h left due (Ok x) f many e same d room = absurd (cc)
refused_quiet h left due (Err g) f many e same d room =
    let is : g ≡ f = cc in
    subst (λ k. IsMadeWhereQuiet due h (Err k)) is (record { left = left; leaves = same; queues = tt; told = tt; asked = many; full = λ p. full_due (Err g) (checkpoint_refusal h) d (let q : g ≡ JournalFull = cc in ap Err q); room = room_of g room })

pub ruleset where_quiet = (is_behind_lane, too_few, not_quiet, no_look, made_quiet, refused_quiet)

-- whether a journal is due

pub many_entries : (due : DueFrom) (h : History) → due.entries ≤ entry_count h → TellsMany due h true
many_entries due h many = record { many = inl many }

pub many_bytes : (due : DueFrom) (h : History) → due.kept_bytes ≤ min (kept_bytes h) (2 ^ 64 - 1) → TellsMany due h true
many_bytes due h many = record { many = inr (omega arith) }

pub few_of_both : (due : DueFrom) (h : History) → entry_count h < due.entries → min (kept_bytes h) (2 ^ 64 - 1) < due.kept_bytes → due.kept_bytes ≤ 2 ^ 64 - 1 → TellsMany due h false
few_of_both due h entries bytes fits = (entries, omega arith)

pub ruleset many = (many_entries, many_bytes, few_of_both)
