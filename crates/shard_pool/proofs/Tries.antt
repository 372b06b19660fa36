-- A call that is made again where a checkpoint made room.
use Rattle.std.proofs.Common.{◌≡◌, inl, inr, ℕ, Bool, true, false, List, Option, Some, None, refl, sym, ap, subst, ◌∙◌}
use Rattle.std.proofs.lemmas.Bool.{false≢true}
use Rattle.std.specs.Prelude.{Result, Ok, Err}
use Rattle.presence_journal.specs.declared.step.Step.{Step}
use Rattle.presence_journal.specs.History.{History, own}
use Rattle.presence_journal.specs.Queue.{AllAreBehind}
use Rattle.presence_journal.specs.Table.{IsLegal, outcome_of}
use Rattle.tracker_shard.specs.declared.fault.ShardFault.{ShardFault}
use Rattle.tracker_shard.specs.declared.fault.ShardFault.TheVariants.{AlreadyTracked, NoPresence, ClockFull, JournalFull, NoSub, BadIncarnation, OutOfMemory}
use Rattle.tracker_index.specs.Starting.{IsBegunAgain}
use Rattle.tracker_shard.specs.Steps.{Answers, IsDue, Stepped, refusal}
use Rattle.shard_pool.specs.declared.reply.Reply.{Reply}
use Rattle.shard_pool.specs.Hands.{Hand}
use Rattle.shard_pool.specs.Lent.{CalledFrom, IsOrBegins, MadeFrom, Notes, Replies, counted, is_step, lacks_room}
use Rattle.shard_pool.specs.Lines.{IsOfLane, IsOfShard}

-- what lacks room is no step

lacks_no_step : {A : Type 0} (old new : History) (seat : Option ℕ) (step : Step) (r : Result A ShardFault) → lacks_room r ≡ true → Stepped old new seat step r → new ≡ old
lacks_no_step old new seat step (Ok x) lack made = absurd (false≢true lack)
lacks_no_step old new seat step (Err AlreadyTracked) lack made = absurd (false≢true lack)
lacks_no_step old new seat step (Err NoPresence) lack made = absurd (false≢true lack)
lacks_no_step old new seat step (Err ClockFull) lack made = made
lacks_no_step old new seat step (Err JournalFull) lack made = made
lacks_no_step old new seat step (Err NoSub) lack made = made
lacks_no_step old new seat step (Err BadIncarnation) lack made = made
lacks_no_step old new seat step (Err OutOfMemory) lack made = made

lacks_no_note : {A : Type 0} (h : History) (old new : Hand) (step : Step) (r : Result A ShardFault) → lacks_room r ≡ true → Notes h old new step r → new ≡ old
lacks_no_note h old new step (Ok x) lack notes = absurd (false≢true lack)
lacks_no_note h old new step (Err AlreadyTracked) lack notes = absurd (false≢true lack)
lacks_no_note h old new step (Err NoPresence) lack notes = absurd (false≢true lack)
lacks_no_note h old new step (Err ClockFull) lack notes = notes
lacks_no_note h old new step (Err JournalFull) lack notes = notes
lacks_no_note h old new step (Err NoSub) lack notes = notes
lacks_no_note h old new step (Err BadIncarnation) lack notes = notes
lacks_no_note h old new step (Err OutOfMemory) lack notes = notes

lacks_no_count : {A : Type 0} (r : Result A ShardFault) (n m : ℕ) → lacks_room r ≡ true → n ≡ counted m (is_step r) → n ≡ m
lacks_no_count (Ok x) n m lack is = absurd (false≢true lack)
lacks_no_count (Err AlreadyTracked) n m lack is = absurd (false≢true lack)
lacks_no_count (Err NoPresence) n m lack is = absurd (false≢true lack)
lacks_no_count (Err ClockFull) n m lack is = is
lacks_no_count (Err JournalFull) n m lack is = is
lacks_no_count (Err NoSub) n m lack is = is
lacks_no_count (Err BadIncarnation) n m lack is = is
lacks_no_count (Err OutOfMemory) n m lack is = is

module _ (node : List ℕ) (Begins : History → Type 0) (there : History → Bool) (step : Step) where
  is_here : (h : History) → (own h).name ≡ node → IsOfLane Begins h → IsOfShard node Begins h
  is_here h of_node of_lane = record { of_node = of_node; of_lane = of_lane }

  -- the first try stands
  pub called_first : {A : Type 0} (Gives : History → A → Type 0) (h left new : History) (old part : Hand) (r : Result (Reply A) ShardFault)
      → IsLegal h → (own h).name ≡ node → IsOfLane Begins h → Stepped h left (Some old.seat) step r → Notes h old part step r → Replies old.shard h step (Gives h) r → IsDue r (refusal (there h) h step)
      → new ≡ left → CalledFrom (IsOfShard node Begins) there h new old part step Gives r
  called_first Gives h left new old part r legal of_node of_lane made notes answer due same =
      record { history = h; from = inl refl; legal = legal; here = is_here h of_node of_lane; made = subst (λ (k : History). Stepped h k (Some old.seat) step r) (sym same) made; notes = notes; answer = answer; due = due }

  -- the second stands, behind a checkpoint
  pub called_again : {A B : Type 0} (Gives : History → A → Type 0) (h left begun new : History) (old mid part : Hand) (r : Result B ShardFault) (again : Result (Reply A) ShardFault)
      → lacks_room r ≡ true → Stepped h left (Some old.seat) step r → Notes h old mid step r → IsBegunAgain left begun → AllAreBehind begun
      → IsLegal begun → (own begun).name ≡ node → IsOfLane Begins begun → Stepped begun new (Some mid.seat) step again → Notes begun mid part step again → Replies mid.shard begun step (Gives begun) again → IsDue again (refusal (there begun) begun step)
      → CalledFrom (IsOfShard node Begins) there h new old part step Gives again
  called_again Gives h left begun new old mid part r again lack first noted begins behind legal of_node of_lane made notes answer due =
      let same : mid ≡ old = lacks_no_note h old mid step r lack noted in
      record {
        history = begun;
        from = inr (subst (λ (k : History). IsBegunAgain k begun) (lacks_no_step h left (Some old.seat) step r lack first) begins, behind);
        legal = legal;
        here = is_here begun of_node of_lane;
        made = subst (λ (x : Hand). Stepped begun new (Some x.seat) step again) same made;
        notes = subst (λ (x : Hand). Notes begun x part step again) same notes;
        answer = subst (λ (x : Hand). Replies x.shard begun step (Gives begun) again) same answer;
        due = due;
      }

  pub made_first : {A : Type 0} (Gives : History → A → Type 0) (h left new : History) (r : Result A ShardFault)
      → IsLegal h → (own h).name ≡ node → IsOfLane Begins h → Stepped h left None step r → Answers (Gives h) (outcome_of h step) r → IsDue r (refusal (there h) h step)
      → new ≡ left → MadeFrom (IsOfShard node Begins) there h new step Gives r
  made_first Gives h left new r legal of_node of_lane made answer due same =
      record { history = h; from = inl refl; legal = legal; here = is_here h of_node of_lane; made = subst (λ (k : History). Stepped h k None step r) (sym same) made; answer = answer; due = due }

  pub made_again : {A B : Type 0} (Gives : History → A → Type 0) (h left begun new : History) (r : Result B ShardFault) (again : Result A ShardFault)
      → lacks_room r ≡ true → Stepped h left None step r → IsBegunAgain left begun → AllAreBehind begun
      → IsLegal begun → (own begun).name ≡ node → IsOfLane Begins begun → Stepped begun new None step again → Answers (Gives begun) (outcome_of begun step) again → IsDue again (refusal (there begun) begun step)
      → MadeFrom (IsOfShard node Begins) there h new step Gives again
  made_again Gives h left begun new r again lack first begins behind legal of_node of_lane made answer due =
      record {
        history = begun;
        from = inr (subst (λ (k : History). IsBegunAgain k begun) (lacks_no_step h left None step r lack first) begins, behind);
        legal = legal;
        here = is_here begun of_node of_lane;
        made = made;
        answer = answer;
        due = due;
      }

-- how the book counts

pub total_first : {A : Type 0} (r : Result A ShardFault) (n k m : ℕ) → k ≡ counted m (is_step r) → n ≡ k → n ≡ counted m (is_step r)
total_first r n k m is same = same ∙ is

pub total_again : {A B : Type 0} (r : Result B ShardFault) (again : Result A ShardFault) (n k j m : ℕ) → lacks_room r ≡ true → j ≡ counted m (is_step r) → k ≡ j → n ≡ counted k (is_step again) → n ≡ counted m (is_step again)
total_again r again n k j m lack first same second = second ∙ ap (λ x. counted x (is_step again)) (same ∙ lacks_no_count r j m lack first)

pub ruleset called = (called_first, called_again, total_first, total_again)

pub ruleset made = (made_first, made_again)
