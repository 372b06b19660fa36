-- What an answer of the shard becomes as the answer of a lent step.
use Rattle.std.proofs.Common.{◌≡◌, ℕ, ◌+◌, Bool, true, [], ◌∷◌, ◌++◌, Option, refl, sym, ap, subst, ◌∙◌}
use Rattle.std.specs.Prelude.{Result, Ok, Err}
use Rattle.presence_journal.specs.declared.step.Step.{Step}
use Rattle.presence_journal.specs.declared.entry.Outcome.{Outcome}
use Rattle.presence_journal.specs.History.{History, last_number}
use Rattle.presence_journal.specs.Table.{outcome_of}
use Rattle.tracker_shard.specs.declared.fault.ShardFault.{ShardFault}
use Rattle.tracker_shard.specs.declared.fault.ShardFault.TheVariants.{AlreadyTracked, NoPresence, ClockFull, JournalFull, NoSub, BadIncarnation, OutOfMemory}
use Rattle.tracker_shard.specs.declared.call.Found.{Found}
use Rattle.tracker_shard.specs.Calls.{AnswersMade, IsAdmitted, Looks, MayMake, is_callers}
use Rattle.tracker_shard.specs.Steps.{Made, Stepped, Answers, IsDue, refusal}
use Rattle.tracker_shard.proofs.Doors.{callers_may, nobody_may, made_steps, made_answers, made_due, refused_steps, refused_answers, refused_due, unmade_due, unmade_steps}
use Rattle.shard_pool_settled.specs.declared.receipt.Receipt.{Receipt}
use Rattle.shard_pool.specs.declared.reply.Reply.{Reply}
use Rattle.shard_pool.specs.Hands.{Hand, receipt, with_call}
use Rattle.shard_pool.specs.Lent.{is_step, counted, Noted, NotedIf, Notes, reply_of, Replies}

step_of_reply : {A : Type 0} (old new : History) (seat : Option ℕ) (s : Step) (shard n : ℕ) (r : Result A ShardFault) → Stepped old new seat s r → Stepped old new seat s (reply_of shard n r)
step_of_reply old new seat s shard n (Ok x) m = m
step_of_reply old new seat s shard n (Err AlreadyTracked) m = m
step_of_reply old new seat s shard n (Err NoPresence) m = m
step_of_reply old new seat s shard n (Err ClockFull) m = m
step_of_reply old new seat s shard n (Err JournalFull) m = m
step_of_reply old new seat s shard n (Err NoSub) m = m
step_of_reply old new seat s shard n (Err BadIncarnation) m = m
step_of_reply old new seat s shard n (Err OutOfMemory) m = m

pub replied_step : {A : Type 0} (old new : History) (seat : Option ℕ) (s : Step) (shard n : ℕ) (r : Result A ShardFault) (x : Result (Reply A) ShardFault) → x ≡ reply_of shard n r → Stepped old new seat s r → Stepped old new seat s x
replied_step old new seat s shard n r x is m = rw is (step_of_reply old new seat s shard n r m)

answer_of_reply : {A : Type 0} (h : History) (s : Step) (Gives : A → Type 0) (shard n : ℕ) (r : Result A ShardFault) → n ≡ last_number h + 1 → Answers Gives (outcome_of h s) r → Replies shard h s Gives (reply_of shard n r)
answer_of_reply h s Gives shard n (Ok x) is a = (refl, is, a)
answer_of_reply h s Gives shard n (Err AlreadyTracked) is a = a
answer_of_reply h s Gives shard n (Err NoPresence) is a = a
answer_of_reply h s Gives shard n (Err ClockFull) is a = a
answer_of_reply h s Gives shard n (Err JournalFull) is a = a
answer_of_reply h s Gives shard n (Err NoSub) is a = a
answer_of_reply h s Gives shard n (Err BadIncarnation) is a = a
answer_of_reply h s Gives shard n (Err OutOfMemory) is a = a

pub replied_answer : {A : Type 0} (h : History) (s : Step) (Gives : A → Type 0) (shard n : ℕ) (r : Result A ShardFault) (x : Result (Reply A) ShardFault) → x ≡ reply_of shard n r → n ≡ last_number h + 1 → Answers Gives (outcome_of h s) r → Replies shard h s Gives x
replied_answer h s Gives shard n r x is number a = rw is (answer_of_reply h s Gives shard n r number a)

due_of_reply : {A : Type 0} (stands : Option ShardFault) (shard n : ℕ) (r : Result A ShardFault) → IsDue r stands → IsDue (reply_of shard n r) stands
due_of_reply stands shard n (Ok x) d = d
due_of_reply stands shard n (Err AlreadyTracked) d = d
due_of_reply stands shard n (Err NoPresence) d = d
due_of_reply stands shard n (Err ClockFull) d = d
due_of_reply stands shard n (Err JournalFull) d = d
due_of_reply stands shard n (Err NoSub) d = d
due_of_reply stands shard n (Err BadIncarnation) d = d
due_of_reply stands shard n (Err OutOfMemory) d = d

pub replied_due : {A : Type 0} (stands : Option ShardFault) (shard n : ℕ) (r : Result A ShardFault) (x : Result (Reply A) ShardFault) → x ≡ reply_of shard n r → IsDue r stands → IsDue x stands
replied_due stands shard n r x is d = rw is (due_of_reply stands shard n r d)

step_is_step : {A : Type 0} (shard n : ℕ) (r : Result A ShardFault) → is_step (reply_of shard n r) ≡ is_step r
step_is_step shard n (Ok x) = refl
step_is_step shard n (Err AlreadyTracked) = refl
step_is_step shard n (Err NoPresence) = refl
step_is_step shard n (Err ClockFull) = refl
step_is_step shard n (Err JournalFull) = refl
step_is_step shard n (Err NoSub) = refl
step_is_step shard n (Err BadIncarnation) = refl
step_is_step shard n (Err OutOfMemory) = refl

hand_is : (p q : Hand) (r : Receipt) → q.seat ≡ p.seat → q.shard ≡ p.shard → q.receipts ≡ p.receipts ++ r ∷ [] → q.share ≡ p.share + 1 → q ≡ with_call p r
hand_is p q r a b c d = λ i. record { seat = a i; shard = b i; receipts = c i; share = d i }

same_hand : (p q : Hand) → q.seat ≡ p.seat → q.shard ≡ p.shard → q.receipts ≡ p.receipts → q.share ≡ p.share → q ≡ p
same_hand p q a b c d = λ i. record { seat = a i; shard = b i; receipts = c i; share = d i }

-- what is found has its entry, and is answered

pub entered_step : {A : Type 0} (Gives : A → Type 0) (there : Bool) (old new : History) (seat : Option ℕ) (s : Step) (f : Found A) (shard n : ℕ) (x : Result (Reply A) ShardFault) → x ≡ reply_of shard n f.answer → IsAdmitted Gives there old s f → Made old new seat f.step → Stepped old new seat s x
entered_step Gives there old new seat s f shard n x is found made =
    replied_step old new seat s shard n f.answer x is (made_steps Gives there old new seat s f found made)

pub entered_answer : {A : Type 0} (Gives : A → Type 0) (there : Bool) (h : History) (s : Step) (f : Found A) (shard n : ℕ) (x : Result (Reply A) ShardFault) → x ≡ reply_of shard n f.answer → n ≡ last_number h + 1 → IsAdmitted Gives there h s f → Replies shard h s Gives x
entered_answer Gives there h s f shard n x is number found =
    replied_answer h s Gives shard n f.answer x is number (made_answers Gives there h s f found)

pub entered_due : {A : Type 0} (Gives : A → Type 0) (there : Bool) (h : History) (s : Step) (f : Found A) (shard n : ℕ) (x : Result (Reply A) ShardFault) → x ≡ reply_of shard n f.answer → IsAdmitted Gives there h s f → IsDue x (refusal there h s)
entered_due Gives there h s f shard n x is found =
    replied_due (refusal there h s) shard n f.answer x is (made_due Gives there h s f found)

answer_is_step : {A : Type 0} (Gives : A → Type 0) (o : Outcome) (r : Result A ShardFault) → AnswersMade Gives o r → is_step r ≡ true
answer_is_step Gives o (Ok x) answer = refl
answer_is_step Gives o (Err AlreadyTracked) answer = refl
answer_is_step Gives o (Err NoPresence) answer = refl
answer_is_step Gives o (Err ClockFull) answer = absurd answer
answer_is_step Gives o (Err JournalFull) answer = absurd answer
answer_is_step Gives o (Err NoSub) answer = absurd answer
answer_is_step Gives o (Err BadIncarnation) answer = absurd answer
answer_is_step Gives o (Err OutOfMemory) answer = absurd answer

entered_is_step : {A : Type 0} (Gives : A → Type 0) (there : Bool) (h : History) (s : Step) (f : Found A) (shard n : ℕ) (x : Result (Reply A) ShardFault) → x ≡ reply_of shard n f.answer → IsAdmitted Gives there h s f → is_step x ≡ true
entered_is_step Gives there h s f shard n x is found =
    ap is_step is ∙ (step_is_step shard n f.answer ∙ answer_is_step Gives f.outcome f.answer found.is.answer)

pub entered_total : {A : Type 0} (Gives : A → Type 0) (there : Bool) (h : History) (s : Step) (f : Found A) (shard n k m : ℕ) (x : Result (Reply A) ShardFault) → x ≡ reply_of shard n f.answer → IsAdmitted Gives there h s f → k ≡ m + 1 → k ≡ counted m (is_step x)
entered_total Gives there h s f shard n k m x is found count =
    count ∙ ap (counted m) (sym (entered_is_step Gives there h s f shard n x is found))

pub entered_notes : {A : Type 0} (Gives : A → Type 0) (there : Bool) (h : History) (p q : Hand) (s : Step) (f : Found A) (r : Receipt) (n : ℕ) (x : Result (Reply A) ShardFault) → x ≡ reply_of p.shard n f.answer → IsAdmitted Gives there h s f → n ≡ last_number h + 1
    → r ≡ receipt p.shard n f.step f.outcome → q.seat ≡ p.seat → q.shard ≡ p.shard → q.receipts ≡ p.receipts ++ r ∷ [] → q.share ≡ p.share + 1 → Notes h p q s x
entered_notes Gives there h p q s f r n x is found number kept a b c d =
    let same : r ≡ receipt p.shard (last_number h + 1) s f.outcome = kept ∙ (λ i. receipt p.shard (number i) (found.is.step i) f.outcome) in
    let noted : Noted h p q s = record { outcome = f.outcome; table = found.is.table; hand = hand_is p q _ a b (c ∙ ap (λ y. p.receipts ++ y ∷ []) same) d } in
    subst (λ made. NotedIf made h p q s) (sym (entered_is_step Gives there h s f p.shard n x is found)) noted

-- what is refused leaves all as it was

pub refused_notes : {A : Type 0} (Gives : A → Type 0) (there : Bool) (h : History) (p q : Hand) (s : Step) (f : ShardFault) → Looks Gives there h s (Err f) → q.seat ≡ p.seat → q.shard ≡ p.shard → q.receipts ≡ p.receipts → q.share ≡ p.share → Notes {A = A} h p q s (Err f)
refused_notes Gives there h p q s AlreadyTracked looks a b c d = absurd looks
refused_notes Gives there h p q s NoPresence looks a b c d = absurd looks
refused_notes Gives there h p q s ClockFull looks a b c d = same_hand p q a b c d
refused_notes Gives there h p q s JournalFull looks a b c d = same_hand p q a b c d
refused_notes Gives there h p q s NoSub looks a b c d = same_hand p q a b c d
refused_notes Gives there h p q s BadIncarnation looks a b c d = same_hand p q a b c d
refused_notes Gives there h p q s OutOfMemory looks a b c d = same_hand p q a b c d

pub refused_total : {A : Type 0} (Gives : A → Type 0) (there : Bool) (h : History) (s : Step) (f : ShardFault) (k m : ℕ) → Looks Gives there h s (Err f) → k ≡ m → k ≡ counted m (is_step {A = A} (Err f))
refused_total Gives there h s AlreadyTracked k m looks same = absurd looks
refused_total Gives there h s NoPresence k m looks same = absurd looks
refused_total Gives there h s ClockFull k m looks same = same
refused_total Gives there h s JournalFull k m looks same = same
refused_total Gives there h s NoSub k m looks same = same
refused_total Gives there h s BadIncarnation k m looks same = same
refused_total Gives there h s OutOfMemory k m looks same = same

-- memory was wanting for the entry

pub unmade_notes : (h : History) (p q : Hand) (s : Step) (f : ShardFault) → f ≡ OutOfMemory → q.seat ≡ p.seat → q.shard ≡ p.shard → q.receipts ≡ p.receipts → q.share ≡ counted p.share (is_step {A = Unit {0}} (Err f)) → Notes {A = Unit {0}} h p q s (Err f)
unmade_notes h p q s AlreadyTracked is a b c d = absurd (cc)
unmade_notes h p q s NoPresence is a b c d = absurd (cc)
unmade_notes h p q s ClockFull is a b c d = same_hand p q a b c d
unmade_notes h p q s JournalFull is a b c d = same_hand p q a b c d
unmade_notes h p q s NoSub is a b c d = same_hand p q a b c d
unmade_notes h p q s BadIncarnation is a b c d = same_hand p q a b c d
unmade_notes h p q s OutOfMemory is a b c d = same_hand p q a b c d

pub ruleset notes = (entered_step, entered_answer, entered_due, entered_total, entered_notes, refused_steps, refused_answers, refused_due, refused_notes, refused_total, unmade_due, unmade_steps, unmade_notes)

-- who makes a step

pub found_callers : {A : Type 0} (Gives : A → Type 0) (there : Bool) (h : History) (s : Step) (f : Found A) → IsAdmitted Gives there h s f → is_callers s ≡ true → is_callers f.step ≡ true
found_callers Gives there h s f found is = ap is_callers found.is.step ∙ is

pub ruleset seated = (found_callers, callers_may)

pub ruleset unseated = (nobody_may)
