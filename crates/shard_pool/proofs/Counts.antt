-- What one step does to the count of seated entries, and that it leaves the node. A checkpoint leaves both.
use Rattle.std.proofs.Common.{◌≡◌, ℕ, ◌+◌, true, List, Option, Some, None, refl, sym, ap, ◌∙◌, arith}
use Rattle.std.specs.Prelude.{Result, Ok, Err, OnOk, OnErr, is_some}
use Rattle.presence_journal.specs.declared.step.Step.{Step}
use Rattle.presence_journal.specs.declared.entry.Outcome.{Outcome}
use Rattle.presence_journal.specs.declared.step.Step.TheVariants as steps_are
use Rattle.presence_journal.specs.History.{History, own, begun, own_after}
use Rattle.presence_base.specs.declared.dots.Replica.{Replica}
use Rattle.presence_journal.specs.Table.{accepted, after, with_outcome}
use Rattle.tracker_shard.specs.declared.fault.ShardFault.{ShardFault}
use Rattle.tracker_shard.specs.declared.fault.ShardFault.TheVariants.{AlreadyTracked, NoPresence, ClockFull, JournalFull, NoSub, BadIncarnation, OutOfMemory}
use Rattle.tracker_shard.specs.Steps.{Made, Stepped}
use Rattle.tracker_index.specs.Starting.{seats, one_if, IsBegunAgain}
use Rattle.shard_pool.specs.Lent.{is_step, counted}
use Rattle.shard_pool.proofs.Lines.{line_begins, line_stays, line_after, line_same}

seats-with : (h : History) (s : Step) (seat : Option ℕ) (o : Option Outcome) → is_some o ≡ true → seats (with_outcome h s seat o) ≡ seats h + one_if (is_some seat)
unfolding seats
seats-with h s seat None e = absurd (cc)
seats-with h s seat (Some o) e = refl

seats-after : (h : History) (s : Step) (seat : Option ℕ) → is_some (accepted h s) ≡ true → seats (after h s seat) ≡ seats h + one_if (is_some seat)
unfolding after
seats-after h s seat e = seats-with h s seat (accepted h s) e

-- the node of a history: no step changes it
abbrev own_name : History → List ℕ
own_name h = (own h).name

same_name : (s : Step) (r : Replica) → (own_after s r).name ≡ r.name
same_name (steps_are.Rebirth incarnation) r = refl
same_name _ r = refl

own-with : (h : History) (s : Step) (seat : Option ℕ) (o : Option Outcome) → own_name (with_outcome h s seat o) ≡ own_name h
unfolding own
own-with h s seat None = refl
own-with h s seat (Some o) = same_name s (own h)

pub own-after : (h : History) (s : Step) (seat : Option ℕ) → own_name (after h s seat) ≡ own_name h
unfolding after
own-after h s seat = own-with h s seat (accepted h s)

made_seated : (old new : History) (seat : Option ℕ) (s : Step) → Made old new seat s → seats new ≡ seats old + one_if (is_some seat)
made_seated old new seat s m = ap seats m.journal ∙ seats-after old s seat m.accepted

made_own : (old new : History) (seat : Option ℕ) (s : Step) → Made old new seat s → (own new).name ≡ (own old).name
made_own old new seat s m = ap own_name m.journal ∙ own-after old s seat

pub stepped_seated : {A : Type 0} (old new : History) (seat : ℕ) (s : Step) (r : Result A ShardFault) → Stepped old new (Some seat) s r → seats new ≡ counted (seats old) (is_step r)
stepped_seated old new seat s (Ok x) m = made_seated old new (Some seat) s m
stepped_seated old new seat s (Err AlreadyTracked) m = made_seated old new (Some seat) s m
stepped_seated old new seat s (Err NoPresence) m = made_seated old new (Some seat) s m
stepped_seated old new seat s (Err ClockFull) m = ap seats m
stepped_seated old new seat s (Err JournalFull) m = ap seats m
stepped_seated old new seat s (Err NoSub) m = ap seats m
stepped_seated old new seat s (Err BadIncarnation) m = ap seats m
stepped_seated old new seat s (Err OutOfMemory) m = ap seats m

plus_nothing : (old new : History) (s : Step) → Made old new None s → seats new ≡ seats old
plus_nothing old new s m = let p = made_seated old new None s m in omega (arith, p)

pub unseated_same : {A : Type 0} (old new : History) (s : Step) (r : Result A ShardFault) → Stepped old new None s r → seats new ≡ seats old
unseated_same old new s (Ok x) m = plus_nothing old new s m
unseated_same old new s (Err AlreadyTracked) m = plus_nothing old new s m
unseated_same old new s (Err NoPresence) m = plus_nothing old new s m
unseated_same old new s (Err ClockFull) m = ap seats m
unseated_same old new s (Err JournalFull) m = ap seats m
unseated_same old new s (Err NoSub) m = ap seats m
unseated_same old new s (Err BadIncarnation) m = ap seats m
unseated_same old new s (Err OutOfMemory) m = ap seats m

pub stepped_own : {A : Type 0} (old new : History) (seat : Option ℕ) (s : Step) (r : Result A ShardFault) → Stepped old new seat s r → (own new).name ≡ (own old).name
stepped_own old new seat s (Ok x) m = made_own old new seat s m
stepped_own old new seat s (Err AlreadyTracked) m = made_own old new seat s m
stepped_own old new seat s (Err NoPresence) m = made_own old new seat s m
stepped_own old new seat s (Err ClockFull) m = ap own_name m
stepped_own old new seat s (Err JournalFull) m = ap own_name m
stepped_own old new seat s (Err NoSub) m = ap own_name m
stepped_own old new seat s (Err BadIncarnation) m = ap own_name m
stepped_own old new seat s (Err OutOfMemory) m = ap own_name m

pub node_stays : {A : Type 0} (old new : History) (seat : Option ℕ) (s : Step) (r : Result A ShardFault) (node : List ℕ) → Stepped old new seat s r → (own old).name ≡ node → (own new).name ≡ node
node_stays old new seat s r node m is = stepped_own old new seat s r m ∙ is

pub count_stays : {A : Type 0} (old new : History) (seat : ℕ) (s : Step) (r : Result A ShardFault) (n k : ℕ) → Stepped old new (Some seat) s r → n ≡ seats old → k ≡ counted n (is_step r) → k ≡ seats new
count_stays old new seat s r n k m is counts = counts ∙ ap (λ x. counted x (is_step r)) is ∙ sym (stepped_seated old new seat s r m)

pub begun_seated : (r : Replica) → seats (begun r) ≡ 0
unfolding seats
begun_seated r = refl

pub begun_own : (r : Replica) → own (begun r) ≡ r
unfolding own
begun_own r = refl

-- what a checkpoint leaves

again_seats : (old new : History) → IsBegunAgain old new → seats new ≡ seats old
unfolding seats
again_seats old new b = ap seats b.begins ∙ b.stands.seats

again_own : (old new : History) → IsBegunAgain old new → own new ≡ own old
unfolding own
again_own old new b = ap own b.begins ∙ b.stands.stands.stands.own

pub count_after : {A : Type 0} (old new : History) (r : Result A ShardFault) (n : ℕ) → OnOk r (IsBegunAgain old new) → OnErr r (new ≡ old) → n ≡ seats old → n ≡ seats new
count_after old new (Ok x) n again same is = is ∙ sym (again_seats old new again)
count_after old new (Err e) n again same is = is ∙ sym (ap seats same)

pub node_after : {A : Type 0} (old new : History) (r : Result A ShardFault) (node : List ℕ) → OnOk r (IsBegunAgain old new) → OnErr r (new ≡ old) → (own old).name ≡ node → (own new).name ≡ node
node_after old new (Ok x) node again same is = ap (λ x. x.name) (again_own old new again) ∙ is
node_after old new (Err e) node again same is = ap (λ h. (own h).name) same ∙ is

pub ruleset counts = (line_begins, line_stays, line_after, line_same, node_stays, count_stays, unseated_same, begun_seated, begun_own, count_after, node_after)
