-- A take of all that may wait: what it gives, and that nothing waits after it.
use Rattle.std.proofs.Common.{◌≡◌, ◌≤◌, ℕ, Bool, true, false, cond, ◌&&◌, is_some, List, [], ◌++◌, length, Some, None, Result, Ok, refl, sym, ◌∙◌, ap, arith}
use Rattle.std.specs.Prelude.{nat_eq, nat_lt}
use Rattle.std.proofs.lemmas.Bool.{eq-eqb, ltb-false}
use Rattle.std.proofs.lemmas.List.{length-drop, drop_all}
use Rattle.presence_journal.specs.declared.rows.Item.{Item}
use Rattle.presence_journal.specs.declared.step.Step.{Step}
use Rattle.presence_journal.specs.declared.step.Step.TheVariants as steps_are
use Rattle.presence_journal.specs.History.{History, Begin, Then, is_full}
use Rattle.presence_journal.specs.Queue.{Waiting, Behind, Queued, is_current, first_waiting, topic_of, queue, queue_after, queued, taken, took, made_for, push_items, left_by, listed_for, items_given, most_waiting}
use Rattle.presence_journal.specs.Table.{next_entry, after, outcome_of, for_present, take_outcome}
use Rattle.presence_journal.proofs.HistoryLemmas.{after-accepted}
use Rattle.presence_journal.proofs.Topics.{topic_of-then, queue-then}
use Rattle.channel_rules.specs.declared.refusal.Refusal.{Refusal}
use Rattle.tracker_shard.specs.declared.fault.ShardFault.TheVariants.{JournalFull, ClockFull, NoSub}
use Rattle.tracker_shard.specs.declared.shard.Sub.{Sub}
use Rattle.channel_rules.specs.Asks.{take}
use Rattle.presence_stdio.specs.Local.{answer_to, after_unless, answer_in, after_in}
use Rattle.session_laws.proofs.KeptSteps.{taken-then}

-- ---- no more than 256 items wait

abbrev IsShort : Waiting → Type 0
IsShort Behind = Unit {0}
IsShort (Queued q) = length q ≤ 256

queued_short : (q : List Item) → IsShort (queued q)
queued_short q = go (nat_lt most_waiting (length q)) refl
  where
    go : (b : Bool) → nat_lt most_waiting (length q) ≡ b → IsShort (cond b Behind (Queued q))
    go true p = tt
    go false p = ltb-false most_waiting (length q) p

push_short : (w : Waiting) (new : List Item) → IsShort (push_items w new)
push_short Behind new = tt
push_short (Queued q) new = queued_short (q ++ new)

left_short : (max : ℕ) (w : Waiting) → IsShort w → IsShort (left_by max w)
left_short max Behind h = omega arith
left_short max (Queued q) h = omega (arith, length-drop max q, h)

either_short : (b : Bool) (v w : Waiting) → IsShort v → IsShort w → IsShort (cond b v w)
either_short true v w h k = h
either_short false v w h k = k

after_short : (s : Step) (number n : ℕ) (new : List Item) (w : Waiting) → IsShort w → IsShort (queue_after s number n new w)
after_short (steps_are.Subscribe t) number n new w h = either_short (nat_eq number n) Behind (push_items w new) tt (push_short w new)
after_short (steps_are.Take m max) number n new w h = either_short (nat_eq m n) (left_by max w) (push_items w new) (left_short max w h) (push_short w new)
after_short _ number n new w h = push_short w new

short_first : (b : Bool) → IsShort (first_waiting b)
short_first true = omega arith
short_first false = tt

queue_short : (h : History) (n : ℕ) → IsShort (queue h n)
unfolding queue
queue_short (Begin s) n = short_first (is_current s.current n)
queue_short (Then h e) n = after_short e.step e.number n (made_for h e (topic_of h n)) (queue h n) (queue_short h n)

none_left : (w : Waiting) → IsShort w → left_by 256 w ≡ Queued []
none_left Behind h = refl
none_left (Queued q) h = ap Queued (drop_all 256 q h)

-- ---- what is answered

same_items : (x y : List Item) → ◌≡◌ {A = Result (List Item) Refusal} (Ok x) (Ok y) → x ≡ y
same_items x y e = cc

took_plain : (b : Bool) (max : ℕ) (w : Waiting) (x items : List Item) → answer_to (cond b (Some JournalFull) None) (Some (take_outcome max w)) x ≡ Ok items → (b ≡ false) × (items ≡ x)
took_plain true max w x items e = absurd (cc)
took_plain false max Behind x items e = (refl, sym (same_items x items e))
took_plain false max (Queued q) x items e = (refl, sym (same_items x items e))

module _ (pid : ℕ) (h : History) (sub : Sub) (t u : List ℕ) (there : topic_of h sub.number ≡ Some u) (slot : sub.slot ≡ 0) where
  take_answer : (max : ℕ) → answer_in pid h (take t sub max) ≡ answer_to (cond (is_full h) (Some JournalFull) None) (Some (take_outcome max (queue h sub.number))) (items_given h sub.number max)
  unfolding answer_in outcome_of
  take_answer max = λ i. answer_to (cond (is_some (there i) && nat_eq (slot i) 0) (cond (is_full h) (Some JournalFull) (cond (is_some (for_present (there i) (take_outcome max (queue h sub.number)))) None (Some ClockFull))) (Some NoSub)) (for_present (there i) (take_outcome max (queue h sub.number))) (items_given h sub.number max)

  take_history : (max : ℕ) → after_in pid h (take t sub max) ≡ after_unless (cond (is_full h) (Some JournalFull) None) h (steps_are.Take sub.number max)
  unfolding after_in outcome_of
  take_history max = λ i. after_unless (cond (is_some (there i) && nat_eq (slot i) 0) (cond (is_full h) (Some JournalFull) (cond (is_some (for_present (there i) (take_outcome max (queue h sub.number)))) None (Some ClockFull))) (Some NoSub)) h (steps_are.Take sub.number max)

  module _ (max : ℕ) (items : List Item) (is : answer_in pid h (take t sub max) ≡ Ok items) where
    took_facts : (is_full h ≡ false) × (items ≡ items_given h sub.number max)
    took_facts = took_plain (is_full h) max (queue h sub.number) (items_given h sub.number max) items (sym (take_answer max) ∙ is)

    pub took_items : items ≡ items_given h sub.number max
    took_items = took_facts.1

    pub took_history : after_in pid h (take t sub max) ≡ after h (steps_are.Take sub.number max) None
    took_history = take_history max ∙ ap (λ b. after_unless (cond b (Some JournalFull) None) h (steps_are.Take sub.number max)) took_facts.0

    made : after h (steps_are.Take sub.number max) None ≡ Then h (next_entry h (steps_are.Take sub.number max) None (take_outcome max (queue h sub.number)))
    unfolding outcome_of
    made = after-accepted h (steps_are.Take sub.number max) None (take_outcome max (queue h sub.number)) (ap (λ o. for_present o (take_outcome max (queue h sub.number))) there) took_facts.0

    pub took_topic : topic_of (after h (steps_are.Take sub.number max) None) sub.number ≡ Some u
    took_topic = ap (λ g. topic_of g sub.number) made ∙ (topic_of-then h (next_entry h (steps_are.Take sub.number max) None (take_outcome max (queue h sub.number))) sub.number ∙ there)

    left : queue (after h (steps_are.Take sub.number max) None) sub.number ≡ left_by max (queue h sub.number)
    left =
        ap (λ g. queue g sub.number) made
        ∙ (queue-then h (next_entry h (steps_are.Take sub.number max) None (take_outcome max (queue h sub.number))) sub.number
        ∙ ap (λ b. cond b (left_by max (queue h sub.number)) (push_items (queue h sub.number) (made_for h (next_entry h (steps_are.Take sub.number max) None (take_outcome max (queue h sub.number))) (topic_of h sub.number)))) (eq-eqb sub.number sub.number refl))

    pub took_taken : taken (after h (steps_are.Take sub.number max) None) sub.number ≡ took (listed_for h (topic_of h sub.number)) max (queue h sub.number) (taken h sub.number)
    took_taken =
        ap (λ g. taken g sub.number) made
        ∙ (taken-then h (next_entry h (steps_are.Take sub.number max) None (take_outcome max (queue h sub.number))) sub.number
        ∙ ap (λ b. cond b (took (listed_for h (topic_of h sub.number)) max (queue h sub.number) (taken h sub.number)) (taken h sub.number)) (eq-eqb sub.number sub.number refl))

  pub took_all : (items : List Item) → answer_in pid h (take t sub 256) ≡ Ok items → queue (after h (steps_are.Take sub.number 256) None) sub.number ≡ Queued []
  took_all items is = left 256 items is ∙ none_left (queue h sub.number) (queue_short h sub.number)
