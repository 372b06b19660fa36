-- How many items wait for a subscriber.
use Rattle.std.proofs.Common.{◌≡◌, ℕ, ◌≤◌, Bool, true, false, cond, nat_eq, nat_lt, List, ◌++◌, length, length-drop, Some, refl, ◌∙◌, ap, subst, arith}
use Rattle.std.proofs.lemmas.Bool.{cond-true, cond-false, lt-ltb, le-ltb, ltb-false}
use Rattle.presence_journal.specs.declared.step.Step.TheVariants as steps_are
use Rattle.presence_journal.specs.declared.rows.Item.{Item}
use Rattle.presence_journal.specs.declared.step.Step.{Step}
use Rattle.presence_journal.specs.declared.entry.Entry.{Entry}
use Rattle.presence_journal.specs.History.{History, Begin, Then}
use Rattle.presence_journal.specs.Queue.{Waiting, Behind, Queued, is_current, first_waiting, most_waiting, queued, push_items, left_by, queue_after, made_for, items_made, topic_of, queue}
use Rattle.presence_journal.specs.Laws.{HoldsMost, QueuesItems, FallsBehind, StaysBehind, renews}
use Rattle.presence_journal.proofs.Topics.{queue-then}

-- no more items wait than may
abbrev IsShort : Waiting → Type 0
IsShort Behind = Unit {0}
IsShort (Queued q) = length q ≤ most_waiting

short_queued : (q : List Item) → IsShort (queued q)
short_queued q = go (nat_lt most_waiting (length q)) refl
  where
    go : (b : Bool) → nat_lt most_waiting (length q) ≡ b → IsShort (cond b Behind (Queued q))
    go true e = tt
    go false e = ltb-false 256 (length q) e

short_pushed : (w : Waiting) (new : List Item) → IsShort (push_items w new)
short_pushed Behind new = tt
short_pushed (Queued q) new = short_queued (q ++ new)

short_left : (max : ℕ) (w : Waiting) → IsShort w → IsShort (left_by max w)
short_left max Behind l = omega arith
short_left max (Queued q) l = omega (arith, length-drop max q)

either_short : (b : Bool) (v w : Waiting) → IsShort v → IsShort w → IsShort (cond b v w)
either_short true v w l m = l
either_short false v w l m = m

short_after : (s : Step) (number n : ℕ) (new : List Item) (w : Waiting) → IsShort w → IsShort (queue_after s number n new w)
short_after (steps_are.Subscribe topic) number n new w l = either_short (nat_eq number n) Behind (push_items w new) tt (short_pushed w new)
short_after (steps_are.Take m max) number n new w l = either_short (nat_eq m n) (left_by max w) (push_items w new) (short_left max w l) (short_pushed w new)
short_after _ number n new w l = short_pushed w new

short_first : (b : Bool) → IsShort (first_waiting b)
short_first true = omega arith
short_first false = tt

queue_short : (h : History) (n : ℕ) → IsShort (queue h n)
unfolding queue
queue_short (Begin s) n = short_first (is_current s.current n)
queue_short (Then h e) n = short_after e.step e.number n (made_for h e (topic_of h n)) (queue h n) (queue_short h n)

pub holds_most : HoldsMost
holds_most h n q e = subst IsShort e (queue_short h n)

unless : (b : Bool) (v w : Waiting) → b ≡ false → cond b v w ≡ w
unless b v w e = rw e

-- an entry that is neither the subscriber's first nor its take puts items behind others
pushed : (s : Step) (number n : ℕ) (new : List Item) (w : Waiting) → renews s number n ≡ false → queue_after s number n new w ≡ push_items w new
pushed (steps_are.Subscribe topic) number n new w f = unless (nat_eq number n) _ (push_items w new) f
pushed (steps_are.Take m max) number n new w f = unless (nat_eq m n) _ (push_items w new) f
pushed _ number n new w f = refl

queue_pushed : (h : History) (e : Entry) (n : ℕ) (w : Waiting) → queue h n ≡ w → renews e.step e.number n ≡ false → queue (Then h e) n ≡ push_items w (made_for h e (topic_of h n))
queue_pushed h e n w is f =
    queue-then h e n
    ∙ (pushed e.step e.number n (made_for h e (topic_of h n)) (queue h n) f
    ∙ ap (λ v. push_items v (made_for h e (topic_of h n))) is)

items_pushed : (h : History) (e : Entry) (n : ℕ) (t : List ℕ) (q : List Item) → topic_of h n ≡ Some t → queue h n ≡ Queued q → renews e.step e.number n ≡ false → queue (Then h e) n ≡ push_items (Queued q) (items_made h e t)
items_pushed h e n t q topic is f = queue_pushed h e n (Queued q) is f ∙ ap (λ o. push_items (Queued q) (made_for h e o)) topic

pub queues_items : QueuesItems
queues_items h e n t q topic is f l = items_pushed h e n t q topic is f ∙ cond-false _ _ _ (le-ltb most_waiting (length (q ++ items_made h e t)) l)

pub falls_behind : FallsBehind
falls_behind h e n t q topic is f l = items_pushed h e n t q topic is f ∙ cond-true _ _ _ (lt-ltb most_waiting (length (q ++ items_made h e t)) l)

pub stays_behind : StaysBehind
stays_behind h e n is f = queue_pushed h e n Behind is f
