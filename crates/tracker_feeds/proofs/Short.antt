-- No more items wait for a subscriber than may.
use Rattle.std.proofs.Common.{◌≡◌, ℕ, ◌≤◌, Bool, true, false, cond, nat_eq, nat_lt, List, ◌++◌, length, length-drop, refl, subst, arith}
use Rattle.std.proofs.lemmas.Bool.{ltb-false}
use Rattle.presence_journal.specs.declared.step.Step.TheVariants as steps_are
use Rattle.presence_journal.specs.declared.rows.Item.{Item}
use Rattle.presence_journal.specs.declared.step.Step.{Step}
use Rattle.presence_journal.specs.History.{History, Begin, Then}
use Rattle.presence_journal.specs.Queue.{Waiting, Behind, Queued, is_current, first_waiting, most_waiting, queued, push_items, left_by, queue_after, made_for, topic_of, queue}

abbrev IsShort : Waiting → Type 0
IsShort Behind = Unit {0}
IsShort (Queued q) = length q ≤ most_waiting

short_queued : (q : List Item) → IsShort (queued q)
short_queued q = go (nat_lt most_waiting (length q)) refl
  where
    go : (b : Bool) → nat_lt most_waiting (length q) ≡ b → IsShort (cond b Behind (Queued q))
    go true e = tt
    go false e = ltb-false 256 (length q) e

short_pushed : (w : Waiting) (new : List Item) → IsShort (push_items w new)
short_pushed Behind new = tt
short_pushed (Queued q) new = short_queued (q ++ new)

short_left : (max : ℕ) (w : Waiting) → IsShort w → IsShort (left_by max w)
short_left max Behind l = omega arith
short_left max (Queued q) l = omega (arith, length-drop max q)

either_short : (b : Bool) (v w : Waiting) → IsShort v → IsShort w → IsShort (cond b v w)
either_short true v w l m = l
either_short false v w l m = m

short_after : (s : Step) (number n : ℕ) (new : List Item) (w : Waiting) → IsShort w → IsShort (queue_after s number n new w)
short_after (steps_are.Subscribe topic) number n new w l = either_short (nat_eq number n) Behind (push_items w new) tt (short_pushed w new)
short_after (steps_are.Take m max) number n new w l = either_short (nat_eq m n) (left_by max w) (push_items w new) (short_left max w l) (short_pushed w new)
short_after _ number n new w l = short_pushed w new

short_first : (b : Bool) → IsShort (first_waiting b)
short_first true = omega arith
short_first false = tt

short_waits : (h : History) (n : ℕ) → IsShort (queue h n)
unfolding queue
short_waits (Begin s) n = short_first (is_current s.current n)
short_waits (Then h e) n = short_after e.step e.number n (made_for h e (topic_of h n)) (queue h n) (short_waits h n)

pub queue_short : (h : History) (n : ℕ) (q : List Item) → queue h n ≡ Queued q → length q ≤ most_waiting
queue_short h n q e = subst IsShort e (short_waits h n)
