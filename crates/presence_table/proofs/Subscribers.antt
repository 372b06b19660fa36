-- What subscribers of a plain table are told.
use Rattle.std.proofs.Common.{◌≡◌, ℕ, Bool, true, false, cond, nat_eq, List, [], ◌∷◌, ◌++◌, Option, Some, None, option_map, refl, sym, ◌∙◌, ap}
use Rattle.presence_base.specs.declared.dots.Dot.{Dot}
use Rattle.presence_base.specs.declared.row.Row.{Row}
use Rattle.presence_journal.specs.declared.step.Step.TheVariants as steps_are
use Rattle.presence_journal.specs.declared.rows.Item.{Item}
use Rattle.presence_journal.specs.declared.step.Step.{Step}
use Rattle.presence_journal.specs.declared.entry.Entry.{Entry}
use Rattle.presence_journal.specs.History.{History, Then}
use Rattle.presence_journal.specs.Present as rooms
use Rattle.presence_journal.specs.Queue.{Waiting, Behind, Queued, topic_after, topic_of, diff_item, shout_item, items_made, made_for, push_items, left_by, queue_after, queue}
use Rattle.presence_journal.proofs.Topics.{topic_of-then, queue-then}
use Rattle.presence_table.specs.Plain.{Table, Subscriber, told_diff, told, waiting_more, taken, waiting_after, subscriber_after}
use Rattle.presence_table.specs.Plain as plain
use Rattle.presence_table.proofs.Rooms.{KeepsRows, present_is_kept}

diff_same : (joins leaves : List (Dot × Row)) → told_diff joins leaves ≡ diff_item (record { joins = joins; leaves = leaves })
diff_same [] [] = refl
diff_same [] (y ∷ ys) = refl
diff_same (x ∷ xs) [] = refl
diff_same (x ∷ xs) (y ∷ ys) = refl

shout_same : (s : Step) (topic : List ℕ) → plain.told_shout s topic ≡ shout_item s topic
shout_same (steps_are.Shout t payload) topic = refl
shout_same _ topic = refl

changed : (a b : plain.Room) (s : Step) (topic : List ℕ) → told_diff (plain.missing_in a b) (plain.missing_in b a) ++ plain.told_shout s topic ≡ diff_item (rooms.changes a b) ++ shout_item s topic
unfolding rooms.changes rooms.in_order
changed a b s topic = λ i. diff_same (plain.missing_in a b) (plain.missing_in b a) i ++ shout_same s topic i

-- two tables that keep the rows before and behind an entry are told what the entry makes
pub told_same : (h : History) (e : Entry) (t u : Table) → KeepsRows h t → KeepsRows (Then h e) u → (topic : List ℕ) → told t u e.step topic ≡ items_made h e topic
unfolding items_made
told_same h e t u k m topic =
    (λ i. told_diff (plain.missing_in (present_is_kept h t k topic i) (present_is_kept (Then h e) u m topic i)) (plain.missing_in (present_is_kept (Then h e) u m topic i) (present_is_kept h t k topic i)) ++ plain.told_shout e.step topic)
    ∙ changed (rooms.present h topic) (rooms.present (Then h e) topic) e.step topic

-- what one subscriber is made of behind a step

abbrev pub at_topic : Option (List ℕ) → Waiting → Option Subscriber
at_topic o w = option_map (λ topic. record { topic = topic; waiting = w }) o

abbrev pub waits_more : Step → ℕ → (List ℕ → List Item) → Subscriber → Subscriber
waits_more s n items x = record x { waiting = waiting_after s n (items x.topic) x.waiting }

more_same : (w : Waiting) (new : List Item) → waiting_more w new ≡ push_items w new
more_same Behind new = refl
more_same (Queued q) new = refl

taken_same : (max : ℕ) (w : Waiting) → taken max w ≡ left_by max w
taken_same max Behind = refl
taken_same max (Queued q) = refl

begun : (b : Bool) (topic : List ℕ) (o : Option (List ℕ)) (v w : Waiting) → v ≡ w → cond b (at_topic (Some topic) Behind) (at_topic o v) ≡ at_topic (cond b (Some topic) o) (cond b Behind w)
begun true topic o v w e = refl
begun false topic o v w e = ap (at_topic o) e

ended : (b : Bool) (o : Option (List ℕ)) (v w : Waiting) → v ≡ w → cond b None (at_topic o v) ≡ at_topic (cond b None o) w
ended true o v w e = refl
ended false o v w e = ap (at_topic o) e

step_same : (s : Step) (next n : ℕ) (new : List Item) (o : Option (List ℕ)) (w : Waiting) → subscriber_after s next n (at_topic o (waiting_after s n new w)) ≡ at_topic (topic_after s next n o) (queue_after s next n new w)
step_same (steps_are.Subscribe topic) next n new o w = begun (nat_eq next n) topic o (waiting_more w new) (push_items w new) (more_same w new)
step_same (steps_are.Unsubscribe m) next n new o w = ended (nat_eq m n) o (waiting_more w new) (push_items w new) (more_same w new)
step_same (steps_are.Take m max) next n new o w = λ i. at_topic o (cond (nat_eq m n) (taken_same max w i) (more_same w new i))
step_same _ next n new o w = ap (at_topic o) (more_same w new)

abbrev made : (List ℕ → List Item) → Option (List ℕ) → List Item
made items None = []
made items (Some t) = items t

waits_same : (s : Step) (n : ℕ) (items : List ℕ → List Item) (o : Option (List ℕ)) (w : Waiting) → option_map (waits_more s n items) (at_topic o w) ≡ at_topic o (waiting_after s n (made items o) w)
waits_same s n items None w = refl
waits_same s n items (Some t) w = refl

made_same : (h : History) (e : Entry) (items : List ℕ → List Item) → ((topic : List ℕ) → items topic ≡ items_made h e topic) → (o : Option (List ℕ)) → made items o ≡ made_for h e o
made_same h e items is None = refl
made_same h e items is (Some t) = is t

pub subscriber_then : (h : History) (e : Entry) (next n : ℕ) (items : List ℕ → List Item) (x : Option Subscriber) → next ≡ e.number → ((topic : List ℕ) → items topic ≡ items_made h e topic) → x ≡ at_topic (topic_of h n) (queue h n) → subscriber_after e.step next n (option_map (waits_more e.step n items) x) ≡ at_topic (topic_of (Then h e) n) (queue (Then h e) n)
subscriber_then h e next n items x numbered is before =
    (λ i. subscriber_after e.step (numbered i) n (option_map (waits_more e.step n items) (before i)))
    ∙ (ap (subscriber_after e.step e.number n) (waits_same e.step n items (topic_of h n) (queue h n))
    ∙ (step_same e.step e.number n (made items (topic_of h n)) (topic_of h n) (queue h n)
    ∙ ((λ i. at_topic (topic_after e.step e.number n (topic_of h n)) (queue_after e.step e.number n (made_same h e items is (topic_of h n) i) (queue h n)))
    ∙ (λ i. at_topic (sym (topic_of-then h e n) i) (sym (queue-then h e n) i)))))
