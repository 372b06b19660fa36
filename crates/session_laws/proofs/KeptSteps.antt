-- What a step leaves of a subscriber that it neither takes from nor ends.
use Rattle.std.proofs.Common.{◌≡◌, ◌+◌, ℕ, Bool, true, false, cond, List, [], Option, Some, None, refl, sym, ◌∙◌, ap, arith}
use Rattle.std.specs.Prelude.{nat_eq}
use Rattle.std.proofs.lemmas.Bool.{ne_eqb}
use Rattle.presence_base.specs.declared.dots.Dot.{Dot}
use Rattle.presence_base.specs.declared.row.Row.{Row}
use Rattle.presence_journal.specs.declared.rows.Item.{Item}
use Rattle.presence_journal.specs.declared.step.Step.TheVariants as steps_are
use Rattle.presence_journal.specs.declared.entry.Outcome.{Outcome}
use Rattle.presence_journal.specs.declared.step.Step.{Step}
use Rattle.presence_journal.specs.declared.entry.Entry.{Entry}
use Rattle.presence_journal.specs.History.{History, Then, last_number}
use Rattle.presence_journal.specs.Queue.{Waiting, Behind, Queued, topic_after, topic_of, push_items, left_by, queue_after, queue, made_for, listed_for, took, taken, taken_after}
use Rattle.presence_journal.specs.Table.{IsLegal, next_entry, with_outcome, accepted, after, is_step}
use Rattle.presence_journal.specs.Laws.{reaches}
use Rattle.presence_journal.proofs.FoldOthers.{others_hear_nothing, stays_legal}
use Rattle.presence_journal.proofs.Topics.{topic_of-then, queue-then, subscriber_low}

-- the step takes from the subscriber, or ends it
abbrev pub touches : Step → ℕ → Bool
touches (steps_are.Unsubscribe m) n = nat_eq m n
touches (steps_are.Take m max) n = nat_eq m n
touches _ n = false

-- Of the subscriber n nothing is taken, and it is neither ended nor begun; what waited may have grown.
pub record Stays (old new : History) (n : ℕ) : Type 0 where
  pub topic : topic_of new n ≡ topic_of old n
  pub taken : taken new n ≡ taken old n
  pub waits : (q : List Item) → queue new n ≡ Queued q → (p : List Item) × (queue old n ≡ Queued p)

record Untouched (s : Step) (number n : ℕ) (new : List Item) (w : Waiting) (o : Option (List ℕ)) (rows : List (Dot × Row)) (before : List Item) : Type 0 where
  topic : topic_after s number n o ≡ o
  queue : queue_after s number n new w ≡ push_items w new
  taken : taken_after s n rows w before ≡ before

untouched : (s : Step) (number n : ℕ) (new : List Item) (w : Waiting) (o : Option (List ℕ)) (rows : List (Dot × Row)) (before : List Item) → nat_eq number n ≡ false → touches s n ≡ false → Untouched s number n new w o rows before
untouched (steps_are.Subscribe t) number n new w o rows before f g = record { topic = ap (λ b. cond b (Some t) o) f; queue = ap (λ b. cond b Behind (push_items w new)) f; taken = refl }
untouched (steps_are.Unsubscribe m) number n new w o rows before f g = record { topic = ap (λ b. cond b None o) g; queue = refl; taken = refl }
untouched (steps_are.Take m max) number n new w o rows before f g = record { topic = refl; queue = ap (λ b. cond b (left_by max w) (push_items w new)) g; taken = ap (λ b. cond b (took rows max w before) before) g }
untouched _ number n new w o rows before f g = record { topic = refl; queue = refl; taken = refl }

pushed_on : (w : Waiting) (new q : List Item) → push_items w new ≡ Queued q → (p : List Item) × (w ≡ Queued p)
pushed_on Behind new q e = absurd (cc)
pushed_on (Queued p) new q e = (p, refl)

pub taken-then : (h : History) (e : Entry) (n : ℕ) → taken (Then h e) n ≡ taken_after e.step n (listed_for h (topic_of h n)) (queue h n) (taken h n)
unfolding taken
taken-then h e n = refl

module _ (h : History) (e : Entry) (n : ℕ) (other : nat_eq e.number n ≡ false) (free : touches e.step n ≡ false) where
  here : Untouched e.step e.number n (made_for h e (topic_of h n)) (queue h n) (topic_of h n) (listed_for h (topic_of h n)) (taken h n)
  here = untouched e.step e.number n (made_for h e (topic_of h n)) (queue h n) (topic_of h n) (listed_for h (topic_of h n)) (taken h n) other free

  waits_then : queue (Then h e) n ≡ push_items (queue h n) (made_for h e (topic_of h n))
  waits_then = queue-then h e n ∙ here.queue

  stays_then : Stays h (Then h e) n
  stays_then = record {
    topic = topic_of-then h e n ∙ here.topic;
    taken = taken-then h e n ∙ here.taken;
    waits = λ q f. pushed_on (queue h n) (made_for h e (topic_of h n)) q (sym waits_then ∙ f);
  }

pub same_stays : (h : History) (n : ℕ) → Stays h h n
same_stays h n = record { topic = refl; taken = refl; waits = λ q f. (q, f) }

-- the next entry's number is no present subscriber's
pub later_number : (h : History) (n : ℕ) (t : List ℕ) → IsLegal h → topic_of h n ≡ Some t → nat_eq (last_number h + 1) n ≡ false
later_number h n t legal f =
    let low = subscriber_low h n t legal f in
    ne_eqb (last_number h + 1) n (λ q. omega (arith, q, low))

module _ (h : History) (legal : IsLegal h) (s : Step) (n : ℕ) (t : List ℕ) (here : topic_of h n ≡ Some t) (free : touches s n ≡ false) where
  pub stays_after : Stays h (after h s None) n
  unfolding after
  stays_after = go (accepted h s)
    where
      go : (o : Option Outcome) → Stays h (with_outcome h s None o) n
      go None = same_stays h n
      go (Some o) = stays_then h (next_entry h s None o) n (later_number h n t legal here) free

  -- where the step tells the topic nothing, nothing comes to wait
  pub served_after : reaches s t ≡ false → queue h n ≡ Queued [] → queue (after h s None) n ≡ Queued []
  unfolding after
  served_after quiet served = go (accepted h s) refl
    where
      made : (o : Outcome) → accepted h s ≡ Some o → made_for h (next_entry h s None o) (topic_of h n) ≡ []
      made o e = ap (made_for h (next_entry h s None o)) here ∙ others_hear_nothing h legal s None o e t quiet

      go : (o : Option Outcome) → accepted h s ≡ o → queue (with_outcome h s None o) n ≡ Queued []
      go None e = served
      go (Some o) e =
          waits_then h (next_entry h s None o) n (later_number h n t legal here) free
          ∙ (λ i. push_items (served i) (made o e i))

pub legal_after : (h : History) (s : Step) → IsLegal h → is_step s ≡ true → IsLegal (after h s None)
legal_after h s legal limits = stays_legal h legal s None limits
