-- How feeds follow a history.
use Rattle.std.proofs.Common.{◌≡◌, ◌≤◌, ℕ, ◌+◌, Bool, true, false, cond, ◌||◌, nat_eq, List, [], ◌∷◌, length, Option, Some, None, option_map, refl, sym, ◌∙◌, ap, subst, arith}
use Rattle.std.specs.List.{list_any}
use Rattle.std.specs.Map.{lookup}
use Rattle.std.proofs.lemmas.Bool.{eqb-true, or_right, le-ltb, cond-false}
use Rattle.std.proofs.lemmas.List.{append-nil, length-take}
use Rattle.presence_base.specs.Order.{same_text}
use Rattle.presence_journal.specs.declared.rows.Item.{Item}
use Rattle.presence_journal.specs.declared.entry.Outcome.TheVariants as outcomes_are
use Rattle.presence_journal.specs.declared.step.Step.TheVariants as steps_are
use Rattle.presence_journal.specs.declared.step.Step.{Step}
use Rattle.presence_journal.specs.declared.entry.Entry.{Entry}
use Rattle.presence_journal.specs.declared.entry.Outcome.{Outcome}
use Rattle.presence_journal.specs.History.{History, Then, last_number, is_full}
use Rattle.presence_journal.specs.Queue.{Waiting, Behind, Queued, is_waiting, listed_for, given, items_given, most_waiting, queued, push_items, left_by, queue_after, made_for, items_made, topic_after, topic_of, queue}
use Rattle.presence_journal.specs.Table.{IsLegal, outcome_of, for_present, take_outcome, accepted, next_entry}
use Rattle.presence_journal.specs.Present.{listed}
use Rattle.presence_journal.specs.Laws.{reaches}
use Rattle.presence_journal.proofs.Same.{same_text-refl}
use Rattle.presence_journal.proofs.HistoryLemmas.{last_number-limit}
use Rattle.presence_journal.proofs.Topics.{topic_of-then, topic_of-begin, queue-then, queue-begin, subscriber_low}
use Rattle.presence_journal.proofs.FoldOthers.{others_hear_nothing}
use Rattle.tracker_feeds.proofs.Short.{queue_short}
use Rattle.tracker_feeds.specs.Fed.{Subscriber, Fed, on_topic, items_of, items_at_most, found, is_followed, as_waiting, subscriber_of, IsFedBy, newcomer, left_with, with_more}
use Rattle.tracker_feeds.specs.Laws.{BeginningIsFed, SameIsFed, NextIsFree, CanDeliver, SubscribeIsFed, UnsubscribeIsFed, TakeIsFed, is_of_subscriber, DeliveryIsFed, QuietIsFed, TopicsAreThose, WaitsAreThose, IsTakeOf, ItemsAreThose}

last_then : (h : History) (e : Entry) → last_number (Then h e) ≡ e.number
unfolding last_number
last_then h e = refl

-- a subscriber after an entry
abbrev after_entry : History → Entry → ℕ → Option (List ℕ) → Option Subscriber
after_entry h e n o = option_map (λ (t : List ℕ). on_topic t (queue_after e.step e.number n (made_for h e (topic_of h n)) (queue h n))) o

then_is : (h : History) (e : Entry) (n : ℕ) → subscriber_of (Then h e) n ≡ after_entry h e n (topic_after e.step e.number n (topic_of h n))
then_is h e n = λ i. option_map (λ (t : List ℕ). on_topic t (queue-then h e n i)) (topic_of-then h e n i)

-- no items leave what waits as it is
push_none : (h : History) (n : ℕ) → push_items (queue h n) [] ≡ queue h n
push_none h n = go (queue h n) refl
  where
    go : (w : Waiting) → queue h n ≡ w → push_items w [] ≡ w
    go Behind e = refl
    go (Queued q) e = ap queued (append-nil q) ∙ cond-false _ _ _ (le-ltb most_waiting (length q) (queue_short h n q e))

accept : (h : History) (s : Step) (o : Outcome) → outcome_of h s ≡ Some o → is_full h ≡ false → accepted h s ≡ Some o
unfolding accepted
accept h s o e room = rw room e

-- a step that reaches nobody makes nothing
makes_nothing : (h : History) (e : Entry) (t : List ℕ) → IsLegal (Then h e) → reaches e.step t ≡ false → items_made h e t ≡ []
makes_nothing h e t l quiet = ap (λ (x : Entry). items_made h x t) entry_is ∙ others_hear_nothing h l.0 e.step e.seat e.outcome (accept h e.step e.outcome l.1 l.3) t quiet
  where
    entry_is : e ≡ next_entry h e.step e.seat e.outcome
    entry_is = λ i. record { number = l.2 i; seat = e.seat; step = e.step; outcome = e.outcome }

made_nothing : (h : History) (e : Entry) (o : Option (List ℕ)) → IsLegal (Then h e) → ((t : List ℕ) → reaches e.step t ≡ false) → made_for h e o ≡ []
made_nothing h e None l quiet = refl
made_nothing h e (Some t) l quiet = makes_nothing h e t l (quiet t)

-- so what waits for others stays
others_wait : (h : History) (e : Entry) (n : ℕ) → IsLegal (Then h e) → ((t : List ℕ) → reaches e.step t ≡ false) → push_items (queue h n) (made_for h e (topic_of h n)) ≡ queue h n
others_wait h e n l quiet = ap (push_items (queue h n)) (made_nothing h e (topic_of h n) l quiet) ∙ push_none h n

pub begins : BeginningIsFed
begins s f b = record { subscribers = λ n. b.subscribers n ∙ (λ i. option_map (λ (t : List ℕ). on_topic t (sym (queue-begin s n) i)) (sym (topic_of-begin s n) i)); delivered = omega (arith, b.delivered) }

pub same : SameIsFed
same h old new x fed = record { subscribers = λ n. x.subscribers n ∙ fed.subscribers n; delivered = omega (arith, x.delivered, fed.delivered) }

pub next_free : NextIsFree
next_free h f legal fed = fed.subscribers (last_number h + 1) ∙ go (topic_of h (last_number h + 1)) refl
  where
    go : (o : Option (List ℕ)) → topic_of h (last_number h + 1) ≡ o → option_map (as_waiting h (last_number h + 1)) o ≡ None
    go None e = refl
    go (Some t) e = absurd (omega (arith, subscriber_low h (last_number h + 1) t legal e))

pub can_deliver : CanDeliver
can_deliver h f legal fed = omega (arith, fed.delivered, last_number-limit h legal)

grown : (h : History) (e : Entry) (n : ℕ) → IsLegal (Then h e) → n ≤ last_number h → n ≤ last_number (Then h e)
grown h e n l low = omega (arith, last_then h e, l.2, low)

pub subscribed : SubscribeIsFed
subscribed h e t old new l is change fed = record { subscribers = λ n. change.subscribers n ∙ (ap (cond (nat_eq e.number n) (Some (newcomer t))) (fed.subscribers n) ∙ (go n (nat_eq e.number n) ∙ sym (then_is h e n ∙ by n))); delivered = grown h e new.delivered l (omega (arith, change.delivered, fed.delivered)) }
  where
    quiet : (u : List ℕ) → reaches e.step u ≡ false
    quiet u = ap (λ s. reaches s u) is

    by : (n : ℕ) → after_entry h e n (topic_after e.step e.number n (topic_of h n)) ≡ option_map (λ (u : List ℕ). on_topic u (cond (nat_eq e.number n) Behind (push_items (queue h n) (made_for h e (topic_of h n))))) (cond (nat_eq e.number n) (Some t) (topic_of h n))
    by n = λ i. option_map (λ (u : List ℕ). on_topic u (queue_after (is i) e.number n (made_for h e (topic_of h n)) (queue h n))) (topic_after (is i) e.number n (topic_of h n))

    go : (n : ℕ) (b : Bool) → cond b (Some (newcomer t)) (subscriber_of h n) ≡ option_map (λ (u : List ℕ). on_topic u (cond b Behind (push_items (queue h n) (made_for h e (topic_of h n))))) (cond b (Some t) (topic_of h n))
    go n true = refl
    go n false = ap (λ (w : Waiting). option_map (λ (u : List ℕ). on_topic u (w)) (topic_of h n)) (sym (others_wait h e n l quiet))

pub unsubscribed : UnsubscribeIsFed
unsubscribed h e m old new l is change fed = record { subscribers = λ n. change.subscribers n ∙ (ap (cond (nat_eq m n) None) (fed.subscribers n) ∙ (go n (nat_eq m n) ∙ sym (then_is h e n ∙ by n))); delivered = grown h e new.delivered l (omega (arith, change.delivered, fed.delivered)) }
  where
    quiet : (u : List ℕ) → reaches e.step u ≡ false
    quiet u = ap (λ s. reaches s u) is

    by : (n : ℕ) → after_entry h e n (topic_after e.step e.number n (topic_of h n)) ≡ option_map (λ (u : List ℕ). on_topic u (push_items (queue h n) (made_for h e (topic_of h n)))) (cond (nat_eq m n) None (topic_of h n))
    by n = λ i. option_map (λ (u : List ℕ). on_topic u (queue_after (is i) e.number n (made_for h e (topic_of h n)) (queue h n))) (topic_after (is i) e.number n (topic_of h n))

    go : (n : ℕ) (b : Bool) → cond b None (subscriber_of h n) ≡ option_map (λ (u : List ℕ). on_topic u (push_items (queue h n) (made_for h e (topic_of h n)))) (cond b None (topic_of h n))
    go n true = refl
    go n false = ap (λ (w : Waiting). option_map (λ (u : List ℕ). on_topic u (w)) (topic_of h n)) (sym (others_wait h e n l quiet))

pub taken : TakeIsFed
taken h e m max old new l is change fed = record { subscribers = λ n. change.subscribers n ∙ ((λ i. cond (nat_eq m n) (option_map (left_with max) (fed.subscribers m i)) (fed.subscribers n i)) ∙ (go n (nat_eq m n) refl ∙ sym (then_is h e n ∙ by n))); delivered = grown h e new.delivered l (omega (arith, change.delivered, fed.delivered)) }
  where
    quiet : (u : List ℕ) → reaches e.step u ≡ false
    quiet u = ap (λ s. reaches s u) is

    by : (n : ℕ) → after_entry h e n (topic_after e.step e.number n (topic_of h n)) ≡ option_map (λ (u : List ℕ). on_topic u (cond (nat_eq m n) (left_by max (queue h n)) (push_items (queue h n) (made_for h e (topic_of h n))))) (topic_of h n)
    by n = λ i. option_map (λ (u : List ℕ). on_topic u (queue_after (is i) e.number n (made_for h e (topic_of h n)) (queue h n))) (topic_after (is i) e.number n (topic_of h n))

    left_at : (n : ℕ) (o : Option (List ℕ)) → option_map (left_with max) (option_map (as_waiting h n) o) ≡ option_map (λ (u : List ℕ). on_topic u (left_by max (queue h n))) o
    left_at n None = refl
    left_at n (Some u) = refl

    go : (n : ℕ) (b : Bool) → nat_eq m n ≡ b → cond b (option_map (left_with max) (subscriber_of h m)) (subscriber_of h n) ≡ option_map (λ (u : List ℕ). on_topic u (cond b (left_by max (queue h n)) (push_items (queue h n) (made_for h e (topic_of h n))))) (topic_of h n)
    go n true f = ap (λ j. option_map (left_with max) (subscriber_of h j)) (eqb-true m n f) ∙ left_at n (topic_of h n)
    go n false f = ap (λ (w : Waiting). option_map (λ (u : List ℕ). on_topic u (w)) (topic_of h n)) (sym (others_wait h e n l quiet))

-- other steps

same_topics : (s : Step) (number n : ℕ) (o : Option (List ℕ)) → is_of_subscriber s ≡ false → topic_after s number n o ≡ o
same_topics (steps_are.Subscribe topic) number n o f = absurd (cc)
same_topics (steps_are.Unsubscribe m) number n o f = absurd (cc)
same_topics _ number n o f = refl

puts_more : (s : Step) (number n : ℕ) (new : List Item) (w : Waiting) → is_of_subscriber s ≡ false → queue_after s number n new w ≡ push_items w new
puts_more (steps_are.Subscribe topic) number n new w f = absurd (cc)
puts_more (steps_are.Take m max) number n new w f = absurd (cc)
puts_more _ number n new w f = refl

-- one who is found follows its topic
follows : (n : ℕ) (s : Subscriber) (xs : List (ℕ × Subscriber)) → lookup (nat_eq n) xs ≡ Some s → list_any (λ (x : ℕ × Subscriber). same_text x.1.topic s.topic) xs ≡ true
follows n s [] e = absurd (cc)
follows n s (x ∷ xs) e = go (nat_eq n x.0) e (follows n s xs)
  where
    go : (b : Bool) → cond b (Some x.1) (lookup (nat_eq n) xs) ≡ Some s → (lookup (nat_eq n) xs ≡ Some s → list_any (λ (x : ℕ × Subscriber). same_text x.1.topic s.topic) xs ≡ true) → (same_text x.1.topic s.topic || list_any (λ (x : ℕ × Subscriber). same_text x.1.topic s.topic) xs) ≡ true
    go true f rest = let same : x.1 ≡ s = cc in ap (λ (y : Subscriber). same_text y.topic s.topic || list_any (λ (x : ℕ × Subscriber). same_text x.1.topic s.topic) xs) same ∙ ap (λ b. b || list_any (λ (x : ℕ × Subscriber). same_text x.1.topic s.topic) xs) (same_text-refl s.topic)
    go false f rest = or_right (same_text x.1.topic s.topic) (list_any (λ (x : ℕ × Subscriber). same_text x.1.topic s.topic) xs) (rest f)

is_on : (h : History) (f : Fed) (n : ℕ) (t : List ℕ) → IsFedBy h f → topic_of h n ≡ Some t → is_followed f t ≡ true
is_on h f n t fed e = follows n (as_waiting h n t) f.subscribers (fed.subscribers n ∙ ap (option_map (as_waiting h n)) e)

-- after an entry that puts items behind what waits
pushed_is : (h : History) (e : Entry) (n : ℕ) → is_of_subscriber e.step ≡ false → subscriber_of (Then h e) n ≡ option_map (λ (t : List ℕ). on_topic t (push_items (queue h n) (made_for h e (topic_of h n)))) (topic_of h n)
pushed_is h e n f = then_is h e n ∙ (λ i. option_map (λ (t : List ℕ). on_topic t (puts_more e.step e.number n (made_for h e (topic_of h n)) (queue h n) f i)) (same_topics e.step e.number n (topic_of h n) f i))

more_at : (h : History) (e : Entry) (n : ℕ) (items : List ℕ → List Item) (o : Option (List ℕ)) → ((t : List ℕ) → o ≡ Some t → items t ≡ items_made h e t) → option_map (with_more items) (option_map (as_waiting h n) o) ≡ option_map (λ (t : List ℕ). on_topic t (push_items (queue h n) (made_for h e o))) o
more_at h e n items None told = refl
more_at h e n items (Some t) told = ap (λ (is : List Item). Some (on_topic t (push_items (queue h n) is))) (told t refl)

pub delivered : DeliveryIsFed
delivered h e items old new l other told change fed = record { subscribers = λ n. change.subscribers n ∙ (ap (option_map (with_more items)) (fed.subscribers n) ∙ (more_at h e n items (topic_of h n) (λ t is. told t (is_on h old n t fed is)) ∙ sym (pushed_is h e n other))); delivered = omega (arith, change.delivered, fed.delivered, last_then h e, l.2) }

none_at : (h : History) (e : Entry) (n : ℕ) (o : Option (List ℕ)) → ((t : List ℕ) → o ≡ Some t → items_made h e t ≡ []) → option_map (as_waiting h n) o ≡ option_map (λ (t : List ℕ). on_topic t (push_items (queue h n) (made_for h e o))) o
none_at h e n None told = refl
none_at h e n (Some t) told = ap (λ (w : Waiting). Some (on_topic t w)) (sym (ap (push_items (queue h n)) (told t refl) ∙ push_none h n))

pub quiet : QuietIsFed
quiet h e f l other told fed = record { subscribers = λ n. fed.subscribers n ∙ (none_at h e n (topic_of h n) (λ t is. told t (is_on h f n t fed is)) ∙ sym (pushed_is h e n other)); delivered = grown h e f.delivered l fed.delivered }

-- what the feeds answer

topic_seen : (h : History) (n : ℕ) (o : Option (List ℕ)) → option_map (λ (s : Subscriber). s.topic) (option_map (as_waiting h n) o) ≡ o
topic_seen h n None = refl
topic_seen h n (Some t) = refl

pub topics_are_those : TopicsAreThose
topics_are_those h f n fed = ap (option_map (λ (s : Subscriber). s.topic)) (fed.subscribers n) ∙ topic_seen h n (topic_of h n)

here : (h : History) (f : Fed) (n : ℕ) (t : List ℕ) → IsFedBy h f → topic_of h n ≡ Some t → found f n ≡ Some (as_waiting h n t)
here h f n t fed e = fed.subscribers n ∙ ap (option_map (as_waiting h n)) e

pub waits_are_those : WaitsAreThose
waits_are_those h f n t fed e = ap (option_map (λ (s : Subscriber). is_waiting s.waiting)) (here h f n t fed e)

-- a take, by the topic and what waits
outcome_is : (h : History) (n max : ℕ) → outcome_of h (steps_are.Take n max) ≡ for_present (topic_of h n) (take_outcome max (queue h n))
unfolding outcome_of
outcome_is h n max = refl

pub items_are_those : ItemsAreThose
items_are_those h f n max t fed e = subst (λ (o : Option Subscriber). IsTakeOf h n max t (items_of max o)) (sym (here h f n t fed e)) (go (queue h n) refl)
  where
    given_is : (w : Waiting) → queue h n ≡ w → items_given h n max ≡ given (listed h t) max w
    given_is w q = λ i. given (listed_for h (e i)) max (q i)

    comes_to : (w : Waiting) → queue h n ≡ w → outcome_of h (steps_are.Take n max) ≡ Some (take_outcome max w)
    comes_to w q = outcome_is h n max ∙ (λ i. for_present (e i) (take_outcome max (q i)))

    go : (w : Waiting) → queue h n ≡ w → IsTakeOf h n max t (items_at_most max (queue h n))
    go Behind q = subst (λ (v : Waiting). IsTakeOf h n max t (items_at_most max v)) (sym q) (given_is Behind q, comes_to Behind q)
    go (Queued xs) q = subst (λ (v : Waiting). IsTakeOf h n max t (items_at_most max v)) (sym q) (given_is (Queued xs) q, comes_to (Queued xs) q ∙ ap (λ k. Some (outcomes_are.Taken false k)) (sym (length-take max xs)))
