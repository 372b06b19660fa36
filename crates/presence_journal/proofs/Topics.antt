-- The topic of a subscriber, and what waits for it.
use Rattle.std.proofs.Common.{◌≡◌, ℕ, ◌≤◌, Bool, true, false, cond, List, [], ◌∷◌, Option, Some, None, is_some, option_copied, Bor, refl, sym, ◌∙◌, ap, arith}
use Rattle.std.specs.Prelude.{nat_eq, nat_le}
use Rattle.std.specs.List.{list_all}
use Rattle.std.proofs.lemmas.Bool.{and_parts, ne_eqb, eqb-true, leb-true}
use Rattle.std.proofs.lemmas.Option.{same_Some}
use Rattle.presence_base.specs.Names.{is_short_text}
use Rattle.presence_journal.specs.declared.step.Step.TheVariants as steps_are
use Rattle.presence_journal.specs.Steps.{Step, Entry, Start}
use Rattle.presence_journal.specs.History.{History, Begin, Then, onto, last_number}
use Rattle.presence_journal.specs.Queue.{Waiting, Behind, Queued, is_current, first_waiting, topic_after, topic_at, topic_of, items_made, made_for, queue_after, queue, is_idle, IsQuiet, left_waiting, QueuesStay, CurrentStay}
use Rattle.presence_journal.specs.Table.{is_subscriber, IsLegal}
use Rattle.presence_journal.proofs.HistoryLemmas.{legal_before}

pub topic_of-then : (h : History) (e : Entry) (n : ℕ) → topic_of (Then h e) n ≡ topic_after e.step e.number n (topic_of h n)
unfolding topic_of
topic_of-then h e n = refl

pub topic_of-begin : (s : Start) (n : ℕ) → topic_of (Begin s) n ≡ topic_at s.subscribers n
unfolding topic_of
topic_of-begin s n = refl

last_then : (h : History) (e : Entry) → last_number (Then h e) ≡ e.number
unfolding last_number
last_then h e = refl

-- a topic that stands after an entry of another number stood before it
kept_topic : (s : Step) (m n : ℕ) (o : Option (List ℕ)) (t : List ℕ) → nat_eq m n ≡ false → topic_after s m n o ≡ Some t → o ≡ Some t
kept_topic (steps_are.Subscribe u) m n o t f e = sym (ap (λ b. cond b (Some u) o) f) ∙ e
kept_topic (steps_are.Unsubscribe k) m n o t f e = go (nat_eq k n) e
  where
    go : (b : Bool) → cond b None o ≡ Some t → o ≡ Some t
    go true g = cc
    go false g = g
kept_topic _ m n o t f e = e

subscribed : (last n : ℕ) (t : List ℕ) (xs : List (ℕ × List ℕ)) → list_all (is_subscriber last) xs ≡ true → topic_at xs n ≡ Some t → n ≤ last
subscribed last n t [] a e = absurd (cc)
subscribed last n t (x ∷ xs) a e = let parts = and_parts (is_subscriber last x) (list_all (is_subscriber last) xs) a in go (nat_eq n x.0) refl (and_parts (nat_le x.0 last) (is_short_text x.1) parts.0).0 e (subscribed last n t xs parts.1)
  where
    go : (b : Bool) → nat_eq n x.0 ≡ b → nat_le x.0 last ≡ true → cond b (Some x.1) (topic_at xs n) ≡ Some t → (topic_at xs n ≡ Some t → n ≤ last) → n ≤ last
    go true p low f ih = omega (arith, eqb-true n x.0 p, leb-true x.0 last low)
    go false p low f ih = ih f

-- the number of a subscriber is at most the last
pub subscriber_low : (h : History) (n : ℕ) (t : List ℕ) → IsLegal h → topic_of h n ≡ Some t → n ≤ last_number h
unfolding topic_of last_number
subscriber_low (Begin s) n t l e = subscribed s.number n t s.subscribers l.subscribers e
subscriber_low (Then h e) n t l f = go (nat_eq e.number n) refl (λ g. subscriber_low h n t l.0 g)
  where
    go : (b : Bool) → nat_eq e.number n ≡ b → (topic_of h n ≡ Some t → n ≤ last_number h) → n ≤ e.number
    go true p ih = omega (arith, eqb-true e.number n p)
    go false p ih = omega (arith, ih (kept_topic e.step e.number n (topic_of h n) t p f), l.2)

-- a subscriber that is present later had its topic then
pub late_topic : (h : History) (es : List Entry) (n : ℕ) (t : List ℕ) → IsLegal (onto h es) → n ≤ last_number h → topic_of (onto h es) n ≡ Some t → topic_of h n ≡ Some t
late_topic h [] n t l low e = e
late_topic h (x ∷ es) n t l low e =
    let next = (legal_before (Then h x) es l).2 in
    let later = late_topic (Then h x) es n t l (omega (arith, last_then h x)) e in
    kept_topic x.step x.number n (topic_of h n) t (ne_eqb x.number n (λ q. omega (arith, q))) (sym (topic_of-then h x n) ∙ later)

-- so its topic is one and the same
pub one_topic : (h : History) (es : List Entry) (n : ℕ) (t u : List ℕ) → IsLegal (onto h es) → topic_of (onto h es) n ≡ Some t → topic_of h n ≡ Some u → u ≡ t
one_topic h es n t u l e f = same_Some u t (sym f ∙ late_topic h es n t l (subscriber_low h n u (legal_before h es l) f) e)

-- what is made for it
pub made_is : (h : History) (es : List Entry) (e : Entry) (n : ℕ) (t : List ℕ) → IsLegal (onto h es) → topic_of (onto h es) n ≡ Some t → made_for h e (topic_of h n) ≡ cond (is_some (topic_of h n)) (items_made h e t) []
made_is h es e n t l f = go (topic_of h n) refl
  where
    go : (o : Option (List ℕ)) → topic_of h n ≡ o → made_for h e o ≡ cond (is_some o) (items_made h e t) []
    go None p = refl
    go (Some u) p = ap (items_made h e) (one_topic h es n t u l f p)

pub queue-begin : (s : Start) (n : ℕ) → queue (Begin s) n ≡ first_waiting (is_current s.current n)
unfolding queue
queue-begin s n = refl

-- where no item waits, all that isn't behind stays
left_same : (w : Waiting) → is_idle w ≡ true → left_waiting w ≡ w
left_same Behind idle = refl
left_same (Queued []) idle = refl
left_same (Queued (i ∷ is)) idle = absurd (cc)

pub queues_stay : (h g : History) → IsQuiet h → CurrentStay h g → QueuesStay h g
queues_stay h g quiet stay n t e = stay n t e ∙ left_same (queue h n) (quiet n t e)

pub queue-then : (h : History) (e : Entry) (n : ℕ) → queue (Then h e) n ≡ queue_after e.step e.number n (made_for h e (topic_of h n)) (queue h n)
unfolding queue
queue-then h e n = refl

-- a walk for a subscriber: what holds of the rows that it carries, the topic, and what waits
pub record Waits (P : History → Type 0) (n : ℕ) (o : Option (List ℕ)) (w : Waiting) (h : History) : Type 0 where
  pub here : P h
  pub topic : o ≡ topic_of h n
  pub waits : w ≡ queue h n

pub waits_more : (P Q : History → Type 0) (t : List ℕ) (n : ℕ) (o p : Option (List ℕ)) (w v : Waiting) (b : Bool) (h : History) (e : Entry) (es : List Entry) → IsLegal (onto (Then h e) es) → topic_of (onto (Then h e) es) n ≡ Some t → (IsLegal (Then h e) → P h → Q (Then h e)) → p ≡ topic_after e.step e.number n o → b ≡ is_some o → (IsLegal (Then h e) → P h → v ≡ queue_after e.step e.number n (cond b (items_made h e t) []) w) → Waits P n o w h → Waits Q n p v (Then h e)
waits_more P Q t n o p w v b h e es l present step topic is_some_o made k =
    let legal = legal_before (Then h e) es l in
    record {
      here = step legal k.here;
      topic = topic ∙ (ap (topic_after e.step e.number n) k.topic ∙ sym (topic_of-then h e n));
      waits = made legal k.here
          ∙ ((λ i. queue_after e.step e.number n (cond (is_some_o i) (items_made h e t) []) (k.waits i))
          ∙ (ap (λ q. queue_after e.step e.number n (cond (is_some q) (items_made h e t) []) (queue h n)) k.topic
          ∙ (ap (λ m. queue_after e.step e.number n m (queue h n)) (sym (made_is h (e ∷ es) e n t l present)) ∙ sym (queue-then h e n))));
    }

pub is_some-copied : {A : Type 0} (o : Option (Bor A)) → is_some o ≡ is_some (option_copied o)
is_some-copied None = refl
is_some-copied (Some x) = refl
