-- What waits for a subscriber, counted over the entries.
use Rattle.std.proofs.Common.{◌≡◌, ℕ, ◌+◌, ◌<◌, ◌≤◌, Bool, true, false, cond, nat_eq, nat_lt, List, [], ◌∷◌, ◌++◌, length, length-append, length-drop, Option, Some, None, get_or, take, refl, sym, ◌∙◌, ap, subst, arith}
use Rattle.std.proofs.lemmas.Bool.{ltb-true, ltb-false, lt-ltb}
use Rattle.presence_journal.specs.declared.step.Step.TheVariants as steps_are
use Rattle.presence_journal.specs.declared.rows.Item.{Item}
use Rattle.presence_journal_walks.specs.declared.waits.Tally.{Tally}
use Rattle.presence_journal_walks.specs.declared.waits.Tally.TheVariants as tallies_are
use Rattle.presence_journal.specs.declared.step.Step.{Step}
use Rattle.presence_journal.specs.declared.entry.Entry.{Entry}
use Rattle.presence_journal.specs.declared.entry.Start.{Start}
use Rattle.presence_journal.specs.History.{History, Begin, Then, onto}
use Rattle.presence_journal.specs.Queue.{Waiting, Behind, Queued, is_current, first_waiting, topic_after, topic_at, topic_of, most_waiting, queued, push_items, left_by, queue_after, made_for, queue, is_waiting}
use Rattle.presence_journal.specs.Table.{IsLegal}
use Rattle.presence_journal_walks.specs.Waits.{makes_one, tally_of, tally_pushed, tally_left, tally_after, tally_waits}
use Rattle.presence_journal.proofs.Diffs.{legal_at}
use Rattle.presence_journal_known.proofs.FrontLemmas.{front_next}
use Rattle.presence_journal_walks.proofs.CallersLemmas.{items_count}

-- no more items wait than may
abbrev pub IsShort : Waiting → Type 0
IsShort Behind = Unit {0}
IsShort (Queued q) = length q ≤ 256

short_queued : (q : List Item) → IsShort (queued q)
short_queued q = go (nat_lt most_waiting (length q)) refl
  where
    go : (b : Bool) → nat_lt most_waiting (length q) ≡ b → IsShort (cond b Behind (Queued q))
    go true e = tt
    go false e = ltb-false 256 (length q) e

short_pushed : (w : Waiting) (new : List Item) → IsShort (push_items w new)
short_pushed Behind new = tt
short_pushed (Queued q) new = short_queued (q ++ new)

short_left : (max : ℕ) (w : Waiting) → IsShort w → IsShort (left_by max w)
short_left max Behind l = omega arith
short_left max (Queued q) l = omega (arith, length-drop max q)

either_short : (b : Bool) (v w : Waiting) → IsShort v → IsShort w → IsShort (cond b v w)
either_short true v w l m = l
either_short false v w l m = m

short_after : (s : Step) (number n : ℕ) (new : List Item) (w : Waiting) → IsShort w → IsShort (queue_after s number n new w)
short_after (steps_are.Subscribe topic) number n new w l = either_short (nat_eq number n) Behind (push_items w new) tt (short_pushed w new)
short_after (steps_are.Take m max) number n new w l = either_short (nat_eq m n) (left_by max w) (push_items w new) (short_left max w l) (short_pushed w new)
short_after _ number n new w l = short_pushed w new

short_first : (b : Bool) → IsShort (first_waiting b)
short_first true = omega arith
short_first false = tt

pub queue_short : (h : History) (n : ℕ) → IsShort (queue h n)
unfolding queue
queue_short (Begin s) n = short_first (is_current s.current n)
queue_short (Then h e) n = short_after e.step e.number n (made_for h e (topic_of h n)) (queue h n) (queue_short h n)

-- one item more
pushed_one : (q new : List Item) (m : ℕ) → length q ≤ 256 → length new ≡ 1 → m ≡ length q → tally_of (queued (q ++ new)) ≡ tally_pushed true (tallies_are.Items m)
pushed_one q new m l one is = go (nat_lt most_waiting (length (q ++ new))) (nat_lt m most_waiting) refl refl
  where
    more : length (q ++ new) ≡ m + 1
    more = omega (arith, length-append q new, one, is)

    go : (b c : Bool) → nat_lt most_waiting (length (q ++ new)) ≡ b → nat_lt m most_waiting ≡ c → tally_of (cond b Behind (Queued (q ++ new))) ≡ cond c (tallies_are.Items (m + 1)) tallies_are.Behind
    go true true e f = absurd (omega (arith, ltb-true 256 (length (q ++ new)) e, ltb-true m 256 f, more))
    go true false e f = refl
    go false true e f = ap tallies_are.Items more
    go false false e f = absurd (omega (arith, ltb-false 256 (length (q ++ new)) e, ltb-false m 256 f, more))

-- none more
pushed_none : (q new : List Item) → length q ≤ 256 → length new ≡ 0 → tally_of (queued (q ++ new)) ≡ tallies_are.Items (length q)
pushed_none q new l none = go (nat_lt most_waiting (length (q ++ new))) refl
  where
    same : length (q ++ new) ≡ length q
    same = omega (arith, length-append q new, none)

    go : (b : Bool) → nat_lt most_waiting (length (q ++ new)) ≡ b → tally_of (cond b Behind (Queued (q ++ new))) ≡ tallies_are.Items (length q)
    go true e = absurd (omega (arith, ltb-true 256 (length (q ++ new)) e, same))
    go false e = ap tallies_are.Items same

pub tally_more : (b : Bool) (w : Waiting) (new : List Item) → IsShort w → length new ≡ cond b 1 0 → tally_of (push_items w new) ≡ tally_pushed b (tally_of w)
tally_more b Behind new l k = refl
tally_more true (Queued q) new l k = pushed_one q new (length q) l k refl
tally_more false (Queued q) new l k = pushed_none q new l k

tally_less : (max : ℕ) (w : Waiting) → tally_of (left_by max w) ≡ tally_left max (tally_of w)
tally_less max Behind = refl
tally_less max (Queued q) = ap tallies_are.Items (length-drop max q)

either_tally : (b : Bool) (v w : Waiting) (x y : Tally) → tally_of v ≡ x → tally_of w ≡ y → tally_of (cond b v w) ≡ cond b x y
either_tally true v w x y p q = p
either_tally false v w x y p q = q

tally_then : (s : Step) (number n : ℕ) (b : Bool) (w : Waiting) (new : List Item) → IsShort w → length new ≡ cond b 1 0 → tally_of (queue_after s number n new w) ≡ tally_after s number n b (tally_of w)
tally_then (steps_are.Subscribe topic) number n b w new l k = either_tally (nat_eq number n) Behind (push_items w new) tallies_are.Behind (tally_pushed b (tally_of w)) refl (tally_more b w new l k)
tally_then (steps_are.Take m max) number n b w new l k = either_tally (nat_eq m n) (left_by max w) (push_items w new) (tally_left max (tally_of w)) (tally_pushed b (tally_of w)) (tally_less max w) (tally_more b w new l k)
tally_then _ number n b w new l k = tally_more b w new l k

made_count : (h : History) (e : Entry) (o : Option (List ℕ)) → IsLegal (Then h e) → length (made_for h e o) ≡ cond (makes_one h (Then h e) e o) 1 0
made_count h e None legal = refl
made_count h e (Some t) legal = items_count h e t legal

-- the topic and the tally of a subscriber are those of the history
pub record IsFollowed (n : ℕ) (topic : Option (List ℕ)) (tally : Tally) (h : History) : Type 0 where
  pub named : topic ≡ topic_of h n
  pub waiting : tally ≡ tally_of (queue h n)

pub followed_none : (n : ℕ) (s : Start) (o : Option (List ℕ)) (w : Tally) → o ≡ topic_at s.subscribers n → w ≡ tally_of (first_waiting (is_current s.current n)) → IsFollowed n o w (Begin s)
unfolding topic_of queue
followed_none n s o w is first = record { named = is; waiting = first }

followed_then : (n : ℕ) (topic next : Option (List ℕ)) (made : Bool) (tally after : Tally) (h : History) (e : Entry) → IsLegal (Then h e) → next ≡ topic_after e.step e.number n topic → made ≡ makes_one h (Then h e) e topic → after ≡ tally_after e.step e.number n made tally → IsFollowed n topic tally h → IsFollowed n next after (Then h e)
unfolding topic_of queue
followed_then n topic next made tally after h e legal p q r f = record {
  named = p ∙ ap (topic_after e.step e.number n) f.named;
  waiting = r
      ∙ ((λ i. tally_after e.step e.number n (q i) tally)
      ∙ ((λ i. tally_after e.step e.number n (makes_one h (Then h e) e (f.named i)) (f.waiting i))
      ∙ sym (tally_then e.step e.number n (makes_one h (Then h e) e (topic_of h n)) (queue h n) (made_for h e (topic_of h n)) (queue_short h n) (made_count h e (topic_of h n) legal))));
}

pub followed_more : (s : Start) (es : List Entry) (i : ℕ) (e : Entry) (n : ℕ) (topic next : Option (List ℕ)) (made : Bool) (tally after : Tally) → IsLegal (onto (Begin s) es) → i < length es → e ≡ get_or es i e → next ≡ topic_after e.step e.number n topic → made ≡ makes_one (onto (Begin s) (take i es)) (onto (Begin s) (take (i + 1) es)) e topic → after ≡ tally_after e.step e.number n made tally → IsFollowed n topic tally (onto (Begin s) (take i es)) → IsFollowed n next after (onto (Begin s) (take (i + 1) es))
followed_more s es i e n topic next made tally after legal lt is p q r f =
    let h = onto (Begin s) (take i es) in
    let last = front_next (Begin s) es i e lt is in
    subst (IsFollowed n next after) (sym last)
    (followed_then n topic next made tally after h e (legal_at (Begin s) es i e lt is legal) p (q ∙ ap (λ (g : History). makes_one h g e topic) last) r f)

-- a tally tells whether anything waits
pub waits_told : (w : Waiting) → tally_waits (tally_of w) ≡ is_waiting w
waits_told Behind = refl
waits_told (Queued []) = refl
waits_told (Queued (i ∷ is)) = lt-ltb 0 (length (i ∷ is)) (omega arith)
