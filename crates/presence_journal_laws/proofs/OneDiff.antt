-- A rebirth tells each subscriber one diff.
use Rattle.std.proofs.Common.{◌≡◌, ℕ, Bool, true, false, cond, List, ◌++◌, append-nil, Option, Some, None, is_some, refl, sym, ◌∙◌, ap}
use Rattle.std.specs.FinMap as map
use Rattle.presence_base.specs.declared.dots.Replica.{Replica}
use Rattle.presence_base.specs.declared.dots.Dot.{Dot}
use Rattle.presence_base.specs.declared.row.Row.{Row}
use Rattle.presence_base.specs.Order.{same_replica}
use Rattle.presence_journal.specs.declared.rows.Item.{Item}
use Rattle.presence_journal.specs.declared.rows.Place.{Place}
use Rattle.presence_journal.specs.declared.rows.RowDiff.{RowDiff}
use Rattle.presence_journal.specs.declared.step.Step.TheVariants as steps_are
use Rattle.presence_journal.specs.declared.entry.Outcome.TheVariants as outcomes_are
use Rattle.presence_journal.specs.declared.step.Step.{Step}
use Rattle.presence_journal.specs.declared.entry.Entry.{Entry}
use Rattle.presence_journal.specs.History.{History, Then, own}
use Rattle.presence_journal.specs.Present.{RowMap, of_topic, present, in_order}
use Rattle.presence_journal.specs.Queue.{Waiting, Queued, topic_of, queue, queue_after, queued, made_for, push_items, items_made, shout_item, diff_item, diff_of}
use Rattle.presence_journal.specs.Table.{IsLegal}
use Rattle.presence_journal.specs.Walk.{is_reborn, shown_of, keyed, IsTableOf}
use Rattle.presence_journal.proofs.Reborn.{IsAgain, again_of}
use Rattle.presence_journal.proofs.AfterRebirth.{step_reborn, shown_of_old, shown_of_others, none_of_new}
use Rattle.presence_journal.proofs.Diffs.{apart, diff_is}
use Rattle.presence_journal.proofs.Same.{place_total, place_cmp-IsAntisymmetric}
use Rattle.presence_journal.proofs.PresentLemmas.{get-present}
use Rattle.presence_journal.proofs.Topics.{queue-then}
use Rattle.presence_journal_laws.specs.OneDiff.{rows_under, RebirthTellsOnce}

-- what a function of dots gives of one replica
abbrev pub under : Replica → (Dot → Option Row) → Dot → Option Row
under r f d = cond (same_replica d.replica r) (f d) None

under_keyed : (k : List ℕ) (b : Bool) (o : Option Row) → cond b (keyed k o) None ≡ keyed k (cond b o None)
under_keyed k true o = refl
under_keyed k false o = refl

rows_under-is : (r : Replica) (f : Dot → Option Row) (m n : RowMap) → IsTableOf f m → IsTableOf (under r f) n → rows_under r m ≡ in_order n
rows_under-is r f m n is of = ap in_order (map.same_map place_total place_cmp-IsAntisymmetric (map.retain_keys m (λ p. same_replica p.dot.replica r)) n (λ p.
    map.get-retain_keys m (λ q. same_replica q.dot.replica r) p (λ x e. ap (λ (q : Place). same_replica q.dot.replica r) (sym (place_cmp-IsAntisymmetric p x e)))
    ∙ (ap (λ o. cond (same_replica p.dot.replica r) o None) (is p)
    ∙ (under_keyed p.key (same_replica p.dot.replica r) (f p.dot)
    ∙ sym (of p)))))

nothing_left : (o : Option Row) → cond {A = Option Row} (is_some o) None o ≡ None
nothing_left None = refl
nothing_left (Some r) = refl

none_of_none : (b : Bool) → cond {A = Option Row} b None None ≡ None
none_of_none true = refl
none_of_none false = refl

none_before : (h : History) (e : Entry) (t : List ℕ) (d : Dot) → IsLegal h → IsAgain h e.step e.outcome → same_replica d.replica (own (Then h e)) ≡ true → shown_of h t d ≡ None
none_before h e t d l w new = ap (of_topic t) (none_of_new h e d l w new)

none_behind : (h : History) (e : Entry) (t : List ℕ) (d : Dot) → IsAgain h e.step e.outcome → same_replica d.replica (own h) ≡ true → shown_of (Then h e) t d ≡ None
none_behind h e t d w old = ap (of_topic t) (shown_of_old h e d w old)

same_of_others : (h : History) (e : Entry) (t : List ℕ) (d : Dot) → IsAgain h e.step e.outcome → same_replica d.replica (own h) ≡ false → same_replica d.replica (own (Then h e)) ≡ false → shown_of (Then h e) t d ≡ shown_of h t d
same_of_others h e t d w old new = ap (of_topic t) (shown_of_others h e d w old new)

-- those of the new replica join
joins_under : (h : History) (e : Entry) (t : List ℕ) → IsLegal h → IsAgain h e.step e.outcome → (d : Dot) → under (own (Then h e)) (shown_of (Then h e) t) d ≡ apart (shown_of (Then h e) t) (shown_of h t) d
joins_under h e t l w d = go (same_replica d.replica (own (Then h e))) (same_replica d.replica (own h)) refl refl
  where
    go : (new old : Bool) → same_replica d.replica (own (Then h e)) ≡ new → same_replica d.replica (own h) ≡ old → cond new (shown_of (Then h e) t d) None ≡ apart (shown_of (Then h e) t) (shown_of h t) d
    go true old p q = sym (ap (λ o. cond (is_some o) None (shown_of (Then h e) t d)) (none_before h e t d l w p))
    go false true p q = sym (ap (λ o. cond (is_some (shown_of h t d)) None o) (none_behind h e t d w q) ∙ none_of_none (is_some (shown_of h t d)))
    go false false p q = sym (ap (λ o. cond (is_some (shown_of h t d)) None o) (same_of_others h e t d w q p) ∙ nothing_left (shown_of h t d))

-- those of the old one leave
leaves_under : (h : History) (e : Entry) (t : List ℕ) → IsLegal h → IsAgain h e.step e.outcome → (d : Dot) → under (own h) (shown_of h t) d ≡ apart (shown_of h t) (shown_of (Then h e) t) d
leaves_under h e t l w d = go (same_replica d.replica (own h)) (same_replica d.replica (own (Then h e))) refl refl
  where
    go : (old new : Bool) → same_replica d.replica (own h) ≡ old → same_replica d.replica (own (Then h e)) ≡ new → cond old (shown_of h t d) None ≡ apart (shown_of h t) (shown_of (Then h e) t) d
    go true new p q = sym (ap (λ o. cond (is_some o) None (shown_of h t d)) (none_behind h e t d w p))
    go false true p q = sym (ap (λ o. cond (is_some (shown_of (Then h e) t d)) None o) (none_before h e t d l w q) ∙ none_of_none (is_some (shown_of (Then h e) t d)))
    go false false p q = sym (ap (λ o. cond (is_some o) None (shown_of h t d)) (same_of_others h e t d w p q) ∙ nothing_left (shown_of h t d))

diff_under : (h : History) (e : Entry) (t : List ℕ) → IsLegal h → IsAgain h e.step e.outcome → ◌≡◌ {A = RowDiff} (record { joins = rows_under (own (Then h e)) (present (Then h e) t); leaves = rows_under (own h) (present h t) }) (diff_of h e t)
diff_under h e t l w =
    diff_is h e t (rows_under (own (Then h e)) (present (Then h e) t)) (rows_under (own h) (present h t))
    (under (own (Then h e)) (shown_of (Then h e) t)) (under (own h) (shown_of h t)) (joins_under h e t l w) (leaves_under h e t l w)
    (λ m is. rows_under-is (own (Then h e)) (shown_of (Then h e) t) (present (Then h e) t) m (get-present (Then h e) t) is)
    (λ m is. rows_under-is (own h) (shown_of h t) (present h t) m (get-present h t) is)

-- what it makes is its diff
pushed : (s : Step) (number n i : ℕ) (new : List Item) (v : Waiting) → s ≡ steps_are.Rebirth i → queue_after s number n new v ≡ push_items v new
pushed s number n i new v is = ap (λ x. queue_after x number n new v) is

made : (h : History) (e : Entry) (t : List ℕ) (i : ℕ) → e.step ≡ steps_are.Rebirth i → items_made h e t ≡ diff_item (diff_of h e t)
unfolding items_made
made h e t i is = ap (λ s. diff_item (diff_of h e t) ++ shout_item s t) is ∙ append-nil (diff_item (diff_of h e t))

waits_once : (h : History) (e : Entry) → IsAgain h e.step e.outcome → (n : ℕ) (t : List ℕ) (q : List Item) → topic_of h n ≡ Some t → queue h n ≡ Queued q → queue (Then h e) n ≡ queued (q ++ diff_item (diff_of h e t))
waits_once h e w n t q topic is =
    queue-then h e n
    ∙ (pushed e.step e.number n w.incarnation (made_for h e (topic_of h n)) (queue h n) w.step
    ∙ ((λ i. push_items (is i) (made_for h e (topic i)))
    ∙ ap (λ new. push_items (Queued q) new) (made h e t w.incarnation w.step)))

pub rebirth_tells_once : RebirthTellsOnce
rebirth_tells_once h e pairs l is = record {
  joins = λ t. ap (λ (x : RowDiff). x.joins) (sym (diff_under h e t l.0 w));
  leaves = λ t. ap (λ (x : RowDiff). x.leaves) (sym (diff_under h e t l.0 w));
  waits = λ n t q topic f. waits_once h e w n t q topic f;
}
  where
    w : IsAgain h e.step e.outcome
    w = again_of h e.step e.outcome (step_reborn h e l (ap is_reborn is)) l.1
