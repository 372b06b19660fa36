-- What waits for a subscriber, entry by entry.
use Rattle.std.proofs.Common.{◌≡◌, ℕ, ◌+◌, ◌<◌, ◌++◌, cond, Bool, List, [], Option, Some, is_some, length, get_or, take, drop, sym, ◌∙◌, ap, subst}
use Rattle.presence_base.specs.declared.dots.Dot.{Dot}
use Rattle.presence_base.specs.declared.row.Row.{Row}
use Rattle.presence_journal.specs.declared.rows.Item.{Item}
use Rattle.presence_journal.specs.declared.rows.RowDiff.{RowDiff}
use Rattle.presence_journal.specs.declared.entry.Entry.{Entry}
use Rattle.presence_journal.specs.declared.entry.Start.{Start}
use Rattle.presence_journal.specs.History.{History, Begin, onto}
use Rattle.presence_journal.specs.Queue.{Waiting, topic_after, topic_of, diff_item, shout_item, items_made, queue_after}
use Rattle.presence_journal.specs.Table.{IsLegal}
use Rattle.presence_journal.proofs.Topics.{Waits, waits_more}
use Rattle.presence_journal.proofs.Walking.{ShowsAlike}
use Rattle.presence_journal_walks.specs.Rows.{AreNext, IsDiffAt, AreMadeAt}
use Rattle.presence_journal_known.proofs.FrontLemmas.{front_next, front_rest}

-- the items of the difference that an entry makes, and its shout
pub made_at : (e : Entry) (t : List ℕ) (whole : History) (f : Dot → Option Row) (x : RowDiff) (is : List Item) → IsDiffAt e t whole f x → is ≡ diff_item x ++ shout_item e.step t → AreMadeAt e t whole f is
unfolding items_made
made_at e t whole f x is at made h legal last before = made ∙ ap (λ y. diff_item y ++ shout_item e.step t) (at h legal last before)

pub pending_more : (s : Start) (es : List Entry) (i n : ℕ) (t : List ℕ) (e : Entry) (f g : Dot → Option Row) (o p : Option (List ℕ)) (w v : Waiting) (made : List Item) (b : Bool) → IsLegal (onto (Begin s) es) → topic_of (onto (Begin s) es) n ≡ Some t → i < length es → e ≡ get_or es i e → AreNext e t (onto (Begin s) (take (i + 1) es)) f g → AreMadeAt e t (onto (Begin s) (take (i + 1) es)) f made → b ≡ is_some o → v ≡ queue_after e.step e.number n (cond b made []) w → p ≡ topic_after e.step e.number n o → Waits (ShowsAlike f t) n o w (onto (Begin s) (take i es)) → Waits (ShowsAlike g t) n p v (onto (Begin s) (take (i + 1) es))
pending_more s es i n t e f g o p w v made b legal present lt is next at present_b queue topic before =
    let last = front_next (Begin s) es i e lt is in
    let h = onto (Begin s) (take i es) in
    let on = front_rest (Begin s) es i e lt is in
    subst (Waits (ShowsAlike g t) n p v) (sym last)
    (waits_more (ShowsAlike f t) (ShowsAlike g t) t n o p w v b h e (drop (i + 1) es) (subst IsLegal (sym on) legal) (ap (λ (k : History). topic_of k n) on ∙ present)
    (λ l shows. next h l (sym last) shows) topic present_b
    (λ l shows. queue ∙ ap (λ (is : List Item). queue_after e.step e.number n (cond b is []) w) (at h l (sym last) shows)) before)
