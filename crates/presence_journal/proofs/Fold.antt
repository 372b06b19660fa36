-- What a client makes of its items is what is present.
use Rattle.std.proofs.Common.{◌≡◌, ℕ, Bool, true, false, cond, ◌&&◌, List, [], ◌∷◌, ◌++◌, Option, Some, None, refl, sym, ◌∙◌, ap, append_assoc, take-append-drop, length}
use Rattle.std.specs.Prelude.{nat_eq, nat_lt}
use Rattle.std.specs.FinMap as map
use Rattle.std.proofs.lemmas.Bool.{and_parts, eqb-true}
use Rattle.std.proofs.lemmas.Option.{same_Some}
use Rattle.presence_base.specs.declared.dots.Dot.{Dot}
use Rattle.presence_base.specs.declared.row.Row.{Row}
use Rattle.presence_base.specs.Order.{same_text}
use Rattle.presence_journal.specs.declared.step.Step.TheVariants as steps_are
use Rattle.presence_journal.specs.declared.entry.Outcome.TheVariants as outcomes_are
use Rattle.presence_journal.specs.declared.rows.Item.{Item}
use Rattle.presence_journal.specs.declared.rows.Item.TheVariants as items_are
use Rattle.presence_journal.specs.declared.rows.RowDiff.{RowDiff}
use Rattle.presence_journal.specs.Steps.{Step, Entry, Start}
use Rattle.presence_journal.specs.History.{History, Begin, Then, has_dot, first_some, row_added, shown}
use Rattle.presence_journal.specs.Present.{RowMap, of_topic, present, dots_taken}
use Rattle.presence_journal.specs.Queue.{Waiting, Behind, Queued, topic_at, is_current, topic_of, topic_after, is_empty, diff_item, shout_item, diff_of, items_made, most_waiting, push_items, left_by, first_waiting, queue, queue_after, made_for, listed_for, took, first_taken, taken, taken_after, apply_item, fold_from, fold}
use Rattle.presence_journal.specs.Table.{IsLegal, outcome_of, take_outcome}
use Rattle.presence_journal.specs.Laws.{FoldsToPresent, of_key, is_callers}
use Rattle.presence_journal.proofs.HistoryLemmas.{Quiet, is_quiet, legal_knows, shown_by}
use Rattle.presence_journal.proofs.FoldTables.{same_rows, state_is}
use Rattle.presence_journal.proofs.FoldPresent.{present_is, present_placed, diffs_lead}

fold_from-append : (m : RowMap) (xs ys : List Item) → fold_from m (xs ++ ys) ≡ fold_from (fold_from m xs) ys
fold_from-append m [] ys = refl
fold_from-append m (x ∷ xs) ys = fold_from-append (apply_item m x) xs ys

is_empty-nil : (xs : List (Dot × Row)) → is_empty xs ≡ true → xs ≡ []
is_empty-nil [] h = refl
is_empty-nil (x ∷ xs) h = absurd (cc)

-- a difference that is empty changes nothing
fold_diff : (x : RowDiff) (m : RowMap) → fold_from m (diff_item x) ≡ apply_item m (items_are.Diff x)
fold_diff x m = go (is_empty x.joins && is_empty x.leaves) refl
  where
    go : (b : Bool) → (is_empty x.joins && is_empty x.leaves) ≡ b → fold_from m (cond b [] (items_are.Diff x ∷ [])) ≡ apply_item m (items_are.Diff x)
    go true e = let parts = and_parts (is_empty x.joins) (is_empty x.leaves) e in rw (is_empty-nil x.joins parts.0, is_empty-nil x.leaves parts.1)
    go false e = refl

fold_shout : (s : Step) (t : List ℕ) (m : RowMap) → fold_from m (shout_item s t) ≡ m
fold_shout (steps_are.Shout topic payload) t m = go (same_text topic t)
  where
    go : (b : Bool) → fold_from m (cond b (items_are.Shout payload ∷ []) []) ≡ m
    go true = refl
    go false = refl
fold_shout _ t m = refl

-- what an entry makes leads from what was present to what is
fold_made : (h : History) (e : Entry) (t : List ℕ) → fold_from (present h t) (items_made h e t) ≡ present (Then h e) t
unfolding items_made
fold_made h e t =
    fold_from-append (present h t) (diff_item (diff_of h e t)) (shout_item e.step t)
    ∙ (fold_shout e.step t (fold_from (present h t) (diff_item (diff_of h e t)))
    ∙ (fold_diff (diff_of h e t) (present h t) ∙ diffs_lead h e t))

-- where each dot shows the same, the same is present
pub same_present : (g h : History) (t : List ℕ) → ((d : Dot) → of_topic t (shown g d) ≡ of_topic t (shown h d)) → present g t ≡ present h t
same_present g h t same = same_rows (present g t) (present h t) (λ p. present_is g t p ∙ (ap (of_key p.key) (same p.dot) ∙ sym (present_is h t p)))

-- a take changes no row
quiet : (h : History) (e : Entry) (b : Bool) (n : ℕ) → IsLegal h → is_callers e.step ≡ true → e.outcome ≡ outcomes_are.Taken b n → (d : Dot) → shown (Then h e) d ≡ shown h d
quiet h e b n legal c o d =
    shown_by h e d (legal_knows h legal) (Quiet (ap is_quiet o)) c
    ∙ ap (λ x. first_some (row_added e.step x d) (cond (has_dot (dots_taken x) d) None (shown h d))) o

-- how an entry concerns a subscriber
data Concern (s : Step) (number n : ℕ) (new : List Item) (w : Waiting) (o : Option (List ℕ)) (rows : List (Dot × Row)) (before : List Item) : Type 0 where
  Same : topic_after s number n o ≡ o → queue_after s number n new w ≡ push_items w new → taken_after s n rows w before ≡ before → Concern s number n new w o rows before
  Takes : (max : ℕ) → s ≡ steps_are.Take n max → topic_after s number n o ≡ o → queue_after s number n new w ≡ left_by max w → taken_after s n rows w before ≡ took rows max w before → Concern s number n new w o rows before
  Starts : queue_after s number n new w ≡ Behind → Concern s number n new w o rows before
  Ends : topic_after s number n o ≡ None → Concern s number n new w o rows before

concern : (s : Step) (number n : ℕ) (new : List Item) (w : Waiting) (o : Option (List ℕ)) (rows : List (Dot × Row)) (before : List Item) → Concern s number n new w o rows before
concern (steps_are.Subscribe t) number n new w o rows before = go (nat_eq number n) refl
  where
    go : (b : Bool) → nat_eq number n ≡ b → Concern (steps_are.Subscribe t) number n new w o rows before
    go true e = Starts (ap (λ b. cond b Behind (push_items w new)) e)
    go false e = Same (ap (λ b. cond b (Some t) o) e) (ap (λ b. cond b Behind (push_items w new)) e) refl
concern (steps_are.Unsubscribe m) number n new w o rows before = go (nat_eq m n) refl
  where
    go : (b : Bool) → nat_eq m n ≡ b → Concern (steps_are.Unsubscribe m) number n new w o rows before
    go true e = Ends (ap (λ b. cond b None o) e)
    go false e = Same (ap (λ b. cond b None o) e) refl refl
concern (steps_are.Take m max) number n new w o rows before = go (nat_eq m n) refl
  where
    go : (b : Bool) → nat_eq m n ≡ b → Concern (steps_are.Take m max) number n new w o rows before
    go true e = Takes max (ap (λ x. steps_are.Take x max) (eqb-true m n e)) refl (ap (λ b. cond b (left_by max w) (push_items w new)) e) (ap (λ b. cond b (took rows max w before) before) e)
    go false e = Same refl (ap (λ b. cond b (left_by max w) (push_items w new)) e) (ap (λ b. cond b (took rows max w before) before) e)
concern _ number n new w o rows before = Same refl refl refl

same_Queued : (x y : List Item) → Queued x ≡ Queued y → x ≡ y
same_Queued x y h = cc

-- as at the entries before
abbrev FoldsBefore : History → ℕ → Type 0
FoldsBefore h n = (t : List ℕ) → topic_of h n ≡ Some t → (q : List Item) → queue h n ≡ Queued q → fold (taken h n ++ q) ≡ present h t

fold_same : (h : History) (e : Entry) (n : ℕ) (t : List ℕ) (q : List Item) → topic_of h n ≡ Some t → FoldsBefore h n → (w : Waiting) → queue h n ≡ w → push_items w (made_for h e (topic_of h n)) ≡ Queued q → fold (taken h n ++ q) ≡ present (Then h e) t
unfolding fold
fold_same h e n t q u ih Behind f g = absurd (cc)
fold_same h e n t q u ih (Queued q0) f g = go (nat_lt most_waiting (length (q0 ++ made_for h e (topic_of h n)))) g
  where
    go : (b : Bool) → cond b Behind (Queued (q0 ++ made_for h e (topic_of h n))) ≡ Queued q → fold (taken h n ++ q) ≡ present (Then h e) t
    go true x = absurd (cc)
    go false x =
        ap (λ xs. fold (taken h n ++ xs)) (sym (same_Queued _ _ x))
        ∙ (ap (λ o. fold (taken h n ++ (q0 ++ made_for h e o))) u
        ∙ (ap fold (sym (append_assoc (taken h n) q0 (items_made h e t)))
        ∙ (fold_from-append map.empty (taken h n ++ q0) (items_made h e t)
        ∙ (ap (λ m. fold_from m (items_made h e t)) (ih t u q0 f) ∙ fold_made h e t))))

fold_takes : (h : History) (n : ℕ) (t : List ℕ) (q : List Item) (max : ℕ) → topic_of h n ≡ Some t → FoldsBefore h n → (w : Waiting) → queue h n ≡ w → left_by max w ≡ Queued q → fold (took (listed_for h (topic_of h n)) max (queue h n) (taken h n) ++ q) ≡ present h t
unfolding fold
fold_takes h n t q max u ih Behind f g = rw (f, u, ← (same_Queued _ _ g)) (state_is (present h t) (present_placed h t))
fold_takes h n t q max u ih (Queued q0) f g = rw (f, ← (same_Queued _ _ g), append_assoc, take-append-drop) (ih t u q0 f)

take_quiet : (h : History) (e : Entry) (n : ℕ) (t : List ℕ) (max : ℕ) → IsLegal (Then h e) → e.step ≡ steps_are.Take n max → topic_of h n ≡ Some t → present h t ≡ present (Then h e) t
unfolding outcome_of
take_quiet h e n t max legal a u = go (queue h n) (sym (same_Some _ _ (rw (a, u) at legal.1)))
  where
    fine : (b : Bool) (k : ℕ) → e.outcome ≡ outcomes_are.Taken b k → present h t ≡ present (Then h e) t
    fine b k o = sym (same_present (Then h e) h t (λ d. ap (of_topic t) (quiet h e b k legal.0 (ap is_callers a) o d)))

    go : (w : Waiting) → e.outcome ≡ take_outcome max w → present h t ≡ present (Then h e) t
    go Behind o = fine _ _ o
    go (Queued q) o = fine _ _ o

-- a current subscriber of a Start has the state of its topic
fold_first : (s : Start) (t : List ℕ) (q : List Item) (o : Option (List ℕ)) → o ≡ Some t → (b : Bool) → first_waiting b ≡ Queued q → fold (first_taken b (listed_for (Begin s) o) ++ q) ≡ present (Begin s) t
unfolding fold
fold_first s t q o u false f = absurd (cc)
fold_first s t q o u true f = rw (u, ← (same_Queued _ _ f)) (state_is (present (Begin s) t) (present_placed (Begin s) t))

pub folds_to_present : FoldsToPresent
unfolding queue topic_of taken
folds_to_present (Begin s) legal n t u q w = fold_first s t q (topic_at s.subscribers n) u (is_current s.current n) w
folds_to_present (Then h e) legal n t u q w = go (concern e.step e.number n (made_for h e (topic_of h n)) (queue h n) (topic_of h n) (listed_for h (topic_of h n)) (taken h n)) (folds_to_present h legal.0 n)
  where
    go : Concern e.step e.number n (made_for h e (topic_of h n)) (queue h n) (topic_of h n) (listed_for h (topic_of h n)) (taken h n) → FoldsBefore h n → fold (taken (Then h e) n ++ q) ≡ present (Then h e) t
    go (Starts a) ih = let f : Behind ≡ Queued q = sym a ∙ w in absurd (cc)
    go (Ends a) ih = let f : None ≡ Some t = sym a ∙ u in absurd (cc)
    go (Same a b c) ih = ap (λ xs. fold (xs ++ q)) c ∙ fold_same h e n t q (sym a ∙ u) ih (queue h n) refl (sym b ∙ w)
    go (Takes max a b c f) ih = ap (λ xs. fold (xs ++ q)) f ∙ (fold_takes h n t q max (sym b ∙ u) ih (queue h n) refl (sym c ∙ w) ∙ take_quiet h e n t max legal a (sym b ∙ u))
