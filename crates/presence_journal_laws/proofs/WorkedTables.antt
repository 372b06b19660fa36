-- The table as lists, which compute. A finite map does not.
use Rattle.std.proofs.Common.{◌≡◌, ℕ, Bool, cond, not, List, [], ◌∷◌, ◌++◌, Option, Some, None, refl, sym, ◌∙◌, ap}
use Rattle.std.specs.Prelude.{is_some, filter}
use Rattle.std.specs.FinMap as map
use Rattle.std.specs.FinMap.Entries.{put, where_key, is_sorted-where_key, find-where_key, same_entries}
use Rattle.presence_base.specs.declared.dots.Dot.{Dot}
use Rattle.presence_base.specs.declared.row.Row.{Row}
use Rattle.presence_journal.specs.declared.step.Step.TheVariants as steps_are
use Rattle.presence_journal.specs.declared.entry.Outcome.TheVariants as outcomes_are
use Rattle.presence_journal.specs.declared.rows.Item.{Item}
use Rattle.presence_journal.specs.declared.rows.Place.{Place}
use Rattle.presence_journal.specs.declared.rows.RowDiff.{RowDiff}
use Rattle.presence_journal.specs.declared.step.Step.{Step}
use Rattle.presence_journal.specs.declared.entry.Outcome.{Outcome}
use Rattle.presence_journal.specs.declared.entry.Entry.{Entry}
use Rattle.presence_journal.specs.History.{History, Begin, Then, is_full, shown}
use Rattle.presence_journal.specs.Present.{RowMap, place_cmp, place_of, of_topic, dots, put_all, put as put_row, present, in_order, listed, dots_of, missing_in, changes}
use Rattle.presence_journal.specs.Queue.{Waiting, topic_at, is_current, first_waiting, first_taken, topic_of, diff_item, shout_item, diff_of, items_made, queue, queue_after, made_for, listed_for, taken, taken_after}
use Rattle.presence_journal.specs.Table.{is_mine, has_key, rows_of_pid, rows_of_key, listed_key, tracked, updated, untracked, for_present, take_outcome, outcome_of, accepted, with_outcome, after}
use Rattle.presence_journal.specs.Laws.{ran}
use Rattle.presence_journal.proofs.FoldOrder.{place_cmp_total, place_ties}
use Rattle.presence_journal.proofs.FoldTables.{Placed, at, stripped, entries-empty}

-- the entries of a table, the rows missing in another

abbrev pub put_at : Dot → Option Row → List Placed → List Placed
put_at d None es = es
put_at d (Some r) es = put place_cmp (place_of d r) r es

abbrev pub puts : (Dot → Option Row) → List Dot → List Placed
puts f [] = []
puts f (d ∷ ds) = put_at d (f d) (puts f ds)

entries-put_all : (f : Dot → Option Row) (ds : List Dot) → map.entries (put_all f ds) ≡ puts f ds
entries-put_all f [] = entries-empty
entries-put_all f (d ∷ ds) = go (f d) (entries-put_all f ds)
  where
    go : (o : Option Row) → map.entries (put_all f ds) ≡ puts f ds → map.entries (put_row d o (put_all f ds)) ≡ put_at d o (puts f ds)
    go None ih = ih
    go (Some r) ih = map.entries-insert place_cmp_total (put_all f ds) (place_of d r) r ∙ ap (put place_cmp (place_of d r) r) ih

abbrev pub present_now : History → List ℕ → List Placed
present_now h t = puts (λ d. of_topic t (shown h d)) (dots h)

entries-present : (h : History) (t : List ℕ) → map.entries (present h t) ≡ present_now h t
unfolding present
entries-present h t = entries-put_all (λ d. of_topic t (shown h d)) (dots h)

abbrev pub left_in : List Placed → List Placed → List Placed
left_in others es = where_key place_cmp (λ p. not (is_some (at others p))) es

entries-retain : (m : RowMap) (p : Place → Bool) → map.entries (map.retain_keys m p) ≡ where_key place_cmp p (map.entries m)
entries-retain m p =
    same_entries place_cmp place_cmp_total place_ties (map.entries (map.retain_keys m p)) (where_key place_cmp p (map.entries m)) (map.entries_sorted (map.retain_keys m p)) (is_sorted-where_key place_cmp p (map.entries m) (map.entries_sorted m)) (λ q.
    sym (map.get-entries (map.retain_keys m p) q)
    ∙ (map.get-retain_keys m p q (λ x e. ap p (sym (place_ties q x e)))
    ∙ (ap (λ o. cond (p q) o None) (map.get-entries m q)
    ∙ sym (find-where_key place_cmp p q (λ x e. ap p (sym (place_ties q x e))) (map.entries m)))))

entries-missing : (others m : RowMap) → map.entries (missing_in others m) ≡ left_in (map.entries others) (map.entries m)
entries-missing others m = entries-retain m (λ p. not (map.contains_key others p)) ∙ ap (λ (g : Place → Option Row). where_key place_cmp (λ p. not (is_some (g p))) (map.entries m)) (λ i p. map.get-entries others p i)

abbrev pub rows_now : History → List ℕ → List (Dot × Row)
rows_now h t = stripped (present_now h t)

pub listed_now : (h : History) (t : List ℕ) → listed h t ≡ rows_now h t
unfolding in_order
listed_now h t = ap stripped (entries-present h t)

abbrev pub difference : List Placed → List Placed → RowDiff
difference old new = record { joins = stripped (left_in old new); leaves = stripped (left_in new old) }

diff_now : (h : History) (e : Entry) (t : List ℕ) → diff_of h e t ≡ difference (present_now h t) (present_now (Then h e) t)
unfolding changes in_order
diff_now h e t =
    let old = present h t in
    let new = present (Then h e) t in
    let joins : map.entries (missing_in old new) ≡ left_in (present_now h t) (present_now (Then h e) t) = entries-missing old new ∙ (λ i. left_in (entries-present h t i) (entries-present (Then h e) t i)) in
    let leaves : map.entries (missing_in new old) ≡ left_in (present_now (Then h e) t) (present_now h t) = entries-missing new old ∙ (λ i. left_in (entries-present (Then h e) t i) (entries-present h t i)) in
    λ i. record { joins = stripped (joins i); leaves = stripped (leaves i) }

-- queues

abbrev pub items_now : History → Entry → List ℕ → List Item
items_now h e t = diff_item (difference (present_now h t) (present_now (Then h e) t)) ++ shout_item e.step t

abbrev pub made_now : History → Entry → Option (List ℕ) → List Item
made_now h e None = []
made_now h e (Some t) = items_now h e t

made_is : (h : History) (e : Entry) (o : Option (List ℕ)) → made_for h e o ≡ made_now h e o
unfolding items_made
made_is h e None = refl
made_is h e (Some t) = ap (λ d. diff_item d ++ shout_item e.step t) (diff_now h e t)

abbrev pub queue_now : History → ℕ → Waiting
queue_now (Begin s) n = first_waiting (is_current s.current n)
queue_now (Then h e) n = queue_after e.step e.number n (made_now h e (topic_of h n)) (queue_now h n)

pub queue_is : (h : History) (n : ℕ) → queue h n ≡ queue_now h n
unfolding queue
queue_is (Begin s) n = refl
queue_is (Then h e) n = let made = made_is h e (topic_of h n) in let before = queue_is h n in λ i. queue_after e.step e.number n (made i) (before i)

abbrev pub listed_now_for : History → Option (List ℕ) → List (Dot × Row)
listed_now_for h None = []
listed_now_for h (Some t) = rows_now h t

listed_for_is : (h : History) (o : Option (List ℕ)) → listed_for h o ≡ listed_now_for h o
listed_for_is h None = refl
listed_for_is h (Some t) = listed_now h t

abbrev pub taken_now : History → ℕ → List Item
taken_now (Begin s) n = first_taken (is_current s.current n) (listed_now_for (Begin s) (topic_at s.subscribers n))
taken_now (Then h e) n = taken_after e.step n (listed_now_for h (topic_of h n)) (queue_now h n) (taken_now h n)

pub taken_is : (h : History) (n : ℕ) → taken h n ≡ taken_now h n
unfolding taken
taken_is (Begin s) n = ap (first_taken (is_current s.current n)) (listed_for_is (Begin s) (topic_at s.subscribers n))
taken_is (Then h e) n = let rows = listed_for_is h (topic_of h n) in let waits = queue_is h n in let before = taken_is h n in λ i. taken_after e.step n (rows i) (waits i) (before i)

-- outcomes

abbrev pub pid_now : History → ℕ → List ℕ → List (Dot × Row)
pid_now h pid t = filter (is_mine h pid) (rows_now h t)

abbrev pub key_now : History → ℕ → List ℕ → List ℕ → List (Dot × Row)
key_now h pid t key = filter (has_key key) (pid_now h pid t)

pid_is : (h : History) (pid : ℕ) (t : List ℕ) → rows_of_pid h pid t ≡ pid_now h pid t
unfolding rows_of_pid
pid_is h pid t = ap (filter (is_mine h pid)) (listed_now h t)

key_is : (h : History) (pid : ℕ) (t key : List ℕ) → rows_of_key h pid t key ≡ key_now h pid t key
unfolding rows_of_key
key_is h pid t key = ap (filter (has_key key)) (pid_is h pid t)

listed_key_is : (h : History) (t key : List ℕ) → listed_key h t key ≡ filter (has_key key) (rows_now h t)
unfolding listed_key
listed_key_is h t key = ap (filter (has_key key)) (listed_now h t)

abbrev pub outcome_now : History → Step → Option Outcome
outcome_now h (steps_are.Track pid topic key meta) = tracked h (key_now h pid topic key)
outcome_now h (steps_are.Update pid topic key meta) = updated h (key_now h pid topic key)
outcome_now h (steps_are.Untrack pid topic key) = untracked h (dots_of (key_now h pid topic key))
outcome_now h (steps_are.UntrackAll pid topic) = untracked h (dots_of (pid_now h pid topic))
outcome_now h (steps_are.List topic) = Some (outcomes_are.Shown (dots_of (rows_now h topic)))
outcome_now h (steps_are.Get topic key) = Some (outcomes_are.Shown (dots_of (filter (has_key key) (rows_now h topic))))
outcome_now h (steps_are.Subscribe topic) = outcome_of h (steps_are.Subscribe topic)
outcome_now h (steps_are.Take n max) = for_present (topic_of h n) (take_outcome max (queue_now h n))
outcome_now h (steps_are.Unsubscribe n) = outcome_of h (steps_are.Unsubscribe n)
outcome_now h (steps_are.Shout topic payload) = outcome_of h (steps_are.Shout topic payload)
outcome_now h (steps_are.Heard replica now) = outcome_of h (steps_are.Heard replica now)
outcome_now h (steps_are.Tick now) = outcome_of h (steps_are.Tick now)
outcome_now h (steps_are.PermDown replica) = outcome_of h (steps_are.PermDown replica)
outcome_now h steps_are.Cut = outcome_of h steps_are.Cut
outcome_now h (steps_are.Merge told) = outcome_of h (steps_are.Merge told)
outcome_now h (steps_are.Rebirth i) = outcome_of h (steps_are.Rebirth i)

outcome_is : (h : History) (s : Step) → outcome_of h s ≡ outcome_now h s
unfolding outcome_of
outcome_is h (steps_are.Track pid topic key meta) = ap (tracked h) (key_is h pid topic key)
outcome_is h (steps_are.Update pid topic key meta) = ap (updated h) (key_is h pid topic key)
outcome_is h (steps_are.Untrack pid topic key) = ap (λ xs. untracked h (dots_of xs)) (key_is h pid topic key)
outcome_is h (steps_are.UntrackAll pid topic) = ap (λ xs. untracked h (dots_of xs)) (pid_is h pid topic)
outcome_is h (steps_are.List topic) = ap (λ xs. Some (outcomes_are.Shown (dots_of xs))) (listed_now h topic)
outcome_is h (steps_are.Get topic key) = ap (λ xs. Some (outcomes_are.Shown (dots_of xs))) (listed_key_is h topic key)
outcome_is h (steps_are.Take n max) = ap (λ w. for_present (topic_of h n) (take_outcome max w)) (queue_is h n)
outcome_is h _ = refl

abbrev pub accepted_now : History → Step → Option Outcome
accepted_now h s = cond (is_full h) None (outcome_now h s)

accepted_is : (h : History) (s : Step) → accepted h s ≡ accepted_now h s
unfolding accepted
accepted_is h s = ap (cond (is_full h) None) (outcome_is h s)

abbrev pub ran_now : History → List Step → History
ran_now h [] = h
ran_now h (s ∷ ss) = ran_now (with_outcome h s None (accepted_now h s)) ss

pub ran_is : (h : History) (ss : List Step) → ran h ss ≡ ran_now h ss
unfolding after
ran_is h [] = refl
ran_is h (s ∷ ss) = ran_is (after h s None) ss ∙ ap (λ o. ran_now (with_outcome h s None o) ss) (accepted_is h s)
