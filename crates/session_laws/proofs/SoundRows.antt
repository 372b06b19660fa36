-- Where the steps of a history bring sound values, so are its rows, what is told of them, and what waits.
use Rattle.std.proofs.Common.{◌≡◌, ℕ, Bool, true, false, cond, ◌&&◌, nat_eq, nat_lt, length, List, [], ◌∷◌, ◌++◌, zero, suc, take, drop, Option, Some, None, is_some, sym, ◌∙◌, subst, refl}
use Rattle.std.proofs.lemmas.Option.{same_Some}
use Rattle.std.specs.FinMap as map
use Rattle.std.specs.List.{AllByRecursion, filter}
use Rattle.std.specs.Map.{lookup}
use Rattle.presence_base.specs.Order.{same_text, same_dot}
use Rattle.presence_base.specs.declared.dots.Dot.{Dot}
use Rattle.presence_base.specs.declared.row.Row.{Row}
use Rattle.orswot_core.specs.Telling.{live_row}
use Rattle.presence_journal.specs.declared.rows.Item.{Item}
use Rattle.presence_journal.specs.declared.rows.Item.TheVariants as items_are
use Rattle.presence_journal.specs.declared.rows.Place.{Place}
use Rattle.presence_journal.specs.declared.rows.RowDiff.{RowDiff}
use Rattle.presence_journal.specs.declared.step.Step.TheVariants as steps_are
use Rattle.presence_journal.specs.declared.step.Step.{Step}
use Rattle.presence_journal.specs.declared.entry.Outcome.{Outcome}
use Rattle.presence_journal.specs.declared.entry.Outcome.TheVariants as outcomes_are
use Rattle.presence_journal.specs.declared.entry.Entry.{Entry}
use Rattle.presence_journal.specs.History.{History, Begin, Then, row_made, row_added, hears, told_row, first_some, row, with_prev, row_again, row_brought}
use Rattle.presence_journal.specs.Present.{RowMap, in_order, present, listed, missing_in, changes}
use Rattle.presence_journal.specs.Queue.{Waiting, Behind, Queued, is_current, first_waiting, is_empty, diff_item, shout_item, diff_of, items_made, most_waiting, push_items, queued, left_by, queue, queue_after, made_for, topic_of, listed_for, given, items_given}
use Rattle.presence_journal.specs.Table.{has_key, listed_key}
use Rattle.presence_journal.proofs.FoldPresent.{presence}
use Rattle.presence_journal.proofs.FoldTables.{Placed, AreOf, stripped, entries_found}
use Rattle.presence_journal.proofs.Lookups.{get-missing_in}
use Rattle.presence_journal.proofs.PresentLemmas.{shown-row}
use Rattle.session_laws.proofs.SoundValues.{IsSound, RowsSound, ItemSound}

abbrev pub StepSound : Step → Type 0
StepSound (steps_are.Track pid topic key meta) = IsSound 32 meta
StepSound (steps_are.Update pid topic key meta) = IsSound 32 meta
StepSound (steps_are.Shout topic payload) = IsSound 64 payload
StepSound (steps_are.Merge told) = RowsSound told.live
StepSound _ = Unit {0}

abbrev pub HistorySound : History → Type 0
HistorySound (Begin s) = RowsSound s.content.live
HistorySound (Then h e) = HistorySound h × StepSound e.step

-- ---- rows

abbrev RowSound : Row → Type 0
RowSound r = IsSound 32 r.meta

no_row : (r : Row) → ◌≡◌ {A = Option Row} None (Some r) → ⊥
no_row r e = cc

made_sound : (s : Step) (prev : Option Dot) (r : Row) → StepSound s → row_made s prev ≡ Some r → RowSound r
made_sound (steps_are.Track pid topic key meta) prev r h e = subst RowSound (same_Some (record { topic = topic; key = key; pid = pid; meta = meta; prev = prev }) r e) h
made_sound (steps_are.Update pid topic key meta) prev r h e = subst RowSound (same_Some (record { topic = topic; key = key; pid = pid; meta = meta; prev = prev }) r e) h
made_sound (steps_are.Untrack pid topic key) prev r h e = absurd (no_row r e)
made_sound (steps_are.UntrackAll pid topic) prev r h e = absurd (no_row r e)
made_sound (steps_are.List topic) prev r h e = absurd (no_row r e)
made_sound (steps_are.Get topic key) prev r h e = absurd (no_row r e)
made_sound (steps_are.Subscribe topic) prev r h e = absurd (no_row r e)
made_sound (steps_are.Take n max) prev r h e = absurd (no_row r e)
made_sound (steps_are.Unsubscribe n) prev r h e = absurd (no_row r e)
made_sound (steps_are.Shout topic payload) prev r h e = absurd (no_row r e)
made_sound (steps_are.Heard replica now) prev r h e = absurd (no_row r e)
made_sound (steps_are.Tick now) prev r h e = absurd (no_row r e)
made_sound (steps_are.PermDown replica) prev r h e = absurd (no_row r e)
made_sound steps_are.Cut prev r h e = absurd (no_row r e)
made_sound (steps_are.Merge told) prev r h e = absurd (no_row r e)
made_sound (steps_are.Rebirth incarnation) prev r h e = absurd (no_row r e)

made_if : (b : Bool) (s : Step) (prev : Option Dot) (r : Row) → StepSound s → cond b (row_made s prev) None ≡ Some r → RowSound r
made_if true s prev r h e = made_sound s prev r h e
made_if false s prev r h e = absurd (no_row r e)

added_sound : (s : Step) (o : Outcome) (d : Dot) (r : Row) → StepSound s → row_added s o d ≡ Some r → RowSound r
added_sound s (outcomes_are.Added new) d r h e = made_if (same_dot d new) s None r h e
added_sound s (outcomes_are.Replaced new old) d r h e = made_if (same_dot d new) s (Some old) r h e
added_sound s outcomes_are.AlreadyTracked d r h e = absurd (no_row r e)
added_sound s outcomes_are.NoPresence d r h e = absurd (no_row r e)
added_sound s (outcomes_are.Removed ds) d r h e = absurd (no_row r e)
added_sound s (outcomes_are.Shown ds) d r h e = absurd (no_row r e)
added_sound s (outcomes_are.Subscribed n) d r h e = absurd (no_row r e)
added_sound s (outcomes_are.Taken state items) d r h e = absurd (no_row r e)
added_sound s outcomes_are.Ended d r h e = absurd (no_row r e)
added_sound s outcomes_are.Sent d r h e = absurd (no_row r e)
added_sound s outcomes_are.Noted d r h e = absurd (no_row r e)
added_sound s (outcomes_are.CutAt from to) d r h e = absurd (no_row r e)
added_sound s outcomes_are.Merged d r h e = absurd (no_row r e)
added_sound s (outcomes_are.Reborn pairs) d r h e = absurd (no_row r e)

-- a row that goes on keeps its meta
again_sound : (old : Dot) (o : Option Row) (r : Row) → ((q : Row) → o ≡ Some q → RowSound q) → with_prev old o ≡ Some r → RowSound r
again_sound old None r f e = absurd (no_row r e)
again_sound old (Some q) r f e = subst RowSound (same_Some (record { topic = q.topic; key = q.key; pid = q.pid; meta = q.meta; prev = Some old }) r e) (f q refl)

brought_sound : (rows : Dot → Option Row) (o : Outcome) (told : Option Row) (d : Dot) (r : Row) → ((old : Dot) (q : Row) → rows old ≡ Some q → RowSound q) → (told ≡ Some r → RowSound r) → row_brought o rows told d ≡ Some r → RowSound r
brought_sound rows (outcomes_are.Reborn pairs) told d r f g e = go (lookup (same_dot d) pairs) e
  where
    go : (x : Option Dot) → row_again rows x ≡ Some r → RowSound r
    go None k = absurd (no_row r k)
    go (Some old) k = again_sound old (rows old) r (f old) k
brought_sound rows _ told d r f g e = g e

found_sound : (xs : List (Dot × Row)) (d : Dot) (r : Row) → RowsSound xs → lookup (same_dot d) xs ≡ Some r → RowSound r
found_sound [] d r k e = absurd (no_row r e)
found_sound (x ∷ xs) d r k e = go (same_dot d x.0) e (found_sound xs d r k.1)
  where
    go : (b : Bool) → cond b (Some x.1) (lookup (same_dot d) xs) ≡ Some r → (lookup (same_dot d) xs ≡ Some r → RowSound r) → RowSound r
    go true f ih = subst RowSound (same_Some x.1 r f) k.0
    go false f ih = ih f

told_sound : (h : History) (s : Step) (d : Dot) (r : Row) → StepSound s → told_row h s d ≡ Some r → RowSound r
told_sound h (steps_are.Merge t) d r k e = go (hears h d.replica) e
  where
    go : (b : Bool) → cond b (live_row t d) None ≡ Some r → RowSound r
    go true f = found_sound t.live d r k f
    go false f = absurd (no_row r f)
told_sound h _ d r k e = absurd (no_row r e)

first_sound : (x y : Option Row) (r : Row) → first_some x y ≡ Some r → (x ≡ Some r → RowSound r) → (y ≡ Some r → RowSound r) → RowSound r
first_sound (Some q) y r e f g = f e
first_sound None y r e f g = g e

row_sound : (h : History) (d : Dot) (r : Row) → HistorySound h → row h d ≡ Some r → RowSound r
unfolding row
row_sound (Begin s) d r k e = found_sound s.content.live d r k e
row_sound (Then h x) d r k e =
    first_sound (row h d) (first_some (row_added x.step x.outcome d) (row_brought x.outcome (row h) (told_row h x.step d) d)) r e (row_sound h d r k.0)
    (λ f. first_sound (row_added x.step x.outcome d) (row_brought x.outcome (row h) (told_row h x.step d) d) r f (added_sound x.step x.outcome d r k.1)
    (brought_sound (row h) x.outcome (told_row h x.step d) d r (λ old q. row_sound h old q k.0) (told_sound h x.step d r k.1)))

-- ---- tables

abbrev HasSound : (Place → Option Row) → Type 0
HasSound g = (p : Place) (r : Row) → g p ≡ Some r → RowSound r

sound_stripped : (g : Place → Option Row) → HasSound g → (es : List Placed) → AreOf g es → RowsSound (stripped es)
sound_stripped g has [] a = tt
sound_stripped g has (e ∷ es) a = (has e.0 e.1 a.0, sound_stripped g has es a.1)

table_sound : (m : RowMap) → HasSound (map.get m) → RowsSound (in_order m)
unfolding in_order
table_sound m has = sound_stripped (map.get m) has (map.entries m) (entries_found m)

present_sound : (h : History) (t : List ℕ) → HistorySound h → HasSound (map.get (present h t))
present_sound h t k p r e = row_sound h p.dot r k (shown-row h p.dot r (presence h t p r e).shown).0

missing_sound : (others m : RowMap) → HasSound (map.get m) → HasSound (map.get (missing_in others m))
missing_sound others m has p r e = has p r (go (is_some (map.get others p)) (sym (get-missing_in others m p) ∙ e))
  where
    go : (b : Bool) → cond b None (map.get m p) ≡ Some r → map.get m p ≡ Some r
    go true f = absurd (cc)
    go false f = f

pub listed_sound : (h : History) (t : List ℕ) → HistorySound h → RowsSound (listed h t)
listed_sound h t k = table_sound (present h t) (present_sound h t k)

filter_sound : (test : Dot × Row → Bool) (xs : List (Dot × Row)) → RowsSound xs → RowsSound (filter test xs)
filter_sound test [] k = tt
filter_sound test (x ∷ xs) k = go (test x) (filter_sound test xs k.1)
  where
    go : (b : Bool) → RowsSound (filter test xs) → RowsSound (cond b (x ∷ filter test xs) (filter test xs))
    go true more = (k.0, more)
    go false more = more

pub listed_key_sound : (h : History) (t key : List ℕ) → HistorySound h → RowsSound (listed_key h t key)
unfolding listed_key
listed_key_sound h t key k = filter_sound (has_key key) (listed h t) (listed_sound h t k)

-- ---- items

abbrev pub ItemsAreSound : List Item → Type 0
ItemsAreSound = AllByRecursion ItemSound

abbrev WaitsSound : Waiting → Type 0
WaitsSound Behind = Unit {0}
WaitsSound (Queued q) = ItemsAreSound q

diff_sound : (h : History) (e : Entry) (t : List ℕ) → HistorySound (Then h e) → ItemSound (items_are.Diff (diff_of h e t))
unfolding changes
diff_sound h e t k = (
  table_sound (missing_in (present h t) (present (Then h e) t)) (missing_sound (present h t) (present (Then h e) t) (present_sound (Then h e) t k)),
  table_sound (missing_in (present (Then h e) t) (present h t)) (missing_sound (present (Then h e) t) (present h t) (present_sound h t k.0)),
)

append_sound : (xs ys : List Item) → ItemsAreSound xs → ItemsAreSound ys → ItemsAreSound (xs ++ ys)
append_sound [] ys a b = b
append_sound (x ∷ xs) ys a b = (a.0, append_sound xs ys a.1 b)

drop_sound : (n : ℕ) (xs : List Item) → ItemsAreSound xs → ItemsAreSound (drop n xs)
drop_sound zero xs a = a
drop_sound (suc n) [] a = tt
drop_sound (suc n) (x ∷ xs) a = drop_sound n xs a.1

take_sound : (n : ℕ) (xs : List Item) → ItemsAreSound xs → ItemsAreSound (take n xs)
take_sound zero xs a = tt
take_sound (suc n) [] a = tt
take_sound (suc n) (x ∷ xs) a = (a.0, take_sound n xs a.1)

diff_item_sound : (d : RowDiff) → ItemSound (items_are.Diff d) → ItemsAreSound (diff_item d)
diff_item_sound d p = go (is_empty d.joins && is_empty d.leaves)
  where
    go : (b : Bool) → ItemsAreSound (cond b [] (items_are.Diff d ∷ []))
    go true = tt
    go false = (p, tt)

shout_sound : (s : Step) (t : List ℕ) → StepSound s → ItemsAreSound (shout_item s t)
shout_sound (steps_are.Shout topic payload) t k = go (same_text topic t)
  where
    go : (b : Bool) → ItemsAreSound (cond b (items_are.Shout payload ∷ []) [])
    go true = (k, tt)
    go false = tt
shout_sound _ t k = tt

items_sound : (h : History) (e : Entry) (o : Option (List ℕ)) → HistorySound (Then h e) → ItemsAreSound (made_for h e o)
unfolding items_made
items_sound h e None k = tt
items_sound h e (Some t) k = append_sound (diff_item (diff_of h e t)) (shout_item e.step t) (diff_item_sound (diff_of h e t) (diff_sound h e t k)) (shout_sound e.step t k.1)

-- ---- queues

queued_sound : (q : List Item) → ItemsAreSound q → WaitsSound (queued q)
queued_sound q p = go (nat_lt most_waiting (length q))
  where
    go : (b : Bool) → WaitsSound (cond b Behind (Queued q))
    go true = tt
    go false = p

push_sound : (w : Waiting) (new : List Item) → WaitsSound w → ItemsAreSound new → WaitsSound (push_items w new)
push_sound Behind new p n = tt
push_sound (Queued q) new p n = queued_sound (q ++ new) (append_sound q new p n)

left_sound : (max : ℕ) (w : Waiting) → WaitsSound w → WaitsSound (left_by max w)
left_sound max Behind p = tt
left_sound max (Queued q) p = drop_sound max q p

either_sound : (b : Bool) (v w : Waiting) → WaitsSound v → WaitsSound w → WaitsSound (cond b v w)
either_sound true v w p q = p
either_sound false v w p q = q

queue_after_sound : (s : Step) (number n : ℕ) (new : List Item) (w : Waiting) → ItemsAreSound new → WaitsSound w → WaitsSound (queue_after s number n new w)
queue_after_sound (steps_are.Subscribe t) number n new w a p = either_sound (nat_eq number n) Behind (push_items w new) tt (push_sound w new p a)
queue_after_sound (steps_are.Take m max) number n new w a p = either_sound (nat_eq m n) (left_by max w) (push_items w new) (left_sound max w p) (push_sound w new p a)
queue_after_sound _ number n new w a p = push_sound w new p a

first_waiting_sound : (b : Bool) → WaitsSound (first_waiting b)
first_waiting_sound true = tt
first_waiting_sound false = tt

queue_sound : (h : History) (n : ℕ) → HistorySound h → WaitsSound (queue h n)
unfolding queue
queue_sound (Begin s) n k = first_waiting_sound (is_current s.current n)
queue_sound (Then h e) n k = queue_after_sound e.step e.number n (made_for h e (topic_of h n)) (queue h n) (items_sound h e (topic_of h n) k) (queue_sound h n k.0)

-- ---- what a take gives

rows_for_sound : (h : History) (o : Option (List ℕ)) → HistorySound h → RowsSound (listed_for h o)
rows_for_sound h None k = tt
rows_for_sound h (Some t) k = listed_sound h t k

given_sound : (rows : List (Dot × Row)) (max : ℕ) (w : Waiting) → RowsSound rows → WaitsSound w → ItemsAreSound (given rows max w)
given_sound rows max Behind r w = (r, tt)
given_sound rows max (Queued q) r w = take_sound max q w

pub items_given_sound : (h : History) (n max : ℕ) → HistorySound h → ItemsAreSound (items_given h n max)
items_given_sound h n max k = given_sound (listed_for h (topic_of h n)) max (queue h n) (rows_for_sound h (topic_of h n) k) (queue_sound h n k)
