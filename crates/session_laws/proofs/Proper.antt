-- In a legal history the rows of what is told a subscriber have dots within their limits, and what it took begins with a state.
use Rattle.std.proofs.Common.{◌≡◌, ℕ, Bool, true, false, cond, ◌&&◌, nat_eq, nat_lt, length, List, [], ◌∷◌, ◌++◌, zero, suc, take, drop, Option, Some, None, is_some, sym, ◌∙◌, subst}
use Rattle.std.specs.FinMap as map
use Rattle.std.specs.List.{AllByRecursion}
use Rattle.presence_base.specs.Order.{same_text}
use Rattle.presence_base.specs.Refs.{IsDot}
use Rattle.presence_base.specs.declared.dots.Dot.{Dot}
use Rattle.presence_base.specs.declared.row.Row.{Row}
use Rattle.presence_journal.specs.declared.rows.Item.{Item}
use Rattle.presence_journal.specs.declared.rows.Item.TheVariants as items_are
use Rattle.presence_journal.specs.declared.rows.Place.{Place}
use Rattle.presence_journal.specs.declared.rows.RowDiff.{RowDiff}
use Rattle.presence_journal.specs.declared.step.Step.TheVariants as steps_are
use Rattle.presence_journal.specs.declared.step.Step.{Step}
use Rattle.presence_journal.specs.declared.entry.Entry.{Entry}
use Rattle.presence_journal.specs.History.{History, Begin, Then, shown}
use Rattle.presence_journal.specs.Present.{RowMap, in_order, present, listed, missing_in, changes}
use Rattle.presence_journal.specs.Queue.{Waiting, Behind, Queued, topic_at, is_current, first_waiting, first_taken, is_empty, diff_item, shout_item, diff_of, items_made, most_waiting, push_items, queued, left_by, queue, queue_after, made_for, topic_of, listed_for, took, taken, taken_after}
use Rattle.presence_journal.specs.Table.{IsLegal}
use Rattle.presence_journal.proofs.FoldPresent.{presence}
use Rattle.presence_journal.proofs.FoldTables.{Placed, AreOf, stripped, entries_found}
use Rattle.presence_journal.proofs.Fresh.{rows_have_dots}
use Rattle.presence_journal.proofs.Lookups.{get-missing_in}
use Rattle.presence_journal.proofs.PresentLemmas.{shown-row}
use Rattle.session_laws.proofs.Shown.{AllDots}

-- ---- dots

-- the dot of a row that is shown has a reference
pub shown_dot : (h : History) (d : Dot) (r : Row) → IsLegal h → shown h d ≡ Some r → IsDot d
shown_dot h d r l e = rows_have_dots h l d r (shown-row h d r e).0

abbrev HasDots : (Place → Option Row) → Type 0
HasDots g = (p : Place) (r : Row) → g p ≡ Some r → IsDot p.dot

dots_stripped : (g : Place → Option Row) → HasDots g → (es : List Placed) → AreOf g es → AllDots (stripped es)
dots_stripped g has [] a = tt
dots_stripped g has (e ∷ es) a = (has e.0 e.1 a.0, dots_stripped g has es a.1)

table_dots : (m : RowMap) → HasDots (map.get m) → AllDots (in_order m)
unfolding in_order
table_dots m has = dots_stripped (map.get m) has (map.entries m) (entries_found m)

pub present_dots : (h : History) (t : List ℕ) → IsLegal h → HasDots (map.get (present h t))
present_dots h t l p r e = shown_dot h p.dot r l (presence h t p r e).shown

missing_dots : (others m : RowMap) → HasDots (map.get m) → HasDots (map.get (missing_in others m))
missing_dots others m has p r e = has p r (go (is_some (map.get others p)) (sym (get-missing_in others m p) ∙ e))
  where
    go : (b : Bool) → cond b None (map.get m p) ≡ Some r → map.get m p ≡ Some r
    go true f = absurd (cc)
    go false f = f

pub listed_dots : (h : History) (t : List ℕ) → IsLegal h → AllDots (listed h t)
listed_dots h t l = table_dots (present h t) (present_dots h t l)

-- ---- items

abbrev pub IsProper : Item → Type 0
IsProper (items_are.State rows) = AllDots rows
IsProper (items_are.Diff d) = AllDots d.joins × AllDots d.leaves
IsProper (items_are.Shout payload) = Unit {0}

abbrev pub AllProper : List Item → Type 0
AllProper = AllByRecursion IsProper

abbrev pub WaitsProper : Waiting → Type 0
WaitsProper Behind = Unit {0}
WaitsProper (Queued q) = AllProper q

diff_proper : (h : History) (e : Entry) (t : List ℕ) → IsLegal (Then h e) → IsProper (items_are.Diff (diff_of h e t))
unfolding changes
diff_proper h e t l = (
  table_dots (missing_in (present h t) (present (Then h e) t)) (missing_dots (present h t) (present (Then h e) t) (present_dots (Then h e) t l)),
  table_dots (missing_in (present (Then h e) t) (present h t)) (missing_dots (present (Then h e) t) (present h t) (present_dots h t l.0)),
)

pub append_proper : (xs ys : List Item) → AllProper xs → AllProper ys → AllProper (xs ++ ys)
append_proper [] ys a b = b
append_proper (x ∷ xs) ys a b = (a.0, append_proper xs ys a.1 b)

drop_proper : (n : ℕ) (xs : List Item) → AllProper xs → AllProper (drop n xs)
drop_proper zero xs a = a
drop_proper (suc n) [] a = tt
drop_proper (suc n) (x ∷ xs) a = drop_proper n xs a.1

take_proper : (n : ℕ) (xs : List Item) → AllProper xs → AllProper (take n xs)
take_proper zero xs a = tt
take_proper (suc n) [] a = tt
take_proper (suc n) (x ∷ xs) a = (a.0, take_proper n xs a.1)

diff_item_proper : (d : RowDiff) → IsProper (items_are.Diff d) → AllProper (diff_item d)
diff_item_proper d p = go (is_empty d.joins && is_empty d.leaves)
  where
    go : (b : Bool) → AllProper (cond b [] (items_are.Diff d ∷ []))
    go true = tt
    go false = (p, tt)

shout_proper : (s : Step) (t : List ℕ) → AllProper (shout_item s t)
shout_proper (steps_are.Shout topic payload) t = go (same_text topic t)
  where
    go : (b : Bool) → AllProper (cond b (items_are.Shout payload ∷ []) [])
    go true = (tt, tt)
    go false = tt
shout_proper _ t = tt

made_proper : (h : History) (e : Entry) (o : Option (List ℕ)) → IsLegal (Then h e) → AllProper (made_for h e o)
unfolding items_made
made_proper h e None l = tt
made_proper h e (Some t) l = append_proper (diff_item (diff_of h e t)) (shout_item e.step t) (diff_item_proper (diff_of h e t) (diff_proper h e t l)) (shout_proper e.step t)

-- ---- queues

queued_proper : (q : List Item) → AllProper q → WaitsProper (queued q)
queued_proper q p = go (nat_lt most_waiting (length q))
  where
    go : (b : Bool) → WaitsProper (cond b Behind (Queued q))
    go true = tt
    go false = p

push_proper : (w : Waiting) (new : List Item) → WaitsProper w → AllProper new → WaitsProper (push_items w new)
push_proper Behind new p n = tt
push_proper (Queued q) new p n = queued_proper (q ++ new) (append_proper q new p n)

left_proper : (max : ℕ) (w : Waiting) → WaitsProper w → WaitsProper (left_by max w)
left_proper max Behind p = tt
left_proper max (Queued q) p = drop_proper max q p

either : (P : Waiting → Type 0) (b : Bool) (v w : Waiting) → P v → P w → P (cond b v w)
either P true v w p q = p
either P false v w p q = q

queue_after_proper : (s : Step) (number n : ℕ) (new : List Item) (w : Waiting) → AllProper new → WaitsProper w → WaitsProper (queue_after s number n new w)
queue_after_proper (steps_are.Subscribe t) number n new w a p = either WaitsProper (nat_eq number n) Behind (push_items w new) tt (push_proper w new p a)
queue_after_proper (steps_are.Take m max) number n new w a p = either WaitsProper (nat_eq m n) (left_by max w) (push_items w new) (left_proper max w p) (push_proper w new p a)
queue_after_proper _ number n new w a p = push_proper w new p a

first_proper : (b : Bool) → WaitsProper (first_waiting b)
first_proper true = tt
first_proper false = tt

pub queue_proper : (h : History) (n : ℕ) → IsLegal h → WaitsProper (queue h n)
unfolding queue
queue_proper (Begin s) n l = first_proper (is_current s.current n)
queue_proper (Then h e) n l = queue_after_proper e.step e.number n (made_for h e (topic_of h n)) (queue h n) (made_proper h e (topic_of h n) l) (queue_proper h n l.0)

-- ---- what was taken

rows_for_dots : (h : History) (o : Option (List ℕ)) → IsLegal h → AllDots (listed_for h o)
rows_for_dots h None l = tt
rows_for_dots h (Some t) l = listed_dots h t l

took_proper : (rows : List (Dot × Row)) (max : ℕ) (w : Waiting) (before : List Item) → AllDots rows → WaitsProper w → AllProper before → AllProper (took rows max w before)
took_proper rows max Behind before d w b = (d, tt)
took_proper rows max (Queued q) before d w b = append_proper before (take max q) b (take_proper max q w)

taken_after_proper : (s : Step) (n : ℕ) (rows : List (Dot × Row)) (w : Waiting) (before : List Item) → AllDots rows → WaitsProper w → AllProper before → AllProper (taken_after s n rows w before)
taken_after_proper (steps_are.Take m max) n rows w before d p b = go (nat_eq m n)
  where
    go : (c : Bool) → AllProper (cond c (took rows max w before) before)
    go true = took_proper rows max w before d p b
    go false = b
taken_after_proper _ n rows w before d p b = b

first_taken_proper : (b : Bool) (rows : List (Dot × Row)) → AllDots rows → AllProper (first_taken b rows)
first_taken_proper true rows d = (d, tt)
first_taken_proper false rows d = tt

pub taken_proper : (h : History) (n : ℕ) → IsLegal h → AllProper (taken h n)
unfolding taken
taken_proper (Begin s) n l = first_taken_proper (is_current s.current n) (listed_for (Begin s) (topic_at s.subscribers n)) (rows_for_dots (Begin s) (topic_at s.subscribers n) l)
taken_proper (Then h e) n l = taken_after_proper e.step n (listed_for h (topic_of h n)) (queue h n) (taken h n) (rows_for_dots h (topic_of h n) l.0) (queue_proper h n l.0) (taken_proper h n l.0)

-- ---- a state first

abbrev pub StateFirst : List Item → Type 0
StateFirst [] = ⊥
StateFirst (items_are.State rows ∷ is) = Unit {0}
StateFirst (items_are.Diff d ∷ is) = ⊥
StateFirst (items_are.Shout p ∷ is) = ⊥

-- who isn't behind has taken a state
abbrev HasState : List Item → Waiting → Type 0
HasState before Behind = Unit {0}
HasState before (Queued q) = StateFirst before

pub state_more : (xs ys : List Item) → StateFirst xs → StateFirst (xs ++ ys)
state_more [] ys h = absurd h
state_more (items_are.State rows ∷ xs) ys h = tt
state_more (items_are.Diff d ∷ xs) ys h = absurd h
state_more (items_are.Shout p ∷ xs) ys h = absurd h

state_pushed : (before : List Item) (w : Waiting) (new : List Item) → HasState before w → HasState before (push_items w new)
state_pushed before Behind new h = tt
state_pushed before (Queued q) new h = either (HasState before) (nat_lt most_waiting (length (q ++ new))) Behind (Queued (q ++ new)) tt h

state_took : (rows : List (Dot × Row)) (max : ℕ) (w : Waiting) (before : List Item) → HasState before w → HasState (took rows max w before) (left_by max w)
state_took rows max Behind before h = tt
state_took rows max (Queued q) before h = state_more before (take max q) h

state_after : (s : Step) (number n : ℕ) (new : List Item) (w : Waiting) (rows : List (Dot × Row)) (before : List Item) → HasState before w → HasState (taken_after s n rows w before) (queue_after s number n new w)
state_after (steps_are.Subscribe t) number n new w rows before h = either (HasState before) (nat_eq number n) Behind (push_items w new) tt (state_pushed before w new h)
state_after (steps_are.Take m max) number n new w rows before h = go (nat_eq m n)
  where
    go : (b : Bool) → HasState (cond b (took rows max w before) before) (cond b (left_by max w) (push_items w new))
    go true = state_took rows max w before h
    go false = state_pushed before w new h
state_after _ number n new w rows before h = state_pushed before w new h

first_state : (b : Bool) (rows : List (Dot × Row)) → HasState (first_taken b rows) (first_waiting b)
first_state true rows = tt
first_state false rows = tt

has_state : (h : History) (n : ℕ) → HasState (taken h n) (queue h n)
unfolding taken queue
has_state (Begin s) n = first_state (is_current s.current n) (listed_for (Begin s) (topic_at s.subscribers n))
has_state (Then h e) n = state_after e.step e.number n (made_for h e (topic_of h n)) (queue h n) (listed_for h (topic_of h n)) (taken h n) (has_state h n)

pub state_first : (h : History) (n : ℕ) (q : List Item) → queue h n ≡ Queued q → StateFirst (taken h n)
state_first h n q e = subst (HasState (taken h n)) e (has_state h n)
