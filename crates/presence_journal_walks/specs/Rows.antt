-- Rows by dot: what one entry does to them, and how they become a table by place.
use Rattle.std.specs.Prelude.{◌≡◌, ℕ, true, cond, List, [], ◌∷◌, Option, None, is_some}
use Rattle.presence_base.specs.declared.dots.Dot.{Dot}
use Rattle.presence_base.specs.declared.row.Row.{Row}
use Rattle.presence_journal.specs.declared.rows.Item.{Item}
use Rattle.presence_journal.specs.declared.rows.RowDiff.{RowDiff}
use Rattle.presence_journal.specs.History.{History, Then}
use Rattle.presence_journal_known.specs.ByDot.{over, Alike}
use Rattle.presence_journal.specs.Queue.{diff_of, items_made}
use Rattle.presence_journal.specs.declared.entry.Entry.{Entry}
use Rattle.presence_journal.specs.Laws.{is_callers}
use Rattle.presence_journal.specs.Table.{IsLegal}
use Rattle.presence_journal.specs.Walk.{among, shown_of}

-- the row of this dot was put to those that were taken out before
abbrev pub Moved : Dot → (Dot → Option Row) → (Dot → Option Row) → (Dot → Option Row) → Type 0
Moved d rows taken new = Alike new (over (among (d ∷ []) rows) taken)

-- what f gives and g does not
abbrev pub apart : (Dot → Option Row) → (Dot → Option Row) → Dot → Option Row
apart f g d = cond (is_some (g d)) None (f d)

-- the difference that any entry makes on any topic, where f gives the rows before it and g those after it
abbrev pub IsDiffBetween : (Dot → Option Row) → (Dot → Option Row) → RowDiff → Type 0
IsDiffBetween f g x = (h : History) (e : Entry) (t : List ℕ) → Alike f (shown_of h t) → Alike g (shown_of (Then h e) t)
    → x ≡ diff_of h e t

-- the difference that an entry of the own replica alone makes, where f gives the rows of the topic before it
abbrev pub IsDiffOf : Entry → List ℕ → (Dot → Option Row) → RowDiff → Type 0
IsDiffOf e t f x = (h : History) → IsLegal (Then h e) → is_callers e.step ≡ true → Alike f (shown_of h t)
    → x ≡ diff_of h e t

-- An entry is the last one of a history, and f gives the rows of the topic before it: g gives those after it, x is how they
-- differ, and these items are made for the topic.

abbrev pub AreNext : Entry → List ℕ → History → (Dot → Option Row) → (Dot → Option Row) → Type 0
AreNext e t whole f g = (h : History) → IsLegal (Then h e) → Then h e ≡ whole → Alike f (shown_of h t)
    → Alike g (shown_of (Then h e) t)

abbrev pub IsDiffAt : Entry → List ℕ → History → (Dot → Option Row) → RowDiff → Type 0
IsDiffAt e t whole f x = (h : History) → IsLegal (Then h e) → Then h e ≡ whole → Alike f (shown_of h t)
    → x ≡ diff_of h e t

abbrev pub AreMadeAt : Entry → List ℕ → History → (Dot → Option Row) → List Item → Type 0
AreMadeAt e t whole f is = (h : History) → IsLegal (Then h e) → Then h e ≡ whole → Alike f (shown_of h t)
    → is ≡ items_made h e t
