-- How what is kept follows the rows that join and leave with an entry.
use Rattle.std.specs.Prelude.{◌≡◌, ℕ, cond, List, [], ◌∷◌, Option, Some, None}
use Rattle.std.specs.List.{AllByRecursion}
use Rattle.presence_base.specs.declared.dots.Replica.{Replica}
use Rattle.presence_base.specs.declared.dots.Dot.{Dot}
use Rattle.presence_base.specs.declared.row.Row.{Row}
use Rattle.presence_journal.specs.declared.rows.Place.{Place}
use Rattle.presence_journal.specs.declared.entry.Entry.{Entry}
use Rattle.presence_journal.specs.History.{History, Then, own, shown}
use Rattle.tracker_shown.specs.declared.stand.Holder.{Holder}
use Rattle.tracker_shown.specs.declared.shown.Shown.{Shown}
use Rattle.presence_journal.specs.Table.{IsLegal}
use Rattle.tracker_shown.specs.declared.turn.Turn.{Turn}
use Rattle.tracker_shown.specs.Turns.{IsListOf, IsTurn}
use Rattle.tracker_shown.specs.Kept.{Kept, kept_at, belongs, AreBetween, IsBetween, IsShownOf, IsBrought}

-- what is kept of the rows that a history shows
abbrev pub IsOpenedWith : Replica → List (Dot × Row) → Shown → Type 0
IsOpenedWith o xs x = (g : History) → o ≡ own g → IsListOf (shown g) xs → IsShownOf g x

-- one of the rows that join, under the own replica after the entry, and one of those that leave
abbrev pub Joins : Replica → History → Entry → Dot × Row → Type 0
Joins o g e x = (o ≡ own (Then g e)) × (shown (Then g e) x.0 ≡ Some x.1)

abbrev pub Leaves : History → Entry → Dot × Row → Type 0
Leaves g e x = shown (Then g e) x.0 ≡ None

-- what is kept at a place once v of each row is set wherever the row belongs, one after another
abbrev pub set_all : (Row → Option Row) → Replica → List (Dot × Row) → Holder → List ℕ → Place → Option Row → Option Row
set_all v o [] w t p now = now
set_all v o (x ∷ xs) w t p now = set_all v o xs w t p (cond (belongs o x.0 x.1 w t p) (v x.1) now)

abbrev pub SetsAll : (Row → Option Row) → Replica → List (Dot × Row) → Kept → Kept → Type 0
SetsAll v o xs m n =
    (w : Holder) (t : List ℕ) (p : Place) → kept_at n w t p ≡ set_all v o xs w t p (kept_at m w t p)

-- n has the rows too
abbrev pub PutsAll : Replica → List (Dot × Row) → Kept → Kept → Type 0
PutsAll = SetsAll (λ r. Some r)

-- n has them no longer
abbrev pub TakesAll : Replica → List (Dot × Row) → Kept → Kept → Type 0
TakesAll = SetsAll (λ r. None)

-- what lay between a history and the next one still does, where these rows are of the entry
abbrev pub KeepsBetween : (History → Entry → Dot × Row → Type 0) → List (Dot × Row) → Kept → Kept → Type 0
KeepsBetween P xs m n = (g : History) (e : Entry) → AllByRecursion (P g e) xs → AreBetween g e m → AreBetween g e n

-- from anywhere between a history and the next one, whose own replica this is, to the rows of the next one
abbrev pub BringsUp : Replica → Turn → Shown → Shown → Type 0
BringsUp o turn x y = (g : History) (e : Entry) → IsLegal (Then g e) → o ≡ own (Then g e) → IsTurn g e turn
    → IsBetween g e x → IsBrought g e y

-- and to somewhere between them
abbrev pub StaysBetween : Replica → Turn → Shown → Shown → Type 0
StaysBetween o turn x y = (g : History) (e : Entry) → o ≡ own (Then g e) → IsTurn g e turn → IsBetween g e x
    → IsBetween g e y
