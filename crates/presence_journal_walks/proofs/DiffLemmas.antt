-- The difference that an entry makes, by the rows before and after it.
use Rattle.std.proofs.Common.{◌≡◌, ℕ, List, Option, is_some, cond, None, ◌∙◌, ap}
use Rattle.presence_base.specs.declared.dots.Dot.{Dot}
use Rattle.presence_base.specs.declared.row.Row.{Row}
use Rattle.presence_journal.specs.declared.rows.RowDiff.{RowDiff}
use Rattle.presence_journal.specs.declared.entry.Entry.{Entry}
use Rattle.presence_journal.specs.History.{has_dot}
use Rattle.presence_journal.specs.Present.{RowMap, dots_taken, in_order}
use Rattle.presence_journal.specs.Walk.{IsTableOf, joined, leaving}
use Rattle.presence_journal.proofs.Diffs.{diff_is, joins_are, leaves_are}
use Rattle.presence_journal_walks.specs.Rows.{apart, IsDiffBetween, IsDiffOf}
use Rattle.presence_journal_known.specs.ByDot.{Alike}

apart_alike : (f f' g g' : Dot → Option Row) → Alike f f' → Alike g g' → Alike (apart f g) (apart f' g')
apart_alike f f' g g' p q d = λ i. cond (is_some (q d i)) None (p d i)

pub diff_between : (f g j l : Dot → Option Row) (js ls : List (Dot × Row)) (x : RowDiff) → x ≡ record { joins = js; leaves = ls } → Alike j (apart g f) → Alike l (apart f g) → ((m : RowMap) → IsTableOf j m → js ≡ in_order m) → ((m : RowMap) → IsTableOf l m → ls ≡ in_order m) → IsDiffBetween f g x
diff_between f g j l js ls x is joins left js_is ls_is h e t before after =
    is ∙ diff_is h e t js ls j l (λ d. joins d ∙ apart_alike g _ f _ after before d) (λ d. left d ∙ apart_alike f _ g _ before after d) js_is ls_is

-- of an entry of the own replica alone: those that it adds join, and those that it takes leave
pub diff_own : (e : Entry) (t : List ℕ) (f j l : Dot → Option Row) (js ls : List (Dot × Row)) (x : RowDiff) → x ≡ record { joins = js; leaves = ls } → ((d : Dot) → j d ≡ joined e t d) → ((d : Dot) → l d ≡ leaving e f d) → ((m : RowMap) → IsTableOf j m → js ≡ in_order m) → ((m : RowMap) → IsTableOf l m → ls ≡ in_order m) → IsDiffOf e t f x
diff_own e t f j l js ls x is joins left js_is ls_is h legal callers before =
    is ∙ diff_is h e t js ls j l (λ d. joins d ∙ joins_are h e t d legal callers)
    (λ d. left d ∙ (ap (λ o. cond (has_dot (dots_taken e.outcome) d) o None) (before d) ∙ leaves_are h e t d legal callers)) js_is ls_is
