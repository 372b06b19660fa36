-- The row that an entry adds is new: no row is there under its dot, and its dot is none of those taken out.
use Rattle.std.proofs.Common.{◌≡◌, ℕ, ◌+◌, ◌≤◌, Bool, true, false, cond, ◌&&◌, ◌||◌, nat_lt, nat_le, ◌∷◌, Option, Some, None, refl, sym, ◌∙◌, ap, subst, arith}
use Rattle.std.specs.List.{AllByRecursion}
use Rattle.std.specs.BTreeMap.{get}
use Rattle.std.proofs.lemmas.Bool.Decides.{nat_tests}
use Rattle.presence_base.specs.declared.dots.Dot.{Dot}
use Rattle.presence_base.specs.declared.row.Row.{Row}
use Rattle.presence_base.specs.Order.{dot_cmp, same_replica, same_dot}
use Rattle.presence_journal.specs.declared.entry.Outcome.TheVariants as outcomes_are
use Rattle.presence_journal.specs.declared.entry.Outcome.{Outcome}
use Rattle.presence_journal.specs.declared.entry.Entry.{Entry}
use Rattle.presence_journal.specs.History.{History, Then, own, count, last_cut, next_dot, has_dot, row_added, shown}
use Rattle.presence_journal.specs.Present.{dots_taken}
use Rattle.presence_journal.specs.Table.{IsLegal}
use Rattle.presence_journal.specs.Walk.{row_at, is_rebirth, is_reborn}
use Rattle.presence_journal.proofs.Same.{same_dot-refl, same_dot-true}
use Rattle.presence_journal.proofs.PresentLemmas.{shown-row}
use Rattle.presence_journal.proofs.HistoryLemmas.{IsOwnShown, Kind, Adds, Replaces, Removes, Quiet, kind_of, legal_knows, one_added, quiet_taken, added_plain}
use Rattle.presence_journal_known.specs.ByDot.{Alike}
use Rattle.presence_journal_cuts.specs.Cuts.{recent}
use Rattle.presence_journal_cuts.proofs.Histories.{quiet_none}
use Rattle.presence_journal_cuts.specs.Changes.{DotRows, IsNew}
use Rattle.presence_journal.proofs.Reborn.{IsAgain, again_of}
use Rattle.presence_journal_known.proofs.OwnLemmas.{plain_step}

above_all : (same low : Bool) (n : ℕ) → (same && (low && nat_le (n + 1) n)) ≡ false
above_all false low n = refl
above_all true false n = refl
above_all true true n = grind (arith, nat_tests)

-- no row is told under the next dot
pub next_none : (h : History) → recent h (next_dot h) ≡ None
unfolding recent
next_none h = ap (λ b. cond b (shown h (next_dot h)) None) (above_all (same_replica (own h) (own h)) (nat_lt (last_cut h) (count h + 1)) (count h))

pub added_next : (h : History) (e : Entry) (d : Dot) (r : Row) → IsLegal (Then h e) → row_added e.step e.outcome d ≡ Some r → d ≡ next_dot h
added_next h e d r l f = (one_added h e d r (kind_of h e.step e.outcome (added_plain e.step e.outcome d r f) l.1) f).0

-- the dot of an own row that is shown was counted
pub counted : (h : History) (d : Dot) → IsLegal h → IsOwnShown h d → d.count ≤ count h
counted h d l w = let knows = legal_knows h l in (knows.of_own d w.own (knows.of_row d w.row (shown-row h d w.row w.shown).0)).1

-- an update's new row has the next count, and its old one was shown
pub replaced_parts : (h : History) (e : Entry) (new old : Dot) → IsLegal (Then h e) → e.outcome ≡ outcomes_are.Replaced new old → (new ≡ next_dot h) × IsOwnShown h old
replaced_parts h e new old l is = go (kind_of h e.step e.outcome (plain_step h e l (ap is_reborn is)) l.1)
  where
    parts : (o : Outcome) → Dot × Dot
    parts (outcomes_are.Replaced x y) = (x, y)
    parts _ = (new, old)

    go : Kind h e.step e.outcome → (new ≡ next_dot h) × IsOwnShown h old
    go (Adds x m o r) = let f : outcomes_are.Replaced new old ≡ outcomes_are.Added (next_dot h) = sym is ∙ o in absurd (cc)
    go (Replaces x was m o r w) =
        let same : (new, old) ≡ (next_dot h, was) = ap parts (sym is ∙ o) in
        (ap (λ (p : Dot × Dot). p.0) same, subst (IsOwnShown h) (ap (λ (p : Dot × Dot). p.1) (sym same)) w)
    go (Removes x xs o r a q) = let f : outcomes_are.Replaced new old ≡ outcomes_are.Removed (x ∷ xs) = sym is ∙ o in absurd (cc)
    go (Quiet q) = absurd (cc)

-- the rows that an entry takes out were shown
pub taken_shown : (h : History) (e : Entry) → IsLegal (Then h e) → AllByRecursion (IsOwnShown h) (dots_taken e.outcome)
taken_shown h e l = by (is_rebirth e.step) refl
  where
    none : IsAgain h e.step e.outcome → AllByRecursion (IsOwnShown h) (dots_taken e.outcome)
    none w = subst (λ y. AllByRecursion (IsOwnShown h) (dots_taken y)) (sym w.outcome) tt

    go : Kind h e.step e.outcome → AllByRecursion (IsOwnShown h) (dots_taken e.outcome)
    go (Adds x m o r) = subst (λ y. AllByRecursion (IsOwnShown h) (dots_taken y)) (sym o) tt
    go (Replaces x was m o r w) = subst (λ y. AllByRecursion (IsOwnShown h) (dots_taken y)) (sym o) (w, tt)
    go (Removes x xs o r a q) = subst (λ y. AllByRecursion (IsOwnShown h) (dots_taken y)) (sym o) a
    go (Quiet q) = subst (AllByRecursion (IsOwnShown h)) (sym (quiet_taken e.outcome q)) tt

    by : (b : Bool) → is_rebirth e.step ≡ b → AllByRecursion (IsOwnShown h) (dots_taken e.outcome)
    by true f = none (again_of h e.step e.outcome f l.1)
    by false f = go (kind_of h e.step e.outcome f l.1)

-- the dot of the row that an entry adds is none of those that it takes out
pub added_stays : (h : History) (e : Entry) (d : Dot) (r : Row) → IsLegal (Then h e) → row_added e.step e.outcome d ≡ Some r → has_dot (dots_taken e.outcome) d ≡ false
added_stays h e d r l f = go (kind_of h e.step e.outcome (added_plain e.step e.outcome d r f) l.1)
  where
    at_old : (was : Dot) → IsOwnShown h was → (b : Bool) → same_dot d was ≡ b → (b || false) ≡ false
    at_old was w false p = refl
    at_old was w true p =
        let same : next_dot h ≡ was = sym (added_next h e d r l f) ∙ same_dot-true d was p in
        let low : was.count ≤ count h = counted h was l.0 w in
        let is : count h + 1 ≡ was.count = ap (λ (x : Dot). x.count) same in
        absurd (omega (arith, low, is))

    go : Kind h e.step e.outcome → has_dot (dots_taken e.outcome) d ≡ false
    go (Adds x m o c) = ap (λ y. has_dot (dots_taken y) d) o
    go (Replaces x was m o c w) = ap (λ y. has_dot (dots_taken y) d) o ∙ at_old was w (same_dot d was) refl
    go (Removes x xs o c a q) = let g : None ≡ Some r = sym (ap (λ y. row_added e.step y d) o) ∙ f in absurd (cc)
    go (Quiet q) = let g : None ≡ Some r = sym (quiet_none e.step e.outcome d q) ∙ f in absurd (cc)

-- so no row is kept under it
pub is_new : (h : History) (e : Entry) (o : Option (Dot × Row)) (m : DotRows) → IsLegal (Then h e) → Alike (get dot_cmp m) (recent h) → ((d : Dot) → row_at o d ≡ row_added e.step e.outcome d) → IsNew o m
is_new h e None m l rows is = tt
is_new h e (Some x) m l rows is =
    let there : row_added e.step e.outcome x.0 ≡ Some x.1 = sym (is x.0) ∙ ap (λ b. cond b (Some x.1) None) (same_dot-refl x.0) in
    rows x.0 ∙ (ap (recent h) (added_next h e x.0 x.1 l there) ∙ next_none h)
