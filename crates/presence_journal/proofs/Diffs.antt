-- How an entry changes the present rows of a topic.
use Rattle.std.proofs.Common.{◌≡◌, ℕ, zero, suc, ◌+◌, ◌<◌, Bool, true, false, cond, List, [], ◌∷◌, Option, Some, None, is_some, length, take, drop, take-append-drop, get_or, refl, sym, ◌∙◌, ap, subst, arith}
use Rattle.std.proofs.lemmas.Bool.{eq-eqb, ne_eqb}
use Rattle.std.proofs.lemmas.Option.{same_Some}
use Rattle.presence_base.specs.declared.dots.Dot.{Dot}
use Rattle.presence_base.specs.declared.row.Row.{Row}
use Rattle.presence_base.specs.Order.{same_text}
use Rattle.presence_journal.specs.declared.rows.RowDiff.{RowDiff}
use Rattle.presence_journal.specs.Steps.{Entry, Start}
use Rattle.presence_journal.specs.History.{History, Begin, Then, onto, entry_count, first_some, has_dot, row_added, shown}
use Rattle.presence_journal.specs.Present.{RowMap, of_topic, present, missing_in, in_order, changes, dots_taken}
use Rattle.presence_journal.specs.Queue.{diff_of, diff_at}
use Rattle.presence_journal.specs.Table.{IsLegal}
use Rattle.presence_journal.specs.Walk.{joined, without_dots, among, rows_after, shown_of, keyed, IsTableOf}
use Rattle.presence_journal.specs.Laws.{is_callers}
use Rattle.presence_journal.proofs.Lookups.{get-missing_in}
use Rattle.presence_journal.proofs.PresentLemmas.{get-present, of_topic-some, shown-row, row-stays}
use Rattle.presence_journal.proofs.HistoryLemmas.{kind_of, added_plain, legal_knows, added_fresh, legal_before, onto-append}
use Rattle.presence_journal.proofs.Walking.{shows_more}

-- a row that joins was not shown before
pub joined_fresh : (h : History) (e : Entry) (t : List ℕ) (d : Dot) (r : Row) → IsLegal (Then h e) → joined e t d ≡ Some r → shown_of h t d ≡ None
joined_fresh h e t d r l f = ap (of_topic t) (added_fresh h e d r (legal_knows h l.0) (kind_of h e.step e.outcome (added_plain e.step e.outcome d r (of_topic-some t (row_added e.step e.outcome d) r f).0) l.1) (of_topic-some t (row_added e.step e.outcome d) r f).0)

-- the rows shown after an entry that changes no status, by those before it
pub shown_of-then : (h : History) (e : Entry) (t : List ℕ) (d : Dot) → IsLegal (Then h e) → is_callers e.step ≡ true → shown_of (Then h e) t d ≡ rows_after e t (shown_of h t) d
shown_of-then h e t d l f = sym (shows_more (shown_of h t) (rows_after e t (shown_of h t)) t h e l f (λ c. refl) (λ c. refl) d)

-- what f gives and g does not
abbrev pub apart : (Dot → Option Row) → (Dot → Option Row) → Dot → Option Row
apart f g d = cond (is_some (g d)) None (f d)

keyed_apart : (k : List ℕ) (a b : Option Row) → ((r s : Row) → a ≡ Some r → b ≡ Some s → r ≡ s) → cond (is_some (keyed k b)) None (keyed k a) ≡ keyed k (cond (is_some b) None a)
keyed_apart k a None f = refl
keyed_apart k None (Some s) f = go (same_text k s.key)
  where
    go : (b : Bool) → cond {A = Option Row} (is_some (cond b (Some s) None)) None None ≡ None
    go true = refl
    go false = refl
keyed_apart k (Some r) (Some s) f = ap (λ (x : Row). cond (is_some (keyed k (Some s))) None (keyed k (Some x))) (f r s refl refl) ∙ go (same_text k s.key)
  where
    go : (b : Bool) → cond (is_some (cond b (Some s) None)) None (cond b (Some s) None) ≡ None
    go true = refl
    go false = refl

-- a dot has one row, whenever it is shown
pub shown_agrees : (h : History) (e : Entry) (t : List ℕ) (d : Dot) (r s : Row) → shown_of h t d ≡ Some r → shown_of (Then h e) t d ≡ Some s → r ≡ s
shown_agrees h e t d r s f g =
    let before = (shown-row h d r (of_topic-some t (shown h d) r f).0).0 in
    let later = (shown-row (Then h e) d s (of_topic-some t (shown (Then h e) d) s g).0).0 in
    same_Some r s (sym (row-stays h e d r before) ∙ later)

-- the rows that join, as a table
pub joins_table : (h : History) (e : Entry) (t : List ℕ) → IsTableOf (apart (shown_of (Then h e) t) (shown_of h t)) (missing_in (present h t) (present (Then h e) t))
joins_table h e t p =
    get-missing_in (present h t) (present (Then h e) t) p
    ∙ ((λ i. cond (is_some (get-present h t p i)) None (get-present (Then h e) t p i))
    ∙ keyed_apart p.key (shown_of (Then h e) t p.dot) (shown_of h t p.dot) (λ r s f g. sym (shown_agrees h e t p.dot s r g f)))

-- the rows that leave, as a table
pub leaves_table : (h : History) (e : Entry) (t : List ℕ) → IsTableOf (apart (shown_of h t) (shown_of (Then h e) t)) (missing_in (present (Then h e) t) (present h t))
leaves_table h e t p =
    get-missing_in (present (Then h e) t) (present h t) p
    ∙ ((λ i. cond (is_some (get-present (Then h e) t p i)) None (get-present h t p i))
    ∙ keyed_apart p.key (shown_of h t p.dot) (shown_of (Then h e) t p.dot) (λ r s f g. shown_agrees h e t p.dot r s f g))

-- the difference that an entry makes, by its two tables
pub diff_is : (h : History) (e : Entry) (t : List ℕ) (js ls : List (Dot × Row)) (j g : Dot → Option Row) → ((d : Dot) → j d ≡ apart (shown_of (Then h e) t) (shown_of h t) d) → ((d : Dot) → g d ≡ apart (shown_of h t) (shown_of (Then h e) t) d) → ((m : RowMap) → IsTableOf j m → js ≡ in_order m) → ((m : RowMap) → IsTableOf g m → ls ≡ in_order m) → ◌≡◌ {A = RowDiff} (record { joins = js; leaves = ls }) (diff_of h e t)
unfolding changes
diff_is h e t js ls j g joins left js_is ls_is =
    let a = js_is (missing_in (present h t) (present (Then h e) t)) (λ p. joins_table h e t p ∙ ap (keyed p.key) (sym (joins p.dot))) in
    let b = ls_is (missing_in (present (Then h e) t) (present h t)) (λ p. leaves_table h e t p ∙ ap (keyed p.key) (sym (left p.dot))) in
    λ i. record { joins = a i; leaves = b i }

none_left : (c : Bool) → cond {A = Option Row} c None None ≡ None
none_left true = refl
none_left false = refl

-- of a step that changes no status: those that it adds join, and those that it takes leave

pub joins_are : (h : History) (e : Entry) (t : List ℕ) (d : Dot) → IsLegal (Then h e) → is_callers e.step ≡ true → joined e t d ≡ apart (shown_of (Then h e) t) (shown_of h t) d
joins_are h e t d l c = go (joined e t d) refl ∙ ap (λ o. cond (is_some (shown_of h t d)) None o) (sym (shown_of-then h e t d l c))
  where
    kept : (b : Bool) (o : Option Row) → None ≡ cond (is_some o) None (cond b None o)
    kept b None = sym (none_left b)
    kept b (Some r) = refl

    go : (o : Option Row) → joined e t d ≡ o → o ≡ cond (is_some (shown_of h t d)) None (first_some o (without_dots (dots_taken e.outcome) (shown_of h t) d))
    go None f = kept (has_dot (dots_taken e.outcome) d) (shown_of h t d)
    go (Some r) f = ap (λ o. cond (is_some o) None (Some r)) (sym (joined_fresh h e t d r l f))

pub leaves_are : (h : History) (e : Entry) (t : List ℕ) (d : Dot) → IsLegal (Then h e) → is_callers e.step ≡ true → among (dots_taken e.outcome) (shown_of h t) d ≡ apart (shown_of h t) (shown_of (Then h e) t) d
leaves_are h e t d l c = go (joined e t d) refl ∙ ap (λ o. cond (is_some o) None (shown_of h t d)) (sym (shown_of-then h e t d l c))
  where
    kept : (b : Bool) (o : Option Row) → cond b o None ≡ cond (is_some (cond b None o)) None o
    kept true o = refl
    kept false None = refl
    kept false (Some r) = refl

    go : (o : Option Row) → joined e t d ≡ o → among (dots_taken e.outcome) (shown_of h t) d ≡ cond (is_some (first_some o (without_dots (dots_taken e.outcome) (shown_of h t) d))) None (shown_of h t d)
    go None f = kept (has_dot (dots_taken e.outcome) d) (shown_of h t d)
    go (Some r) f = ap (λ o. cond (has_dot (dots_taken e.outcome) d) o None) (joined_fresh h e t d r l f) ∙ none_left (has_dot (dots_taken e.outcome) d)

-- the entry at a place

diff_late : (h : History) (es : List Entry) (i : ℕ) (t : List ℕ) → i + 1 < entry_count h → diff_at (onto h es) i t ≡ diff_at h i t
unfolding diff_at entry_count
diff_late h [] i t l = refl
diff_late h (e ∷ es) i t l =
    diff_late (Then h e) es i t (omega arith)
    ∙ ap (λ b. cond b (diff_of h e t) (diff_at h i t)) (ne_eqb (i + 1) (entry_count h) (λ q. omega (arith, q)))

pub diff_from : (h : History) (es : List Entry) (n i : ℕ) (e : Entry) (t : List ℕ) → n < length es → e ≡ get_or es n e → i + 1 ≡ entry_count h + n → diff_at (onto h es) i t ≡ diff_of (onto h (take n es)) e t
unfolding diff_at entry_count
diff_from h [] n i e t l is p = absurd (omega arith)
diff_from h (x ∷ es) zero i e t l is p =
    diff_late (Then h x) es i t (omega arith)
    ∙ (ap (λ b. cond b (diff_of h x t) (diff_at h i t)) (eq-eqb (i + 1) (entry_count h) (omega arith)) ∙ ap (λ y. diff_of h y t) (sym is))
diff_from h (x ∷ es) (suc n) i e t l is p = diff_from (Then h x) es n i e t (omega arith) is (omega arith)

pub diff_at_place : (s : Start) (es : List Entry) (i : ℕ) (e : Entry) (t : List ℕ) → i < length es → e ≡ get_or es i e → diff_at (onto (Begin s) es) i t ≡ diff_of (onto (Begin s) (take i es)) e t
unfolding entry_count
diff_at_place s es i e t l is = diff_from (Begin s) es i i e t l is (omega arith)

pub legal_at : (h : History) (es : List Entry) (i : ℕ) (e : Entry) → i < length es → e ≡ get_or es i e → IsLegal (onto h es) → IsLegal (Then (onto h (take i es)) e)
legal_at h [] i e l is k = absurd (omega arith)
legal_at h (x ∷ es) zero e l is k = subst (λ y. IsLegal (Then h y)) (sym is) (legal_before (Then h x) es k)
legal_at h (x ∷ es) (suc n) e l is k = legal_at (Then h x) es n e (omega arith) is k

pub legal_front : (h : History) (es : List Entry) (n : ℕ) → IsLegal (onto h es) → IsLegal (onto h (take n es))
legal_front h es n l = legal_before (onto h (take n es)) (drop n es) (subst IsLegal (ap (onto h) (sym (take-append-drop n es)) ∙ onto-append h (take n es) (drop n es)) l)
