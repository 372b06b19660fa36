-- What is present: by look-ups, and row by row.
use Rattle.std.proofs.Common.{◌≡◌, ℕ, Bool, true, false, cond, ◌||◌, List, [], ◌∷◌, ◌++◌, Option, Some, None, refl, sym, ◌∙◌, ap, map as each, filter}
use Rattle.std.specs.List.{AllByRecursion}
use Rattle.std.specs.FinMap as map
use Rattle.std.specs.Map.{lookup}
use Rattle.std.proofs.lemmas.Bool.{or_left, or_right, and_parts}
use Rattle.std.proofs.lemmas.Option.{same_Some}
use Rattle.presence_base.specs.declared.dots.Dot.{Dot}
use Rattle.presence_base.specs.declared.row.Row.{Row}
use Rattle.presence_base.specs.Order.{same_text, same_dot, same_replica}
use Rattle.orswot_core.specs.Telling.{live_row}
use Rattle.presence_journal.specs.declared.step.Step.TheVariants as steps_are
use Rattle.presence_journal.specs.declared.entry.Outcome.TheVariants as outcomes_are
use Rattle.presence_journal.specs.declared.rows.Place.{Place}
use Rattle.presence_journal.specs.Steps.{Step, Outcome, Entry}
use Rattle.presence_journal.specs.History.{History, Begin, Then, own, is_up, status, first_some, has_dot, row_added, row_made, row_again, row_brought, hears, told_row, removed, row, live, shown}
use Rattle.presence_journal.specs.Present.{of_topic, dots_added, dots_told, dots, present, in_order, listed}
use Rattle.presence_journal.specs.Table.{is_mine, has_key, rows_of_pid, rows_of_key}
use Rattle.presence_journal.specs.Walk.{keyed, shown_of, IsTableOf}
use Rattle.presence_journal.proofs.Same.{same_text-true, same_replica-true}
use Rattle.presence_journal.proofs.Lookups.{cond_none, get-put_all, all_put_all}

-- a row that is shown was added, and not removed
pub shown-row : (h : History) (d : Dot) (r : Row) → shown h d ≡ Some r → (row h d ≡ Some r) × (removed h d ≡ false)
unfolding shown live
shown-row h d r e = go (is_up (status h d.replica)) (removed h d) e
  where
    go : (u b : Bool) → cond u (cond b None (row h d)) None ≡ Some r → (row h d ≡ Some r) × (b ≡ false)
    go true true f = cc
    go true false f = (f, refl)
    go false b f = cc

-- the first row of a dot stays
pub row-stays : (h : History) (e : Entry) (d : Dot) (r : Row) → row h d ≡ Some r → row (Then h e) d ≡ Some r
unfolding row
row-stays h e d r f = ap (λ o. first_some o (first_some (row_added e.step e.outcome d) (row_brought e.outcome (row h) (told_row h e.step d) d))) f

has_dot-append : (xs ys : List Dot) (d : Dot) → has_dot (xs ++ ys) d ≡ (has_dot xs d || has_dot ys d)
has_dot-append [] ys d = refl
has_dot-append (x ∷ xs) ys d = ap (λ b. same_dot d x || b) (has_dot-append xs ys d) ∙ grouped (same_dot d x) (has_dot xs d) (has_dot ys d)
  where
    grouped : (a b c : Bool) → (a || (b || c)) ≡ ((a || b) || c)
    grouped true b c = refl
    grouped false b c = refl

when_here : (b : Bool) (o : Option Row) (r : Row) → cond b o None ≡ Some r → (b || false) ≡ true
when_here true o r e = refl
when_here false o r e = cc

added_here : (s : Step) (o : Outcome) (d : Dot) (r : Row) → row_added s o d ≡ Some r → has_dot (dots_added o) d ≡ true
added_here s (outcomes_are.Added new) d r e = when_here (same_dot d new) (row_made s None) r e
added_here s (outcomes_are.Replaced new old) d r e = when_here (same_dot d new) (row_made s (Some old)) r e
added_here s _ d r e = cc

told_here : {A : Type 0} (xs : List (Dot × A)) (d : Dot) (r : A) → lookup (same_dot d) xs ≡ Some r → has_dot (each (λ x. x.0) xs) d ≡ true
told_here [] d r e = absurd (cc)
told_here (x ∷ xs) d r e = go (same_dot d x.0) e (told_here xs d r)
  where
    go : (b : Bool) → cond b (Some x.1) (lookup (same_dot d) xs) ≡ Some r → (lookup (same_dot d) xs ≡ Some r → has_dot (each (λ x. x.0) xs) d ≡ true) → (b || has_dot (each (λ x. x.0) xs) d) ≡ true
    go true f ih = refl
    go false f ih = ih f

pub told_in_dots : (h : History) (s : Step) (d : Dot) (r : Row) → told_row h s d ≡ Some r → has_dot (dots_told s) d ≡ true
told_in_dots h (steps_are.Merge t) d r e = go (hears h d.replica) e
  where
    go : (b : Bool) → cond b (live_row t d) None ≡ Some r → has_dot (dots_told (steps_are.Merge t)) d ≡ true
    go true f = told_here t.live d r f
    go false f = absurd (cc)
told_in_dots h _ d r e = absurd (cc)

-- and so is the dot that a row is brought under, among those that are added or told
brought_here : (h : History) (s : Step) (o : Outcome) (d : Dot) (r : Row) → row_brought o (row h) (told_row h s d) d ≡ Some r → (has_dot (dots_added o) d || has_dot (dots_told s) d) ≡ true
brought_here h s (outcomes_are.Reborn ps) d r e = or_left (has_dot (dots_added (outcomes_are.Reborn ps)) d) (has_dot (dots_told s) d) (go (lookup (same_dot d) ps) refl e)
  where
    go : (o : Option Dot) → lookup (same_dot d) ps ≡ o → row_again (row h) o ≡ Some r → has_dot (each (λ x. x.0) ps) d ≡ true
    go None p f = absurd (cc)
    go (Some old) p f = told_here ps d old p
brought_here h s o d r e = or_right (has_dot (dots_added o) d) (has_dot (dots_told s) d) (told_in_dots h s d r e)

either_here : (a b c : Bool) → (a || b) ≡ true → (a || (b || c)) ≡ true
either_here true b c e = refl
either_here false b c e = or_left b c e

-- every dot with a row is among the dots that were added or told
pub row_in_dots : (h : History) (d : Dot) (r : Row) → row h d ≡ Some r → has_dot (dots h) d ≡ true
unfolding row dots
row_in_dots (Begin s) d r e = told_here s.content.live d r e
row_in_dots (Then h e) d r f =
    has_dot-append (dots_added e.outcome) (dots_told e.step ++ dots h) d
    ∙ (ap (λ b. has_dot (dots_added e.outcome) d || b) (has_dot-append (dots_told e.step) (dots h) d)
    ∙ go (row h d) (row_added e.step e.outcome d) refl refl f (row_in_dots h d))
  where
    go : (o p : Option Row) → row h d ≡ o → row_added e.step e.outcome d ≡ p → first_some o (first_some p (row_brought e.outcome (row h) (told_row h e.step d) d)) ≡ Some r → ((q : Row) → row h d ≡ Some q → has_dot (dots h) d ≡ true) → (has_dot (dots_added e.outcome) d || (has_dot (dots_told e.step) d || has_dot (dots h) d)) ≡ true
    go (Some q) p is added g ih = or_right (has_dot (dots_added e.outcome) d) _ (or_right (has_dot (dots_told e.step) d) (has_dot (dots h) d) (ih q is))
    go None (Some q) is added g ih = or_left (has_dot (dots_added e.outcome) d) _ (added_here e.step e.outcome d q added)
    go None None is added g ih = either_here (has_dot (dots_added e.outcome) d) (has_dot (dots_told e.step) d) (has_dot (dots h) d) (brought_here h e.step e.outcome d r g)

-- what is present at a place: the shown row of its dot, where it is of the topic and the key
pub get-present : (h : History) (t : List ℕ) → IsTableOf (shown_of h t) (present h t)
unfolding present
get-present h t p = get-put_all (λ d. of_topic t (shown h d)) (dots h) p ∙ go (shown h p.dot) refl
  where
    go : (o : Option Row) → shown h p.dot ≡ o → cond (has_dot (dots h) p.dot) (keyed p.key (of_topic t o)) None ≡ keyed p.key (of_topic t o)
    go None e = cond_none (has_dot (dots h) p.dot)
    go (Some r) e = ap (λ b. cond b (keyed p.key (of_topic t (Some r))) None) (row_in_dots h p.dot r (shown-row h p.dot r e).0)

pub of_topic-some : (t : List ℕ) (o : Option Row) (r : Row) → of_topic t o ≡ Some r → (o ≡ Some r) × (r.topic ≡ t)
of_topic-some t None r e = cc
of_topic-some t (Some q) r e = go (same_text q.topic t) refl e
  where
    go : (b : Bool) → same_text q.topic t ≡ b → cond b (Some q) None ≡ Some r → (Some q ≡ Some r) × (r.topic ≡ t)
    go true p f = (f, let w : q ≡ r = same_Some q r f in ap (λ (z : Row). z.topic) (sym w) ∙ same_text-true q.topic t p)
    go false p f = cc

-- a row of a list of a topic is shown, and of that topic
pub record IsListed (h : History) (t : List ℕ) (x : Dot × Row) : Type 0 where
  pub shown : shown h x.0 ≡ Some x.1
  pub topic : x.1.topic ≡ t

all_each : (P : Dot × Row → Type 0) (es : List (Place × Row)) → AllByRecursion (λ e. P (e.0.dot, e.1)) es → AllByRecursion P (each (λ e. (e.0.dot, e.1)) es)
all_each P [] a = tt
all_each P (e ∷ es) a = (a.0, all_each P es a.1)

pub listed_rows : (h : History) (t : List ℕ) → AllByRecursion (IsListed h t) (listed h t)
unfolding in_order present
listed_rows h t =
    all_each (IsListed h t) (map.entries (present h t))
    (all_put_all (λ e. IsListed h t (e.0.dot, e.1)) (λ d. of_topic t (shown h d)) (λ d r e. let p = of_topic-some t (shown h d) r e in record { shown = p.0; topic = p.1 }) (dots h))

-- what holds of all holds of those that pass a test, and they pass it
pub all_filter : {A : Type 0} (P : A → Type 0) (test : A → Bool) (xs : List A) → AllByRecursion P xs → AllByRecursion (λ x. P x × (test x ≡ true)) (filter test xs)
all_filter P test [] a = tt
all_filter P test (x ∷ xs) a = go (all_filter P test xs a.1) (test x) refl
  where
    go : AllByRecursion (λ y. P y × (test y ≡ true)) (filter test xs) → (b : Bool) → test x ≡ b → AllByRecursion (λ y. P y × (test y ≡ true)) (cond b (x ∷ filter test xs) (filter test xs))
    go ih true e = ((a.0, e), ih)
    go ih false e = ih

pub all_weaker : {A : Type 0} (P Q : A → Type 0) → ((x : A) → P x → Q x) → (xs : List A) → AllByRecursion P xs → AllByRecursion Q xs
all_weaker P Q f [] a = tt
all_weaker P Q f (x ∷ xs) a = (f x a.0, all_weaker P Q f xs a.1)

-- a row of a pid's list is shown, and own
pub record IsOwnListed (h : History) (t : List ℕ) (x : Dot × Row) : Type 0 where
  pub listed : IsListed h t x
  pub own : x.0.replica ≡ own h

pub own_rows : (h : History) (pid : ℕ) (t : List ℕ) → AllByRecursion (IsOwnListed h t) (rows_of_pid h pid t)
unfolding rows_of_pid
own_rows h pid t =
    all_weaker (λ x. IsListed h t x × (is_mine h pid x ≡ true)) (IsOwnListed h t) (λ x p. record { listed = p.0; own = same_replica-true x.0.replica (own h) (and_parts (same_replica x.0.replica (own h)) _ p.1).0 })
    (filter (is_mine h pid) (listed h t)) (all_filter (IsListed h t) (is_mine h pid) (listed h t) (listed_rows h t))

pub own_rows_of_key : (h : History) (pid : ℕ) (t key : List ℕ) → AllByRecursion (IsOwnListed h t) (rows_of_key h pid t key)
unfolding rows_of_key
own_rows_of_key h pid t key =
    all_weaker (λ x. IsOwnListed h t x × (has_key key x ≡ true)) (IsOwnListed h t) (λ x p. p.0)
    (filter (has_key key) (rows_of_pid h pid t)) (all_filter (IsOwnListed h t) (has_key key) (rows_of_pid h pid t) (own_rows h pid t))
