-- A rebirth changes the rows of a topic exactly where a row of the topic goes on under a new dot.
use Rattle.std.proofs.Common.{◌≡◌, ℕ, ◌+◌, Bool, true, false, cond, not, ◌||◌, List, [], ◌∷◌, Option, Some, None, is_some, length, refl, sym, ◌∙◌, ap, arith, inl, inr}
use Rattle.std.specs.Prelude.{◌⊎◌, max}
use Rattle.std.specs.List.{list_any}
use Rattle.std.specs.Map.{lookup}
use Rattle.std.proofs.lemmas.Bool.{or_cases, or_parts, or_left, or_right}
use Rattle.replica_status.specs.declared.standing.Standing.{Standing}
use Rattle.replica_status.specs.declared.status.Status.{Status}
use Rattle.replica_status.specs.declared.status.Status.TheVariants as status_is
use Rattle.replica_status.specs.Table.{status_of, put_down}
use Rattle.presence_base.specs.declared.dots.Replica.{Replica}
use Rattle.presence_base.specs.declared.dots.Dot.{Dot}
use Rattle.presence_base.specs.declared.row.Row.{Row}
use Rattle.presence_base.specs.Order.{same_text, same_replica, same_dot}
use Rattle.presence_journal.specs.declared.step.Step.TheVariants as steps_are
use Rattle.presence_journal.specs.declared.entry.Outcome.TheVariants as outcomes_are
use Rattle.presence_journal.specs.declared.step.Step.{Step}
use Rattle.presence_journal.specs.declared.entry.Outcome.{Outcome}
use Rattle.presence_journal.specs.declared.entry.Entry.{Entry}
use Rattle.presence_journal.specs.History.{History, Begin, Then, own, reborn, has_dot, first_some, with_prev, row_again, row_added, row_brought, told_row, time, time_of, standing, standing_after, is_up, is_gone, status, known, removed, row, live, shown}
use Rattle.presence_journal.specs.Present.{of_topic}
use Rattle.presence_journal.specs.Queue.{diff_item, diff_of}
use Rattle.presence_journal.specs.Table.{IsLegal, own_dots, reborn_from, is_unheard}
use Rattle.presence_journal.specs.Walk.{shown_of, is_rebirth, is_reborn}
use Rattle.presence_journal.proofs.Same.{same_text-refl, same_dot-true, same_dot-refl, same_replica-true, same_replica-refl}
use Rattle.presence_journal.proofs.PresentLemmas.{shown-row, of_topic-some}
use Rattle.presence_journal.proofs.Reborn.{IsAgain, again_of, own_dot, own_dots_has, again_parts}
use Rattle.presence_journal.proofs.HistoryLemmas.{KnowsItsDots, kind_of, one_added, added_again, brought_told, own-then, own_again, again_unknown, legal_knows, row-next, removed_again, row_again-is, shown-live, is_own}
use Rattle.presence_journal.proofs.Fold.{same_present}
use Rattle.presence_journal_known.proofs.OwnLemmas.{plain_step, reborn_step}
use Rattle.presence_journal_walks.specs.Changes.{topic_in, is_topic, topic_again, dot_before, topic_back, goes_on}
use Rattle.presence_journal_walks.proofs.OthersLemmas.{own_told, own_goes, status-other, standing-then}
use Rattle.presence_journal_walks.proofs.ChangesLemmas.{no_diff, one_changed, gone_shows_none}

-- the topic of an own row, from the newest entry back

dot_same : (o : Outcome) (d : Dot) → is_reborn o ≡ false → dot_before o d ≡ Some d
dot_same (outcomes_are.Reborn ps) d a = absurd (cc)
dot_same _ d a = refl

row_none : (h : History) (d : Dot) → KnowsItsDots h → (known h d ≡ true → ⊥) → row h d ≡ None
row_none h d k f = go (row h d) refl
  where
    go : (o : Option Row) → row h d ≡ o → o ≡ None
    go None e = refl
    go (Some r) e = absurd (f (k.of_row d r e))

shape : (a o : Option Row) → ((r : Row) → a ≡ Some r → o ≡ None) → first_some (topic_in a) (topic_in o) ≡ topic_in (first_some o (first_some a None))
shape None None f = refl
shape None (Some x) f = refl
shape (Some r) None f = refl
shape (Some r) (Some x) f = let w : Some x ≡ None = f r refl in absurd (cc)

topic_prev : (old : Dot) (o : Option Row) → topic_in o ≡ topic_in (with_prev old o)
topic_prev old None = refl
topic_prev old (Some r) = refl

pub topic_back_is : (h : History) (d : Dot) → IsLegal h → d.replica ≡ own h → topic_back h d ≡ topic_in (row h d)
unfolding topic_back row
topic_back_is (Begin s) d l o = refl
topic_back_is (Then h e) d l o = go (is_reborn e.outcome) refl (topic_back_is h)
  where
    fresh : is_rebirth e.step ≡ false → (r : Row) → row_added e.step e.outcome d ≡ Some r → row h d ≡ None
    fresh n r f = ap (row h) (one_added h e d r (kind_of h e.step e.outcome n l.1) f).0 ∙ row-next h (legal_knows h l.0)

    plain : is_reborn e.outcome ≡ false → ((q : Dot) → IsLegal h → q.replica ≡ own h → topic_back h q ≡ topic_in (row h q)) → first_some (topic_in (row_added e.step e.outcome d)) (topic_again (topic_back h) (dot_before e.outcome d)) ≡ topic_in (first_some (row h d) (first_some (row_added e.step e.outcome d) (row_brought e.outcome (row h) (told_row h e.step d) d)))
    plain a ih =
        let n = plain_step h e l a in
        let mine : d.replica ≡ own h = o ∙ own-then h e n in
        let none : row_brought e.outcome (row h) (told_row h e.step d) d ≡ None = brought_told e.outcome (row h) (told_row h e.step d) d a ∙ own_told h e.step d (is_own h d mine) in
        (λ i. first_some (topic_in (row_added e.step e.outcome d)) (topic_again (topic_back h) (dot_same e.outcome d a i)))
        ∙ (ap (first_some (topic_in (row_added e.step e.outcome d))) (ih d l.0 mine)
        ∙ (shape (row_added e.step e.outcome d) (row h d) (fresh n)
        ∙ (λ i. topic_in (first_some (row h d) (first_some (row_added e.step e.outcome d) (sym none i))))))

    found : (w : IsAgain h e.step e.outcome) → ((q : Dot) → IsLegal h → q.replica ≡ own h → topic_back h q ≡ topic_in (row h q)) → (x : Option Dot) → lookup (same_dot d) (reborn_from (reborn (own h) w.incarnation) 0 (own_dots h)) ≡ x → topic_again (topic_back h) x ≡ topic_in (row_again (row h) x)
    found w ih None f = refl
    found w ih (Some old) f = ih old l.0 (own_dot h old (again_parts (reborn (own h) w.incarnation) 0 (own_dots h) d old f).3).own ∙ topic_prev old (row h old)

    again : (w : IsAgain h e.step e.outcome) → ((q : Dot) → IsLegal h → q.replica ≡ own h → topic_back h q ≡ topic_in (row h q)) → first_some (topic_in (row_added e.step e.outcome d)) (topic_again (topic_back h) (dot_before e.outcome d)) ≡ topic_in (row (Then h e) d)
    again w ih =
        let none = row_none h d (legal_knows h l.0) (again_unknown h d w.incarnation w.fresh (o ∙ own_again h e w)) in
        (λ i. first_some (topic_in (added_again h e d w i)) (topic_again (topic_back h) (dot_before (w.outcome i) d)))
        ∙ (found w ih (lookup (same_dot d) (reborn_from (reborn (own h) w.incarnation) 0 (own_dots h))) refl
        ∙ ((λ i. topic_in (first_some (sym none i) (row_again (row h) (lookup (same_dot d) (reborn_from (reborn (own h) w.incarnation) 0 (own_dots h))))))
        ∙ ap topic_in (sym (row_again-is h e d w))))

    go : (b : Bool) → is_reborn e.outcome ≡ b → ((q : Dot) → IsLegal h → q.replica ≡ own h → topic_back h q ≡ topic_in (row h q)) → first_some (topic_in (row_added e.step e.outcome d)) (topic_again (topic_back h) (dot_before e.outcome d)) ≡ topic_in (row (Then h e) d)
    go false a ih = plain a ih
    go true a ih = again (again_of h e.step e.outcome (reborn_step h e l a) l.1) ih

-- some row goes on, by the old dots

any_reborn : (f : Dot → Bool) (r : Replica) (n : ℕ) (ds : List Dot) → list_any (λ p. f p.1) (reborn_from r n ds) ≡ list_any f ds
any_reborn f r n [] = refl
any_reborn f r n (d ∷ ds) = ap (λ b. f d || b) (any_reborn f r (n + 1) ds)

goes_is : (h : History) (e : Entry) (t : List ℕ) → IsAgain h e.step e.outcome → goes_on h t e.outcome ≡ list_any (λ d. is_topic t (topic_back h d)) (own_dots h)
goes_is h e t w = ap (goes_on h t) w.outcome ∙ any_reborn (λ d. is_topic t (topic_back h d)) (reborn (own h) w.incarnation) 0 (own_dots h)

pub record FoundIn (f : Dot → Bool) (ds : List Dot) : Type 0 where
  pub dot : Dot
  pub among : has_dot ds dot ≡ true
  pub passes : f dot ≡ true

any_found : (f : Dot → Bool) (ds : List Dot) → list_any f ds ≡ true → FoundIn f ds
any_found f [] e = absurd (cc)
any_found f (x ∷ xs) e = go (or_cases (f x) (list_any f xs) e) (any_found f xs)
  where
    go : (f x ≡ true) ⊎ (list_any f xs ≡ true) → (list_any f xs ≡ true → FoundIn f xs) → FoundIn f (x ∷ xs)
    go (inl p) ih = record { dot = x; among = or_left (same_dot x x) (has_dot xs x) (same_dot-refl x); passes = p }
    go (inr p) ih = let y = ih p in record { dot = y.dot; among = or_right (same_dot y.dot x) (has_dot xs y.dot) y.among; passes = y.passes }

none_found : (f : Dot → Bool) (ds : List Dot) (d : Dot) → list_any f ds ≡ false → has_dot ds d ≡ true → f d ≡ false
none_found f [] d e m = absurd (cc)
none_found f (x ∷ xs) d e m = go (or_cases (same_dot d x) (has_dot xs d) m) (none_found f xs d parts.1)
  where
    parts : (f x ≡ false) × (list_any f xs ≡ false)
    parts = or_parts (f x) (list_any f xs) e

    go : (same_dot d x ≡ true) ⊎ (has_dot xs d ≡ true) → (has_dot xs d ≡ true → f d ≡ false) → f d ≡ false
    go (inl p) ih = ap f (same_dot-true d x p) ∙ parts.0
    go (inr p) ih = ih p

-- the statuses after a rebirth

apart : (h : History) (e : Entry) → IsAgain h e.step e.outcome → same_replica (own h) (own (Then h e)) ≡ false
apart h e w = go (same_replica (own h) (own (Then h e))) refl
  where
    go : (b : Bool) → same_replica (own h) (own (Then h e)) ≡ b → b ≡ false
    go false f = refl
    go true f =
        let q : own h ≡ reborn (own h) w.incarnation = same_replica-true (own h) (own (Then h e)) f ∙ own_again h e w in
        let n : (own h).incarnation ≡ w.incarnation = ap (λ (r : Replica). r.incarnation) q in
        absurd (omega (arith, n, w.above))

reborn_is : (h : History) (e : Entry) → IsAgain h e.step e.outcome → is_rebirth e.step ≡ true
reborn_is h e w = ap is_rebirth w.step

old_gone : (h : History) (e : Entry) → IsAgain h e.step e.outcome → is_gone (status (Then h e) (own h)) ≡ true
old_gone h e w =
    ap is_gone (status-other (Then h e) (own h) (apart h e w))
    ∙ (ap (λ x. is_gone (status_of x)) (standing-then h e (own h))
    ∙ own_goes (own h) e.step (max (time h) (time_of e.step)) (own h) (standing h (own h)) (reborn_is h e w) (same_replica-refl (own h)))

stands_same : (o : Replica) (s : Step) (t : ℕ) (r : Replica) (x : Standing) → is_rebirth s ≡ true → same_replica r o ≡ false → standing_after o s t r x ≡ x
stands_same o (steps_are.Rebirth i) t r x n f = ap (λ b. cond b (put_down x) x) f
stands_same o _ t r x n f = absurd (cc)

status_same : (h : History) (e : Entry) (r : Replica) → IsAgain h e.step e.outcome → same_replica r (own h) ≡ false → same_replica r (own (Then h e)) ≡ false → status (Then h e) r ≡ status h r
status_same h e r w f g =
    status-other (Then h e) r g
    ∙ (ap status_of (standing-then h e r ∙ stands_same (own h) e.step (max (time h) (time_of e.step)) r (standing h r) (reborn_is h e w) f)
    ∙ sym (status-other h r f))

unheard_hidden : (x : Status) → is_unheard x ≡ true → is_up x ≡ false
unheard_hidden status_is.Unheard f = refl
unheard_hidden status_is.Up f = absurd (cc)
unheard_hidden status_is.Down f = absurd (cc)
unheard_hidden status_is.Gone f = absurd (cc)

first_none : (o : Option Row) → first_some o None ≡ o
first_none None = refl
first_none (Some r) = refl

of_hidden : (t : List ℕ) (b : Bool) (o : Option Row) → of_topic t o ≡ None → of_topic t (cond b None o) ≡ None
of_hidden t true o f = refl
of_hidden t false o f = f

of_prev : (t : List ℕ) (old : Dot) (o : Option Row) → is_topic t (topic_in o) ≡ false → of_topic t (with_prev old o) ≡ None
of_prev t old None f = refl
of_prev t old (Some r) f = ap (λ b. cond b (Some (record { topic = r.topic; key = r.key; pid = r.pid; meta = r.meta; prev = Some old })) None) f

unheard_shows_none : (h : History) (d : Dot) → is_up (status h d.replica) ≡ false → shown h d ≡ None
unfolding shown
unheard_shows_none h d u = ap (λ b. cond b (live h d) None) u

-- one difference where a row goes on, and else none

goes : (h : History) (e : Entry) (t : List ℕ) → IsAgain h e.step e.outcome → IsLegal (Then h e) → FoundIn (λ d. is_topic t (topic_back h d)) (own_dots h) → length (diff_item (diff_of h e t)) ≡ 1
goes h e t w l x =
    let g = own_dot h x.dot x.among in
    let named : same_text g.row.topic t ≡ true = sym (ap (is_topic t) (topic_back_is h x.dot l.0 g.own ∙ ap topic_in (shown-row h x.dot g.row g.shown).0)) ∙ x.passes in
    let before : shown_of h t x.dot ≡ Some g.row = ap (of_topic t) g.shown ∙ ap (λ b. cond b (Some g.row) None) named in
    let later : shown_of (Then h e) t x.dot ≡ None = gone_shows_none (Then h e) t x.dot (ap (λ r. is_gone (status (Then h e) r)) g.own ∙ old_gone h e w) in
    one_changed h e t x.dot (went (shown_of h t x.dot) (shown_of (Then h e) t x.dot) g.row before later)
  where
    went : (o p : Option Row) (r : Row) → o ≡ Some r → p ≡ None → cond (is_some o) (not (is_some p)) (is_some p) ≡ true
    went o p r f g = λ i. cond (is_some (f i)) (not (is_some (g i))) (is_some (g i))

stays_new : (h : History) (e : Entry) (t : List ℕ) (d : Dot) (w : IsAgain h e.step e.outcome) → IsLegal (Then h e) → list_any (λ q. is_topic t (topic_back h q)) (own_dots h) ≡ false → d.replica ≡ own (Then h e) → shown_of (Then h e) t d ≡ shown_of h t d
unfolding live
stays_new h e t d w l none o =
    ap (of_topic t) (shown-live (Then h e) d o)
    ∙ (of_hidden t (removed (Then h e) d) (row (Then h e) d) (ap (of_topic t) (row_again-is h e d w ∙ (λ i. first_some (rowless i) (row_again (row h) (lookup (same_dot d) (reborn_from (reborn (own h) w.incarnation) 0 (own_dots h)))))) ∙ found (lookup (same_dot d) (reborn_from (reborn (own h) w.incarnation) 0 (own_dots h))) refl)
    ∙ sym (ap (of_topic t) hidden))
  where
    rowless : row h d ≡ None
    rowless = row_none h d (legal_knows h l.0) (again_unknown h d w.incarnation w.fresh (o ∙ own_again h e w))

    hidden : shown h d ≡ None
    hidden = unheard_shows_none h d (ap (λ r. is_up (status h r)) (o ∙ own_again h e w) ∙ unheard_hidden (status h (reborn (own h) w.incarnation)) w.unheard)

    found : (x : Option Dot) → lookup (same_dot d) (reborn_from (reborn (own h) w.incarnation) 0 (own_dots h)) ≡ x → of_topic t (row_again (row h) x) ≡ None
    found None f = refl
    found (Some old) f =
        let m = (again_parts (reborn (own h) w.incarnation) 0 (own_dots h) d old f).3 in
        of_prev t old (row h old) (ap (is_topic t) (sym (topic_back_is h old l.0 (own_dot h old m).own)) ∙ none_found (λ q. is_topic t (topic_back h q)) (own_dots h) old none m)

stays_old : (h : History) (e : Entry) (t : List ℕ) (d : Dot) (w : IsAgain h e.step e.outcome) → IsLegal (Then h e) → list_any (λ q. is_topic t (topic_back h q)) (own_dots h) ≡ false → d.replica ≡ own h → shown_of (Then h e) t d ≡ shown_of h t d
stays_old h e t d w l none o =
    gone_shows_none (Then h e) t d (ap (λ r. is_gone (status (Then h e) r)) o ∙ old_gone h e w) ∙ sym (go (shown_of h t d) refl)
  where
    go : (x : Option Row) → shown_of h t d ≡ x → x ≡ None
    go None f = refl
    go (Some r) f =
        let p = of_topic-some t (shown h d) r f in
        let m = own_dots_has h d r o p.0 in
        let named : is_topic t (topic_back h d) ≡ true = ap (is_topic t) (topic_back_is h d l.0 o ∙ ap topic_in (shown-row h d r p.0).0) ∙ (ap (λ u. same_text u t) p.1 ∙ same_text-refl t) in
        let q : true ≡ false = sym named ∙ none_found (λ q. is_topic t (topic_back h q)) (own_dots h) d none m in
        absurd (cc)

stays_other : (h : History) (e : Entry) (t : List ℕ) (d : Dot) (w : IsAgain h e.step e.outcome) → IsLegal (Then h e) → same_replica d.replica (own h) ≡ false → same_replica d.replica (own (Then h e)) ≡ false → shown_of (Then h e) t d ≡ shown_of h t d
unfolding shown live
stays_other h e t d w l f g =
    ap (of_topic t)
    (λ i. cond (is_up (status_same h e d.replica w f g i)) (cond (removed_again h e d w i) None ((row_again-is h e d w ∙ (ap (λ x. first_some (row h d) (row_again (row h) x)) (none (lookup (same_dot d) (reborn_from (reborn (own h) w.incarnation) 0 (own_dots h))) refl) ∙ first_none (row h d))) i)) None)
  where
    none : (x : Option Dot) → lookup (same_dot d) (reborn_from (reborn (own h) w.incarnation) 0 (own_dots h)) ≡ x → x ≡ None
    none None p = refl
    none (Some old) p =
        let o : d.replica ≡ own (Then h e) = (again_parts (reborn (own h) w.incarnation) 0 (own_dots h) d old p).0 ∙ sym (own_again h e w) in
        let q : true ≡ false = sym (is_own (Then h e) d o) ∙ g in
        absurd (cc)

pub again_count : (h : History) (e : Entry) (t : List ℕ) → IsLegal (Then h e) → IsAgain h e.step e.outcome → length (diff_item (diff_of h e t)) ≡ cond (goes_on h t e.outcome) 1 0
again_count h e t l w = go (goes_on h t e.outcome) refl
  where
    stays : list_any (λ q. is_topic t (topic_back h q)) (own_dots h) ≡ false → (d : Dot) (b c : Bool) → same_replica d.replica (own h) ≡ b → same_replica d.replica (own (Then h e)) ≡ c → shown_of (Then h e) t d ≡ shown_of h t d
    stays none d true c f g = stays_old h e t d w l none (same_replica-true d.replica (own h) f)
    stays none d false true f g = stays_new h e t d w l none (same_replica-true d.replica (own (Then h e)) g)
    stays none d false false f g = stays_other h e t d w l f g

    go : (b : Bool) → goes_on h t e.outcome ≡ b → length (diff_item (diff_of h e t)) ≡ cond b 1 0
    go true f = goes h e t w l (any_found (λ d. is_topic t (topic_back h d)) (own_dots h) (sym (goes_is h e t w) ∙ f))
    go false f = ap length (no_diff h e t (same_present (Then h e) h t (λ d. stays (sym (goes_is h e t w) ∙ f) d (same_replica d.replica (own h)) (same_replica d.replica (own (Then h e))) refl refl)))
