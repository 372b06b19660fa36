-- What holds after a rebirth: of the statuses, of what is known, and of the rows.
use Rattle.std.proofs.Common.{◌≡◌, ℕ, ◌+◌, Bool, true, false, cond, ◌||◌, T, List, [], ◌∷◌, Option, Some, None, is_some, length, map as each, Ordering, Less, Equal, Greater, is_lt, refl, sym, ◌∙◌, ap, subst, arith}
use Rattle.std.specs.Prelude.{max}
use Rattle.std.specs.List.{AllByRecursion}
use Rattle.std.specs.List.Sorted.{IsStrictlySortedBy}
use Rattle.std.specs.Map.{lookup}
use Rattle.std.specs.FinMap as map
use Rattle.std.specs.FinMap.Entries.{below_all, is_sorted}
use Rattle.std.proofs.lemmas.Bool.{and_parts}
use Rattle.presence_base.specs.declared.dots.Replica.{Replica}
use Rattle.presence_base.specs.declared.dots.Dot.{Dot}
use Rattle.presence_base.specs.declared.row.Row.{Row}
use Rattle.presence_base.specs.Order.{dot_cmp, same_replica, same_dot}
use Rattle.replica_status.specs.declared.standing.Standing.{Standing}
use Rattle.replica_status.specs.declared.standing.Standing.TheVariants.{Unheard, Up, Down, Gone}
use Rattle.replica_status.specs.declared.status.Status.TheVariants as status_is
use Rattle.replica_status.specs.Table.{status_of, put_down}
use Rattle.presence_journal.specs.declared.step.Step.TheVariants as steps_are
use Rattle.presence_journal.specs.declared.entry.Outcome.TheVariants as outcomes_are
use Rattle.presence_journal.specs.Steps.{Step, Entry}
use Rattle.presence_journal.specs.History.{History, Then, own, reborn, count, is_counted, has_dot, first_some, with_prev, row_again, time, time_of, standing, standing_after, is_up, status, told_covers, known, removed, row, live, shown}
use Rattle.presence_journal.specs.Present.{dots}
use Rattle.presence_journal.specs.Table.{IsLegal, own_shown, put_rows, own_dots, reborn_from}
use Rattle.presence_journal.specs.Laws.{dots_from, new_dots_in, old_dots_in, RebirthLosesNoRow}
use Rattle.presence_journal.specs.Walk.{is_rebirth, is_reborn, pairs_in}
use Rattle.presence_journal.proofs.Same.{same_replica-true, same_replica-refl}
use Rattle.presence_journal.proofs.PresentLemmas.{shown-row}
use Rattle.presence_journal.proofs.Reborn.{IsAgain, again_of, own_dot, own_dots_has, again_parts, lookup_among}
use Rattle.presence_journal.proofs.HistoryLemmas.{kind_of, kind_plain, known-then, own_again, count_again, again_unknown, legal_knows, removed_again, row_again-is, status-own}

-- the new dots, each with its old one
abbrev pub pairs_of : (h : History) (e : Entry) → IsAgain h e.step e.outcome → List (Dot × Dot)
pairs_of h e w = reborn_from (reborn (own h) w.incarnation) 0 (own_dots h)

-- statuses

pub new_is_other : (h : History) (e : Entry) → IsAgain h e.step e.outcome → same_replica (own h) (own (Then h e)) ≡ false
new_is_other h e w = go (same_replica (own h) (own (Then h e))) refl
  where
    go : (b : Bool) → same_replica (own h) (own (Then h e)) ≡ b → b ≡ false
    go false f = refl
    go true f =
        let q : own h ≡ reborn (own h) w.incarnation = same_replica-true (own h) (own (Then h e)) f ∙ own_again h e w in
        let n : (own h).incarnation ≡ w.incarnation = ap (λ (r : Replica). r.incarnation) q in
        absurd (omega (arith, n, w.above))

of_other : (h : History) (r : Replica) → same_replica r (own h) ≡ false → status h r ≡ status_of (standing h r)
unfolding status
of_other h r f = ap (λ b. cond b status_is.Up (status_of (standing h r))) f

stands : (h : History) (e : Entry) (r : Replica) → standing (Then h e) r ≡ standing_after (own h) e.step (max (time h) (time_of e.step)) r (standing h r)
unfolding standing
stands h e r = refl

stands_again : (o : Replica) (s : Step) (t : ℕ) (r : Replica) (x : Standing) → is_rebirth s ≡ true → standing_after o s t r x ≡ cond (same_replica r o) (put_down x) x
stands_again o (steps_are.Rebirth i) t r x n = refl
stands_again o _ t r x n = absurd (cc)

down_is : (x : Standing) → put_down x ≡ Gone
down_is Unheard = refl
down_is (Up heard) = refl
down_is (Down heard) = refl
down_is Gone = refl

standing_again : (h : History) (e : Entry) (r : Replica) → IsAgain h e.step e.outcome → standing (Then h e) r ≡ cond (same_replica r (own h)) Gone (standing h r)
standing_again h e r w =
    stands h e r
    ∙ (stands_again (own h) e.step (max (time h) (time_of e.step)) r (standing h r) (ap is_rebirth w.step)
    ∙ ap (λ x. cond (same_replica r (own h)) x (standing h r)) (down_is (standing h r)))

-- the old one is gone
pub old_is_gone : (h : History) (e : Entry) (r : Replica) → IsAgain h e.step e.outcome → same_replica r (own h) ≡ true → status (Then h e) r ≡ status_is.Gone
old_is_gone h e r w f =
    of_other (Then h e) r (ap (λ q. same_replica q (own (Then h e))) (same_replica-true r (own h) f) ∙ new_is_other h e w)
    ∙ (ap status_of (standing_again h e r w)
    ∙ ap (λ b. status_of (cond b Gone (standing h r))) f)

-- and each other one is as it was
pub others_stay : (h : History) (e : Entry) (r : Replica) → IsAgain h e.step e.outcome → same_replica r (own h) ≡ false → same_replica r (own (Then h e)) ≡ false → status (Then h e) r ≡ status h r
others_stay h e r w f g =
    of_other (Then h e) r g
    ∙ (ap status_of (standing_again h e r w)
    ∙ (ap (λ b. status_of (cond b Gone (standing h r))) f
    ∙ sym (of_other h r f)))

-- what is known

none_more : (b : Bool) → (b || false) ≡ b
none_more true = refl
none_more false = refl

pub known_again : (h : History) (e : Entry) (d : Dot) (w : IsAgain h e.step e.outcome) → known (Then h e) d ≡ (known h d || is_counted (own (Then h e)) (length (own_dots h)) d)
known_again h e d w =
    known-then h e d
    ∙ ((λ j. known h d || (is_counted (own (Then h e)) (count_again h e w j) d || told_covers h (w.step j) d))
    ∙ ap (λ b. known h d || b) (none_more (is_counted (own (Then h e)) (length (own_dots h)) d)))

-- rows

shown-is : (h : History) (d : Dot) → shown h d ≡ cond (is_up (status h d.replica)) (live h d) None
unfolding shown
shown-is h d = refl

-- the live rows of the new one are those that were shown of the old one
pub live_of_new : (h : History) (e : Entry) (d : Dot) (w : IsAgain h e.step e.outcome) → IsLegal h → same_replica d.replica (own (Then h e)) ≡ true → live (Then h e) d ≡ row_again (shown h) (lookup (same_dot d) (pairs_of h e w))
unfolding live
live_of_new h e d w l o =
    (λ i. cond (removed_again h e d w i) None (row_again-is h e d w i))
    ∙ ((λ i. cond (unremoved i) None (first_some (rowless i) (row_again (row h) (lookup (same_dot d) (pairs_of h e w)))))
    ∙ found (lookup (same_dot d) (pairs_of h e w)) refl)
  where
    unknown : known h d ≡ true → ⊥
    unknown = again_unknown h d w.incarnation w.fresh (same_replica-true d.replica (own (Then h e)) o ∙ own_again h e w)

    unremoved : removed h d ≡ false
    unremoved = go (removed h d) refl
      where
        go : (b : Bool) → removed h d ≡ b → b ≡ false
        go false f = refl
        go true f = absurd (unknown ((legal_knows h l).of_removed d f))

    rowless : row h d ≡ None
    rowless = go (row h d) refl
      where
        go : (x : Option Row) → row h d ≡ x → x ≡ None
        go None f = refl
        go (Some r) f = absurd (unknown ((legal_knows h l).of_row d r f))

    found : (x : Option Dot) → lookup (same_dot d) (pairs_of h e w) ≡ x → row_again (row h) x ≡ row_again (shown h) x
    found None f = refl
    found (Some old) f =
        let g = own_dot h old (again_parts (reborn (own h) w.incarnation) 0 (own_dots h) d old f).3 in
        ap (with_prev old) ((shown-row h old g.row g.shown).0 ∙ sym g.shown)

nothing_first : (o : Option Row) → first_some o None ≡ o
nothing_first None = refl
nothing_first (Some r) = refl

-- and those of any other one are as they were
pub live_of_others : (h : History) (e : Entry) (d : Dot) → IsAgain h e.step e.outcome → same_replica d.replica (own (Then h e)) ≡ false → live (Then h e) d ≡ live h d
unfolding live
live_of_others h e d w f =
    (λ i. cond (removed_again h e d w i) None (row_again-is h e d w i))
    ∙ (ap (λ x. cond (removed h d) None (first_some (row h d) (row_again (row h) x))) (none (lookup (same_dot d) (pairs_of h e w)) refl)
    ∙ ap (λ o. cond (removed h d) None o) (nothing_first (row h d)))
  where
    none : (x : Option Dot) → lookup (same_dot d) (pairs_of h e w) ≡ x → x ≡ None
    none None p = refl
    none (Some old) p =
        let o : d.replica ≡ own (Then h e) = (again_parts (reborn (own h) w.incarnation) 0 (own_dots h) d old p).0 ∙ sym (own_again h e w) in
        let q : true ≡ false = sym (ap (λ r. same_replica r (own (Then h e))) o ∙ same_replica-refl (own (Then h e))) ∙ f in
        absurd (cc)

pub shown_of_new : (h : History) (e : Entry) (d : Dot) (w : IsAgain h e.step e.outcome) → IsLegal h → same_replica d.replica (own (Then h e)) ≡ true → shown (Then h e) d ≡ row_again (shown h) (lookup (same_dot d) (pairs_of h e w))
shown_of_new h e d w l o =
    shown-is (Then h e) d
    ∙ (ap (λ r. cond (is_up (status (Then h e) r)) (live (Then h e) d) None) (same_replica-true d.replica (own (Then h e)) o)
    ∙ (ap (λ x. cond (is_up x) (live (Then h e) d) None) (status-own (Then h e))
    ∙ live_of_new h e d w l o))

pub shown_of_old : (h : History) (e : Entry) (d : Dot) → IsAgain h e.step e.outcome → same_replica d.replica (own h) ≡ true → shown (Then h e) d ≡ None
shown_of_old h e d w o = shown-is (Then h e) d ∙ ap (λ x. cond (is_up x) (live (Then h e) d) None) (old_is_gone h e d.replica w o)

pub shown_of_others : (h : History) (e : Entry) (d : Dot) → IsAgain h e.step e.outcome → same_replica d.replica (own h) ≡ false → same_replica d.replica (own (Then h e)) ≡ false → shown (Then h e) d ≡ shown h d
shown_of_others h e d w f g =
    shown-is (Then h e) d
    ∙ ((λ i. cond (is_up (others_stay h e d.replica w f g i)) (live_of_others h e d w g i) None)
    ∙ sym (shown-is h d))

-- nothing was shown of the new one
pub none_of_new : (h : History) (e : Entry) (d : Dot) → IsLegal h → IsAgain h e.step e.outcome → same_replica d.replica (own (Then h e)) ≡ true → shown h d ≡ None
none_of_new h e d l w o = go (shown h d) refl
  where
    go : (x : Option Row) → shown h d ≡ x → x ≡ None
    go None f = refl
    go (Some r) f =
        absurd
        (again_unknown h d w.incarnation w.fresh (same_replica-true d.replica (own (Then h e)) o ∙ own_again h e w)
        ((legal_knows h l).of_row d r (shown-row h d r f).0))

-- no row stands under a dot of the new one that is no pair's
pub no_row_under : (h : History) (e : Entry) (w : IsAgain h e.step e.outcome) → IsLegal (Then h e) → (pairs : List (Dot × Dot)) → e.outcome ≡ outcomes_are.Reborn pairs → (d : Dot) → d.replica ≡ own (Then h e) → has_dot (new_dots_in pairs) d ≡ false → row (Then h e) d ≡ None
no_row_under h e w l pairs is d o none =
    row_again-is h e d w
    ∙ ((λ i. first_some (unknown_row i) (row_again (row h) (no_old i))))
  where
    unknown_row : row h d ≡ None
    unknown_row = go (row h d) refl
      where
        go : (x : Option Row) → row h d ≡ x → x ≡ None
        go None f = refl
        go (Some r) f = absurd (again_unknown h d w.incarnation w.fresh (o ∙ own_again h e w) ((legal_knows h l.0).of_row d r f))

    same : pairs ≡ pairs_of h e w
    same = ap pairs_in (sym is ∙ w.outcome)

    not_some : (x : Option Dot) → is_some x ≡ false → x ≡ None
    not_some None f = refl
    not_some (Some y) f = absurd (cc)

    no_old : lookup (same_dot d) (pairs_of h e w) ≡ None
    no_old = not_some (lookup (same_dot d) (pairs_of h e w)) (lookup_among (pairs_of h e w) d ∙ (ap (λ ps. has_dot (new_dots_in ps) d) (sym same) ∙ none))

-- no row is lost

passed : (b : Bool) → T b → b ≡ true
passed true h = refl
passed false h = absurd h

less_is : (o : Ordering) → is_lt o ≡ true → o ≡ Less
less_is Less k = refl
less_is Equal k = absurd (cc)
less_is Greater k = absurd (cc)

below_keys : (d : Dot) (es : List (Dot × Row)) → below_all dot_cmp d es ≡ true → AllByRecursion (λ x. dot_cmp d x ≡ Less) (each (λ e. e.0) es)
below_keys d [] k = tt
below_keys d (e ∷ es) k = let p = and_parts (is_lt (dot_cmp d e.0)) (below_all dot_cmp d es) k in (less_is (dot_cmp d e.0) p.0, below_keys d es p.1)

keys_in_order : (es : List (Dot × Row)) → is_sorted dot_cmp es ≡ true → IsStrictlySortedBy dot_cmp (each (λ e. e.0) es)
unfolding IsStrictlySortedBy
keys_in_order [] k = tt
keys_in_order (e ∷ es) k = let p = and_parts (below_all dot_cmp e.0 es) (is_sorted dot_cmp es) k in (below_keys e.0 es p.0, keys_in_order es p.1)

pub own_dots_in_order : (h : History) → IsStrictlySortedBy dot_cmp (own_dots h)
unfolding own_dots
own_dots_in_order h =
    let m = put_rows (own_shown h) (dots h) in
    keys_in_order (map.entries m) (passed (is_sorted dot_cmp (map.entries m)) (map.entries_sorted m))

olds_are : (r : Replica) (n : ℕ) (ds : List Dot) → old_dots_in (reborn_from r n ds) ≡ ds
olds_are r n [] = refl
olds_are r n (d ∷ ds) = ap (λ xs. d ∷ xs) (olds_are r (n + 1) ds)

news_are : (r : Replica) (n : ℕ) (ds : List Dot) → new_dots_in (reborn_from r n ds) ≡ dots_from r (n + 1) (length (reborn_from r n ds))
news_are r n [] = refl
news_are r n (d ∷ ds) = ap (λ xs. record { replica = r; count = n + 1 } ∷ xs) (news_are r (n + 1) ds)

pub step_reborn : (h : History) (e : Entry) → IsLegal (Then h e) → is_reborn e.outcome ≡ true → is_rebirth e.step ≡ true
step_reborn h e l a = go (is_rebirth e.step) refl
  where
    go : (b : Bool) → is_rebirth e.step ≡ b → b ≡ true
    go true f = refl
    go false f = let g : false ≡ true = sym (kind_plain h e.step e.outcome (kind_of h e.step e.outcome f l.1)) ∙ a in absurd (cc)

pub rebirth_loses_no_row : RebirthLosesNoRow
rebirth_loses_no_row h e pairs l is = record {
  counted = ap new_dots_in same ∙ (news_are r 0 (own_dots h) ∙ ((λ i. dots_from (sym (own_again h e w) i) 1 (length (sym same i)))));
  ordered = subst (IsStrictlySortedBy dot_cmp) (sym olds) (own_dots_in_order h);
  all = λ d x o s. ap (λ ds. has_dot ds d) olds ∙ own_dots_has h d x o s;
  only = λ d k. (own_dot h d (ap (λ ds. has_dot ds d) (sym olds) ∙ k)).own;
  rows = λ d o. shown_of_new h e d w l.0 o ∙ ap (λ ps. row_again (shown h) (lookup (same_dot d) ps)) (sym same);
  hidden = λ d o. shown_of_old h e d w o;
  others = λ d o n. shown_of_others h e d w o n;
}
  where
    w : IsAgain h e.step e.outcome
    w = again_of h e.step e.outcome (step_reborn h e l (ap is_reborn is)) l.1

    r : Replica
    r = reborn (own h) w.incarnation

    same : pairs ≡ reborn_from r 0 (own_dots h)
    same = ap pairs_in (sym is ∙ w.outcome)

    olds : old_dots_in pairs ≡ own_dots h
    olds = ap old_dots_in same ∙ olds_are r 0 (own_dots h)
