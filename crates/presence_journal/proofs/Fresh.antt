-- New dots, and the rows that a step leaves.
use Rattle.std.proofs.Common.{◌≡◌, ℕ, ◌+◌, ◌≤◌, ◌^◌, Bool, true, false, cond, ◌||◌, List, [], Option, Some, None, refl, sym, ◌∙◌, ap, subst, arith, ◌<◌, is_some}
use Rattle.std.specs.Prelude.{IsTrue}
use Rattle.std.specs.FinMap as map
use Rattle.presence_base.specs.declared.dots.Replica.{Replica}
use Rattle.presence_base.specs.declared.dots.Dot.{Dot}
use Rattle.presence_base.specs.declared.row.Row.{Row}
use Rattle.presence_base.specs.Order.{same_dot}
use Rattle.presence_base.specs.Refs.{IsCount, IsDot}
use Rattle.presence_base.specs.Names.{is_node_name}
use Rattle.presence_base.proofs.Splitting.{one_dot}
use Rattle.presence_journal.specs.declared.entry.Outcome.TheVariants as outcomes_are
use Rattle.std.specs.Map.{lookup}
use Rattle.presence_journal.specs.Steps.{Step, Outcome, Entry, Start}
use Rattle.presence_journal.specs.History.{History, Begin, Then, own, reborn, is_full, count, counts_used, next_dot, known, told_row, row_again, row_brought, row, has_dot, first_some, row_made, row_added, shown}
use Rattle.presence_journal.specs.Present.{of_topic, present, dots_added, dots_taken}
use Rattle.presence_journal.specs.Table.{IsStart, IsLegal, own_dots, reborn_from, outcome_of, next_entry}
use Rattle.presence_journal.specs.Walk.{keyed, shown_of, is_rebirth}
use Rattle.presence_journal.specs.Laws.{NewIsUnknown, NewIsCounted, RowsAreKnown, RefsAreDistinct, OnlyNamedLeave, is_callers}
use Rattle.presence_journal.proofs.Same.{same_dot-true}
use Rattle.presence_journal.proofs.PresentLemmas.{get-present}
use Rattle.presence_journal.proofs.ToldLemmas.{live_row_dot, row_told_dot}
use Rattle.presence_journal.proofs.HistoryLemmas.{Kind, Adds, Replaces, Removes, Quiet, is_quiet, kind_of, kind_plain, callers_plain, added_plain, brought_told, one_added, own-then, own_again, count_again, again_unknown, again_known, count-then, next_known, next_unknown, legal_knows, shown_by, after-accepted}
use Rattle.presence_journal.proofs.Reborn.{lookup_among, again_parts, IsAgain, again_of}
use Rattle.presence_journal.proofs.Walking.{count-limit}
use Rattle.presence_journal.proofs.FoldOthers.{accepted_is}

quiet_added : (o : Outcome) → is_quiet o ≡ true → dots_added o ≡ []
quiet_added (outcomes_are.Added d) q = cc
quiet_added (outcomes_are.Replaced d old) q = cc
quiet_added (outcomes_are.Removed ds) q = refl
quiet_added (outcomes_are.Reborn ps) q = cc
quiet_added _ q = refl

-- the dot that an outcome adds is the next one
added_is : (h : History) (s : Step) (o : Outcome) (d : Dot) → is_rebirth s ≡ false → outcome_of h s ≡ Some o → has_dot (dots_added o) d ≡ true → (d ≡ next_dot h) × (counts_used o ≡ 1)
added_is h s o d n e a = go (kind_of h s o n e)
  where
    one : (b : Bool) → same_dot d (next_dot h) ≡ b → (b || false) ≡ true → d ≡ next_dot h
    one true p q = same_dot-true d (next_dot h) p
    one false p q = cc

    go : Kind h s o → (d ≡ next_dot h) × (counts_used o ≡ 1)
    go (Adds r m is l) = (one (same_dot d (next_dot h)) refl (sym (ap (λ x. has_dot (dots_added x) d) is) ∙ a), ap counts_used is)
    go (Replaces r old m is l w) = (one (same_dot d (next_dot h)) refl (sym (ap (λ x. has_dot (dots_added x) d) is) ∙ a), ap counts_used is)
    go (Removes y ys is l w q) = let f : false ≡ true = sym (ap (λ x. has_dot (dots_added x) d) is) ∙ a in cc
    go (Quiet q) = let f : false ≡ true = sym (ap (λ x. has_dot x d) (quiet_added o q)) ∙ a in cc

-- the dots that a rebirth adds
some_old : (h : History) (s : Step) (o : Outcome) (d : Dot) (w : IsAgain h s o) → has_dot (dots_added o) d ≡ true → is_some (lookup (same_dot d) (reborn_from (reborn (own h) w.incarnation) 0 (own_dots h))) ≡ true
some_old h s o d w a = lookup_among (reborn_from (reborn (own h) w.incarnation) 0 (own_dots h)) d ∙ (sym (ap (λ x. has_dot (dots_added x) d) w.outcome) ∙ a)

pub new_is_unknown : NewIsUnknown
new_is_unknown h legal s o e d a = go (known h d) refl (is_rebirth s) refl
  where
    again : (w : IsAgain h s o) (p : Option Dot) → lookup (same_dot d) (reborn_from (reborn (own h) w.incarnation) 0 (own_dots h)) ≡ p → is_some p ≡ true → known h d ≡ true → ⊥
    again w None f g k = absurd (cc)
    again w (Some old) f g k = again_unknown h d w.incarnation w.fresh (again_parts (reborn (own h) w.incarnation) 0 (own_dots h) d old f).0 k

    go : (b : Bool) → known h d ≡ b → (c : Bool) → is_rebirth s ≡ c → b ≡ false
    go true p false n = let is : d ≡ next_dot h = (added_is h s o d n (accepted_is h s o e).1 a).0 in absurd (next_unknown h (legal_knows h legal) (ap (known h) (sym is) ∙ p))
    go true p true n = let w = again_of h s o n (accepted_is h s o e).1 in absurd (again w _ refl (some_old h s o d w a) p)
    go false p c n = refl

pub new_is_counted : NewIsCounted
new_is_counted h legal s seat o e d a = ap (λ g. known g d) (after-accepted h s seat o p.1 p.0) ∙ go (is_rebirth s) refl
  where
    p : (is_full h ≡ false) × (outcome_of h s ≡ Some o)
    p = accepted_is h s o e

    again : (w : IsAgain h s o) (q : Option Dot) → lookup (same_dot d) (reborn_from (reborn (own h) w.incarnation) 0 (own_dots h)) ≡ q → is_some q ≡ true → known (Then h (next_entry h s seat o)) d ≡ true
    again w None f g = absurd (cc)
    again w (Some old) f g = again_known h (next_entry h s seat o) d old w f

    go : (c : Bool) → is_rebirth s ≡ c → known (Then h (next_entry h s seat o)) d ≡ true
    go false n = let is = added_is h s o d n p.1 a in next_known h (next_entry h s seat o) d n is.0 is.1
    go true n = let w = again_of h s o n p.1 in again w _ refl (some_old h s o d w a)

pub rows_are_known : RowsAreKnown
rows_are_known h legal = (legal_knows h legal).of_row

-- the own replica is within its limits
pub record IsReplica (r : Replica) : Type 0 where
  pub name : IsTrue (is_node_name r.name)
  pub incarnation : IsCount r.incarnation

own_start : (s : Start) → IsStart s → IsReplica (own (Begin s))
unfolding own
own_start s start = record { name = start.name; incarnation = start.incarnation }

reborn_is : (r : Replica) (i : ℕ) → IsReplica r → r.incarnation < i → i ≤ 2 ^ 62 → IsReplica (reborn r i)
reborn_is r i is l m = record { name = is.name; incarnation = (omega (arith, l), m) }

pub own_is : (h : History) → IsLegal h → IsReplica (own h)
own_is (Begin s) l = own_start s l
own_is (Then h e) l = go (is_rebirth e.step) refl (own_is h l.0)
  where
    go : (b : Bool) → is_rebirth e.step ≡ b → IsReplica (own h) → IsReplica (own (Then h e))
    go false n is = subst IsReplica (sym (own-then h e n)) is
    go true n is = let w = again_of h e.step e.outcome n l.1 in subst IsReplica (sym (own_again h e w)) (reborn_is (own h) w.incarnation is w.above w.most)

own_is_dot : (d : Dot) (r : Replica) → IsReplica r → d.replica ≡ r → 1 ≤ d.count → d.count ≤ 2 ^ 62 → IsDot d
own_is_dot d r is o l m =
    record {
      is_name = subst (λ (r : Replica). IsTrue (is_node_name r.name)) (sym o) is.name;
      is_incarnation = subst (λ (r : Replica). IsCount r.incarnation) (sym o) is.incarnation;
      is_count = (l, m);
    }

next_is_dot : (h : History) → IsLegal h → count h + 1 ≤ 2 ^ 62 → IsDot (next_dot h)
next_is_dot h legal most = own_is_dot (next_dot h) (own h) (own_is h legal) refl (omega arith) most

-- the dots of rows are within their limits

again_dot : (h : History) (e : Entry) (d : Dot) (r : Row) → IsLegal (Then h e) → (w : IsAgain h e.step e.outcome) → row_brought e.outcome (row h) (told_row h e.step d) d ≡ Some r → IsDot d
again_dot h e d r l w g = go (lookup (same_dot d) (reborn_from (reborn (own h) w.incarnation) 0 (own_dots h))) refl (sym (ap (λ o. row_brought o (row h) (told_row h e.step d) d) w.outcome) ∙ g)
  where
    go : (o : Option Dot) → lookup (same_dot d) (reborn_from (reborn (own h) w.incarnation) 0 (own_dots h)) ≡ o → row_again (row h) o ≡ Some r → IsDot d
    go None f g = absurd (cc)
    go (Some old) f g =
        let p = again_parts (reborn (own h) w.incarnation) 0 (own_dots h) d old f in
        own_is_dot d (own (Then h e)) (own_is (Then h e) l) (p.0 ∙ sym (own_again h e w)) (omega (arith, p.1)) (omega (arith, p.2, count_again h e w, count-limit (Then h e) l))

-- each row has a dot within its limits
pub rows_have_dots : (h : History) → IsLegal h → (d : Dot) (r : Row) → row h d ≡ Some r → IsDot d
unfolding row
rows_have_dots (Begin s) legal d r f = live_row_dot s.content d r legal.content f
rows_have_dots (Then h e) legal d r f = go (row h d) (row_added e.step e.outcome d) refl refl f (rows_have_dots h legal.0 d)
  where
    brought : (b : Bool) → is_rebirth e.step ≡ b → row_brought e.outcome (row h) (told_row h e.step d) d ≡ Some r → IsDot d
    brought false n g = row_told_dot h e.step d r legal.4 (sym (brought_told e.outcome (row h) (told_row h e.step d) d (kind_plain h e.step e.outcome (kind_of h e.step e.outcome n legal.1))) ∙ g)
    brought true n g = again_dot h e d r legal (again_of h e.step e.outcome n legal.1) g

    go : (o p : Option Row) → row h d ≡ o → row_added e.step e.outcome d ≡ p → first_some o (first_some p (row_brought e.outcome (row h) (told_row h e.step d) d)) ≡ Some r → ((q : Row) → row h d ≡ Some q → IsDot d) → IsDot d
    go (Some q) p is added g ih = ih q is
    go None (Some q) is added g ih =
        let kind = kind_of h e.step e.outcome (added_plain e.step e.outcome d q added) legal.1 in
        let one = one_added h e d q kind added in
        subst IsDot (sym one.0) (next_is_dot h legal.0 (omega (arith, one.1, count-then h e (kind_plain h e.step e.outcome kind), count-limit (Then h e) legal)))
    go None None is added g ih = brought (is_rebirth e.step) refl g

pub refs_are_distinct : RefsAreDistinct
refs_are_distinct h legal d e r s f g same = one_dot d e (rows_have_dots h legal d r f) (rows_have_dots h legal e s g) same

-- what a step leaves of the rows

pub not_added : (s : Step) (o : Outcome) (d : Dot) → has_dot (dots_added o) d ≡ false → row_added s o d ≡ None
not_added s (outcomes_are.Added new) d f = go (same_dot d new) f
  where
    go : (b : Bool) → (b || false) ≡ false → cond b (row_made s None) None ≡ None
    go true p = cc
    go false p = refl
not_added s (outcomes_are.Replaced new old) d f = go (same_dot d new) f
  where
    go : (b : Bool) → (b || false) ≡ false → cond b (row_made s (Some old)) None ≡ None
    go true p = cc
    go false p = refl
not_added s _ d f = refl

of_topic_cond : (t : List ℕ) (b : Bool) (o : Option Row) → of_topic t (cond b None o) ≡ cond b None (of_topic t o)
of_topic_cond t true o = refl
of_topic_cond t false o = refl

keyed_out : (k : List ℕ) (b : Bool) (o : Option Row) → keyed k (cond b None o) ≡ cond b None (keyed k o)
keyed_out k true o = refl
keyed_out k false o = refl

shown_left : (h : History) (s : Step) (seat : Option ℕ) (o : Outcome) (d : Dot) → IsLegal h → is_callers s ≡ true → outcome_of h s ≡ Some o → has_dot (dots_added o) d ≡ false → shown (Then h (next_entry h s seat o)) d ≡ cond (has_dot (dots_taken o) d) None (shown h d)
shown_left h s seat o d legal c e f =
    shown_by h (next_entry h s seat o) d (legal_knows h legal) (kind_of h s o (callers_plain s c) e) c
    ∙ ap (λ x. first_some x (cond (has_dot (dots_taken o) d) None (shown h d))) (not_added s o d f)

pub only_named_leave : OnlyNamedLeave
only_named_leave h legal s seat o c e t p f =
    let is = accepted_is h s o e in
    let later = Then h (next_entry h s seat o) in
    let out = has_dot (dots_taken o) p.dot in
    ap (λ g. map.get (present g t) p) (after-accepted h s seat o is.1 is.0)
    ∙ (get-present later t p
    ∙ (ap (λ x. keyed p.key (of_topic t x)) (shown_left h s seat o p.dot legal c is.1 f)
    ∙ (ap (keyed p.key) (of_topic_cond t out (shown h p.dot))
    ∙ (keyed_out p.key out (shown_of h t p.dot)
    ∙ ap (λ x. cond out None x) (sym (get-present h t p))))))
