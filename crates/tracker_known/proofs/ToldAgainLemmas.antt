-- What a rebirth makes of what is known.
use Rattle.std.proofs.Common.{◌≡◌, ℕ, ◌+◌, ◌<◌, ◌≤◌, ◌^◌, nat_lt, nat_le, Bool, true, false, cond, not, ◌&&◌, ◌||◌, List, [], ◌∷◌, ◌++◌, length, Option, Some, None, refl, sym, ◌∙◌, ap, subst, arith}
use Rattle.std.specs.Prelude.{Result, Ok, Err, OnOk}
use Rattle.std.specs.List.{list_all}
use Rattle.std.specs.Map.{lookup, keys_of}
use Rattle.std.specs.FinSet as set
use Rattle.std.specs.FinMap as map
use Rattle.std.proofs.lemmas.Bool.{and_from, or_left, or_right, le-leb}
use Rattle.presence_base.specs.declared.dots.Replica.{Replica}
use Rattle.presence_base.specs.declared.dots.Dot.{Dot}
use Rattle.presence_base.specs.declared.dots.TheConstants.{MAX_COUNT}
use Rattle.presence_base.specs.declared.row.Row.{Row}
use Rattle.presence_base.specs.Order.{same_dot, same_replica}
use Rattle.dot_context.specs.Sets.{TellsIfAny}
use Rattle.dot_context.proofs.SetFacts.{contains-without}
use Rattle.orswot_core.specs.Limits.{is_count, is_dot, is_row, is_range}
use Rattle.orswot_core.specs.Telling.{Range, ToldValue, covers, live_row}
use Rattle.orswot_core.specs.Checks.{IsTold}
use Rattle.orswot_core.specs.Sets.{DotRows, joined_row, without_replica, rows_by}
use Rattle.orswot_core.specs.Laws.{TakesIn}
use Rattle.replica_status.specs.declared.status.Status.{Status}
use Rattle.replica_status.specs.declared.status.Status.TheVariants as status_is
use Rattle.replica_status.specs.Table.{is_unheard}
use Rattle.presence_journal.specs.declared.step.Step.TheVariants as steps_are
use Rattle.presence_journal.specs.declared.entry.Entry.{Entry}
use Rattle.presence_journal.specs.History.{History, Then, own, reborn, count, own_after, is_counted, has_dot, with_prev, row_again, is_gone, status, known, removed, covered, row, live, shown}
use Rattle.presence_journal.specs.Table.{IsLegal, own_dots, reborn_from, pairs_for, can_be_reborn}
use Rattle.presence_journal.specs.Walk.{is_rebirth, pairs_in}
use Rattle.presence_journal.proofs.Same.{same_dot-refl, same_replica-true, same_replica-refl}
use Rattle.presence_journal.proofs.PresentLemmas.{shown-row}
use Rattle.presence_journal.proofs.Reborn.{IsAgain, again_of, own_dot, again_parts, length_reborn}
use Rattle.presence_journal.proofs.HistoryLemmas.{legal_knows, own_again, count_again, again_unknown, counted_from, status-own}
use Rattle.presence_journal.proofs.Walking.{count-limit}
use Rattle.presence_journal.proofs.AfterRebirth.{pairs_of, new_is_other, old_is_gone, others_stay, known_again, live_of_new, live_of_others, none_of_new, shown_of_new, shown_of_old, shown_of_others}
use Rattle.presence_journal_known.specs.LeftOut.{HoldsCovered}
use Rattle.presence_journal_known.proofs.PairsLemmas.{own_kept, few_own_rows, own_pairs_are, can_go_on_is}
use Rattle.presence_journal_known.proofs.RebornLemmas.{again_limits, row_limits, goes_on_is_dot}
use Rattle.tracker_shown.specs.declared.turn.Turn.{Turn}
use Rattle.tracker_shown.specs.Turns.{came, IsListOf, joins_at, leaves_at}
use Rattle.tracker_known.specs.Picks.{picked, of_replica, one_row}
use Rattle.tracker_known.specs.Again.{rows_again}
use Rattle.tracker_known.proofs.GatherLemmas.{list_like}
use Rattle.tracker_known.proofs.AgainLemmas.{once_again, lists_again}
use Rattle.tracker_known.specs.Standings.{OthersReborn, OthersStay, status_at}
use Rattle.tracker_known.proofs.OthersLemmas.{status_kept}
use Rattle.tracker_known.specs.declared.known.Known.{Known}
use Rattle.tracker_known.specs.Known.{IsKnownOf, IsOfOne, CanFollow, Follows, Stays, kept}
use Rattle.tracker_known.specs.Steps.{CanBeReborn, told_again}
use Rattle.tracker_known.specs.Turns.{TurnsEntry}
use Rattle.tracker_known.proofs.FadingLemmas.{get_without}

own-is : (h : History) (e : Entry) → own (Then h e) ≡ own_after e.step (own h)
unfolding own
own-is h e = refl

-- the pairs of a rebirth are those of its history

pairs-are : (h : History) (e : Entry) (w : IsAgain h e.step e.outcome) (ps : List (Dot × Dot)) → ps ≡ pairs_in e.outcome → ps ≡ pairs_of h e w
pairs-are h e w ps is = is ∙ ap pairs_in w.outcome

-- the old rows in the set are those that were shown

old_rows : (h : History) (s : DotRows) → HoldsCovered h s → (r : Replica) (d : Dot) (x : Option Dot) → lookup (same_dot d) (reborn_from r 0 (own_dots h)) ≡ x → row_again (map.get s.live) x ≡ row_again (shown h) x
old_rows h s holds r d None f = refl
old_rows h s holds r d (Some old) f =
    let g = own_dot h old (again_parts r 0 (own_dots h) d old f).3 in
    ap (with_prev old) (holds.live old ∙ own_kept h old g.own)

-- what is told of a rebirth

none_more : (b : Bool) → (b || false) ≡ b
none_more true = refl
none_more false = refl

told_covers-is : (s : DotRows) (r : Replica) (ps : List (Dot × Dot)) (d : Dot) → covers (told_again (map.get s.live) r ps) d ≡ is_counted r (length ps) d
told_covers-is s r ps d = none_more (is_counted r (length ps) d || false) ∙ none_more (is_counted r (length ps) d)

told_rows-are : (h : History) (s : DotRows) → HoldsCovered h s → (r : Replica) (ps : List (Dot × Dot)) → ps ≡ reborn_from r 0 (own_dots h) → (d : Dot) → live_row (told_again (map.get s.live) r ps) d ≡ row_again (shown h) (lookup (same_dot d) ps)
told_rows-are h s holds r ps same d =
    (lists_again (map.get s.live) r (own_dots h) ps (rows_again (map.get s.live) ps) same refl).found d
    ∙ (ap (λ qs. row_again (map.get s.live) (lookup (same_dot d) qs)) same
    ∙ (old_rows h s holds r d (lookup (same_dot d) (reborn_from r 0 (own_dots h))) refl
    ∙ ap (λ qs. row_again (shown h) (lookup (same_dot d) qs)) (sym same)))

-- the set after it

-- nothing of the new one was covered
uncovered : (h : History) (e : Entry) (d : Dot) (w : IsAgain h e.step e.outcome) → same_replica d.replica (own (Then h e)) ≡ true → known h d ≡ false
uncovered h e d w o = go (known h d) refl
  where
    go : (b : Bool) → known h d ≡ b → b ≡ false
    go false f = refl
    go true f = absurd (again_unknown h d w.incarnation w.fresh (same_replica-true d.replica (own (Then h e)) o ∙ own_again h e w) f)

unlive : (h : History) (e : Entry) (d : Dot) → IsLegal h → (w : IsAgain h e.step e.outcome) → same_replica d.replica (own (Then h e)) ≡ true → live h d ≡ None
unfolding live
unlive h e d l w o = go (row h d) refl
  where
    none : (b : Bool) → cond {A = Option Row} b None None ≡ None
    none true = refl
    none false = refl

    go : (x : Option Row) → row h d ≡ x → live h d ≡ None
    go None f = ap (λ x. cond (removed h d) None x) f ∙ none (removed h d)
    go (Some r) f =
        absurd
        (again_unknown h d w.incarnation w.fresh (same_replica-true d.replica (own (Then h e)) o ∙ own_again h e w)
        ((legal_knows h l).of_row d r f))

and_false : (b : Bool) → (b && false) ≡ false
and_false true = refl
and_false false = refl

nothing_by : (g : Bool) → cond {A = Option Row} g None None ≡ None
nothing_by true = refl
nothing_by false = refl

new_row : (o : Option Row) (c : Bool) → joined_row None false o c ≡ o
new_row None c = refl
new_row (Some r) c = refl

unheard : (l : Option Row) (k : Bool) → joined_row l k None false ≡ l
unheard (Some r) k = refl
unheard None k = refl

module _ (h : History) (e : Entry) (w : IsAgain h e.step e.outcome) (l : IsLegal (Then h e)) where
  pub no_pair : (d : Dot) → same_replica d.replica (own (Then h e)) ≡ false → lookup (same_dot d) (pairs_of h e w) ≡ None
  no_pair d q = go (lookup (same_dot d) (pairs_of h e w)) refl
    where
      go : (o : Option Dot) → lookup (same_dot d) (pairs_of h e w) ≡ o → o ≡ None
      go None f = refl
      go (Some old) f =
          let o : d.replica ≡ own (Then h e) = (again_parts (reborn (own h) w.incarnation) 0 (own_dots h) d old f).0 ∙ sym (own_again h e w) in
          let g : true ≡ false = sym (ap (λ r. same_replica r (own (Then h e))) o ∙ same_replica-refl (own (Then h e))) ∙ q in
          absurd (cc)

  new_is_up : (d : Dot) → same_replica d.replica (own (Then h e)) ≡ true → status (Then h e) d.replica ≡ status_is.Up
  new_is_up d q = ap (status (Then h e)) (same_replica-true d.replica (own (Then h e)) q) ∙ status-own (Then h e)

  many : length (pairs_of h e w) ≡ length (own_dots h)
  many = length_reborn (reborn (own h) w.incarnation) 0 (own_dots h)

  at_covered : (d : Dot) (a b : Bool) → same_replica d.replica (own h) ≡ a → same_replica d.replica (own (Then h e)) ≡ b
      → ((covered h d || is_counted (own (Then h e)) (length (pairs_of h e w)) d) && not a) ≡ covered (Then h e) d
  at_covered d true b p q =
      and_false (covered h d || is_counted (own (Then h e)) (length (pairs_of h e w)) d)
      ∙ sym (ap (λ y. known (Then h e) d && not (is_gone y)) (old_is_gone h e d.replica w p) ∙ and_false (known (Then h e) d))
  at_covered d false true p q =
      (λ i. ((uncovered h e d w q i && not (is_gone (status h d.replica))) || is_counted (own (Then h e)) (many i) d) && true)
      ∙ sym
      ((λ i. known_again h e d w i && not (is_gone (new_is_up d q i)))
      ∙ (λ i. (uncovered h e d w q i || is_counted (own (Then h e)) (length (own_dots h)) d) && true))
  at_covered d false false p q =
      ap (λ b. (covered h d || (b && (nat_lt 0 d.count && nat_le d.count (length (pairs_of h e w))))) && true) q
      ∙ (shape (known h d) (not (is_gone (status h d.replica)))
      ∙ sym
      ((λ i. known_again h e d w i && not (is_gone (others_stay h e d.replica w p q i)))
      ∙ ap (λ b. (known h d || (b && (nat_lt 0 d.count && nat_le d.count (length (own_dots h))))) && not (is_gone (status h d.replica))) q))
    where
      shape : (k g : Bool) → (((k && g) || false) && true) ≡ ((k || false) && g)
      shape true true = refl
      shape true false = refl
      shape false g = refl

  at_live : (d : Dot) (a b : Bool) → same_replica d.replica (own h) ≡ a → same_replica d.replica (own (Then h e)) ≡ b
      → cond a None (joined_row (kept h d) (covered h d) (row_again (shown h) (lookup (same_dot d) (pairs_of h e w))) (is_counted (own (Then h e)) (length (pairs_of h e w)) d)) ≡ kept (Then h e) d
  at_live d true b p q = sym (ap (λ y. cond (is_gone y) None (live (Then h e) d)) (old_is_gone h e d.replica w p))
  at_live d false true p q =
      (λ i. joined_row (cond (is_gone (status h d.replica)) None (unlive h e d l.0 w q i)) (uncovered h e d w q i && not (is_gone (status h d.replica))) again counted)
      ∙ (ap (λ o. joined_row o false again counted) (nothing_by (is_gone (status h d.replica)))
      ∙ (new_row again counted
      ∙ sym (ap (λ y. cond (is_gone y) None (live (Then h e) d)) (new_is_up d q) ∙ live_of_new h e d w l.0 q)))
    where
      again : Option Row
      again = row_again (shown h) (lookup (same_dot d) (pairs_of h e w))

      counted : Bool
      counted = is_counted (own (Then h e)) (length (pairs_of h e w)) d
  at_live d false false p q =
      (λ i. joined_row (kept h d) (covered h d) (row_again (shown h) (no_pair d q i)) (q i && (nat_lt 0 d.count && nat_le d.count (length (pairs_of h e w)))))
      ∙ (unheard (kept h d) (covered h d)
      ∙ sym (λ i. cond (is_gone (others_stay h e d.replica w p q i)) None (live_of_others h e d w q i)))

  own_pairs : pairs_of h e w ≡ reborn_from (own (Then h e)) 0 (own_dots h)
  own_pairs = ap (λ r. reborn_from r 0 (own_dots h)) (sym (own_again h e w))

  -- once what is told of it is joined, and the old replica forgotten
  pub holds_again : (s u : DotRows) → HoldsCovered h s → TakesIn s (told_again (map.get s.live) (own (Then h e)) (pairs_of h e w)) u → HoldsCovered (Then h e) (without_replica u (own h))
  holds_again s u holds takes = record {
    covered = λ d.
        contains-without u.covered (own h) d
        ∙ (ap (λ b. b && not (same_replica d.replica (own h))) ((takes d).0 ∙ (λ i. holds.covered d i || told_covers-is s (own (Then h e)) (pairs_of h e w) d i))
        ∙ at_covered d (same_replica d.replica (own h)) (same_replica d.replica (own (Then h e))) refl refl);
    live = λ d.
        get_without u (own h) d
        ∙ (ap (λ o. cond (same_replica d.replica (own h)) None o)
        ((takes d).1
        ∙ (λ i. joined_row (holds.live d i) (holds.covered d i) (told_rows-are h s holds (own (Then h e)) (pairs_of h e w) own_pairs d i) (told_covers-is s (own (Then h e)) (pairs_of h e w) d i)))
        ∙ at_live d (same_replica d.replica (own h)) (same_replica d.replica (own (Then h e))) refl refl);
  }

  -- the turn of it

  pub joins_again : (s : DotRows) → HoldsCovered h s → (d : Dot) → row_again (map.get s.live) (lookup (same_dot d) (pairs_of h e w)) ≡ joins_at h e d
  joins_again s holds d = go (same_replica d.replica (own h)) (same_replica d.replica (own (Then h e))) refl refl
    where
      no_more : (o : Option Row) → None ≡ came o None
      no_more None = refl
      no_more (Some r) = refl

      same : (o : Option Row) → None ≡ came o o
      same None = refl
      same (Some r) = refl

      apart : (a b : Bool) → same_replica d.replica (own h) ≡ true → same_replica d.replica (own (Then h e)) ≡ false
      apart a b p = ap (λ r. same_replica r (own (Then h e))) (same_replica-true d.replica (own h) p) ∙ new_is_other h e w

      go : (a b : Bool) → same_replica d.replica (own h) ≡ a → same_replica d.replica (own (Then h e)) ≡ b → row_again (map.get s.live) (lookup (same_dot d) (pairs_of h e w)) ≡ joins_at h e d
      go true b p q = ap (row_again (map.get s.live)) (no_pair d (apart true b p)) ∙ (no_more (shown h d) ∙ ap (came (shown h d)) (sym (shown_of_old h e d w p)))
      go false true p q =
          old_rows h s holds (reborn (own h) w.incarnation) d (lookup (same_dot d) (pairs_of h e w)) refl
          ∙ (sym (shown_of_new h e d w l.0 q) ∙ ap (λ o. came o (shown (Then h e) d)) (sym (none_of_new h e d l.0 w q)))
      go false false p q = ap (row_again (map.get s.live)) (no_pair d q) ∙ (same (shown h d) ∙ ap (came (shown h d)) (sym (shown_of_others h e d w p q)))

  pub leaves_again : (s : DotRows) → HoldsCovered h s → (d : Dot) → picked s.live (of_replica (own h)) d ≡ leaves_at h e d
  leaves_again s holds d = go (same_replica d.replica (own h)) (same_replica d.replica (own (Then h e))) refl refl
    where
      no_more : (o : Option Row) → None ≡ came o None
      no_more None = refl
      no_more (Some r) = refl

      same : (o : Option Row) → None ≡ came o o
      same None = refl
      same (Some r) = refl

      go : (a b : Bool) → same_replica d.replica (own h) ≡ a → same_replica d.replica (own (Then h e)) ≡ b → cond (same_replica d.replica (own h)) (map.get s.live d) None ≡ leaves_at h e d
      go true b p q =
          ap (λ c. cond c (map.get s.live d) None) p
          ∙ (holds.live d ∙ (own_kept h d (same_replica-true d.replica (own h) p) ∙ ap (λ o. came o (shown h d)) (sym (shown_of_old h e d w p))))
      go false true p q = ap (λ c. cond c (map.get s.live d) None) p ∙ (no_more (shown (Then h e) d) ∙ ap (came (shown (Then h e) d)) (sym (none_of_new h e d l.0 w q)))
      go false false p q = ap (λ c. cond c (map.get s.live d) None) p ∙ (same (shown h d) ∙ ap (λ o. came o (shown h d)) (sym (shown_of_others h e d w p q)))

-- what is told is sound

all_under : (Q : Dot × Row → Bool) (f : Dot → Option Row) (r : Replica) (n : ℕ) (ds : List Dot) → ((c : ℕ) (d : Dot) (y : Row) → n < c → c ≤ n + length ds → has_dot ds d ≡ true → with_prev d (f d) ≡ Some y → Q (record { replica = r; count = c }, y) ≡ true)
    → list_all Q (rows_again f (reborn_from r n ds)) ≡ true
all_under Q f r n [] fits = refl
all_under Q f r n (x ∷ xs) fits =
    go (with_prev x (f x)) refl
    (all_under Q f r (n + 1) xs (λ c d y low high k q. fits c d y (omega (arith, low)) (omega (arith, high)) (or_right (same_dot d x) (has_dot xs d) k) q))
  where
    go : (o : Option Row) → with_prev x (f x) ≡ o → list_all Q (rows_again f (reborn_from r (n + 1) xs)) ≡ true → list_all Q (one_row (record { replica = r; count = n + 1 }) o ++ rows_again f (reborn_from r (n + 1) xs)) ≡ true
    go None q ih = ih
    go (Some y) q ih =
        and_from (Q (record { replica = r; count = n + 1 }, y)) (list_all Q (rows_again f (reborn_from r (n + 1) xs)))
        (fits (n + 1) x y (omega arith) (omega arith) (or_left (same_dot x x) (has_dot xs x) (same_dot-refl x)) q) ih

told_sound_of : (h : History) (e : Entry) (w : IsAgain h e.step e.outcome) → IsLegal (Then h e) → (s : DotRows) → HoldsCovered h s → IsTold (told_again (map.get s.live) (own (Then h e)) (reborn_from (own (Then h e)) 0 (own_dots h)))
told_sound_of h e w l s holds = record {
  forward = and_from (nat_le 0 (length ps)) true (le-leb 0 (length ps) (omega arith)) refl;
  ranges = and_from (is_range (r, 0, length ps)) true (and_from (is_count r.incarnation) (nat_le 0 MAX_COUNT && nat_le (length ps) MAX_COUNT) counts (and_from (nat_le 0 MAX_COUNT) (nat_le (length ps) MAX_COUNT) (le-leb 0 MAX_COUNT (omega arith)) (le-leb (length ps) MAX_COUNT (omega (arith, few, as_many))))) refl;
  extras = refl;
  rows = all_under (λ x. is_dot x.0 && is_row x.1) (map.get s.live) r 0 (own_dots h) (λ c d y low high k q.
      and_from (is_dot (record { replica = r; count = c })) (is_row y) (dot_fits c low high) (row_fits d y k q));
  covered = all_under (λ x. covers (told_again (map.get s.live) r ps) x.0) (map.get s.live) r 0 (own_dots h) (λ c d y low high k q.
      told_covers-is s r ps (record { replica = r; count = c })
      ∙ counted_from r (length ps) (record { replica = r; count = c }) refl (omega (arith, low)) (omega (arith, high, as_many)));
  once = once_again (map.get s.live) r 0 (own_dots h);
}
  where
    r : Replica
    r = own (Then h e)

    ps : List (Dot × Dot)
    ps = reborn_from r 0 (own_dots h)

    as_many : length ps ≡ length (own_dots h)
    as_many = length_reborn r 0 (own_dots h)

    few : length (own_dots h) ≤ MAX_COUNT
    few = omega (arith, count_again h e w, count-limit (Then h e) l)

    counts : is_count r.incarnation ≡ true
    counts =
        ap (λ (q : Replica). is_count q.incarnation) (own_again h e w)
        ∙ and_from (nat_le 1 w.incarnation) (nat_le w.incarnation MAX_COUNT) (le-leb 1 w.incarnation (omega (arith, w.above))) (le-leb w.incarnation MAX_COUNT (omega (arith, w.most)))

    dot_fits : (c : ℕ) → 0 < c → c ≤ 0 + length (own_dots h) → is_dot (record { replica = r; count = c }) ≡ true
    dot_fits c low high =
        and_from (is_count r.incarnation) (is_count c) counts
        (and_from (nat_le 1 c) (nat_le c MAX_COUNT) (le-leb 1 c (omega (arith, low))) (le-leb c MAX_COUNT (omega (arith, high, few))))

    row_fits : (d : Dot) (y : Row) → has_dot (own_dots h) d ≡ true → with_prev d (map.get s.live d) ≡ Some y → is_row y ≡ true
    row_fits d y k q =
        let g = own_dot h d k in
        again_limits (map.get s.live d) d y
        (λ x f. row_limits h l.0 d x ((shown-row h d g.row g.shown).0 ∙ (sym (holds.live d ∙ (own_kept h d g.own ∙ g.shown)) ∙ f)))
        (goes_on_is_dot h d l.0 g) q

pub told_sound : (s : DotRows) (r : Replica) (ps : List (Dot × Dot)) → CanBeReborn s r ps → (live : List (Dot × Row)) → live ≡ rows_again (map.get s.live) ps → IsTold (record { ranges = (r, 0, length ps) ∷ []; extras = []; live = live })
told_sound s r ps can live is =
    subst (λ xs. IsTold (record { ranges = (r, 0, length ps) ∷ []; extras = []; live = xs })) (sym is)
    (subst (λ (q : Replica). IsTold (told_again (map.get s.live) q ps)) (sym can.new)
    (subst (λ (qs : List (Dot × Dot)). IsTold (told_again (map.get s.live) (own (Then can.before can.entry)) qs)) (sym same)
    (told_sound_of can.before can.entry w can.legal s can.holds)))
  where
    w : IsAgain can.before can.entry.step can.entry.outcome
    w = again_of can.before can.entry.step can.entry.outcome can.step can.legal.1

    same : ps ≡ reborn_from (own (Then can.before can.entry)) 0 (own_dots can.before)
    same = pairs-are can.before can.entry w ps can.pairs_are ∙ own_pairs can.before can.entry w can.legal

-- the same, as its parts are made
pub told_made : (s : DotRows) (r : Replica) (ps : List (Dot × Dot)) → CanBeReborn s r ps → (none ranges : List Range) (extras : List Dot) (live : List (Dot × Row)) → none ≡ [] → ranges ≡ none ++ (r, 0, length ps) ∷ [] → extras ≡ [] → live ≡ rows_again (map.get s.live) ps
    → IsTold (record { ranges = ranges; extras = extras; live = live })
told_made s r ps can none ranges extras live empty pushed bare is =
    let one : List Range = (r, 0, length ps) ∷ [] in
    let told : List Range → List Dot → ToldValue = λ gs ds. record { ranges = gs; extras = ds; live = live } in
    let first : one ≡ ranges = sym (pushed ∙ ap (λ gs. gs ++ one) empty) in
    let same : told one [] ≡ told ranges extras = λ i. told (first i) (sym bare i) in
    subst IsTold same (told_sound s r ps can live is)

-- what is known after a rebirth

again_in : (h : History) (e : Entry) (i : ℕ) → e.step ≡ steps_are.Rebirth i → IsLegal (Then h e) → IsAgain h e.step e.outcome
again_in h e i is l = again_of h e.step e.outcome (ap is_rebirth is) l.1

pub can_rejoin : (k : Known) (e : Entry) (i : ℕ) (new : Replica) (ps : List (Dot × Dot)) → e.step ≡ steps_are.Rebirth i → new ≡ own_after e.step k.others.own → ps ≡ pairs_in e.outcome → CanFollow k e → CanBeReborn k.set new ps
can_rejoin k e i new ps is new_is pairs can = record {
  before = can.before;
  entry = e;
  legal = can.legal;
  holds = can.known.set;
  new = new_is ∙ (ap (own_after e.step) can.known.others.own ∙ sym (own-is can.before e));
  step = ap is_rebirth is;
  pairs_are = pairs;
}

pub follows_reborn : (k l : Known) (e : Entry) (i : ℕ) (new old : Replica) (ps : List (Dot × Dot)) (mid : DotRows) → e.step ≡ steps_are.Rebirth i → new ≡ own_after e.step k.others.own → old ≡ k.others.own → ps ≡ pairs_in e.outcome
    → TakesIn k.set (told_again (map.get k.set.live) new ps) mid → l.set ≡ without_replica mid old → OthersReborn k.others i l.others → l.count ≡ length ps → Follows k e l
follows_reborn k l e i new old ps mid is new_is old_is pairs takes left others counts h legal known = record {
  set = subst (HoldsCovered (Then h e)) (sym (left ∙ ap (without_replica mid) (old_is ∙ known.others.own)))
      (holds_again h e w legal k.set mid known.set
      (subst (λ (qs : List (Dot × Dot)). TakesIn k.set (told_again (map.get k.set.live) (own (Then h e)) qs) mid) same
      (subst (λ (q : Replica). TakesIn k.set (told_again (map.get k.set.live) q ps) mid) mine takes)));
  others = others h e legal is known.others;
  count = counts ∙ (ap length same ∙ (length_reborn (reborn (own h) w.incarnation) 0 (own_dots h) ∙ sym (count_again h e w)));
}
  where
    w : IsAgain h e.step e.outcome
    w = again_in h e i is legal

    same : ps ≡ pairs_of h e w
    same = pairs-are h e w ps pairs

    mine : new ≡ own (Then h e)
    mine = new_is ∙ (ap (own_after e.step) known.others.own ∙ sym (own-is h e))

-- what holds of a result that is no error
pub was_ok : {A E P : Type 0} (r : Result A E) → ((x : E) → r ≡ Err x → ⊥) → OnOk r P → P
was_ok (Ok x) f p = p
was_ok (Err x) f p = absurd (f x refl)

-- and where the old replica could not be put down
pub stays_reborn : (k l : Known) (e : Entry) (i : ℕ) (new : Replica) (ps : List (Dot × Dot)) (mid : DotRows) → e.step ≡ steps_are.Rebirth i → new ≡ own_after e.step k.others.own → ps ≡ pairs_in e.outcome → CanFollow k e
    → TakesIn k.set (told_again (map.get k.set.live) new ps) mid → l.set ≡ without_replica mid new → OthersStay k.others l.others → l.count ≡ k.count → Stays k l
stays_reborn k l e i new ps mid is new_is pairs can takes left others counts g known = record {
  set = record {
    covered = λ d. as_before_covered d ∙ known.set.covered d;
    live = λ d. as_before_live d ∙ known.set.live d;
  };
  others = others g known.others;
  count = counts ∙ known.count;
}
  where
    h : History
    h = can.before

    w : IsAgain h e.step e.outcome
    w = again_in h e i is can.legal

    mine : new ≡ own (Then h e)
    mine = new_is ∙ (ap (own_after e.step) can.known.others.own ∙ sym (own-is h e))

    same : ps ≡ reborn_from new 0 (own_dots h)
    same = pairs-are h e w ps pairs ∙ (own_pairs h e w can.legal ∙ ap (λ r. reborn_from r 0 (own_dots h)) (sym mine))

    -- of the new replica the set had nothing
    none_covered : (d : Dot) → same_replica d.replica new ≡ true → set.contains k.set.covered d ≡ false
    none_covered d p = can.known.set.covered d ∙ ap (λ b. b && not (is_gone (status h d.replica))) (uncovered h e d w (ap (same_replica d.replica) (sym mine) ∙ p))

    none_live : (d : Dot) → same_replica d.replica new ≡ true → map.get k.set.live d ≡ None
    none_live d p =
        can.known.set.live d
        ∙ (ap (λ o. cond (is_gone (status h d.replica)) None o) (unlive h e d can.legal.0 w (ap (same_replica d.replica) (sym mine) ∙ p))
        ∙ nothing_by (is_gone (status h d.replica)))

    as_before_covered : (d : Dot) → set.contains l.set.covered d ≡ set.contains k.set.covered d
    as_before_covered d =
        ap (λ (u : DotRows). set.contains u.covered d) left
        ∙ (contains-without mid.covered new d
        ∙ (ap (λ b. b && not (same_replica d.replica new)) ((takes d).0 ∙ ap (λ b. set.contains k.set.covered d || b) (told_covers-is k.set new ps d))
        ∙ go (same_replica d.replica new) refl))
      where
        kept_so : (c : Bool) → ((c || false) && true) ≡ c
        kept_so true = refl
        kept_so false = refl

        go : (b : Bool) → same_replica d.replica new ≡ b → ((set.contains k.set.covered d || (b && (nat_lt 0 d.count && nat_le d.count (length ps)))) && not b) ≡ set.contains k.set.covered d
        go true p = and_false (set.contains k.set.covered d || (nat_lt 0 d.count && nat_le d.count (length ps))) ∙ sym (none_covered d p)
        go false p = kept_so (set.contains k.set.covered d)

    as_before_live : (d : Dot) → map.get l.set.live d ≡ map.get k.set.live d
    as_before_live d =
        ap (λ (u : DotRows). map.get u.live d) left
        ∙ (get_without mid new d
        ∙ (ap (λ o. cond (same_replica d.replica new) None o) ((takes d).1 ∙ ap (λ c. joined_row (map.get k.set.live d) (set.contains k.set.covered d) (live_row told d) c) (told_covers-is k.set new ps d))
        ∙ go (same_replica d.replica new) refl))
      where
        told : ToldValue
        told = told_again (map.get k.set.live) new ps

        no_row : same_replica d.replica new ≡ false → live_row told d ≡ None
        no_row p =
            told_rows-are h k.set can.known.set new ps same d
            ∙ (ap (λ qs. row_again (shown h) (lookup (same_dot d) qs)) (pairs-are h e w ps pairs)
            ∙ ap (row_again (shown h)) (no_pair h e w can.legal d (ap (same_replica d.replica) (sym mine) ∙ p)))

        go : (b : Bool) → same_replica d.replica new ≡ b → cond b None (joined_row (map.get k.set.live d) (set.contains k.set.covered d) (live_row told d) (b && (nat_lt 0 d.count && nat_le d.count (length ps)))) ≡ map.get k.set.live d
        go true p = sym (none_live d p)
        go false p = ap (λ o. joined_row (map.get k.set.live d) (set.contains k.set.covered d) o false) (no_row p) ∙ unheard (map.get k.set.live d) (set.contains k.set.covered d)

pub turn_reborn : (k : Known) (e : Entry) (t : Turn) (ps : List (Dot × Dot)) → is_rebirth e.step ≡ true → ps ≡ pairs_in e.outcome → t.joins.items ≡ rows_again (map.get k.set.live) ps → IsListOf (picked k.set.live (of_replica k.others.own)) t.leaves.items → TurnsEntry k e t
turn_reborn k e t ps n pairs joins leaves h l known = record {
  joins = list_like (λ d. row_again (map.get k.set.live) (lookup (same_dot d) ps)) (joins_at h e) t.joins.items
      (λ d. ap (λ qs. row_again (map.get k.set.live) (lookup (same_dot d) qs)) same ∙ joins_again h e w l k.set known.set d)
      (lists_again (map.get k.set.live) (reborn (own h) w.incarnation) (own_dots h) ps t.joins.items same joins);
  leaves = list_like (picked k.set.live (of_replica k.others.own)) (leaves_at h e) t.leaves.items
      (λ d. ap (λ r. picked k.set.live (of_replica r) d) known.others.own ∙ leaves_again h e w l k.set known.set d) leaves;
}
  where
    w : IsAgain h e.step e.outcome
    w = again_of h e.step e.outcome n l.1

    same : ps ≡ pairs_of h e w
    same = pairs-are h e w ps pairs

-- which pairs a rebirth would have, and whether it can be

pub few_rows : (k : Known) (es : List (Dot × Row)) → es ≡ rows_by k.set.live k.others.own → IsOfOne k → length es ≤ 2 ^ 62
few_rows k es is one = few_own_rows one.history k.set k.others.own es one.legal one.known.set one.known.others.own is

pub pairs_are : (h : History) (k : Known) (i : ℕ) (es : List (Dot × Row)) (ps : List (Dot × Dot)) → es ≡ rows_by k.set.live k.others.own → ps ≡ reborn_from (reborn k.others.own i) 0 (keys_of es) → IsKnownOf h k → ps ≡ pairs_for h i
pairs_are h k i es ps is same known = own_pairs_are h k.set k.others.own i es ps known.set known.others.own is same

pub can_be : (h : History) (k : Known) (i : ℕ) (x : Status) (b : Bool) → IsKnownOf h k → x ≡ status_at k.others (reborn k.others.own i) → TellsIfAny k.set.covered (reborn k.others.own i) b
    → (nat_lt k.others.own.incarnation i && (nat_le i (2 ^ 62) && (is_unheard x && not b))) ≡ can_be_reborn h i
can_be h k i x b known is tells =
    can_go_on_is h k.set k.others.own known.set known.others.own i x b
    (is ∙ (status_kept h k.others (reborn k.others.own i) known.others ∙ ap (λ o. status h (reborn o i)) known.others.own)) tells
