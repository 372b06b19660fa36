-- What an entry of the own replica, or a merge, makes of the set.
use Rattle.std.proofs.Common.{◌≡◌, ◌≤◌, length, Bool, true, false, cond, not, nat_eq, ◌&&◌, ◌||◌, List, [], ◌∷◌, Option, Some, None, refl, sym, ◌∙◌, ap, subst, arith, inl, inr}
use Rattle.std.specs.Prelude.{◌⊎◌, max}
use Rattle.std.specs.List.{AllByRecursion, list_all}
use Rattle.std.specs.FinSet as set
use Rattle.std.specs.FinMap as map
use Rattle.std.proofs.lemmas.Bool.{and_from, and_parts, or_left, or_cases}
use Rattle.presence_base.specs.declared.dots.Replica.{Replica}
use Rattle.presence_base.specs.declared.dots.Dot.{Dot}
use Rattle.presence_base.specs.declared.row.Row.{Row}
use Rattle.presence_base.specs.Order.{same_dot, same_replica}
use Rattle.orswot_core.specs.Limits.{is_dot, is_row}
use Rattle.orswot_core.specs.Telling.{ToldValue, covers, live_row, cut_to}
use Rattle.orswot_core.specs.Checks.{IsTold}
use Rattle.orswot_core.proofs.CutFacts.{cut_tells}
use Rattle.orswot_core.proofs.OrderFacts.{dot_total}
use Rattle.orswot_core.specs.Sets.{DotRows, joined_row, with_dot, removed as taken_out}
use Rattle.orswot_core.specs.Laws.{TakesIn}
use Rattle.orswot_core.proofs.SoundFacts.{without_rows_at}
use Rattle.replica_status.specs.declared.status.Status.TheVariants as status_is
use Rattle.replica_status.specs.Table.{status_of}
use Rattle.presence_journal.specs.declared.entry.Outcome.TheVariants as outcomes_are
use Rattle.presence_journal.specs.declared.step.Step.TheVariants as steps_are
use Rattle.presence_journal.specs.declared.entry.Entry.{Entry}
use Rattle.presence_journal.specs.History.{History, Then, own, counts_used, status, is_gone, hears, known, covered, next_dot, has_dot, first_some, row_made, row_added, live, standing, standing_after, time, time_of, own_after}
use Rattle.presence_journal.specs.Present.{dots_taken}
use Rattle.presence_journal.specs.Merges.{row_taken_in}
use Rattle.presence_journal.specs.Table.{IsLegal}
use Rattle.presence_journal.specs.Laws.{is_callers}
use Rattle.presence_journal.proofs.Same.{same_dot-refl, same_dot-true}
use Rattle.presence_journal.proofs.ToldLemmas.{none_told_covers, callers_tell_none}
use Rattle.presence_journal.proofs.Merges.{merge_is_known, merge_is_live}
use Rattle.presence_journal.specs.Walk.{is_reborn}
use Rattle.presence_journal.proofs.Walking.{quiet_uses_none}
use Rattle.presence_journal.proofs.PresentLemmas.{shown-row}
use Rattle.presence_journal.proofs.HistoryLemmas.{IsOwnShown, is_quiet, kind_of, legal_knows, one_added, next_unknown, known_quiet, no_more, status-own, status_stays, live_by, live-next, quiet_row, quiet_taken, callers_plain, kind_plain}
use Rattle.presence_journal_known.specs.LeftOut.{HoldsCovered}
use Rattle.presence_journal_known.specs.Walked.{with_made}
use Rattle.presence_journal_known.proofs.OwnLemmas.{rest_is_quiet, known_used, is_in, is_swap, AreOut, out, out_dots, old_dot, next_dot_limits, made_within}
use Rattle.tracker_known.specs.Known.{kept}
use Rattle.tracker_known.specs.Standings.{hears_at}
use Rattle.tracker_known.specs.Steps.{CanTake, Takes, TakesMerge, told_swap}
use Rattle.tracker_known.specs.declared.others.Others.{Others}
use Rattle.tracker_known.proofs.OthersLemmas.{hears_is}

-- own dots are of a replica that is up

pub not_gone_own : (h : History) (d : Dot) → d.replica ≡ own h → is_gone (status h d.replica) ≡ false
not_gone_own h d o = ap (λ r. is_gone (status h r)) o ∙ ap is_gone (status-own h)

own_next : (h : History) (d : Dot) → same_dot d (next_dot h) ≡ true → d.replica ≡ own h
own_next h d e = ap (λ (x : Dot). x.replica) (same_dot-true d (next_dot h) e)

-- what is covered once a count is used
covered_used : (h : History) (e : Entry) (d : Dot) → IsLegal h → counts_used e.outcome ≡ 1 → is_callers e.step ≡ true → covered (Then h e) d ≡ (same_dot d (next_dot h) || covered h d)
covered_used h e d l u c =
    (λ i. known_used h e d l (callers_plain e.step c) u (callers_tell_none e.step c) i && not (is_gone (status_stays h e d.replica c i)))
    ∙ go (same_dot d (next_dot h)) refl
  where
    go : (b : Bool) → same_dot d (next_dot h) ≡ b → ((b || known h d) && not (is_gone (status h d.replica))) ≡ (b || covered h d)
    go true p = ap not (not_gone_own h d (own_next h d p))
    go false p = refl

-- and where none is
covered_same : (h : History) (e : Entry) (d : Dot) → IsLegal (Then h e) → counts_used e.outcome ≡ 0 → is_callers e.step ≡ true → covered (Then h e) d ≡ covered h d
covered_same h e d l u c =
    λ i. (known_quiet h e d l.0 (callers_plain e.step c) (kind_plain h e.step e.outcome (kind_of h e.step e.outcome (callers_plain e.step c) l.1)) u ∙ (ap (λ b. known h d || b) (none_told_covers h e.step d (callers_tell_none e.step c)) ∙ no_more (known h d))) i && not (is_gone (status_stays h e d.replica c i))

-- what is kept after an entry of the own replica
pub kept_by : (h : History) (e : Entry) (d : Dot) → IsLegal (Then h e) → is_callers e.step ≡ true → kept (Then h e) d ≡ first_some (row_added e.step e.outcome d) (cond (has_dot (dots_taken e.outcome) d) None (kept h d))
kept_by h e d l c =
    let kind = kind_of h e.step e.outcome (callers_plain e.step c) l.1 in
    (λ i. cond (is_gone (status_stays h e d.replica c i)) None (live_by h e d (legal_knows h l.0) kind (callers_tell_none e.step c) i))
    ∙ shape (is_gone (status h d.replica)) (has_dot (dots_taken e.outcome) d) (row_added e.step e.outcome d) (live h d)
    (λ r g. not_gone_own h d (ap (λ (x : Dot). x.replica) (one_added h e d r kind g).0))
  where
    shape : (g b : Bool) (a l : Option Row) → ((r : Row) → a ≡ Some r → g ≡ false) → cond g None (first_some a (cond b None l)) ≡ first_some a (cond b None (cond g None l))
    shape false b a l f = refl
    shape true true None l f = refl
    shape true false None l f = refl
    shape true b (Some r) l f = let w : true ≡ false = f r refl in absurd (cc)

next_kept : (h : History) → IsLegal h → kept h (next_dot h) ≡ None
next_kept h l = ap (λ b. cond b None (live h (next_dot h))) (not_gone_own h (next_dot h) refl) ∙ live-next h (legal_knows h l)

next_uncovered : (h : History) → IsLegal h → covered h (next_dot h) ≡ false
next_uncovered h l = go (known h (next_dot h)) refl
  where
    go : (b : Bool) → known h (next_dot h) ≡ b → (b && not (is_gone (status h (own h)))) ≡ false
    go false f = refl
    go true f = absurd (next_unknown h (legal_knows h l) f)

own_known : (h : History) → IsLegal h → (d : Dot) → IsOwnShown h d → known h d ≡ true
own_known h l d w = (legal_knows h l).of_row d w.row (shown-row h d w.row w.shown).0

pub all_has_dot : (P : Dot → Type 0) (ds : List Dot) (d : Dot) → AllByRecursion P ds → has_dot ds d ≡ true → P d
all_has_dot P [] d a f = absurd (cc)
all_has_dot P (x ∷ xs) d a f = go (or_cases (same_dot d x) (has_dot xs d) f) (all_has_dot P xs d a.1)
  where
    go : (same_dot d x ≡ true) ⊎ (has_dot xs d ≡ true) → (has_dot xs d ≡ true → P d) → P d
    go (inl e) ih = subst P (sym (same_dot-true d x e)) a.0
    go (inr e) ih = ih e

own_covered : (h : History) → IsLegal h → (d : Dot) → IsOwnShown h d → covered h d ≡ true
own_covered h l d w = and_from (known h d) (not (is_gone (status h d.replica))) (own_known h l d w) (ap not (not_gone_own h d w.own))

-- a track

pub new_uncovered : (h : History) (new : Dot) (s : DotRows) → IsLegal h → HoldsCovered h s → new ≡ next_dot h → set.contains s.covered new ≡ false
new_uncovered h new s l holds p = holds.covered new ∙ (ap (λ d. covered h d) p ∙ next_uncovered h l)

added : (h : History) (e : Entry) (new : Dot) (r : Row) (s : DotRows) → IsLegal (Then h e) → is_callers e.step ≡ true → HoldsCovered h s → e.outcome ≡ outcomes_are.Added new → new ≡ next_dot h → row_made e.step None ≡ Some r → HoldsCovered (Then h e) (with_dot s new r)
added h e new r s l c holds is next made = record {
  covered = λ d.
      set.contains-insert dot_total s.covered new d
      ∙ ((λ i. same_dot d (next i) || holds.covered d i)
      ∙ sym (covered_used h e d l.0 (ap counts_used is) c));
  live = λ d.
      map.get-insert dot_total s.live new r d
      ∙ (ap (λ o. cond (same_dot d new) (Some r) o) (holds.live d)
      ∙ (shape (same_dot d new) (kept h d)
      ∙ ((λ i. first_some (cond (same_dot d new) (sym made i) None) (cond false None (kept h d)))
      ∙ ((λ i. first_some (row_added e.step (sym is i) d) (cond (has_dot (dots_taken (sym is i)) d) None (kept h d)))
      ∙ sym (kept_by h e d l c)))));
}
  where
    shape : (b : Bool) (o : Option Row) → cond b (Some r) o ≡ first_some (cond b (Some r) None) (cond false None o)
    shape true o = refl
    shape false o = refl

pub takes_added : (e : Entry) (next new : Dot) (s u : DotRows) → is_callers e.step ≡ true → e.outcome ≡ outcomes_are.Added new → u ≡ with_made s (row_made e.step None) new → Takes next s e u
takes_added e next new s u c is after h l counts holds =
    let i = is_in h e new l is in
    subst (HoldsCovered (Then h e)) (sym (after ∙ ap (λ o. with_made s o new) i.made)) (added h e new i.row s l c holds is i.next i.made)

-- an untrack

taken : (h : History) (e : Entry) (x : Dot) (xs : List Dot) (s : DotRows) → IsLegal (Then h e) → is_callers e.step ≡ true → HoldsCovered h s → e.outcome ≡ outcomes_are.Removed (x ∷ xs) → ((d : Dot) → has_dot (x ∷ xs) d ≡ true → covered h d ≡ true) → HoldsCovered (Then h e) (taken_out s (x ∷ xs) (next_dot h))
taken h e x xs s l c holds is there = record {
  covered = λ d.
      set.contains-insert dot_total (set.union s.covered (set.from_list (x ∷ xs))) (next_dot h) d
      ∙ (ap (λ b. same_dot d (next_dot h) || b) (set.contains-union dot_total s.covered (set.from_list (x ∷ xs)) d
      ∙ ((λ i. holds.covered d i || set.contains-from_list dot_total (x ∷ xs) d i)
      ∙ within (covered h d) (has_dot (x ∷ xs) d) (there d)))
      ∙ sym (covered_used h e d l.0 (ap counts_used is) c));
  live = λ d.
      without_rows_at s.live (x ∷ xs) d
      ∙ (ap (λ o. cond (has_dot (x ∷ xs) d) None o) (holds.live d)
      ∙ ((λ i. first_some (row_added e.step (sym is i) d) (cond (has_dot (dots_taken (sym is i)) d) None (kept h d)))
      ∙ sym (kept_by h e d l c)));
}
  where
    within : (k b : Bool) → (b ≡ true → k ≡ true) → (k || b) ≡ k
    within true b f = refl
    within false true f = sym (f refl)
    within false false f = refl

quiet_holds : (h : History) (e : Entry) (s : DotRows) → IsLegal (Then h e) → is_quiet e.outcome ≡ true → is_callers e.step ≡ true → HoldsCovered h s → HoldsCovered (Then h e) s
quiet_holds h e s l q c holds = record {
  covered = λ d. holds.covered d ∙ sym (covered_same h e d l (quiet_uses_none e.outcome q) c);
  live = λ d.
      holds.live d
      ∙ ((λ j. first_some (sym (quiet_row e.step e.outcome d q) j) (cond (has_dot (sym (quiet_taken e.outcome q) j) d) None (kept h d)))
      ∙ sym (kept_by h e d l c));
}

pub takes_quiet : (e : Entry) (next : Dot) (s : DotRows) → is_callers e.step ≡ true → is_quiet e.outcome ≡ true → Takes next s e s
takes_quiet e next s c q h l counts holds = quiet_holds h e s l q c holds

-- any outcome of a caller's step but these
pub takes_rest : (e : Entry) (next : Dot) (s : DotRows) → is_callers e.step ≡ true → ((x : Dot) → e.outcome ≡ outcomes_are.Added x → ⊥)
    → ((x y : Dot) → e.outcome ≡ outcomes_are.Replaced x y → ⊥) → ((ds : List Dot) → e.outcome ≡ outcomes_are.Removed ds → ⊥) → Takes next s e s
takes_rest e next s c f g k h l counts holds = takes_quiet e next s c (rest_is_quiet e.outcome f g k again) h l counts holds
  where
    again : (ps : List (Dot × Dot)) → e.outcome ≡ outcomes_are.Reborn ps → ⊥
    again ps p =
        let no : false ≡ true = sym (kind_plain h e.step e.outcome (kind_of h e.step e.outcome (callers_plain e.step c) l.1)) ∙ ap is_reborn p in
        absurd (cc)

pub takes_none : (e : Entry) (next : Dot) (ds : List Dot) (s : DotRows) → is_callers e.step ≡ true → e.outcome ≡ outcomes_are.Removed ds → length ds ≡ 0 → Takes next s e s
takes_none e next [] s c is none = takes_quiet e next s c (ap is_quiet is)
takes_none e next (d ∷ ds) s c is none = absurd (omega (arith, none))

all_covered : (h : History) (e : Entry) (ds : List Dot) → IsLegal (Then h e) → AreOut h e ds → (d : Dot) → has_dot ds d ≡ true → covered h d ≡ true
all_covered h e ds l o d there = own_covered h l.0 d (all_has_dot (IsOwnShown h) ds d o.shown there)

pub some_dots : (ds : List Dot) → nat_eq (length ds) 0 ≡ false → 1 ≤ length ds
some_dots [] none = absurd (cc)
some_dots (d ∷ ds) none = omega arith

pub takes_removed : (e : Entry) (next : Dot) (ds : List Dot) (s u : DotRows) → is_callers e.step ≡ true → 1 ≤ length ds → e.outcome ≡ outcomes_are.Removed ds → u ≡ taken_out s ds next → Takes next s e u
takes_removed e next [] s u c some is after h l counts holds = absurd (omega (arith, some))
takes_removed e next (x ∷ xs) s u c some is after h l counts holds =
    subst (HoldsCovered (Then h e)) (sym (after ∙ ap (taken_out s (x ∷ xs)) counts))
    (taken h e x xs s l c holds is (all_covered h e (x ∷ xs) l (out h e (x ∷ xs) l some is)))

pub removed_dots : (e : Entry) (next : Dot) (ds : List Dot) (s : DotRows) → CanTake next s e → 1 ≤ length ds → e.outcome ≡ outcomes_are.Removed ds → (list_all is_dot ds ≡ true) × (is_dot next ≡ true)
removed_dots e next ds s can some is =
    let o = out can.before e ds can.legal some is in
    (out_dots can.before e ds can.legal o, ap is_dot can.counts ∙ next_dot_limits can.before can.legal.0 o.room)

-- an update

pub swap_told : (new old : Dot) (r : Row) → is_dot new ≡ true → is_dot old ≡ true → is_row r ≡ true → IsTold (told_swap new old r)
swap_told new old r a b c = record {
  forward = refl;
  ranges = refl;
  extras = and_from (is_dot new) (is_dot old && true) a (and_from (is_dot old) true b refl);
  rows = and_from (is_dot new && is_row r) true (and_from (is_dot new) (is_row r) a c) refl;
  covered = and_from (covers (told_swap new old r) new) true (or_left (same_dot new new) (same_dot new old || false) (same_dot-refl new)) refl;
  once = refl;
}

pub swap_sound : (e : Entry) (next new old : Dot) (r : Row) (s : DotRows) → CanTake next s e → e.outcome ≡ outcomes_are.Replaced new old → row_made e.step (Some old) ≡ Some r → IsTold (told_swap new old r)
swap_sound e next new old r s can is made =
    let h = can.before in
    let i = is_swap h e new old can.legal is in
    let here = old_dot h old can.legal.0 i.shown in
    swap_told new old r (ap is_dot i.next ∙ next_dot_limits h can.legal.0 i.room) here (made_within e.step (Some old) can.legal.4 here r made)

swapped : (h : History) (e : Entry) (new old : Dot) (r : Row) (s u : DotRows) → IsLegal (Then h e) → is_callers e.step ≡ true → HoldsCovered h s → e.outcome ≡ outcomes_are.Replaced new old → new ≡ next_dot h → IsOwnShown h old → row_made e.step (Some old) ≡ Some r
    → TakesIn s (told_swap new old r) u → HoldsCovered (Then h e) u
swapped h e new old r s u l c holds is next shown made takes = record {
  covered = λ d.
      (takes d).0
      ∙ (ap (λ b. b || (same_dot d new || (same_dot d old || false))) (holds.covered d)
      ∙ (within (same_dot d new) (covered h d) (same_dot d old) (λ f. ap (λ x. covered h x) (same_dot-true d old f) ∙ own_covered h l.0 old shown)
      ∙ ((λ i. same_dot d (next i) || covered h d)
      ∙ sym (covered_used h e d l.0 (ap counts_used is) c))));
  live = λ d.
      (takes d).1
      ∙ ((λ i. joined_row (holds.live d i) (holds.covered d i) (cond (same_dot d new) (Some r) None) (same_dot d new || (same_dot d old || false)))
      ∙ (shape (same_dot d new) (same_dot d old) (kept h d) (covered h d) (λ f. ap (λ x. kept h x) (same_dot-true d new f ∙ next) ∙ next_kept h l.0) (λ f. ap (λ x. covered h x) (same_dot-true d new f ∙ next) ∙ next_uncovered h l.0)
      ∙ ((λ j. first_some (cond (same_dot d new) (sym made j) None) (cond (same_dot d old || false) None (kept h d)))
      ∙ ((λ j. first_some (row_added e.step (sym is j) d) (cond (has_dot (dots_taken (sym is j)) d) None (kept h d)))
      ∙ sym (kept_by h e d l c)))));
}
  where
    within : (a k b : Bool) → (b ≡ true → k ≡ true) → (k || (a || (b || false))) ≡ (a || k)
    within true true b f = refl
    within true false b f = refl
    within false true b f = refl
    within false false true f = sym (f refl)
    within false false false f = refl

    shape : (a b : Bool) (o : Option Row) (k : Bool) → (a ≡ true → o ≡ None) → (a ≡ true → k ≡ false) → joined_row o k (cond a (Some r) None) (a || (b || false)) ≡ first_some (cond a (Some r) None) (cond (b || false) None o)
    shape true b o k f g = (λ i. joined_row (f refl i) (g refl i) (Some r) true)
    shape false true None k f g = refl
    shape false true (Some x) k f g = refl
    shape false false None k f g = refl
    shape false false (Some x) k f g = refl

pub takes_swap : (e : Entry) (next new old : Dot) (r : Row) (s u : DotRows) → is_callers e.step ≡ true → e.outcome ≡ outcomes_are.Replaced new old → row_made e.step (Some old) ≡ Some r → TakesIn s (told_swap new old r) u → Takes next s e u
takes_swap e next new old r s u c is made takes h l counts holds =
    let i = is_swap h e new old l is in
    swapped h e new old r s u l c holds is i.next i.shown made takes

pub none_from : (o : Option Row) → ((r : Row) → o ≡ Some r → ⊥) → o ≡ None
none_from None f = refl
none_from (Some r) f = absurd (f r refl)

pub swap_made : (e : Entry) (next new old : Dot) (s : DotRows) → e.outcome ≡ outcomes_are.Replaced new old → row_made e.step (Some old) ≡ None → Takes next s e s
swap_made e next new old s is none h l counts holds =
    let i = is_swap h e new old l is in
    let w : None ≡ Some i.row = sym none ∙ i.made in
    absurd (cc)

-- a merge

same_choice : (l : Option Row) (k : Bool) (r : Option Row) (c : Bool) → joined_row l k r c ≡ row_taken_in l k r c
same_choice (Some x) k (Some y) c = refl
same_choice (Some x) k None c = refl
same_choice None k (Some y) c = refl
same_choice None k None c = refl

unheard : (l : Option Row) (k : Bool) → joined_row l k None false ≡ l
unheard (Some x) k = refl
unheard None k = refl

pub status_merge : (h : History) (e : Entry) (t : ToldValue) (r : Replica) → e.step ≡ steps_are.Merge t → status (Then h e) r ≡ status h r
unfolding status standing own
status_merge h e t r is = ap (λ s. cond (same_replica r (own_after s (own h))) status_is.Up (status_of (standing_after (own h) s (max (time h) (time_of s)) r (standing h r)))) is

hears_gone : (h : History) (r : Replica) → hears h r ≡ true → is_gone (status h r) ≡ false
unfolding hears
hears_gone h r e = go (is_gone (status h r)) (and_parts (not (same_replica r (own h))) (not (is_gone (status h r))) e).1
  where
    go : (b : Bool) → not b ≡ true → b ≡ false
    go true f = sym f
    go false f = refl

covers_heard : (b g k c : Bool) → (b ≡ true → g ≡ false) → ((k && not g) || (b && c)) ≡ ((k || (b && c)) && not g)
covers_heard true true k c f = let w : true ≡ false = f refl in absurd (cc)
covers_heard false true true c f = refl
covers_heard false true false c f = refl
covers_heard true false true c f = refl
covers_heard true false false true f = refl
covers_heard true false false false f = refl
covers_heard false false true c f = refl
covers_heard false false false c f = refl

keeps_heard : (b g : Bool) (l : Option Row) (k : Bool) (r : Option Row) (c : Bool) → (b ≡ true → g ≡ false) → joined_row (cond g None l) (k && not g) (cond b r None) (b && c) ≡ cond g None (cond b (row_taken_in l k r c) l)
keeps_heard true true l k r c f = let w : true ≡ false = f refl in absurd (cc)
keeps_heard false true l k r c f = refl
keeps_heard true false l true r c f = same_choice l true r c
keeps_heard true false l false r c f = same_choice l false r c
keeps_heard false false l k r c f = unheard l (k && true)

pub merged : (s : DotRows) (o : Others) (t : ToldValue) (u : DotRows) → TakesIn s (cut_to (hears_at o) t) u → TakesMerge s o t u
merged s o t u takes h e l is a holds = record {
  covered = λ d.
      (takes d).0
      ∙ ((λ i. holds.covered d i || (cut_tells (hears_at o) t d).0 i)
      ∙ ((λ i. covered h d || (hears_is h o d.replica a i && covers t d))
      ∙ (covers_heard (hears h d.replica) (is_gone (status h d.replica)) (known h d) (covers t d) (hears_gone h d.replica)
      ∙ (λ i. sym (merge_is_known h e l t is d) i && not (is_gone (sym (status_merge h e t d.replica is) i))))));
  live = λ d.
      (takes d).1
      ∙ ((λ i. joined_row (holds.live d i) (holds.covered d i) ((cut_tells (hears_at o) t d).1 i) ((cut_tells (hears_at o) t d).0 i))
      ∙ ((λ i. joined_row (kept h d) (covered h d) (cond (hears_is h o d.replica a i) (live_row t d) None) (hears_is h o d.replica a i && covers t d))
      ∙ (keeps_heard (hears h d.replica) (is_gone (status h d.replica)) (live h d) (known h d) (live_row t d) (covers t d) (hears_gone h d.replica)
      ∙ (λ i. cond (is_gone (sym (status_merge h e t d.replica is) i)) None (sym (merge_is_live h e l t is d) i)))));
}
