-- The rows of a plain table behind a step.
use Rattle.std.proofs.Common.{◌≡◌, ℕ, ◌+◌, Bool, true, false, cond, not, ◌&&◌, ◌||◌, List, [], ◌∷◌, ◌++◌, Option, Some, None, is_some, is_none, filter, Equal, refl, sym, ◌∙◌, ap}
use Rattle.std.specs.List.{AllByRecursion}
use Rattle.std.specs.Map.{lookup}
use Rattle.std.specs.FinMap as map
use Rattle.std.specs.FinMap.Entries.{find-where_key}
use Rattle.std.proofs.lemmas.Bool.{or_left, or_right}
use Rattle.std.proofs.lemmas.Option.{same_Some}
use Rattle.presence_base.specs.declared.dots.Replica.{Replica}
use Rattle.presence_base.specs.declared.dots.Dot.{Dot}
use Rattle.presence_base.specs.declared.row.Row.{Row}
use Rattle.presence_base.specs.Order.{dot_cmp, same_dot, same_replica}
use Rattle.orswot_core.specs.Telling.{ToldValue, covers, live_row, tells_removed}
use Rattle.replica_status.specs.declared.status.Status.{Status}
use Rattle.replica_status.specs.declared.status.Status.TheVariants as status_is
use Rattle.presence_journal.specs.declared.step.Step.TheVariants as steps_are
use Rattle.presence_journal.specs.declared.entry.Outcome.TheVariants as outcomes_are
use Rattle.presence_journal.specs.declared.step.Step.{Step}
use Rattle.presence_journal.specs.declared.entry.Outcome.{Outcome}
use Rattle.presence_journal.specs.declared.entry.Entry.{Entry}
use Rattle.presence_journal.specs.History as journal
use Rattle.presence_journal.specs.History.{History, Then, first_some, has_dot, row_added, row_again, reborn}
use Rattle.presence_journal.specs.Present.{dots_taken}
use Rattle.presence_journal.specs.Table.{IsLegal, own_dots, reborn_from, outcome_of}
use Rattle.presence_journal.specs.Walk.{tells, is_rebirth, is_reborn}
use Rattle.presence_journal.specs.Merges.{row_taken_in}
use Rattle.presence_journal.proofs.Same.{dot_total, dot_cmp-IsAntisymmetric, same_dot-refl, same_replica-true, same_replica-refl}
use Rattle.presence_journal.proofs.Lookups.{cond_none}
use Rattle.presence_journal.proofs.Reborn.{IsAgain, again_of, again_parts, own_dot, GoesOn}
use Rattle.presence_journal.proofs.HistoryLemmas.{kind_of, kind_plain, live_by, legal_knows, own_again, again_unknown, shown-live}
use Rattle.presence_journal.proofs.AfterRebirth.{pairs_of, live_of_new, live_of_others}
use Rattle.presence_journal.proofs.Merges.{merge_is_live}
use Rattle.presence_table.specs.Others.{Rows, Others, is_gone, hears, merged, rows_merged, with_prev, put_again, rows_again}
use Rattle.presence_table.specs.Plain.{Table, row_made, put, rows_after}
use Rattle.presence_table.proofs.Rooms.{KeepsRows, status_is_kept}

-- each test of a dot says one thing of one dot
abbrev alike : (f : Dot → Bool) (d x : Dot) → dot_cmp d x ≡ Equal → f x ≡ f d
alike f d x e = ap f (sym (dot_cmp-IsAntisymmetric d x e))

made_same : (s : Step) (prev : Option Dot) → row_made s prev ≡ journal.row_made s prev
made_same (steps_are.Track pid topic key meta) prev = refl
made_same (steps_are.Update pid topic key meta) prev = refl
made_same _ prev = refl

get_put : (new : Dot) (o : Option Row) (rows : Rows) (d : Dot) → map.get (put new o rows) d ≡ first_some (cond (same_dot d new) o None) (map.get rows d)
get_put new None rows d = sym (ap (λ o. first_some o (map.get rows d)) (cond_none (same_dot d new)))
get_put new (Some r) rows d = map.get-insert dot_total rows new r d ∙ go (same_dot d new)
  where
    go : (b : Bool) → cond b (Some r) (map.get rows d) ≡ first_some (cond b (Some r) None) (map.get rows d)
    go true = refl
    go false = refl

without_one : (b : Bool) (o : Option Row) → cond b None o ≡ cond (b || false) None o
without_one true o = refl
without_one false o = refl

turned : (b : Bool) (o : Option Row) → cond (not b) o None ≡ cond b None o
turned true o = refl
turned false o = refl

pub get_kept : (rows : Rows) (f : Dot → Bool) (d : Dot) → map.get (map.retain_keys rows f) d ≡ cond (f d) (map.get rows d) None
get_kept rows f d = map.get-retain_keys rows f d (alike f d)

none_merged : (own : Replica) (o : Others) (s : Step) (rows : Rows) → tells s ≡ false → rows_merged own o s rows ≡ rows
none_merged own o (steps_are.Merge told) rows f = absurd (cc)
none_merged own o _ rows f = refl

-- behind a step that tells nothing, and is no rebirth
get_rows : (t : Table) (s : Step) (o : Outcome) → is_reborn o ≡ false → tells s ≡ false → (d : Dot) → map.get (rows_after t s o) d ≡ first_some (row_added s o d) (cond (has_dot (dots_taken o) d) None (map.get t.rows d))
get_rows t s (outcomes_are.Added new) kept untold d =
    get_put new (row_made s None) t.rows d
    ∙ ap (λ o. first_some (cond (same_dot d new) o None) (map.get t.rows d)) (made_same s None)
get_rows t s (outcomes_are.Replaced new old) kept untold d =
    get_put new (row_made s (Some old)) (map.remove t.rows old) d
    ∙ ((λ i. first_some (cond (same_dot d new) (made_same s (Some old) i) None) (map.get-remove dot_total t.rows old d i))
    ∙ ap (first_some (cond (same_dot d new) (journal.row_made s (Some old)) None)) (without_one (same_dot d old) (map.get t.rows d)))
get_rows t s (outcomes_are.Removed ds) kept untold d = get_kept t.rows (λ x. not (has_dot ds x)) d ∙ turned (has_dot ds d) (map.get t.rows d)
get_rows t s outcomes_are.Merged kept untold d = ap (λ rows. map.get rows d) (none_merged t.own t.others s t.rows untold)
get_rows t s (outcomes_are.Reborn pairs) kept untold d = absurd (cc)
get_rows t s _ kept untold d = refl

-- Merges.

pub find_lookup : (xs : List (Dot × Row)) (d : Dot) → map.find dot_cmp d xs ≡ lookup (same_dot d) xs
find_lookup [] d = refl
find_lookup (x ∷ xs) d = ap (cond (same_dot d x.0) (Some x.1)) (find_lookup xs d)

find_both : (xs ys : List (Dot × Row)) (d : Dot) → map.find dot_cmp d (xs ++ ys) ≡ first_some (map.find dot_cmp d xs) (map.find dot_cmp d ys)
find_both [] ys d = refl
find_both (x ∷ xs) ys d = go (same_dot d x.0) (find_both xs ys d)
  where
    go : (b : Bool) → map.find dot_cmp d (xs ++ ys) ≡ first_some (map.find dot_cmp d xs) (map.find dot_cmp d ys) → cond b (Some x.1) (map.find dot_cmp d (xs ++ ys)) ≡ first_some (cond b (Some x.1) (map.find dot_cmp d xs)) (map.find dot_cmp d ys)
    go true ih = refl
    go false ih = ih

-- whether a told row of the dot comes, and whether a live one stays

abbrev comes : Replica → Others → Dot → Bool
comes own o d = hears own o d.replica && not (o.known d)

abbrev stays : Replica → Others → ToldValue → Dot → Bool
stays own o told d = not (hears own o d.replica && tells_removed told d)

come : (own : Replica) (o : Others) (told : ToldValue) (d : Dot) → map.find dot_cmp d (filter (λ (x : Dot × Row). comes own o x.0) told.live) ≡ cond (comes own o d) (live_row told d) None
come own o told d = find-where_key dot_cmp (comes own o) d (alike (comes own o) d) told.live ∙ ap (λ x. cond (comes own o d) x None) (find_lookup told.live d)

stay : (own : Replica) (o : Others) (told : ToldValue) (rows : Rows) (d : Dot) → map.find dot_cmp d (map.entries (map.retain_keys rows (stays own o told))) ≡ cond (stays own o told d) (map.get rows d) None
stay own o told rows d = sym (map.get-entries (map.retain_keys rows (stays own o told)) d) ∙ get_kept rows (stays own o told) d

get_merged : (own : Replica) (o : Others) (told : ToldValue) (rows : Rows) (d : Dot) → map.get (merged own o told rows) d ≡ first_some (cond (comes own o d) (live_row told d) None) (cond (stays own o told d) (map.get rows d) None)
get_merged own o told rows d =
    map.get-from_entries dot_total (filter (λ (x : Dot × Row). comes own o x.0) told.live ++ map.entries (map.retain_keys rows (stays own o told))) d
    ∙ (find_both (filter (λ (x : Dot × Row). comes own o x.0) told.live) (map.entries (map.retain_keys rows (stays own o told))) d
    ∙ (λ i. first_some (come own o told d i) (stay own o told rows d i)))

taken_in : (b k c : Bool) (o r : Option Row) → ((x : Row) → o ≡ Some x → k ≡ true) → first_some (cond (b && not k) r None) (cond (not (b && (c && is_none r))) o None) ≡ cond b (row_taken_in o k r c) o
taken_in false k c o r f = refl
taken_in true true true None None f = refl
taken_in true true false None None f = refl
taken_in true false true None None f = refl
taken_in true false false None None f = refl
taken_in true true true None (Some y) f = refl
taken_in true true false None (Some y) f = refl
taken_in true false true None (Some y) f = refl
taken_in true false false None (Some y) f = refl
taken_in true true true (Some x) None f = refl
taken_in true true false (Some x) None f = refl
taken_in true true true (Some x) (Some y) f = refl
taken_in true true false (Some x) (Some y) f = refl
taken_in true false c (Some x) r f = let w : false ≡ true = f x refl in absurd (cc)

live_is : (h : History) (d : Dot) → journal.live h d ≡ cond (journal.removed h d) None (journal.row h d)
unfolding journal.live
live_is h d = refl

-- a live row's dot is known
pub live_known : (h : History) → IsLegal h → (d : Dot) (r : Row) → journal.live h d ≡ Some r → journal.known h d ≡ true
live_known h l d r e = go (journal.removed h d) (sym (live_is h d) ∙ e)
  where
    go : (b : Bool) → cond b None (journal.row h d) ≡ Some r → journal.known h d ≡ true
    go true f = absurd (cc)
    go false f = (legal_knows h l).of_row d r f

pub gone_same : (s : Status) → is_gone s ≡ journal.is_gone s
gone_same status_is.Unheard = refl
gone_same status_is.Up = refl
gone_same status_is.Down = refl
gone_same status_is.Gone = refl

pub hears_same : (h : History) (t : Table) → KeepsRows h t → (r : Replica) → hears t.own t.others r ≡ journal.hears h r
unfolding journal.hears
hears_same h t k r =
    (λ i. not (same_replica r (k.own i)) && not (is_gone (status_is_kept h t k r i)))
    ∙ ap (λ b. not (same_replica r (journal.own h)) && not b) (gone_same (journal.status h r))

outcome_merged : (h : History) (told : ToldValue) (o : Outcome) → outcome_of h (steps_are.Merge told) ≡ Some o → o ≡ outcomes_are.Merged
unfolding outcome_of
outcome_merged h told o e = sym (same_Some outcomes_are.Merged o e)

-- Rebirths.

find_again : (rows : Rows) (ps : List (Dot × Dot)) → AllByRecursion (λ p. is_some (map.get rows p.1) ≡ true) ps → (d : Dot) → map.get (rows_again rows ps) d ≡ first_some (row_again (map.get rows) (lookup (same_dot d) ps)) (map.get rows d)
find_again rows [] a d = refl
find_again rows (p ∷ ps) a d = go (map.get rows p.1) refl a.0 (find_again rows ps a.1 d)
  where
    go : (o : Option Row) → map.get rows p.1 ≡ o → is_some o ≡ true → map.get (rows_again rows ps) d ≡ first_some (row_again (map.get rows) (lookup (same_dot d) ps)) (map.get rows d) → map.get (put_again p o (rows_again rows ps)) d ≡ first_some (row_again (map.get rows) (cond (same_dot d p.0) (Some p.1) (lookup (same_dot d) ps))) (map.get rows d)
    go None q s ih = absurd (cc)
    go (Some r) q s ih = map.get-insert dot_total (rows_again rows ps) p.0 (with_prev p.1 r) d ∙ each_way (same_dot d p.0)
      where
        each_way : (b : Bool) → cond b (journal.with_prev p.1 (Some r)) (map.get (rows_again rows ps) d) ≡ first_some (row_again (map.get rows) (cond b (Some p.1) (lookup (same_dot d) ps))) (map.get rows d)
        each_way true = sym (ap (λ x. first_some (journal.with_prev p.1 x) (map.get rows d)) q)
        each_way false = ih

all_pairs : (P : Dot → Type 0) (r : Replica) (n : ℕ) (ds : List Dot) → ((old : Dot) → has_dot ds old ≡ true → P old) → AllByRecursion (λ p. P p.1) (reborn_from r n ds)
all_pairs P r n [] f = tt
all_pairs P r n (d ∷ ds) f =
    (f d (or_left (same_dot d d) (has_dot ds d) (same_dot-refl d)), all_pairs P r (n + 1) ds (λ old k. f old (or_right (same_dot old d) (has_dot ds old) k)))

module _ (h : History) (t : Table) (k : KeepsRows h t) where
  -- an own row that goes on is among the rows
  goes_on : (old : Dot) (g : GoesOn h old) → map.get t.rows old ≡ Some g.row
  goes_on old g = k.rows old ∙ (sym (shown-live h old g.own) ∙ g.shown)

  again_same : (r : Replica) (n : ℕ) (d : Dot) → row_again (map.get t.rows) (lookup (same_dot d) (reborn_from r n (own_dots h))) ≡ row_again (journal.shown h) (lookup (same_dot d) (reborn_from r n (own_dots h)))
  again_same r n d = go (lookup (same_dot d) (reborn_from r n (own_dots h))) refl
    where
      go : (x : Option Dot) → lookup (same_dot d) (reborn_from r n (own_dots h)) ≡ x → row_again (map.get t.rows) x ≡ row_again (journal.shown h) x
      go None f = refl
      go (Some old) f =
          let g = own_dot h old (again_parts r n (own_dots h) d old f).3 in
          ap (journal.with_prev old) (goes_on old g ∙ sym g.shown)

  get_again : (e : Entry) (w : IsAgain h e.step e.outcome) (d : Dot) → map.get (rows_after t e.step e.outcome) d ≡ first_some (row_again (map.get t.rows) (lookup (same_dot d) (pairs_of h e w))) (map.get t.rows d)
  get_again e w d =
      ap (λ o. map.get (rows_after t e.step o) d) w.outcome
      ∙ find_again t.rows (pairs_of h e w) (all_pairs (λ old. is_some (map.get t.rows old) ≡ true) (reborn (journal.own h) w.incarnation) 0 (own_dots h) (λ old f. ap is_some (goes_on old (own_dot h old f)))) d

  rows_reborn : (e : Entry) → IsLegal h → (w : IsAgain h e.step e.outcome) (d : Dot) → map.get (rows_after t e.step e.outcome) d ≡ journal.live (Then h e) d
  rows_reborn e l w d = get_again e w d ∙ go (same_replica d.replica (journal.own (Then h e))) refl
    where
      unknown : d.replica ≡ journal.own (Then h e) → map.get t.rows d ≡ None
      unknown o = k.rows d ∙ none (journal.live h d) refl
        where
          none : (x : Option Row) → journal.live h d ≡ x → x ≡ None
          none None f = refl
          none (Some r) f = absurd (again_unknown h d w.incarnation w.fresh (o ∙ own_again h e w) (live_known h l d r f))

      first_none : (x : Option Row) → first_some x None ≡ x
      first_none None = refl
      first_none (Some x) = refl

      unpaired : (x : Option Dot) → lookup (same_dot d) (pairs_of h e w) ≡ x → same_replica d.replica (journal.own (Then h e)) ≡ false → x ≡ None
      unpaired None p f = refl
      unpaired (Some old) p f =
          let o : d.replica ≡ journal.own (Then h e) = (again_parts (reborn (journal.own h) w.incarnation) 0 (own_dots h) d old p).0 ∙ sym (own_again h e w) in
          let q : true ≡ false = sym (ap (λ r. same_replica r (journal.own (Then h e))) o ∙ same_replica-refl (journal.own (Then h e))) ∙ f in
          absurd (cc)

      go : (b : Bool) → same_replica d.replica (journal.own (Then h e)) ≡ b → first_some (row_again (map.get t.rows) (lookup (same_dot d) (pairs_of h e w))) (map.get t.rows d) ≡ journal.live (Then h e) d
      go true f =
          ap (first_some (row_again (map.get t.rows) (lookup (same_dot d) (pairs_of h e w)))) (unknown (same_replica-true d.replica (journal.own (Then h e)) f))
          ∙ (first_none (row_again (map.get t.rows) (lookup (same_dot d) (pairs_of h e w)))
          ∙ (again_same (reborn (journal.own h) w.incarnation) 0 d ∙ sym (live_of_new h e d w l f)))
      go false f =
          ap (λ x. first_some (row_again (map.get t.rows) x) (map.get t.rows d)) (unpaired (lookup (same_dot d) (pairs_of h e w)) refl f)
          ∙ (k.rows d ∙ sym (live_of_others h e d w f))

  -- Any step.

  rows_told : (e : Entry) → IsLegal (Then h e) → ((d : Dot) → t.others.known d ≡ journal.known h d) → (told : ToldValue) → e.step ≡ steps_are.Merge told → (d : Dot) → map.get (rows_after t e.step e.outcome) d ≡ journal.live (Then h e) d
  rows_told e l known told m d =
      (λ i. map.get (rows_after t (m i) (is_merged i)) d)
      ∙ (get_merged t.own t.others told t.rows d
      ∙ ((λ i. first_some (cond (heard i && not (known d i)) (live_row told d) None) (cond (not (heard i && tells_removed told d)) (k.rows d i) None))
      ∙ (taken_in (journal.hears h d.replica) (journal.known h d) (covers told d) (journal.live h d) (live_row told d) (live_known h l.0 d)
      ∙ sym (merge_is_live h e l told m d))))
    where
      is_merged : e.outcome ≡ outcomes_are.Merged
      is_merged = outcome_merged h told e.outcome (ap (outcome_of h) (sym m) ∙ l.1)

      heard : hears t.own t.others d.replica ≡ journal.hears h d.replica
      heard = hears_same h t k d.replica

  told_of : (s : Step) → tells s ≡ true → (told : ToldValue) × (s ≡ steps_are.Merge told)
  told_of (steps_are.Merge told) f = (told, refl)
  told_of _ f = absurd (cc)

  pub rows_then : (e : Entry) → IsLegal (Then h e) → ((d : Dot) → t.others.known d ≡ journal.known h d) → (d : Dot) → map.get (rows_after t e.step e.outcome) d ≡ journal.live (Then h e) d
  rows_then e l known d = either (is_rebirth e.step) refl
    where
      go : is_rebirth e.step ≡ false → (b : Bool) → tells e.step ≡ b → map.get (rows_after t e.step e.outcome) d ≡ journal.live (Then h e) d
      go n true f = let w = told_of e.step f in rows_told e l known w.0 w.1 d
      go n false f =
          let kind = kind_of h e.step e.outcome n l.1 in
          get_rows t e.step e.outcome (kind_plain h e.step e.outcome kind) f d
          ∙ (ap (λ o. first_some (row_added e.step e.outcome d) (cond (has_dot (dots_taken e.outcome) d) None o)) (k.rows d)
          ∙ sym (live_by h e d (legal_knows h l.0) kind f))

      either : (b : Bool) → is_rebirth e.step ≡ b → map.get (rows_after t e.step e.outcome) d ≡ journal.live (Then h e) d
      either true f = rows_reborn e l.0 (again_of h e.step e.outcome f l.1) d
      either false f = go f (tells e.step) refl
