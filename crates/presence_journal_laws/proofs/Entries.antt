-- A legal entry: its owner's deeds hang together, its history is honest, and the owner's knows all that it did.
use Rattle.std.proofs.Common.{◌≡◌, ℕ, ◌+◌, ◌<◌, ◌≤◌, Bool, true, false, cond, ◌||◌, nat_eq, Option, Some, None, refl, sym, ◌∙◌, ap, subst, arith, inl, inr, eqb-true, eq-eqb}
use Rattle.std.specs.Prelude.{◌⊎◌}
use Rattle.std.proofs.lemmas.Bool.{and_parts, and_from, or_cases, or_left, or_right}
use Rattle.presence_base.specs.declared.dots.Replica.{Replica}
use Rattle.presence_base.specs.declared.dots.Dot.{Dot}
use Rattle.presence_base.specs.declared.row.Row.{Row}
use Rattle.presence_base.specs.Order.{same_replica}
use Rattle.orswot_core.specs.Full.{dot_of}
use Rattle.presence_journal.specs.declared.entry.Entry.{Entry}
use Rattle.presence_journal.specs.History.{History, Then, own, count, counts_used, next_dot, has_dot, first_some, row_added, dot_removed, is_counted, told_covers, told_row, told_removed, known, removed, row}
use Rattle.presence_journal.specs.Present.{dots_taken}
use Rattle.presence_journal.specs.Table.{IsLegal}
use Rattle.presence_journal.proofs.PresentLemmas.{shown-row}
use Rattle.presence_journal.proofs.HistoryLemmas.{IsOwnShown, kind_of, legal_knows, count-then, counted_parts, known_from, known_cases, kind_plain, own-then, brought_told}
use Rattle.presence_journal_laws.specs.Deeds.{Deeds, AllDeeds, removes_by, with_entry}
use Rattle.presence_journal_laws.specs.Truth.{AreDeeds, IsHonest, IsOwners, IsTrueOf, DoMore}
use Rattle.presence_journal_laws.specs.DeedLaws.{then_did, HearsTrue, EntriesAreDeeds}
use Rattle.presence_journal_laws.proofs.Effects.{Effects, effects, heard_covers, heard_removes, heard_row, removed_heard}
use Rattle.presence_journal_laws.proofs.More.{put_same, entries_go_on}
use Rattle.presence_journal.specs.Walk.{is_rebirth, is_reborn}

-- a dot of this replica, by its count
pub at_own : (r : Replica) (d : Dot) → d.replica ≡ r → dot_of r d.count ≡ d
at_own r d o = λ i. record { replica = sym o i; count = d.count }

module _ (deeds : AllDeeds) (h : History) (e : Entry) (are : (r : Replica) → AreDeeds (deeds r)) (t : IsTrueOf deeds h) (l : IsLegal (Then h e)) (lasts : is_rebirth e.step ≡ false) where
  abbrev x : Deeds
  x = deeds (own h)

  abbrev new : AllDeeds
  new = then_did deeds h e

  did : Effects h e
  did = effects h e (kind_of h e.step e.outcome lasts l.1)

  plain : is_reborn e.outcome ≡ false
  plain = kind_plain h e.step e.outcome (kind_of h e.step e.outcome lasts l.1)

  known_ways : (d : Dot) → known (Then h e) d ≡ true → (known h d ≡ true) ⊎ ((is_counted (own h) (count (Then h e)) d ≡ true) ⊎ (told_covers h e.step d ≡ true))
  known_ways d f = subst (λ (q : Replica). (known h d ≡ true) ⊎ ((is_counted q (count (Then h e)) d ≡ true) ⊎ (told_covers h e.step d ≡ true))) (own-then h e lasts) (known_cases h e d f)

  own_low : (d : Dot) → IsOwnShown h d → (0 < d.count) × (d.count ≤ x.used)
  own_low d s =
      let k = legal_knows h l.0 in
      let p = k.of_own d s.own (k.of_row d s.row (shown-row h d s.row s.shown).0) in
      (p.0, omega (arith, p.1, t.owners.used))

  made_next : (n : ℕ) → n ≡ count h + 1 → x.made n ≡ None
  made_next n p = go (x.made n) refl
    where
      go : (o : Option Row) → x.made n ≡ o → o ≡ None
      go None q = refl
      go (Some r) q = let m = (are (own h)).made_in n r q in absurd (omega (arith, m.1, p, t.owners.used))

  added_count : (n : ℕ) (r : Row) → row_added e.step e.outcome (dot_of (own h) n) ≡ Some r → (n ≡ count h + 1) × (counts_used e.outcome ≡ 1)
  added_count n r f = let p = did.added (dot_of (own h) n) r f in (ap (λ (d : Dot). d.count) p.0, p.1)

  row_old : (n : ℕ) → n ≤ x.used → row_added e.step e.outcome (dot_of (own h) n) ≡ None
  row_old n m = go (row_added e.step e.outcome (dot_of (own h) n)) refl
    where
      go : (o : Option Row) → row_added e.step e.outcome (dot_of (own h) n) ≡ o → o ≡ None
      go None q = refl
      go (Some r) q = let p = (added_count n r q).0 in absurd (omega (arith, p, m, t.owners.used))

  -- ---- deeds

  made_in : (n : ℕ) (r : Row) → (with_entry x h e).made n ≡ Some r → (0 < n) × (n ≤ (with_entry x h e).used)
  made_in n r f = go (x.made n) refl f
    where
      go : (o : Option Row) → x.made n ≡ o → first_some o (row_added e.step e.outcome (dot_of (own h) n)) ≡ Some r → (0 < n) × (n ≤ x.used + counts_used e.outcome)
      go (Some y) q g = let p = (are (own h)).made_in n y q in (p.0, omega (arith, p.1))
      go None q g = let p = added_count n r g in (omega (arith, p.0), omega (arith, p.0, p.1, t.owners.used))

  went_why : (n : ℕ) → (with_entry x h e).went n ≡ true → ((c : ℕ) × ((with_entry x h e).removes c n ≡ true)) ⊎ ((with_entry x h e).made n ≡ None)
  went_why n f = go (or_cases (x.went n) (dot_removed e.outcome (next_dot h) (dot_of (own h) n)) f)
    where
      old : x.went n ≡ true → ((c : ℕ) × (x.removes c n ≡ true)) ⊎ (x.made n ≡ None) → ((c : ℕ) × ((with_entry x h e).removes c n ≡ true)) ⊎ ((with_entry x h e).made n ≡ None)
      old g (inl k) = inl (k.0, or_left (x.removes k.0 n) (removes_by h e.outcome k.0 n) k.1)
      old g (inr m) = inr (λ i. first_some (m i) (row_old n ((are (own h)).went_low n g) i))

      fresh : ((dot_of (own h) n ≡ next_dot h) × ((d : Dot) → row_added e.step e.outcome d ≡ None)) ⊎ (has_dot (dots_taken e.outcome) (dot_of (own h) n) ≡ true) → ((c : ℕ) × ((with_entry x h e).removes c n ≡ true)) ⊎ ((with_entry x h e).made n ≡ None)
      fresh (inl p) = inr (λ i. first_some (made_next n (ap (λ (d : Dot). d.count) p.0) i) (p.1 (dot_of (own h) n) i))
      fresh (inr k) = inl (count h + 1, or_right (x.removes (count h + 1) n) (removes_by h e.outcome (count h + 1) n) (and_from (nat_eq (count h + 1) (count h + 1)) (has_dot (dots_taken e.outcome) (dot_of (own h) n)) (eq-eqb (count h + 1) (count h + 1) refl) k))

      go : (x.went n ≡ true) ⊎ (dot_removed e.outcome (next_dot h) (dot_of (own h) n) ≡ true) → ((c : ℕ) × ((with_entry x h e).removes c n ≡ true)) ⊎ ((with_entry x h e).made n ≡ None)
      go (inl g) = old g ((are (own h)).went_why n g)
      go (inr g) = fresh (did.why_removed (dot_of (own h) n) g).1

  went_low : (n : ℕ) → (with_entry x h e).went n ≡ true → n ≤ x.used + counts_used e.outcome
  went_low n f = go (or_cases (x.went n) (dot_removed e.outcome (next_dot h) (dot_of (own h) n)) f)
    where
      fresh : counts_used e.outcome ≡ 1 → ((dot_of (own h) n ≡ next_dot h) × ((d : Dot) → row_added e.step e.outcome d ≡ None)) ⊎ (has_dot (dots_taken e.outcome) (dot_of (own h) n) ≡ true) → n ≤ x.used + counts_used e.outcome
      fresh u (inl p) = let c : n ≡ count h + 1 = ap (λ (d : Dot). d.count) p.0 in omega (arith, c, u, t.owners.used)
      fresh u (inr k) = let p : n ≤ x.used = (own_low (dot_of (own h) n) (did.taken (dot_of (own h) n) k).2).1 in omega (arith, p)

      go : (x.went n ≡ true) ⊎ (dot_removed e.outcome (next_dot h) (dot_of (own h) n) ≡ true) → n ≤ x.used + counts_used e.outcome
      go (inl g) = omega (arith, (are (own h)).went_low n g)
      go (inr g) = let w = did.why_removed (dot_of (own h) n) g in fresh w.0 w.1

  targets_in : (c n : ℕ) → (with_entry x h e).removes c n ≡ true → (0 < n) × (n < c) × (c ≤ x.used + counts_used e.outcome)
  targets_in c n f = go (or_cases (x.removes c n) (removes_by h e.outcome c n) f)
    where
      go : (x.removes c n ≡ true) ⊎ (removes_by h e.outcome c n ≡ true) → (0 < n) × (n < c) × (c ≤ x.used + counts_used e.outcome)
      go (inl k) = let p = (are (own h)).targets_in c n k in (p.0, p.1, omega (arith, p.2))
      go (inr k) =
          let a = and_parts (nat_eq c (count h + 1)) (has_dot (dots_taken e.outcome) (dot_of (own h) n)) k in
          let p : c ≡ count h + 1 = eqb-true c (count h + 1) a.0 in
          let s = did.taken (dot_of (own h) n) a.1 in
          let low : (0 < n) × (n ≤ x.used) = own_low (dot_of (own h) n) s.2 in
          (low.0, omega (arith, p, low.1, t.owners.used), omega (arith, p, s.0, t.owners.used))

  pub deeds_then : AreDeeds (with_entry x h e)
  deeds_then = record { made_in = made_in; went_why = went_why; went_low = went_low; targets_in = targets_in }

  pub all_deeds_then : (r : Replica) → AreDeeds (then_did deeds h e r)
  all_deeds_then r = go (same_replica r (own h))
    where
      go : (b : Bool) → AreDeeds (cond b (with_entry x h e) (deeds r))
      go true = deeds_then
      go false = are r

  -- ---- what is removed

  removed_old : (d : Dot) → removed h d ≡ true → removed (Then h e) d ≡ true
  unfolding removed
  removed_old d f = or_left (removed h d) (dot_removed e.outcome (next_dot h) d || told_removed h e.step d) f

  removed_here : (d : Dot) → dot_removed e.outcome (next_dot h) d ≡ true → removed (Then h e) d ≡ true
  unfolding removed
  removed_here d f = or_right (removed h d) (dot_removed e.outcome (next_dot h) d || told_removed h e.step d) (or_left (dot_removed e.outcome (next_dot h) d) (told_removed h e.step d) f)

  removed_told : (d : Dot) → told_removed h e.step d ≡ true → removed (Then h e) d ≡ true
  unfolding removed
  removed_told d f = or_right (removed h d) (dot_removed e.outcome (next_dot h) d || told_removed h e.step d) (or_right (dot_removed e.outcome (next_dot h) d) (told_removed h e.step d) f)

  -- ---- the owner's own history

  pub owners_then : IsOwners (with_entry x h e) (Then h e)
  owners_then = record {
    used = ap (λ n. n + counts_used e.outcome) t.owners.used ∙ sym (count-then h e plain);
    went = λ n f. ap (λ q. removed (Then h e) (dot_of q n)) (own-then h e lasts) ∙ go n (or_cases (x.went n) (dot_removed e.outcome (next_dot h) (dot_of (own h) n)) f);
  }
    where
      go : (n : ℕ) → (x.went n ≡ true) ⊎ (dot_removed e.outcome (next_dot h) (dot_of (own h) n) ≡ true) → removed (Then h e) (dot_of (own h) n) ≡ true
      go n (inl f) = removed_old (dot_of (own h) n) (t.owners.went n f)
      go n (inr f) = removed_here (dot_of (own h) n) f

  -- ---- what the history says

  module _ (hears : HearsTrue deeds e) where
    more : DoMore deeds new
    more = entries_go_on deeds h e t

    new_own : (r : Replica) → r ≡ own h → new r ≡ with_entry x h e
    new_own r o = put_same (own h) r (with_entry x h e) deeds o

    row_made : (d : Dot) (r : Row) → row (Then h e) d ≡ Some r → (new d.replica).made d.count ≡ Some r
    unfolding row
    row_made d r f =
        go (row h d) (row_added e.step e.outcome d) refl refl
        (sym (ap (λ o. first_some (row h d) (first_some (row_added e.step e.outcome d) o)) (brought_told e.outcome (row h) (told_row h e.step d) d plain)) ∙ f)
      where
        at_next : row_added e.step e.outcome (next_dot h) ≡ Some r → (new (own h)).made (count h + 1) ≡ Some r
        at_next g = ap (λ (y : Deeds). y.made (count h + 1)) (new_own (own h) refl) ∙ (ap (λ o. first_some o (row_added e.step e.outcome (next_dot h))) (made_next (count h + 1) refl) ∙ g)

        go : (a b : Option Row) → row h d ≡ a → row_added e.step e.outcome d ≡ b → first_some a (first_some b (told_row h e.step d)) ≡ Some r → (new d.replica).made d.count ≡ Some r
        go (Some y) b p q g = (more d.replica).made d.count r (t.honest.row_made d r (p ∙ g))
        go None (Some y) p q g =
            let n = (did.added d y q).0 in
            subst (λ (z : Dot). (new z.replica).made z.count ≡ Some r) (sym n) (at_next (ap (row_added e.step e.outcome) (sym n) ∙ (q ∙ g)))
        go None None p q g = let z = heard_row h e.step d r g in (more d.replica).made d.count r ((hears z.told z.is).row_made d r z.of)

    known_used : (d : Dot) → known (Then h e) d ≡ true → d.count ≤ (new d.replica).used
    known_used d f = go (known_ways d f)
      where
        go : (known h d ≡ true) ⊎ ((is_counted (own h) (count (Then h e)) d ≡ true) ⊎ (told_covers h e.step d ≡ true)) → d.count ≤ (new d.replica).used
        go (inl g) = let u = (more d.replica).used in omega (arith, t.honest.known_used d g, u)
        go (inr (inl g)) =
            let p = counted_parts (own h) (count (Then h e)) d g in
            let u : (new d.replica).used ≡ x.used + counts_used e.outcome = ap (λ (y : Deeds). y.used) (new_own d.replica p.0) in
            omega (arith, p.2, u, count-then h e plain, t.owners.used)
        go (inr (inr g)) = let z = heard_covers h e.step d g in let u = (more d.replica).used in omega (arith, (hears z.told z.is).used d z.of, u)

    removed_went : (d : Dot) → removed (Then h e) d ≡ true → (new d.replica).went d.count ≡ true
    unfolding removed
    removed_went d f = go (or_cases (removed h d) (dot_removed e.outcome (next_dot h) d || told_removed h e.step d) f)
      where
        of_own : (counts_used e.outcome ≡ 1) × (((d ≡ next_dot h) × ((y : Dot) → row_added e.step e.outcome y ≡ None)) ⊎ (has_dot (dots_taken e.outcome) d ≡ true)) → d.replica ≡ own h
        of_own w = pick w.1
          where
            pick : ((d ≡ next_dot h) × ((y : Dot) → row_added e.step e.outcome y ≡ None)) ⊎ (has_dot (dots_taken e.outcome) d ≡ true) → d.replica ≡ own h
            pick (inl p) = ap (λ (y : Dot). y.replica) p.0
            pick (inr k) = (did.taken d k).2.own

        later : (dot_removed e.outcome (next_dot h) d ≡ true) ⊎ (told_removed h e.step d ≡ true) → (new d.replica).went d.count ≡ true
        later (inl g) =
            let o = of_own (did.why_removed d g) in
            ap (λ (y : Deeds). y.went d.count) (new_own d.replica o)
            ∙ or_right (x.went d.count) (dot_removed e.outcome (next_dot h) (dot_of (own h) d.count)) (ap (dot_removed e.outcome (next_dot h)) (at_own (own h) d o) ∙ g)
        later (inr g) = let z = heard_removes h e.step d g in (more d.replica).went d.count ((hears z.told z.is).removed_went d z.of)

        go : (removed h d ≡ true) ⊎ ((dot_removed e.outcome (next_dot h) d || told_removed h e.step d) ≡ true) → (new d.replica).went d.count ≡ true
        go (inl g) = (more d.replica).went d.count (t.honest.removed_went d g)
        go (inr g) = later (or_cases (dot_removed e.outcome (next_dot h) d) (told_removed h e.step d) g)

    own_targets : (c n : ℕ) → (new (own h)).removes c n ≡ true → removed (Then h e) (dot_of (own h) n) ≡ true
    own_targets c n f = go (or_cases (x.removes c n) (removes_by h e.outcome c n) (sym (ap (λ (y : Deeds). y.removes c n) (new_own (own h) refl)) ∙ f))
      where
        go : (x.removes c n ≡ true) ⊎ (removes_by h e.outcome c n ≡ true) → removed (Then h e) (dot_of (own h) n) ≡ true
        go (inl k) =
            let p = (are (own h)).targets_in c n k in
            removed_old (dot_of (own h) n) (t.honest.targets_known (own h) c n (known_from h l.0 (dot_of (own h) c) refl (omega (arith, p.1)) (omega (arith, p.2, t.owners.used))) k)
        go (inr k) = removed_here (dot_of (own h) n) (did.taken (dot_of (own h) n) (and_parts (nat_eq c (count h + 1)) (has_dot (dots_taken e.outcome) (dot_of (own h) n)) k).1).1

    targets_known : (r : Replica) (c n : ℕ) → known (Then h e) (dot_of r c) ≡ true → (new r).removes c n ≡ true → removed (Then h e) (dot_of r n) ≡ true
    targets_known r c n f k = go (known_ways (dot_of r c) f)
      where
        go : (known h (dot_of r c) ≡ true) ⊎ ((is_counted (own h) (count (Then h e)) (dot_of r c) ≡ true) ⊎ (told_covers h e.step (dot_of r c) ≡ true)) → removed (Then h e) (dot_of r n) ≡ true
        go (inl g) = removed_old (dot_of r n) (t.honest.targets_known r c n g ((more r).removes c n (t.honest.known_used (dot_of r c) g) k))
        go (inr (inl g)) =
            let o : r ≡ own h = (counted_parts (own h) (count (Then h e)) (dot_of r c) g).0 in
            subst (λ (q : Replica). (new q).removes c n ≡ true → removed (Then h e) (dot_of q n) ≡ true) (sym o) (own_targets c n) k
        go (inr (inr g)) =
            let z = heard_covers h e.step (dot_of r c) g in
            let true_told = hears z.told z.is in
            removed_told (dot_of r n) (removed_heard h e.step (dot_of r n) z.told z.is z.hears (true_told.targets_told r c n z.of ((more r).removes c n (true_told.used (dot_of r c) z.of) k)))

    pub honest_then : IsHonest (then_did deeds h e) (Then h e)
    honest_then = record { row_made = row_made; known_used = known_used; removed_went = removed_went; targets_known = targets_known }

pub entries_are_deeds : EntriesAreDeeds
entries_are_deeds deeds h e are t l lasts = all_deeds_then deeds h e are t l lasts
