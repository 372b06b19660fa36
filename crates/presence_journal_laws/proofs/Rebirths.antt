-- What stays true behind a rebirth.
use Rattle.std.proofs.Common.{◌≡◌, ℕ, ◌<◌, ◌≤◌, Bool, true, false, cond, ◌||◌, length, Option, Some, None, refl, sym, ◌∙◌, ap, subst, arith}
use Rattle.std.specs.Prelude.{◌⊎◌}
use Rattle.std.specs.Map.{lookup}
use Rattle.presence_base.specs.declared.dots.Replica.{Replica}
use Rattle.presence_base.specs.declared.dots.Dot.{Dot}
use Rattle.presence_base.specs.declared.row.Row.{Row}
use Rattle.presence_base.specs.Order.{same_replica, same_dot}
use Rattle.dot_context.specs.Runs.{holds}
use Rattle.delta_range.specs.Keeping.{Kept}
use Rattle.presence_journal.specs.declared.entry.Outcome.TheVariants as outcomes_are
use Rattle.presence_journal.specs.declared.entry.Outcome.{Outcome}
use Rattle.presence_journal.specs.declared.entry.Entry.{Entry}
use Rattle.presence_journal.specs.History.{History, Then, own, reborn, count, is_counted, last_cut, first_some, row_again, known, removed, row, nothing_kept}
use Rattle.presence_journal.specs.Table.{IsLegal, own_dots, reborn_from}
use Rattle.presence_journal.specs.Walk.{is_rebirth, is_reborn}
use Rattle.presence_journal.proofs.Same.{same_replica-true, same_replica-refl}
use Rattle.presence_journal.proofs.Reborn.{IsAgain, again_of, again_parts}
use Rattle.presence_journal.proofs.HistoryLemmas.{legal_knows, counted_parts, own_again, again_unknown, removed_again, row_again-is}
use Rattle.presence_journal.proofs.AfterRebirth.{known_again}
use Rattle.presence_journal_cuts.specs.Cuts.{chain_after, chain, older_after, older}
use Rattle.presence_journal_cuts.specs.KeptDeltas.{KeepsAfter, AreKeptOf}
use Rattle.presence_journal_laws.specs.Deeds.{Deeds, no_deeds, AllDeeds}
use Rattle.presence_journal_laws.specs.Truth.{AreDeeds, IsHonest, IsOwners, IsClosed, AreTrueKept, IsTrueOf, DoesMore}
use Rattle.presence_journal_laws.specs.DeedLaws.{reborn_deeds, reborn_did, RebirthsStayTrue, RebirthsAreDeeds, RebirthsGoOn}
use Rattle.presence_journal_laws.proofs.More.{put_same, do_more}
use Rattle.presence_journal_laws.proofs.Keeping.{nothing_true}
use Rattle.orswot_core.specs.Full.{dot_of}

first_none : (o : Option Row) → first_some o None ≡ o
first_none None = refl
first_none (Some r) = refl

module _ (deeds : AllDeeds) (h : History) (e : Entry) (l : IsLegal (Then h e)) (n : is_rebirth e.step ≡ true) where
  w : IsAgain h e.step e.outcome
  w = again_of h e.step e.outcome n l.1

  abbrev new : AllDeeds
  new = reborn_did deeds h e

  of_new : (r : Replica) → r ≡ own (Then h e) → new r ≡ reborn_deeds h e
  of_new r o = put_same (own (Then h e)) r (reborn_deeds h e) deeds o

  of_other : (r : Replica) → same_replica r (own (Then h e)) ≡ false → new r ≡ deeds r
  of_other r o = ap (λ b. cond b (reborn_deeds h e) (deeds r)) o

  -- nothing was known of the new one
  unknown : (d : Dot) → d.replica ≡ own (Then h e) → known h d ≡ true → ⊥
  unknown d o = again_unknown h d w.incarnation w.fresh (o ∙ own_again h e w)

  -- what is said of the others is what was said
  row_of_other : (d : Dot) → same_replica d.replica (own (Then h e)) ≡ false → row (Then h e) d ≡ row h d
  row_of_other d o =
      row_again-is h e d w
      ∙ (ap (λ x. first_some (row h d) (row_again (row h) x)) (none (lookup (same_dot d) (reborn_from (reborn (own h) w.incarnation) 0 (own_dots h))) refl)
      ∙ first_none (row h d))
    where
      none : (x : Option Dot) → lookup (same_dot d) (reborn_from (reborn (own h) w.incarnation) 0 (own_dots h)) ≡ x → x ≡ None
      none None p = refl
      none (Some old) p =
          let mine : d.replica ≡ own (Then h e) = (again_parts (reborn (own h) w.incarnation) 0 (own_dots h) d old p).0 ∙ sym (own_again h e w) in
          let q : true ≡ false = sym (ap (λ r. same_replica r (own (Then h e))) mine ∙ same_replica-refl (own (Then h e))) ∙ o in
          absurd (cc)

  known_of_other : (d : Dot) → same_replica d.replica (own (Then h e)) ≡ false → known (Then h e) d ≡ true → known h d ≡ true
  known_of_other d o f = go (known h d) refl (sym (known_again h e d w) ∙ f)
    where
      go : (b : Bool) → known h d ≡ b → (b || is_counted (own (Then h e)) (length (own_dots h)) d) ≡ true → b ≡ true
      go true p g = refl
      go false p g =
          let q : (d.replica ≡ own (Then h e)) × (0 < d.count) × (d.count ≤ length (own_dots h)) = counted_parts (own (Then h e)) (length (own_dots h)) d g in
          let x : true ≡ false = sym (ap (λ r. same_replica r (own (Then h e))) q.0 ∙ same_replica-refl (own (Then h e))) ∙ o in
          absurd (cc)

  honest_again : IsHonest deeds h → IsHonest new (Then h e)
  honest_again k = record {
    row_made = λ d r f. row_made d r f (same_replica d.replica (own (Then h e))) refl;
    known_used = λ d f. known_used d f (same_replica d.replica (own (Then h e))) refl;
    removed_went = λ d f. removed_went d f (same_replica d.replica (own (Then h e))) refl;
    targets_known = λ r c m f g. targets_known r c m f g (same_replica r (own (Then h e))) refl;
  }
    where
      row_made : (d : Dot) (r : Row) → row (Then h e) d ≡ Some r → (b : Bool) → same_replica d.replica (own (Then h e)) ≡ b → (new d.replica).made d.count ≡ Some r
      row_made d r f true p =
          let o = same_replica-true d.replica (own (Then h e)) p in
          ap (λ (x : Deeds). x.made d.count) (of_new d.replica o) ∙ ((λ i. row (Then h e) (record { replica = sym o i; count = d.count })) ∙ f)
      row_made d r f false p = ap (λ (x : Deeds). x.made d.count) (of_other d.replica p) ∙ k.row_made d r (sym (row_of_other d p) ∙ f)

      known_used : (d : Dot) → known (Then h e) d ≡ true → (b : Bool) → same_replica d.replica (own (Then h e)) ≡ b → d.count ≤ (new d.replica).used
      known_used d f true p =
          let o = same_replica-true d.replica (own (Then h e)) p in
          let u : (new d.replica).used ≡ count (Then h e) = ap (λ (x : Deeds). x.used) (of_new d.replica o) in
          omega (arith, u, ((legal_knows (Then h e) l).of_own d o f).1)
      known_used d f false p =
          let u : (new d.replica).used ≡ (deeds d.replica).used = ap (λ (x : Deeds). x.used) (of_other d.replica p) in
          omega (arith, u, k.known_used d (known_of_other d p f))

      removed_went : (d : Dot) → removed (Then h e) d ≡ true → (b : Bool) → same_replica d.replica (own (Then h e)) ≡ b → (new d.replica).went d.count ≡ true
      removed_went d f true p = absurd (unknown d (same_replica-true d.replica (own (Then h e)) p) ((legal_knows h l.0).of_removed d (sym (removed_again h e d w) ∙ f)))
      removed_went d f false p = ap (λ (x : Deeds). x.went d.count) (of_other d.replica p) ∙ k.removed_went d (sym (removed_again h e d w) ∙ f)

      targets_known : (r : Replica) (c m : ℕ) → known (Then h e) (dot_of r c) ≡ true → (new r).removes c m ≡ true → (b : Bool) → same_replica r (own (Then h e)) ≡ b → removed (Then h e) (dot_of r m) ≡ true
      targets_known r c m f g true p =
          let q : false ≡ true = sym (ap (λ (x : Deeds). x.removes c m) (of_new r (same_replica-true r (own (Then h e)) p))) ∙ g in
          absurd (cc)
      targets_known r c m f g false p =
          removed_again h e (dot_of r m) w
          ∙ k.targets_known r c m (known_of_other (dot_of r c) p f) (sym (ap (λ (x : Deeds). x.removes c m) (of_other r p)) ∙ g)

  closed_again : IsClosed (reborn_deeds h e) (Then h e)
  unfolding chain older
  closed_again = record {
    older_low = λ m p f. let g : false ≡ true = sym (none_older e.outcome (is_of e.outcome w.outcome) m) ∙ f in absurd (cc);
    older_all = λ c m f. absurd (cc);
    older_closed = λ c m f. absurd (cc);
    chain_first = λ c m s f. absurd (cc);
    chain_closed = λ b c m s k f. absurd (cc);
    chain_low = λ b m s p f. let g : false ≡ true = sym (none_chained e.outcome (is_of e.outcome w.outcome) b m) ∙ f in absurd (cc);
    chain_unused = λ b m u p. none_chained e.outcome (is_of e.outcome w.outcome) b m;
  }
    where
      is_of : (o : Outcome) → o ≡ outcomes_are.Reborn (reborn_from (reborn (own h) w.incarnation) 0 (own_dots h)) → is_reborn o ≡ true
      is_of o p = ap is_reborn p

      none_older : (o : Outcome) → is_reborn o ≡ true → (m : ℕ) → older_after o (last_cut h) (chain h) (older h) m ≡ false
      none_older (outcomes_are.Reborn ps) a m = refl
      none_older _ a m = absurd (cc)

      none_chained : (o : Outcome) → is_reborn o ≡ true → (b m : ℕ) → holds (chain_after o (chain h) b) m ≡ false
      none_chained (outcomes_are.Reborn ps) a b m = refl
      none_chained _ a b m = absurd (cc)

  kept_again : (k : Kept) → AreKeptOf (Then h e) k → AreTrueKept new k
  unfolding AreKeptOf
  kept_again k f = subst (AreTrueKept new) (sym (is_nothing e.outcome (ap is_reborn w.outcome) f)) nothing_true
    where
      is_nothing : (o : Outcome) → is_reborn o ≡ true → KeepsAfter o (AreKeptOf h) h k → k ≡ nothing_kept
      is_nothing (outcomes_are.Reborn ps) a f = f
      is_nothing _ a f = absurd (cc)

  true_again : IsTrueOf deeds h → IsTrueOf new (Then h e)
  true_again t = record {
    legal = l;
    honest = honest_again t.honest;
    owners = subst (λ x. IsOwners x (Then h e)) (sym same) (record { used = refl; went = λ m f. absurd (cc) });
    closed = subst (λ x. IsClosed x (Then h e)) (sym same) closed_again;
    kept = kept_again;
  }
    where
      same : new (own (Then h e)) ≡ reborn_deeds h e
      same = of_new (own (Then h e)) refl

  are_again : ((r : Replica) → AreDeeds (deeds r)) → (r : Replica) → AreDeeds (new r)
  are_again are r = go (same_replica r (own (Then h e)))
    where
      fresh : AreDeeds (reborn_deeds h e)
      fresh = record {
        made_in = λ m y f.
            let knows = legal_knows (Then h e) l in
            knows.of_own (dot_of (own (Then h e)) m) refl (knows.of_row (dot_of (own (Then h e)) m) y f);
        went_why = λ m f. absurd (cc);
        went_low = λ m f. absurd (cc);
        targets_in = λ c m f. absurd (cc);
      }

      go : (b : Bool) → AreDeeds (cond b (reborn_deeds h e) (deeds r))
      go true = fresh
      go false = are r

pub rebirths_stay_true : RebirthsStayTrue
rebirths_stay_true deeds h e t l n = true_again deeds h e l n t

pub rebirths_are_deeds : RebirthsAreDeeds
rebirths_are_deeds deeds h e are l n = are_again deeds h e l n are

pub rebirths_go_on : RebirthsGoOn
rebirths_go_on deeds h e none = do_more deeds (own (Then h e)) (reborn_deeds h e) (subst (λ x. DoesMore x (reborn_deeds h e)) (sym none) from_nothing)
  where
    from_nothing : DoesMore no_deeds (reborn_deeds h e)
    from_nothing = record { made = λ m r f. absurd (cc); used = omega arith; went = λ m f. absurd (cc); removes = λ c m p f. absurd (cc) }
