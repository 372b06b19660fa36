-- Later deeds: what was true of a history or of a told value stays so.
use Rattle.std.proofs.Common.{◌≡◌, ℕ, ◌+◌, ◌≤◌, Bool, true, false, cond, Option, Some, None, refl, sym, ◌∙◌, ap, subst, arith, inl, inr, eqb-true}
use Rattle.std.specs.Prelude.{◌⊎◌, nat_eq}
use Rattle.std.proofs.lemmas.Bool.{and_parts, or_cases, or_left}
use Rattle.presence_base.specs.declared.dots.Replica.{Replica}
use Rattle.presence_base.specs.Order.{same_replica}
use Rattle.orswot_core.specs.Full.{dot_of}
use Rattle.delta_range.specs.Deltas.{DeltaValue, telling}
use Rattle.delta_range.specs.Keeping.{Kept}
use Rattle.presence_journal.specs.declared.entry.Entry.{Entry}
use Rattle.presence_journal.specs.History.{History, own, count, first_some, row_added, dot_removed, next_dot, has_dot}
use Rattle.presence_journal.specs.Present.{dots_taken}
use Rattle.presence_journal.proofs.Same.{same_replica-true, same_replica-refl}
use Rattle.presence_journal_laws.specs.Deeds.{Deeds, AllDeeds, removes_by, with_entry, put}
use Rattle.presence_journal_laws.specs.Truth.{IsHonest, IsOwners, IsClosed, IsTrueKept, AreTrueKept, DoesMore, DoMore}
use Rattle.presence_journal_laws.specs.DeedLaws.{EntriesGoOn, OthersStayTrue, ToldStaysTrue}

pub put_same : {A : Type 0} (r q : Replica) (x : A) (f : Replica → A) → q ≡ r → put r x f q ≡ x
put_same r q x f p = ap (λ b. cond b x (f q)) (ap (λ a. same_replica a r) p ∙ same_replica-refl r)

pub more_same : (x : Deeds) → DoesMore x x
more_same x = record { made = λ n r f. f; used = omega arith; went = λ n f. f; removes = λ c n l f. f }

pub more_did : (x : Deeds) (h : History) (e : Entry) → x.used ≡ count h → DoesMore x (with_entry x h e)
more_did x h e u = record {
  made = λ n r f. ap (λ o. first_some o (row_added e.step e.outcome (dot_of (own h) n))) f;
  used = omega arith;
  went = λ n f. or_left (x.went n) (dot_removed e.outcome (next_dot h) (dot_of (own h) n)) f;
  removes = λ c n l f. old c n l (or_cases (x.removes c n) (removes_by h e.outcome c n) f);
}
  where
    old : (c n : ℕ) → c ≤ x.used → (x.removes c n ≡ true) ⊎ (removes_by h e.outcome c n ≡ true) → x.removes c n ≡ true
    old c n l (inl f) = f
    old c n l (inr f) =
        let p : c ≡ count h + 1 = eqb-true c (count h + 1) (and_parts (nat_eq c (count h + 1)) (has_dot (dots_taken e.outcome) (dot_of (own h) n)) f).0 in
        absurd (omega (arith, p, l, u))

pub do_more : (deeds : AllDeeds) (r : Replica) (y : Deeds) → DoesMore (deeds r) y → DoMore deeds (put r y deeds)
do_more deeds r y m q = go (same_replica q r) refl
  where
    go : (b : Bool) → same_replica q r ≡ b → DoesMore (deeds q) (cond b y (deeds q))
    go true f = subst (λ (p : Replica). DoesMore (deeds p) y) (sym (same_replica-true q r f)) m
    go false f = more_same (deeds q)

pub entries_go_on : EntriesGoOn
entries_go_on deeds h e t = do_more deeds (own h) (with_entry (deeds (own h)) h e) (more_did (deeds (own h)) h e t.owners.used)

pub told_stays_true : ToldStaysTrue
told_stays_true old new t more k = record {
  row_made = λ d r f. (more d.replica).made d.count r (k.row_made d r f);
  used = λ d f. let p = (more d.replica).used in omega (arith, k.used d f);
  removed_went = λ d f. (more d.replica).went d.count (k.removed_went d f);
  targets_told = λ r c n f g. k.targets_told r c n f ((more r).removes c n (k.used (dot_of r c) f) g);
}

pub honest_stays : (old new : AllDeeds) (h : History) → DoMore old new → IsHonest old h → IsHonest new h
honest_stays old new h more k = record {
  row_made = λ d r f. (more d.replica).made d.count r (k.row_made d r f);
  known_used = λ d f. let p = (more d.replica).used in omega (arith, k.known_used d f);
  removed_went = λ d f. (more d.replica).went d.count (k.removed_went d f);
  targets_known = λ r c n f g. k.targets_known r c n f ((more r).removes c n (k.known_used (dot_of r c) f) g);
}

true_kept : (old new : AllDeeds) (last : Option (Replica × ℕ)) (o : Option DeltaValue) → DoMore old new → IsTrueKept old last o → IsTrueKept new last o
true_kept old new last None more k = tt
true_kept old new last (Some d) more k = (k.0, told_stays_true old new (telling d) more k.1, k.2)

pub kept_stays : (old new : AllDeeds) (k : Kept) → DoMore old new → AreTrueKept old k → AreTrueKept new k
kept_stays old new k more t = record {
  short = true_kept old new k.last k.short more t.short;
  middle = true_kept old new k.last k.middle more t.middle;
  long = true_kept old new k.last k.long more t.long;
}

pub others_stay_true : OthersStayTrue
others_stay_true old new h more same t = record {
  legal = t.legal;
  honest = honest_stays old new h more t.honest;
  owners = subst (λ x. IsOwners x h) (sym same) t.owners;
  closed = subst (λ x. IsClosed x h) (sym same) t.closed;
  kept = λ k f. kept_stays old new k more (t.kept k f);
}
