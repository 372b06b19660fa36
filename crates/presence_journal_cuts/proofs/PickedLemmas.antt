-- The live rows of one replica, picked out of a set one by one.
use Rattle.std.proofs.Common.{◌≡◌, Bool, true, false, cond, List, [], ◌∷◌, Option, Some, None, refl, sym, ◌∙◌, ap}
use Rattle.std.specs.List.{IsDistinct}
use Rattle.std.specs.FinMap as map
use Rattle.std.specs.Map.{lookup, keys_of}
use Rattle.std.specs.Cmp.{eq_by_cmp_equiv}
use Rattle.std.proofs.lemmas.Map.{lookup-none}
use Rattle.std.proofs.lemmas.Map.Entries.{none_past_head}
use Rattle.std.proofs.lemmas.Map.Keys.{IsDistinct-tail, IsDistinct-from_sorted}
use Rattle.presence_base.specs.declared.dots.Replica.{Replica}
use Rattle.presence_base.specs.declared.dots.Dot.{Dot}
use Rattle.presence_base.specs.declared.row.Row.{Row}
use Rattle.presence_base.specs.Order.{dot_cmp, same_dot, same_replica}
use Rattle.orswot_core.specs.Sets.{DotRows}
use Rattle.orswot_core.proofs.FullFacts.{live_sorted}
use Rattle.orswot_core.proofs.RowFacts.{find_is}
use Rattle.presence_journal.specs.History.{first_some}
use Rattle.presence_journal.specs.Walk.{row_at}
use Rattle.presence_journal.proofs.Lookups.{cond_none, first_none}
use Rattle.presence_journal.proofs.Same.{dot_total, same_dot-true}
use Rattle.presence_journal_cuts.specs.Reborn.{of_replica}

-- f gives the rows that were picked so far, and the rest is still to be looked at
pub record ArePicked (r : Replica) (es rest : List (Dot × Row)) (f : Dot → Option Row) : Type 0 where
  pub distinct : IsDistinct same_dot (keys_of rest)
  pub here : (d : Dot) → cond (same_replica d.replica r) (lookup (same_dot d) es) None ≡ first_some (cond (same_replica d.replica r) (lookup (same_dot d) rest) None) (f d)

pub picked_none : (r : Replica) (s : DotRows) (f : Dot → Option Row) → ((d : Dot) → f d ≡ None) → ArePicked r (map.entries s.live) (map.entries s.live) f
picked_none r s f none = record {
  distinct = IsDistinct-from_sorted dot_cmp (keys_of (map.entries s.live)) (live_sorted s.live);
  here = λ d. sym (ap (first_some (cond (same_replica d.replica r) (lookup (same_dot d) (map.entries s.live)) None)) (none d) ∙ first_none (cond (same_replica d.replica r) (lookup (same_dot d) (map.entries s.live)) None));
}

at_row : (b : Bool) (x : Dot × Row) (d : Dot) → row_at (cond b (Some x) None) d ≡ cond b (cond (same_dot d x.0) (Some x.1) None) None
at_row true x d = refl
at_row false x d = refl

pub picked_more : (r : Replica) (es rest : List (Dot × Row)) (x : Dot × Row) (b : Bool) (added : Option (Dot × Row)) (f g : Dot → Option Row) → b ≡ same_replica x.0.replica r → added ≡ cond b (Some x) None → ((d : Dot) → g d ≡ first_some (row_at added d) (f d)) → ArePicked r es (x ∷ rest) f → ArePicked r es rest g
picked_more r es rest x b added f g is add put a = record {
  distinct = IsDistinct-tail same_dot x.0 (keys_of rest) a.distinct;
  here = λ d. a.here d ∙ (go d (same_dot d x.0) refl ∙ ap (first_some (cond (same_replica d.replica r) (lookup (same_dot d) rest) None)) (sym (put d ∙ ap (λ o. first_some o (f d)) (ap (λ o. row_at o d) add ∙ at_row b x d))));
}
  where
    both : (c : Bool) (o : Option Row) → c ≡ b → first_some (cond c (Some x.1) None) o ≡ first_some None (first_some (cond b (Some x.1) None) o)
    both c o e = ap (λ y. first_some (cond y (Some x.1) None) o) e

    go : (d : Dot) (s : Bool) → same_dot d x.0 ≡ s → first_some (cond (same_replica d.replica r) (cond s (Some x.1) (lookup (same_dot d) rest)) None) (f d) ≡ first_some (cond (same_replica d.replica r) (lookup (same_dot d) rest) None) (first_some (cond b (cond s (Some x.1) None) None) (f d))
    go d true e =
        let none : lookup (same_dot d) rest ≡ None = lookup-none (same_dot d) rest (none_past_head (eq_by_cmp_equiv dot_total) d x rest a.distinct e) in
        let now : same_replica d.replica r ≡ b = ap (λ (z : Dot). same_replica z.replica r) (same_dot-true d x.0 e) ∙ sym is in
        both (same_replica d.replica r) (f d) now
        ∙ (λ i. first_some (sym (ap (λ o. cond (same_replica d.replica r) o None) none ∙ cond_none (same_replica d.replica r)) i) (first_some (cond b (Some x.1) None) (f d)))
    go d false e = ap (λ o. first_some (cond (same_replica d.replica r) (lookup (same_dot d) rest) None) (first_some o (f d))) (sym (cond_none b))

pub picked_all : (r : Replica) (s : DotRows) (f : Dot → Option Row) → ArePicked r (map.entries s.live) [] f → (d : Dot) → f d ≡ of_replica r s d
picked_all r s f a d =
    sym (a.here d ∙ ap (λ o. first_some o (f d)) (cond_none (same_replica d.replica r)))
    ∙ ap (λ o. cond (same_replica d.replica r) o None) (sym (find_is (map.entries s.live) d) ∙ sym (map.get-entries s.live d))
