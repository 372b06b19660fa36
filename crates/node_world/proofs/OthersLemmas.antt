-- What is told of some replicas alone is true, and within its limits, where all of it is.
use Rattle.std.proofs.Common.{◌≡◌, Bool, true, false, cond, not, ◌&&◌, is_none, Option, Some, None, refl, sym, ◌∙◌}
use Rattle.std.specs.List.{list_all}
use Rattle.std.proofs.lemmas.Bool.{and_parts, and_from, not-true}
use Rattle.presence_base.specs.declared.dots.Replica.{Replica}
use Rattle.presence_base.specs.declared.dots.Dot.{Dot}
use Rattle.presence_base.specs.declared.row.Row.{Row}
use Rattle.orswot_core.specs.Limits.{is_dot, is_row, is_range, are_texts}
use Rattle.orswot_core.specs.Telling.{ToldValue, covers, live_row, tells_removed, cut_to}
use Rattle.orswot_core.specs.Checks.{IsTold, are_forward, are_live_covered, has_live_twice}
use Rattle.orswot_core.proofs.CutFacts.{cut_tells, cut_told}
use Rattle.orswot_core.specs.Full.{dot_of}
use Rattle.presence_journal.specs.StepLimits.{is_told, is_named, is_heard}
use Rattle.presence_journal_laws.specs.Deeds.{AllDeeds}
use Rattle.presence_journal_laws.specs.Truth.{TellsTrue}
use Rattle.node_world.specs.Others.{is_other, of_others}
use Rattle.node_world.specs.TrueWorlds.{IsTrueTold}
use Rattle.node_world.proofs.Lists.{all_picked}

-- ---- truth

row_of_cut : (picks : Replica → Bool) (t : ToldValue) (d : Dot) (r : Row) → live_row (cut_to picks t) d ≡ Some r → live_row t d ≡ Some r
row_of_cut picks t d r f = go (picks d.replica) (sym (cut_tells picks t d).1 ∙ f)
  where
    go : (b : Bool) → cond b (live_row t d) None ≡ Some r → live_row t d ≡ Some r
    go true g = g
    go false g = absurd (cc)

removed_by_cut : (picks : Replica → Bool) (t : ToldValue) (d : Dot) → tells_removed (cut_to picks t) d ≡ (picks d.replica && tells_removed t d)
removed_by_cut picks t d = (λ i. (cut_tells picks t d).0 i && is_none ((cut_tells picks t d).1 i)) ∙ go (picks d.replica)
  where
    go : (b : Bool) → ((b && covers t d) && is_none (cond b (live_row t d) None)) ≡ (b && (covers t d && is_none (live_row t d)))
    go true = refl
    go false = refl

covered_by_cut : (picks : Replica → Bool) (t : ToldValue) (d : Dot) → covers (cut_to picks t) d ≡ true → (picks d.replica ≡ true) × (covers t d ≡ true)
covered_by_cut picks t d f = and_parts (picks d.replica) (covers t d) (sym (cut_tells picks t d).0 ∙ f)

-- a count is told with all that it removed, which is of one replica with it
cut_tells_true : (deeds : AllDeeds) (picks : Replica → Bool) (t : ToldValue) → TellsTrue deeds t → TellsTrue deeds (cut_to picks t)
cut_tells_true deeds picks t k = record {
  row_made = λ d r f. k.row_made d r (row_of_cut picks t d r f);
  used = λ d f. k.used d (covered_by_cut picks t d f).1;
  removed_went = λ d f. k.removed_went d (and_parts (picks d.replica) (tells_removed t d) (sym (removed_by_cut picks t d) ∙ f)).1;
  targets_told = λ r c n f g.
      let p = covered_by_cut picks t (dot_of r c) f in
      removed_by_cut picks t (dot_of r n) ∙ and_from (picks r) (tells_removed t (dot_of r n)) p.0 (k.targets_told r c n p.1 g);
}

-- ---- limits

pub heard_told : (t : ToldValue) → IsTold t → list_all is_named t.live ≡ true → list_all (λ x. are_texts x.1) t.live ≡ true → is_heard t ≡ true
heard_told t k n x = λ i. (k.forward i && (k.ranges i && (k.extras i && (k.rows i && (k.covered i && not (k.once i)))))) && (n i && x i)

told_parts : (t : ToldValue) → is_told t ≡ true → IsTold t
told_parts t h =
    let a = and_parts (are_forward t) _ h in
    let b = and_parts (list_all is_range t.ranges) _ a.1 in
    let c = and_parts (list_all is_dot t.extras) _ b.1 in
    let d = and_parts (list_all (λ x. is_dot x.0 && is_row x.1) t.live) _ c.1 in
    let e = and_parts (are_live_covered t) _ d.1 in
    record { forward = a.0; ranges = b.0; extras = c.0; rows = d.0; covered = e.0; once = not-true (has_live_twice t) e.1 }

cut_is_heard : (picks : Replica → Bool) (t : ToldValue) → is_heard t ≡ true → is_heard (cut_to picks t) ≡ true
cut_is_heard picks t h =
    let a = and_parts (is_told t) _ h in
    let b = and_parts (list_all is_named t.live) _ a.1 in
    let picked : Dot × Row → Bool = λ x. picks x.0.replica in
    heard_told (cut_to picks t) (cut_told picks t (told_parts t a.0)) (all_picked is_named picked t.live b.0) (all_picked (λ (x : Dot × Row). are_texts x.1) picked t.live b.1)

-- ---- what is told of others

pub others_true : (deeds : AllDeeds) (own : Option Replica) (t : ToldValue) → IsTrueTold deeds t → IsTrueTold deeds (of_others own t)
others_true deeds None t k = k
others_true deeds (Some own) t k = (cut_tells_true deeds (is_other own) t k.0, cut_is_heard (is_other own) t k.1)
