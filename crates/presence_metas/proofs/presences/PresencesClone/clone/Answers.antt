use Rattle.std.proofs.lemmas.List.Elements.{same_from_all_zip}
use Rattle.presence_metas.proofs.Seen.{clones_seen}
use Rattle.presence_metas.proofs.presences.PresencesClone.clone.Goals as goal

pub returns : goal.returns
returns c =
    record { cases = rw (← c.self.view_is) (clones_seen (λ v. v.items) _ _ (λ k l h. h) (λ v w h. same_from_all_zip _ v.items w.items h.0 (λ x y r. r)) _ _ c.in_ok-lists.ensures.cases) }

pub invariant_of-result : goal.invariant_of-result
invariant_of-result c =
    rw (clones_seen (λ v. v.items) _ _ (λ k l h. h) (λ v w h. same_from_all_zip _ v.items w.items h.0 (λ x y r. r)) _ _ c.in_ok-lists.ensures.cases) c.self.invariant
