use Rattle.presence_metas.proofs.Seen.{at_found, at_missing, without_seen}
use Rattle.presence_metas.proofs.Kept.{removed_kept}
use Rattle.presence_metas.proofs.presences.Presences.remove.Goals as goal

pub returns-in-Some-clause-metas : goal.returns-in-Some-clause-metas
returns-in-Some-clause-metas c = rw (← c.self.view_is) (at_found (λ v. v.items) c.args.key.now c.self.inside.lists.entries c.in-Some.metas c.in-Some.ensures.value)

pub returns-in-Some-clause-rest : goal.returns-in-Some-clause-rest
returns-in-Some-clause-rest c = rw (← c.self.view_is) (without_seen (λ v. v.items) _ c.self.inside.lists.entries _ c.remove.ensures.entries)

pub returns-clause-metas : goal.returns-clause-metas
returns-clause-metas c = rw (← c.self.view_is, c.new.ensures.items) (at_missing (λ v. v.items) c.args.key.now c.self.inside.lists.entries c.in_default.ensures.value)

pub returns-clause-rest : goal.returns-clause-rest
returns-clause-rest c = rw (← c.self.view_is) (without_seen (λ v. v.items) _ c.self.inside.lists.entries _ c.remove.ensures.entries)

pub invariant_of-self : goal.invariant_of-self
invariant_of-self c = removed_kept _ c.self.inside.lists.entries c.remove.new.self.entries c.self.invariant c.remove.ensures.entries
