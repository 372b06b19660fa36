use Rattle.presence_metas.proofs.presences.Presences.lists_are_filled.Goals as goal

pub returns : goal.returns
returns c = rw (← c.self.view_is) c.self.invariant.filled
