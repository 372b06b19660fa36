use Rattle.presence_metas.proofs.presences.Presences.keys_rise.Goals as goal

pub returns : goal.returns
returns c = rw (← c.self.view_is) c.self.invariant.rises
