use Rattle.orswot_core.proofs.SoundFacts.{forget_keeps, is_forgotten}
use Rattle.orswot_core.proofs.set.Orswot.forget.Goals as goal

pub invariant_of-self : goal.invariant_of-self
invariant_of-self c = forget_keeps c.self.inside.covered c.forget.new.self c.self.inside.live c.forget_rows.new.live c.args.replica.now c.self.invariant c.forget.ensures c.forget_rows.ensures

pub returns : goal.returns
returns c = is_forgotten c.self.inside.covered c.forget.new.self c.self.inside.live c.forget_rows.new.live c.args.self.now c.args.replica.now c.self.view_is c.forget.ensures c.forget_rows.ensures
