use Rattle.std.proofs.Common.{◌∙◌, ap}
use Rattle.orswot_core.proofs.ReplicaRows.{rows_found}
use Rattle.orswot_core.proofs.set.Orswot.rows_of.Goals as goal

pub returns : goal.returns
returns c = c.rows_in_range.ensures.rows ∙ rows_found c.self.inside.covered c.self.inside.live c.args.self.now.live c.args.replica.now c.self.invariant c.rows_in_range.ensures.ordered (ap (λ v. v.live) c.self.view_is)
