use Rattle.std.proofs.Common.{◌∙◌, ap}
use Rattle.orswot_core.proofs.ReplicaRows.{rows_in_are}
use Rattle.orswot_core.proofs.set.Orswot.rows_in.Goals as goal

pub returns : goal.returns
returns c = c.rows_in_range.ensures.rows ∙ rows_in_are c.self.inside.live c.args.self.now.live c.args.range.now c.rows_in_range.ensures.ordered (ap (λ v. v.live) c.self.view_is)
