use Rattle.std.proofs.Common.{◌∙◌, ap}
use Rattle.std.specs.FinMap as map
use Rattle.orswot_core.proofs.FullFacts.{entries_are}
use Rattle.orswot_core.proofs.set.Orswot.rows.Goals as goal

pub returns : goal.returns
returns c = c.iter.ensures.rest ∙ (entries_are c.self.inside.live.entries c.iter.ensures.ordered ∙ ap (λ v. map.entries v.live) c.self.view_is)
