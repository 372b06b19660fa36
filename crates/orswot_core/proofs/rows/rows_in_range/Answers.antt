use Rattle.std.proofs.Common.{◌∙◌, ap}
use Rattle.std.specs.List.{filter}
use Rattle.presence_base.specs.declared.dots.Dot.{Dot}
use Rattle.presence_base.specs.declared.row.Row.{Row}
use Rattle.orswot_core.proofs.GatherFacts.{between_dots, forward_ends}
use Rattle.orswot_core.proofs.rows.rows_in_range.Goals as goal

pub range-requires : goal.range-requires
range-requires c = forward_ends c.args.range.now c.requires

pub returns-clause-rows : goal.returns-clause-rows
returns-clause-rows c = c.range.ensures.between tt ∙ ap (λ (p : Dot → _). filter (λ (e : Dot × Row). p e.0) c.args.live.now.entries) (λ i q. between_dots c.args.range.now.0 c.args.range.now.1 c.args.range.now.2 q i)
