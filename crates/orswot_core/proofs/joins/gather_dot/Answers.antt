use Rattle.std.proofs.Common.{sym, ◌∙◌}
use Rattle.orswot_core.proofs.RowFacts.{on_ok}
use Rattle.orswot_core.specs.Steps.{left_at}
use Rattle.orswot_core.proofs.GatherFacts.{gathered, passed_over}
use Rattle.orswot_core.proofs.joins.gather_dot.Goals as goal

pub returns-then-not-is_row_left : goal.returns-then-not-is_row_left
returns-then-not-is_row_left c = λ q. passed_over (left_at c.args.live.now c.args.told.now) c.args.gone.now.items c.args.dot.now q (sym c.is_row_left.ensures ∙ c.if-not-is_row_left.true)

pub returns : goal.returns
returns c = on_ok c.push_dot.result
    (λ e q. gathered (left_at c.args.live.now c.args.told.now) c.args.gone.now.items c.push_dot.new.dots.items c.args.dot.now q (sym c.is_row_left.ensures ∙ c.if-not-is_row_left.false) e)
    c.push_dot.ensures
