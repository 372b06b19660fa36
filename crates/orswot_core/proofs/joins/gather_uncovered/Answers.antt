use Rattle.std.proofs.Common.{not, sym, ◌∙◌, ap}
use Rattle.std.specs.FinSet as set
use Rattle.orswot_core.proofs.RowFacts.{on_ok}
use Rattle.orswot_core.proofs.GatherFacts.{gathered, passed_over}
use Rattle.orswot_core.proofs.joins.gather_uncovered.Goals as goal

pub returns-then-covers : goal.returns-then-covers
returns-then-covers c = λ q. passed_over (λ d. not (set.contains c.args.covered.now d)) c.args.added.now.items c.args.dot.now q (ap not (sym c.covers.ensures ∙ c.if-covers.true))

pub returns : goal.returns
returns c = on_ok c.push_dot.result
    (λ e q. gathered (λ d. not (set.contains c.args.covered.now d)) c.args.added.now.items c.push_dot.new.dots.items c.args.dot.now q (ap not (sym c.covers.ensures ∙ c.if-covers.false)) e)
    c.push_dot.ensures
