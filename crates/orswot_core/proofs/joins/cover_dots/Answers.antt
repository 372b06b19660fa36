use Rattle.std.proofs.Common.{◌||◌, sym, ◌∙◌, ap}
use Rattle.std.specs.List.{list_any}
use Rattle.std.specs.FinSet as set
use Rattle.presence_base.specs.Order.{same_dot}
use Rattle.orswot_core.proofs.RowFacts.{on_ok}
use Rattle.orswot_core.proofs.CoverFacts.{covered_already, covered_more}
use Rattle.orswot_core.proofs.joins.cover_dots.Goals as goal

pub returns-then-are_covered-clause-ok : goal.returns-then-are_covered-clause-ok
returns-then-are_covered-clause-ok c = on_ok c.add.result
    (λ e q. ap (λ s. set.contains s q) e ∙ covered_already c.args.covered.now c.args.event c.args.dots.now q (sym c.are_covered.ensures ∙ c.if-are_covered.true)) c.add.ensures.ok

pub returns-clause-ok : goal.returns-clause-ok
returns-clause-ok c = on_ok c.join.result
    (λ e q. covered_more c.args.covered.now c.add_dots.new.covered c.join.new.self c.args.event c.args.dots.now q
    (e ∙ ap (set.union c.args.covered.now) c.in_ok-add.ensures.ok)
    (c.in_ok-add_dots.ensures q ∙ ap (λ s. set.contains s q || list_any (same_dot q) c.args.dots.now) c.new-more.ensures)) c.join.ensures.ok
