use Rattle.std.proofs.Common.{sym, ◌∙◌}
use Rattle.delta_range.proofs.NothingFacts.{none_there}
use Rattle.delta_range.proofs.GrowthFacts.{nothing_goes, these_go}
use Rattle.delta_range.proofs.growth.removal_of.Goals as goal

pub returns-then-is_empty : goal.returns-then-is_empty
returns-then-is_empty c =
    nothing_goes c.args.first.now c.args.next.now c.older-older.ensures.delta c.older-gone.ensures.delta c.requires
    (sym c.older-gone.ensures.older ∙ none_there c.older-gone.result.now (sym c.is_empty.ensures ∙ c.if-is_empty.true))

pub returns : goal.returns
returns c =
    these_go c.args.first.now c.args.next.now c.older-older.ensures.delta c.older-gone.ensures.delta c.requires
    (record { runs = c.in_ok-runs.runs; dots = c.in_ok-dots.dots }) c.owner.result c.from.result c.older-older.result.now c.older-gone.result.now
    c.in_ok-runs.ensures c.in_ok-dots.ensures c.owner.ensures c.from.ensures c.older-older.ensures.older c.older-gone.ensures.older
