use Rattle.std.proofs.Common.{sym, ◌∙◌}
use Rattle.delta_range.proofs.DeltaFacts.{form_none, form_rest, form_whole}
use Rattle.delta_range.proofs.delta.has_delta_form.Goals as goal

pub returns-then-are_older : goal.returns-then-are_older
returns-then-are_older c =
    form_whole c.args.told.now c.args.before.now c.args.range.now c.requires (sym c.are_ranges_older.ensures ∙ c.if-are_ranges_older.true)
    c.extras.result.now c.live.result.now c.extras.ensures.extras c.live.ensures.live (sym c.are_older.ensures ∙ c.if-are_older.true) c.are_within.result c.are_within.ensures

pub returns-else-are_older : goal.returns-else-are_older
returns-else-are_older c =
    form_rest c.args.told.now c.args.before.now c.args.range.now c.requires (sym c.are_ranges_older.ensures ∙ c.if-are_ranges_older.true)
    c.extras.result.now c.extras.ensures.extras c.are_older.result c.are_older.ensures c.if-are_older.false

pub returns-else-are_ranges_older : goal.returns-else-are_ranges_older
returns-else-are_ranges_older c =
    form_none c.args.told.now c.args.before.now c.args.range.now c.requires c.are_ranges_older.result c.are_ranges_older.ensures c.if-are_ranges_older.false
