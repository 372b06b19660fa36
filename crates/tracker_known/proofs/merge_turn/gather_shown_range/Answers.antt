use Rattle.std.proofs.Common.{sym, ◌∙◌}
use Rattle.tracker_known.proofs.Results.{on_ok}
use Rattle.tracker_known.proofs.MergeLemmas.{range_shown, range_hidden}
use Rattle.tracker_known.proofs.merge_turn.gather_shown_range.Goals as goal

pub returns-then-not-shows_told : goal.returns-then-not-shows_told
returns-then-not-shows_told c = range_hidden c.args.set.now.live c.args.others.now c.args.told.now c.args.range.now c.args.rows.now (sym c.shows_told.ensures ∙ c.if-not-shows_told.true)

pub returns : goal.returns
returns c = on_ok c.gather_range.result (λ gathers. range_shown c.args.set.now.live c.args.others.now c.args.told.now c.args.range.now c.args.rows.now c.gather_range.new.rows (sym c.shows_told.ensures ∙ c.if-not-shows_told.false) gathers) c.gather_range.ensures
