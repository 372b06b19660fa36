use Rattle.std.proofs.Common.{sym, ◌∙◌}
use Rattle.tracker_known.proofs.Results.{on_ok}
use Rattle.tracker_known.proofs.MergeLemmas.{extra_out, extra_in}
use Rattle.tracker_known.proofs.merge_turn.gather_extra.Goals as goal

pub returns-then-not-is_extra_out : goal.returns-then-not-is_extra_out
returns-then-not-is_extra_out c = extra_in c.args.set.now.live c.args.others.now c.args.told.now c.args.dot.now c.args.rows.now (sym c.is_extra_out.ensures ∙ c.if-not-is_extra_out.true)

pub returns : goal.returns
returns c = on_ok c.gather_dot.result (λ gathers. extra_out c.args.set.now.live c.args.others.now c.args.told.now c.args.dot.now c.args.rows.now c.gather_dot.new.rows (sym c.is_extra_out.ensures ∙ c.if-not-is_extra_out.false) gathers) c.gather_dot.ensures
