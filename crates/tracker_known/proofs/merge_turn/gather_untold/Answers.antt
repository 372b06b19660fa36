use Rattle.std.proofs.Common.{sym, ◌∙◌, ap, not}
use Rattle.std.specs.BTreeSet.{contains}
use Rattle.presence_base.specs.declared.dots.Dot.{Dot}
use Rattle.presence_base.specs.Order.{dot_cmp}
use Rattle.tracker_known.proofs.Results.{on_ok}
use Rattle.tracker_known.proofs.MergeLemmas.{dot_out, dot_in}
use Rattle.tracker_known.proofs.merge_turn.gather_untold.Goals as goal

pub returns-then-contains : goal.returns-then-contains
returns-then-contains c = dot_in c.args.set.now.live (λ (q : Dot). not (contains dot_cmp c.args.told.now q)) c.args.dot.now c.args.rows.now (ap not (sym c.contains.ensures ∙ c.if-contains.true))

pub returns : goal.returns
returns c = on_ok c.gather_dot.result (λ gathers. dot_out c.args.set.now.live (λ (q : Dot). not (contains dot_cmp c.args.told.now q)) c.args.dot.now c.args.rows.now c.gather_dot.new.rows (ap not (sym c.contains.ensures ∙ c.if-contains.false)) gathers) c.gather_dot.ensures
