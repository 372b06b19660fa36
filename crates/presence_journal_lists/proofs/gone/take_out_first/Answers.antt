use Rattle.std.proofs.Common.{sym, ◌∙◌}
use Rattle.presence_journal_lists.proofs.GoneLemmas.{one_out, none_out}
use Rattle.presence_journal_lists.proofs.gone.take_out_first.Goals as goal

pub returns-then-not-is_first-clause-out : goal.returns-then-not-is_first-clause-out
returns-then-not-is_first-clause-out c = none_out c.args.first.now c.args.replica.now (sym c.is_first.ensures ∙ c.if-not-is_first.true)

pub returns-clause-out : goal.returns-clause-out
returns-clause-out c = one_out c.args.first.now c.remove.new.self c.args.replica.now (sym c.is_first.ensures ∙ c.if-not-is_first.false) c.remove.ensures.updates.0
