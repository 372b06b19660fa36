use Rattle.presence_journal_lists.proofs.GoneLemmas.{less_both}
use Rattle.presence_journal_lists.proofs.gone.take_out.Goals as goal

pub returns-clause-out : goal.returns-clause-out
returns-clause-out c = less_both c.args.gone.now.first c.take_out_first.new.first c.args.gone.now.further c.take_out_further.new.further c.args.replica.now c.take_out_first.ensures.out c.take_out_further.ensures.out

pub returns-clause-ordered : goal.returns-clause-ordered
returns-clause-ordered c = record { first = c.take_out_first.ensures.ordered; further = c.take_out_further.ensures.ordered }
