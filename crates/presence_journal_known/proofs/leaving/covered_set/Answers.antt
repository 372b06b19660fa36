use Rattle.presence_journal.specs.History.{Begin, onto}
use Rattle.presence_journal_known.proofs.LeftLemmas.{left_all}
use Rattle.presence_journal_known.proofs.leaving.covered_set.Goals as goal

pub returns : goal.returns
returns c = left_all (onto (Begin c.args.start.now) c.args.entries.now) c.leave_out_named.new.set c.leave_out_named.ensures
