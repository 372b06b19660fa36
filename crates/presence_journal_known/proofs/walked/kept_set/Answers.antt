use Rattle.presence_journal_known.proofs.WalkedLemmas.{kept}
use Rattle.presence_journal_known.proofs.walked.kept_set.Goals as goal

pub returns : goal.returns
returns c = kept c.args.start.now c.new-set.result c.join.new.self c.new-set.ensures c.in_ok-join.ensures.ok
