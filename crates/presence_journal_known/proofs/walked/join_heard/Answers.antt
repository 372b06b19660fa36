use Rattle.presence_journal.specs.History.{Begin, onto}
use Rattle.presence_journal_known.proofs.WalkedLemmas.{merged}
use Rattle.presence_journal_known.proofs.walked.join_heard.Goals as goal

pub returns : goal.returns
returns c = merged (onto (Begin c.args.start.now) c.args.entries.now) c.args.told.now c.args.set.now c.join_some.new.self c.requires c.in_ok-join_some.ensures.ok
