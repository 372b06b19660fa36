use Rattle.presence_journal.specs.History.{Begin, onto}
use Rattle.presence_journal_known.proofs.KnownLemmas.{top_at_limit}
use Rattle.presence_journal_known.proofs.sets.top_after.Goals as goal

pub returns : goal.returns
returns c = top_at_limit (onto (Begin c.args.start.now) c.args.entries.now) c.args.replica.now c.loop-top.top c.requires c.loop-top.invariant c.loop-top-test.false
