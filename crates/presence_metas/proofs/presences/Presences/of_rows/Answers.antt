use Rattle.presence_metas.proofs.Whole.{listing_whole}
use Rattle.presence_metas.proofs.presences.Presences.of_rows.Goals as goal

pub returns-clause-whole : goal.returns-clause-whole
returns-clause-whole c = listing_whole c.loop-dot.presences c.loop-dot.invariant.whole
