use Rattle.presence_journal_laws.proofs.Told.{keeps_cut, keeps_older, keeps_recent, keeps_shown_chains, keeps_unused_chains}
use Rattle.presence_journal_laws.proofs.laws.cuts_stay.Goals as goal

pub returns-clause-cut : goal.returns-clause-cut
returns-clause-cut c = keeps_cut

pub returns-clause-older : goal.returns-clause-older
returns-clause-older c = keeps_older

pub returns-clause-recent : goal.returns-clause-recent
returns-clause-recent c = keeps_recent

pub returns-clause-chains : goal.returns-clause-chains
returns-clause-chains c = keeps_shown_chains

pub returns-clause-unused : goal.returns-clause-unused
returns-clause-unused c = keeps_unused_chains
