use Rattle.presence_journal_laws.proofs.PlainLemmas.{need_chains}
use Rattle.presence_journal_laws.proofs.laws.cuts_need_chains.Goals as goal

pub returns : goal.returns
returns c = need_chains
