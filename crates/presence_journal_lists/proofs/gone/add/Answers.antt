use Rattle.std.proofs.Common.{sym, ◌∙◌}
use Rattle.presence_journal_lists.specs.Standings.{is_gone_in}
use Rattle.presence_journal_lists.proofs.GoneLemmas.{already, more_first, none_where}
use Rattle.presence_journal_lists.proofs.gone.add.Goals as goal

pub returns-then-is_among-clause-ok : goal.returns-then-is_among-clause-ok
returns-then-is_among-clause-ok c = already (is_gone_in c.args.gone.now) c.args.replica.now (sym c.is_among.ensures ∙ c.if-is_among.true)

pub returns-then-contains_key-clause-ordered : goal.returns-then-contains_key-clause-ordered
returns-then-contains_key-clause-ordered c = record { first = c.requires.first; further = c.add_further.ensures.ordered }

pub returns-in-Ok-clause-ok : goal.returns-in-Ok-clause-ok
returns-in-Ok-clause-ok c =
    let f = c.args.gone.now.first in
    let r = c.args.replica.now in
    more_first f c.insert.new.self c.args.gone.now.further r (none_where f r.name (sym c.contains_key.ensures ∙ c.if-contains_key.false)) c.in-Ok.ensures.updates.0

pub returns-in-Ok-clause-ordered : goal.returns-in-Ok-clause-ordered
returns-in-Ok-clause-ordered c = record { first = c.in-Ok.ensures.ordered; further = c.requires.further }

pub returns-in-Err-clause-ordered : goal.returns-in-Err-clause-ordered
returns-in-Err-clause-ordered c = record { first = c.in-Err.ensures.ordered; further = c.requires.further }
