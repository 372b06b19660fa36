use Rattle.presence_journal_laws.proofs.Limit.{holds_most, queues_items, falls_behind, stays_behind}
use Rattle.presence_journal_laws.proofs.laws.queue_limit.Goals as goal

pub returns-clause-most : goal.returns-clause-most
returns-clause-most c = holds_most

pub returns-clause-items : goal.returns-clause-items
returns-clause-items c = queues_items

pub returns-clause-behind : goal.returns-clause-behind
returns-clause-behind c = falls_behind

pub returns-clause-until : goal.returns-clause-until
returns-clause-until c = stays_behind
