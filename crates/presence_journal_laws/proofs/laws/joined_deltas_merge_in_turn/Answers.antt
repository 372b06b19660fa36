use Rattle.presence_journal_laws.proofs.Joined.{merges_in_turn, stays_within_limits}
use Rattle.presence_journal_laws.proofs.laws.joined_deltas_merge_in_turn.Goals as goal

pub returns-clause-told : goal.returns-clause-told
returns-clause-told c = merges_in_turn

pub returns-clause-limits : goal.returns-clause-limits
returns-clause-limits c = stays_within_limits
