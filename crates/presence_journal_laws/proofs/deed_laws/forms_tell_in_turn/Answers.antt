use Rattle.presence_journal_laws.proofs.Forms.{forms_tell_in_turn, forms_merge_in_turn}
use Rattle.presence_journal_laws.proofs.deed_laws.forms_tell_in_turn.Goals as goal

pub returns-clause-set : goal.returns-clause-set
returns-clause-set c = forms_tell_in_turn

pub returns-clause-history : goal.returns-clause-history
returns-clause-history c = forms_merge_in_turn c.joined_deltas_merge_in_turn.ensures.told
