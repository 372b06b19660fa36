use Rattle.presence_journal_laws.proofs.PartsStay.{keeps_parts, keeps_largest_parts}
use Rattle.presence_journal_laws.proofs.deed_laws.parts_stay.Goals as goal

pub returns-clause-parts : goal.returns-clause-parts
returns-clause-parts c = keeps_parts

pub returns-clause-largest : goal.returns-clause-largest
returns-clause-largest c = keeps_largest_parts
