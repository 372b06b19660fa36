use Rattle.presence_journal_laws.proofs.Covered.{keeps_status, keeps_hearing, keeps_covered, keeps_top, keeps_known}
use Rattle.presence_journal_laws.proofs.laws.covered_dots_stay.Goals as goal

pub returns-clause-status : goal.returns-clause-status
returns-clause-status c = keeps_status

pub returns-clause-heard : goal.returns-clause-heard
returns-clause-heard c = keeps_hearing

pub returns-clause-covered : goal.returns-clause-covered
returns-clause-covered c = keeps_covered

pub returns-clause-top : goal.returns-clause-top
returns-clause-top c = keeps_top

pub returns-clause-known : goal.returns-clause-known
returns-clause-known c = keeps_known
