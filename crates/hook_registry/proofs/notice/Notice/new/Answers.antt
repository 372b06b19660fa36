use Rattle.std.proofs.Common.{rules}
use Rattle.hook_registry.proofs.notice.Notice.new.Goals as goal

pub returns-in_err-text-clause-none : goal.returns-in_err-text-clause-none
returns-in_err-text-clause-none c = search rules
