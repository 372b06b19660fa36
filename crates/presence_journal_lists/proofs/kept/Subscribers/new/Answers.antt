use Rattle.std.proofs.Common.{refl}
use Rattle.presence_journal_lists.proofs.kept.Subscribers.new.Goals as goal

pub returns : goal.returns
returns c = refl
