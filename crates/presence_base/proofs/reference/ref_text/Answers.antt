use Rattle.std.proofs.Common.{rules}
use Rattle.presence_base.proofs.reference.ref_text.Goals as goal

pub returns : goal.returns
returns c = search rules
