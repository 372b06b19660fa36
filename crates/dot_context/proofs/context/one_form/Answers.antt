use Rattle.dot_context.proofs.FormFacts.{only_form}
use Rattle.dot_context.proofs.context.one_form.Goals as goal

pub returns : goal.returns
returns c = only_form
