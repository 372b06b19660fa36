use Rattle.phx_message.proofs.Lines.{text_lacks}
use Rattle.phx_message.proofs.laws.texts_are_lines.Goals as goal

pub returns : goal.returns
returns c = text_lacks
