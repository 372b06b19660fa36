use Rattle.number_texts.proofs.Changing.{others_marked}
use Rattle.number_texts.proofs.marks.change_in.Goals as goal

pub returns-in-Between : goal.returns-in-Between
returns-in-Between c = rw c.in-Between.is (others_marked c.args.is_name c.in-Between.field-0.now)
