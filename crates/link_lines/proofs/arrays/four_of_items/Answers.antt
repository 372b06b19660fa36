use Rattle.link_lines.proofs.LengthsOfLists.{not_four}
use Rattle.link_lines.proofs.arrays.four_of_items.Goals as goal

pub returns-then-items-ne4 : goal.returns-then-items-ne4
returns-then-items-ne4 c = not_four c.args.items.now c.if-items-ne4.true
