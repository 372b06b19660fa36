use Rattle.std.proofs.Common.{arith}
use Rattle.link_lines.proofs.LengthsOfLists.{not_six}
use Rattle.link_lines.proofs.arrays.take_six_items.Goals as goal

pub returns-then-len-ne6 : goal.returns-then-len-ne6
returns-then-len-ne6 c = not_six c.args.items.items (λ e. c.if-len-ne6.true (omega (arith, c.args.items.ok)))
