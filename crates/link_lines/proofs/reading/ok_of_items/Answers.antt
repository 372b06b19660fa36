use Rattle.link_lines.proofs.Lengths.{one, not_one}
use Rattle.link_lines.proofs.reading.ok_of_items.Goals as goal

pub returns-then-items-ne1 : goal.returns-then-items-ne1
returns-then-items-ne1 c = not_one c.args.items.now c.if-items-ne1.true

pub returns : goal.returns
returns c = one c.args.items.now c.if-items-ne1.false
