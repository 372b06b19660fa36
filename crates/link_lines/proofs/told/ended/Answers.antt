use Rattle.std.proofs.Common.{◌≡◌, Some, None, ap, arith}
use Rattle.json.specs.Json.{after_end_array}
use Rattle.json_parts.specs.Places.{items_data}
use Rattle.json_parts.proofs.Places.{items_end, items_next}
use Rattle.link_lines.specs.ReadingMembers.{none_left}
use Rattle.link_lines.proofs.told.ended.Goals as goal

pub returns-then-take_end_array : goal.returns-then-take_end_array
returns-then-take_end_array c = λ js rest at.
    let over : after_end_array c.args.reader.now ≡ Some c.take_end_array.new.self = grind arith in
    let end = items_end c.args.reader.now c.take_end_array.new.self js rest at over in
    (ap (λ l. none_left (items_data l)) end.0, end.1)

pub returns-else-take_end_array : goal.returns-else-take_end_array
returns-else-take_end_array c = λ js rest at.
    let going : after_end_array c.args.reader.now ≡ None = grind arith in
    let n = items_next c.args.reader.now js rest at going in
    ap (λ l. none_left (items_data l)) n.2
