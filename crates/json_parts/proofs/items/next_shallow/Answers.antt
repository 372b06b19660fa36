use Rattle.std.proofs.Common.{◌≡◌, ◌++◌, Some, None, sym, subst, arith}
use Rattle.json.specs.Json.{after_end_array}
use Rattle.json.specs.Tree.{items_tokens}
use Rattle.json_parts.specs.Places.{At}
use Rattle.json_parts.proofs.Places.{items_end, items_next}
use Rattle.json_parts.proofs.items.next_shallow.Goals as goal

pub returns-then-take_end_array-clause-next : goal.returns-then-take_end_array-clause-next
returns-then-take_end_array-clause-next c = λ js rest at.
    let over : after_end_array c.args.reader.now ≡ Some c.take_end_array.new.self = grind arith in
    items_end c.args.reader.now c.take_end_array.new.self js rest at over

pub returns-in_err-shallow-clause-next : goal.returns-in_err-shallow-clause-next
returns-in_err-shallow-clause-next c = λ js rest at.
    let going : (after_end_array c.args.reader.now ≡ None) × (c.take_end_array.new.self ≡ c.args.reader.now) = grind arith in
    let n = items_next c.args.reader.now js rest at going.0 in
    let more = items_tokens n.1 ++ rest in
    let memory = c.in_err-shallow.ensures.read n.0 more (subst (λ ts. At ts n.0 more) (sym going.1) n.3) in
    grind (arith, memory)

pub returns-clause-next : goal.returns-clause-next
returns-clause-next c = λ js rest at.
    let going : (after_end_array c.args.reader.now ≡ None) × (c.take_end_array.new.self ≡ c.args.reader.now) = grind arith in
    let n = items_next c.args.reader.now js rest at going.0 in
    let more = items_tokens n.1 ++ rest in
    let read = c.in_ok-shallow.ensures.read n.0 more (subst (λ ts. At ts n.0 more) (sym going.1) n.3) in
    (n.0, n.1, n.2, read.0, (read.1, n.4))
