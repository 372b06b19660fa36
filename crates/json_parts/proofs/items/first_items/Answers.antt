use Rattle.std.proofs.Common.{◌≤◌, ◌<◌, length, arith}
use Rattle.json_parts.specs.Items.{after}
use Rattle.json_parts.proofs.items.first_items.Goals as goal

pub returns-in_err-items-clause-read : goal.returns-in_err-items-clause-read
returns-in_err-items-clause-read c = λ js rest at.
    let memory = c.in_err-items.ensures.few js rest at in
    grind (arith, memory)

pub returns-then-len-most-clause-read : goal.returns-then-len-most-clause-read
returns-then-len-most-clause-read c = λ js rest at.
    let read = c.in_ok-items.ensures.few js rest at in
    let less : length c.in_ok-items.items.items < c.args.most = grind arith in
    (read.0, read.1.1 less)

pub returns-in_err-skip_items-clause-read : goal.returns-in_err-skip_items-clause-read
returns-in_err-skip_items-clause-read c = λ js rest at.
    let read = c.in_ok-items.ensures.few js rest at in
    let full : c.args.most ≤ length c.in_ok-items.items.items = grind arith in
    let memory = c.in_err-skip_items.ensures.passed (after c.args.most js) rest (read.1.0 full) in
    grind (arith, memory)

pub returns-clause-read : goal.returns-clause-read
returns-clause-read c = λ js rest at.
    let read = c.in_ok-items.ensures.few js rest at in
    let full : c.args.most ≤ length c.in_ok-items.items.items = grind arith in
    let passed = c.in_ok-skip_items.ensures.passed (after c.args.most js) rest (read.1.0 full) in
    (read.0, passed.1)
