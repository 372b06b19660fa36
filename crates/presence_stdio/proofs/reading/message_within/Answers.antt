use Rattle.presence_stdio.proofs.Messages.{line_of_text, line_of_bytes, bytes_of_text, bytes_of_none}
use Rattle.presence_stdio.proofs.reading.message_within.Goals as goal

pub returns-in-Ok-clause-message : goal.returns-in-Ok-clause-message
returns-in-Ok-clause-message c =
    let both = c.in-Ok.ensures.cases in
    let is = line_of_text c.args.limits c.args.line.now c.if-line-limits.false both.1 in
    rw (is, ← both.0) c.decode.ensures.exact

pub returns-in-Ok-clause-none : goal.returns-in-Ok-clause-none
returns-in-Ok-clause-none c =
    let right = bytes_of_text c.args.limits c.args.line.now c.if-line-limits.false c.in-Ok.ensures.cases.1 in
    λ fault is. absurd (cc)

pub returns-in-Err-clause-message : goal.returns-in-Err-clause-message
returns-in-Err-clause-message c = line_of_bytes c.args.limits c.args.line.now c.if-line-limits.false c.in-Err.ensures.cases.0

pub returns-in-Err-clause-none : goal.returns-in-Err-clause-none
returns-in-Err-clause-none c =
    let bad = bytes_of_none c.args.limits c.args.line.now c.if-line-limits.false c.in-Err.ensures.cases.0 in
    λ fault is. cc
