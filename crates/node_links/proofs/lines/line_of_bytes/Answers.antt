use Rattle.node_links.proofs.LineFacts.{text_line, not_text}
use Rattle.node_links.proofs.lines.line_of_bytes.Goals as goal

pub returns-in-Ok : goal.returns-in-Ok
returns-in-Ok c =
    let both = c.in-Ok.ensures.cases in
    let is = text_line c.args.hearer c.args.bytes.now both.1 in
    record { line = rw (is, ← both.0) c.decode_line.ensures.exact; faults = rw (← both.0) c.decode_line.ensures.faults }

pub returns-in-Err : goal.returns-in-Err
returns-in-Err c = record { line = not_text c.args.hearer c.args.bytes.now c.in-Err.ensures.cases.0; faults = tt }
