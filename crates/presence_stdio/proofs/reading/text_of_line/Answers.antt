use Rattle.phx_message.specs.declared.message.TheConstants.Limits as the_limits
use Rattle.presence_stdio.proofs.Messages.{line_of_text, line_of_bytes}
use Rattle.presence_stdio.proofs.reading.text_of_line.Goals as goal

pub returns-in-Ok : goal.returns-in-Ok
returns-in-Ok c =
    let both = c.in-Ok.ensures.cases in
    let is = line_of_text the_limits.CLIENT c.args.line.now c.if-line.false both.1 in
    record { text = rw both.0 is; fault = tt }

pub returns-in-Err : goal.returns-in-Err
returns-in-Err c = record { text = tt; fault = line_of_bytes the_limits.CLIENT c.args.line.now c.if-line.false c.in-Err.ensures.cases.0 }
