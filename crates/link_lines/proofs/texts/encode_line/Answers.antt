use Rattle.std.proofs.Common.{string_bytes, arith}
use Rattle.link_lines.proofs.Again.{decoded_only, too_long, fits_well}
use Rattle.link_lines.proofs.texts.encode_line.Goals as goal

pub returns-then-len-gt-MAX_LINE_BYTES-clause-exact : goal.returns-then-len-gt-MAX_LINE_BYTES-clause-exact
returns-then-len-gt-MAX_LINE_BYTES-clause-exact c = too_long c.args.line.now (string_bytes c.in-Ok.text) c.in-Ok.ensures.text (omega arith)

pub returns-clause-exact : goal.returns-clause-exact
returns-clause-exact c = fits_well c.args.line.now (string_bytes c.in-Ok.text) c.in-Ok.ensures.text (omega arith)

pub returns-clause-again : goal.returns-clause-again
returns-clause-again c = λ n within. decoded_only n (string_bytes c.in-Ok.text) c.args.line.now (record { within = within; short = omega arith; reads = c.in-Ok.ensures.reads })
