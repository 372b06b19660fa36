use Rattle.std.proofs.Common.{string_bytes}
use Rattle.std.proofs.lemmas.Result.{IfOk-weaker}
use Rattle.serde_json.specs.View.{view}
use Rattle.phx_message.proofs.Decoded.{reads_again, line_written}
use Rattle.phx_message.proofs.encoding.encode.Goals as goal

pub returns-clause-again : goal.returns-clause-again
returns-clause-again c =
    IfOk-weaker c.to_string.result _ _ (λ s h within short. reads_again (string_bytes s) c.args.message.now (view c.in_ok-value.value) c.in_ok-value.ensures h within short)
    c.to_string.ensures.reads_back

pub returns-clause-line : goal.returns-clause-line
returns-clause-line c =
    line_written c.to_string.result c.args.message.now (view c.in_ok-value.value) c.in_ok-value.ensures c.to_string.ensures.text c.to_string.ensures.reads_back
