use Rattle.std.proofs.Common.{◌≡◌}
use Rattle.node_links.specs.Streams.{fed}
use Rattle.node_links.proofs.LineFacts.{written}
use Rattle.node_links.proofs.lines.write_text.Goals as goal

pub returns : goal.returns
returns g c =
    let is : c.as_bytes.result.now ≡ fed c.args.line.now = cc (c.in_ok-text.ensures.0, c.as_str.ensures.value, c.as_bytes.ensures.value) in
    written c.args.line.now _ _ c.as_bytes.result.now c.write_bytes.result is c.in_ok-text.ensures.1 c.write_bytes.ensures
