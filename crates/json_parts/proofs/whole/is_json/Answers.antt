use Rattle.std.proofs.Common.{◌≡◌, [], Some, sym, ap, ◌∙◌, arith}
use Rattle.json.specs.Json.{skip_value}
use Rattle.json.specs.Lex.{tokens}
use Rattle.serde_json.specs.Read.{max_depth}
use Rattle.json_parts.specs.Places.{are_in_range}
use Rattle.json_parts.proofs.Converted.{last_read}
use Rattle.json_parts.proofs.whole.is_json.Goals as goal

pub returns : goal.returns
returns c =
    let s = c.args.text.now in
    let first : c.in_ok-reader.reader ≡ tokens s = c.in_ok-reader.ensures.ok in
    let skipped : skip_value max_depth c.in_ok-reader.reader ≡ Some [] = grind arith in
    c.are_numbers_in_range.ensures ∙ ap are_in_range c.in_ok-reader-2.ensures.ok ∙ sym (last_read s (ap (skip_value max_depth) (sym first) ∙ skipped))
