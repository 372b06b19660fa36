use Rattle.std.proofs.Common.{◌∙◌, ap, Some}
use Rattle.std.proofs.lemmas.Result.{IfOk-weaker}
use Rattle.serde_json.specs.Written.{has_float, compact_text}
use Rattle.link_lines.proofs.Written.{line_whole, line_shallow}
use Rattle.link_lines.proofs.texts.text_of_line.Goals as goal

pub returns-clause-text : goal.returns-clause-text
returns-clause-text c =
    let is = c.in_ok-value.ensures.value in
    let whole = line_whole c.args.line.now c.in_ok-value.ensures.metas in
    IfOk-weaker c.to_string.result _ _ (λ s h. h (ap has_float is ∙ whole) ∙ ap compact_text is) c.to_string.ensures.text

pub returns-clause-reads : goal.returns-clause-reads
returns-clause-reads c =
    let is = c.in_ok-value.ensures.value in
    let shallow = line_shallow c.args.line.now c.in_ok-value.ensures.metas in
    IfOk-weaker c.to_string.result _ _ (λ s h. h (rw is shallow) ∙ ap (λ d. Some d) is) c.to_string.ensures.reads_back
