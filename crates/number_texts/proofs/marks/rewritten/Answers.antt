use Rattle.std.proofs.Common.{◌≡◌, ◌++◌, string_bytes, sym, ap, ◌∙◌, append_assoc, rules}
use Rattle.number_texts.specs.Changes.{change_text, changed_text}
use Rattle.number_texts.proofs.Changing.{goes_on}
use Rattle.number_texts.proofs.marks.rewritten.Goals as goal

pub loop-rest-preserved : goal.loop-rest-preserved
loop-rest-preserved c =
    let split = c.first_part-split.result in
    let before = string_bytes c.loop-rest.written in
    let change = change_text split.part c.change_of.result in
    let behind = changed_text c.args.way split.rest.now in
    let is_name = c.is_before_colon-is_name.result in
    let named = c.is_before_colon-is_name.ensures in
    let on = goes_on c.args.way c.loop-rest.rest.now split is_name c.change_of.result c.first_part-split.ensures named c.change_of.ensures in
    let pushed : string_bytes c.push.new.written ≡ before ++ change = c.in_ok-push.ensures in (
      c.loop-rest.invariant.0 ∙ ap (λ x. before ++ x) on ∙ sym (append_assoc before change behind) ∙ ap (λ x. x ++ behind) (sym pushed),
      search rules,
    )
