use Rattle.std.proofs.Common.{◌≡◌, true, false, is_some, sym, ap, ◌∙◌, subst, arith}
use Rattle.serde_json.specs.Read.{read}
use Rattle.link_lines.specs.Results.{◌>>=◌, Answers}
use Rattle.link_lines.specs.Reading.{found_value, line_in}
use Rattle.link_lines.proofs.Entered.{some_read, none_read}
use Rattle.link_lines.proofs.texts.line_of_text.Goals as goal

pub returns-in-Ok-true : goal.returns-in-Ok-true
returns-in-Ok-true c =
    let there : is_some (read c.args.text.now) ≡ true = grind arith in
    let s = some_read (read c.args.text.now) there in
    subst (Answers c.line_of_json.result) (sym (ap (λ o. found_value o >>= line_in c.args.hearer) s.1)) (c.line_of_json.ensures s.0 s.1)

pub returns-in-Ok-false : goal.returns-in-Ok-false
returns-in-Ok-false c =
    let none : is_some (read c.args.text.now) ≡ false = grind arith in
    ap (λ o. found_value o >>= line_in c.args.hearer) (none_read (read c.args.text.now) none)
