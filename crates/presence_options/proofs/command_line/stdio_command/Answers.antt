use Rattle.std.proofs.Common.{rules, ◌≡◌, ◌∙◌, ap₂}
use Rattle.std.proofs.lemmas.Result.{IfOk-weaker}
use Rattle.std.specs.Prelude.{codes}
use Rattle.clap.specs.Words.{app_of, new_app, with_rule}
use Rattle.presence_options.proofs.command_line.stdio_command.Goals as goal

pub returns : goal.returns
returns c =
    let start_is : app_of c.after_help.result ≡ new_app (codes "stdio") = search rules in
    let one = c.in_ok-arg.ensures.shape c.name_option.ensures.local ∙ ap₂ with_rule start_is c.name_option.ensures.rule in
    let two = c.in_ok-arg-2.ensures.shape c.incarnation_option.ensures.local ∙ ap₂ with_rule one c.incarnation_option.ensures.rule in
    let three = c.in_ok-arg-3.ensures.shape c.route_option.ensures.local ∙ ap₂ with_rule two c.route_option.ensures.rule in
    let four = c.in_ok-arg-4.ensures.shape c.notices_flag.ensures.local ∙ ap₂ with_rule three c.notices_flag.ensures.rule in
    let five = c.in_ok-arg-5.ensures.shape c.explain_flag.ensures.local ∙ ap₂ with_rule four c.explain_flag.ensures.rule in
    IfOk-weaker c.arg-6.result _ _ (λ r a. a.shape c.fractions_flag.ensures.local ∙ ap₂ with_rule five c.fractions_flag.ensures.rule) c.arg-6.ensures
