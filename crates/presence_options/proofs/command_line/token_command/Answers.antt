use Rattle.std.proofs.Common.{rules, ◌≡◌, ◌∙◌, ap₂}
use Rattle.std.proofs.lemmas.Result.{IfOk-weaker}
use Rattle.std.specs.Prelude.{codes}
use Rattle.clap.specs.Words.{app_of, new_app, with_rule}
use Rattle.presence_options.proofs.command_line.token_command.Goals as goal

pub returns : goal.returns
returns c =
    let start_is : app_of c.override_usage.result ≡ new_app (codes "token") = search rules in
    let one = c.in_ok-arg.ensures.shape c.key_option.ensures.local ∙ ap₂ with_rule start_is c.key_option.ensures.rule in
    let two = c.in_ok-arg-2.ensures.shape c.subject_option.ensures.local ∙ ap₂ with_rule one c.subject_option.ensures.rule in
    let three = c.in_ok-arg-3.ensures.shape c.topics_option.ensures.local ∙ ap₂ with_rule two c.topics_option.ensures.rule in
    IfOk-weaker c.arg-4.result _ _ (λ r a. a.shape c.time_option.ensures.local ∙ ap₂ with_rule three c.time_option.ensures.rule) c.arg-4.ensures
