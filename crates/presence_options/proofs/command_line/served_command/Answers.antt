use Rattle.std.proofs.Common.{rules, ◌≡◌, ◌∙◌, ap₂}
use Rattle.std.proofs.lemmas.Result.{IfOk-weaker}
use Rattle.std.specs.Prelude.{codes}
use Rattle.clap.specs.Words.{app_of, new_app, with_rule}
use Rattle.presence_options.proofs.command_line.served_command.Goals as goal

pub returns : goal.returns
returns c =
    let start_is : app_of c.after_help.result ≡ new_app (codes "serve") = search rules in
    let one = c.in_ok-arg.ensures.shape c.name_option.ensures.local ∙ ap₂ with_rule start_is c.name_option.ensures.rule in
    let two = c.in_ok-arg-2.ensures.shape c.incarnation_option.ensures.local ∙ ap₂ with_rule one c.incarnation_option.ensures.rule in
    let three = c.in_ok-arg-3.ensures.shape c.port_option.ensures.local ∙ ap₂ with_rule two c.port_option.ensures.rule in
    let four = c.in_ok-arg-4.ensures.shape c.link_port_option.ensures.local ∙ ap₂ with_rule three c.link_port_option.ensures.rule in
    let five = c.in_ok-arg-5.ensures.shape c.shards_option.ensures.local ∙ ap₂ with_rule four c.shards_option.ensures.rule in
    let six = c.in_ok-arg-6.ensures.shape c.workers_option.ensures.local ∙ ap₂ with_rule five c.workers_option.ensures.rule in
    IfOk-weaker c.arg-7.result _ _ (λ r a. a.shape c.link_version_option.ensures.local ∙ ap₂ with_rule six c.link_version_option.ensures.rule) c.arg-7.ensures
