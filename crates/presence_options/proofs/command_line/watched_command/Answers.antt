use Rattle.std.proofs.Common.{◌∙◌, ap₂}
use Rattle.std.proofs.lemmas.Result.{IfOk-weaker}
use Rattle.clap.specs.Words.{with_rule}
use Rattle.presence_options.proofs.command_line.watched_command.Goals as goal

pub returns : goal.returns
returns c =
    let one = c.in_ok-arg.ensures.shape c.proxy_option.ensures.local ∙ ap₂ with_rule c.in_ok-linked_command.ensures c.proxy_option.ensures.rule in
    let two = c.in_ok-arg-2.ensures.shape c.link_from_option.ensures.local ∙ ap₂ with_rule one c.link_from_option.ensures.rule in
    let three = c.in_ok-arg-3.ensures.shape c.memory_option.ensures.local ∙ ap₂ with_rule two c.memory_option.ensures.rule in
    let four = c.in_ok-arg-4.ensures.shape c.topic_rows_option.ensures.local ∙ ap₂ with_rule three c.topic_rows_option.ensures.rule in
    let five = c.in_ok-arg-5.ensures.shape c.topic_bytes_option.ensures.local ∙ ap₂ with_rule four c.topic_bytes_option.ensures.rule in
    let six = c.in_ok-arg-6.ensures.shape c.log_option.ensures.local ∙ ap₂ with_rule five c.log_option.ensures.rule in
    let seven = c.in_ok-arg-7.ensures.shape c.log_format_option.ensures.local ∙ ap₂ with_rule six c.log_format_option.ensures.rule in
    IfOk-weaker c.arg-8.result _ _ (λ r a. a.shape c.metrics_port_option.ensures.local ∙ ap₂ with_rule seven c.metrics_port_option.ensures.rule) c.arg-8.ensures
