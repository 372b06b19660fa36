use Rattle.std.proofs.Common.{◌∙◌, ap₂}
use Rattle.std.proofs.lemmas.Result.{IfOk-weaker}
use Rattle.clap.specs.Words.{with_rule}
use Rattle.presence_options.proofs.command_line.linked_command.Goals as goal

pub returns : goal.returns
returns c =
    let one = c.in_ok-arg.ensures.shape c.route_option.ensures.local ∙ ap₂ with_rule c.in_ok-served_command.ensures c.route_option.ensures.rule in
    let two = c.in_ok-arg-2.ensures.shape c.peer_option.ensures.local ∙ ap₂ with_rule one c.peer_option.ensures.rule in
    let three = c.in_ok-arg-3.ensures.shape c.listen_option.ensures.local ∙ ap₂ with_rule two c.listen_option.ensures.rule in
    let four = c.in_ok-arg-4.ensures.shape c.link_listen_option.ensures.local ∙ ap₂ with_rule three c.link_listen_option.ensures.rule in
    let five = c.in_ok-arg-5.ensures.shape c.origin_option.ensures.local ∙ ap₂ with_rule four c.origin_option.ensures.rule in
    let six = c.in_ok-arg-6.ensures.shape c.per_address_option.ensures.local ∙ ap₂ with_rule five c.per_address_option.ensures.rule in
    IfOk-weaker c.arg-7.result _ _ (λ r a. a.shape c.handshakes_option.ensures.local ∙ ap₂ with_rule six c.handshakes_option.ensures.rule) c.arg-7.ensures
