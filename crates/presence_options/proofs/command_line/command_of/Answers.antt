use Rattle.std.proofs.Common.{rules, ◌≡◌, ◌∙◌, ap, ap₂}
use Rattle.std.proofs.lemmas.Result.{IfOk-weaker}
use Rattle.clap.specs.Words.{App, app_of, with_subcommand}
use Rattle.presence_options.specs.CommandLine.{top_app}
use Rattle.presence_options.proofs.Plain.{no_globals}
use Rattle.presence_options.proofs.command_line.command_of.Goals as goal

pub returns : goal.returns
returns c =
    let top_is : app_of c.subcommand_required.result ≡ top_app = search rules in
    let stdio_plain = ap (λ (a : App). a.top.is_plain) c.in_ok-stdio.ensures in
    let fold_plain = ap (λ (a : App). a.top.is_plain) c.in_ok-fold.ensures in
    let one = c.in_ok-subcommand.ensures.shape (no_globals _ _ _ _ stdio_plain) ∙ ap₂ with_subcommand top_is (ap (λ (a : App). a.top) c.in_ok-stdio.ensures) in
    let serve_plain = ap (λ (a : App). a.top.is_plain) c.in_ok-serve.ensures in
    let two = c.in_ok-subcommand-2.ensures.shape (no_globals _ _ _ _ fold_plain) ∙ ap₂ with_subcommand one (ap (λ (a : App). a.top) c.in_ok-fold.ensures) in
    let token_plain = ap (λ (a : App). a.top.is_plain) c.in_ok-token.ensures in
    let three = c.in_ok-subcommand-3.ensures.shape (no_globals _ _ _ _ serve_plain) ∙ ap₂ with_subcommand two (ap (λ (a : App). a.top) c.in_ok-serve.ensures) in
    IfOk-weaker c.subcommand-4.result _ _ (λ r a. a.shape (no_globals _ _ _ _ token_plain) ∙ ap₂ with_subcommand three (ap (λ (a : App). a.top) c.in_ok-token.ensures)) c.subcommand-4.ensures
