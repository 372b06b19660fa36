use Rattle.std.proofs.Common.{rules, ◌≡◌, codes}
use Rattle.clap.specs.Words.{found_of, rows_of}
use Rattle.presence_options.proofs.Serving.{serve_chosen, token_chosen}
use Rattle.presence_options.proofs.command_line.chosen.Goals as goal

pub returns-in-Err-serve_options-clause-refused : goal.returns-in-Err-serve_options-clause-refused
returns-in-Err-serve_options-clause-refused c =
    let is : c.args.name.now ≡ codes "serve" = search rules in
    serve_chosen c.args.name.now (rows_of (found_of c.args.matches.now)) c.in-Err-serve_options.fault is c.in-Err-serve_options.ensures.cause

pub returns-in-Err-token_options-clause-refused : goal.returns-in-Err-token_options-clause-refused
returns-in-Err-token_options-clause-refused c =
    let is : c.args.name.now ≡ codes "token" = search rules in
    token_chosen c.args.name.now (rows_of (found_of c.args.matches.now)) c.in-Err-token_options.fault is c.in-Err-token_options.ensures.cause
