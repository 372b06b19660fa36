use Rattle.clap.specs.Words.{found_of, rows_of}
use Rattle.presence_options.proofs.Asking.{help_asked, words_refused, chosen_asked, chosen_refused}
use Rattle.presence_options.proofs.command_line.options_of.Goals as goal

pub returns-in-Err-try_get_matches_from-clause-asked : goal.returns-in-Err-try_get_matches_from-clause-asked
returns-in-Err-try_get_matches_from-clause-asked c =
    help_asked c.in-Ok.command _ c.in-Err-try_get_matches_from.e c.refusal_of.result c.in-Ok.ensures c.in-Err-try_get_matches_from.ensures.kinds c.refusal_of.ensures.help

pub returns-in-Err-try_get_matches_from-clause-refused : goal.returns-in-Err-try_get_matches_from-clause-refused
returns-in-Err-try_get_matches_from-clause-refused c =
    words_refused c.in-Ok.command _ c.in-Err-try_get_matches_from.e c.refusal_of.result c.in-Ok.ensures c.in-Err-try_get_matches_from.ensures.kinds c.refusal_of.ensures.refusal

pub returns-in-Some-clause-refused : goal.returns-in-Some-clause-refused
returns-in-Some-clause-refused c =
    chosen_refused c.in-Ok.command _ c.in-Ok-try_get_matches_from.matches c.in-Some.name.now (rows_of (found_of c.in-Some.inner.now)) c.chosen.result c.in-Ok.ensures c.in-Ok-try_get_matches_from.ensures.matches c.in-Some.ensures c.chosen.ensures.refused

pub returns-in-Some-clause-asked : goal.returns-in-Some-clause-asked
returns-in-Some-clause-asked c =
    chosen_asked c.in-Ok.command _ c.in-Ok-try_get_matches_from.matches c.in-Some.name.now (rows_of (found_of c.in-Some.inner.now)) c.chosen.result c.in-Ok.ensures c.in-Ok-try_get_matches_from.ensures.matches c.in-Some.ensures c.chosen.ensures.chosen
