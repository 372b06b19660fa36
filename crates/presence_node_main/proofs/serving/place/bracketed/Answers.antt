use Rattle.std.proofs.Common.{Some, None, arith}
use Rattle.std.proofs.lemmas.Str.Pattern.{strip_prefix_char, strip_suffix_char}
use Rattle.presence_node_main.proofs.Bracketed.{closed_or_not, unopened}
use Rattle.presence_node_main.proofs.serving.place.bracketed.Goals as goal

pub returns-in_default : goal.returns-in_default
returns-in_default c =
    unopened c.args.address.now (strip_prefix_char 91 c.args.address.now None c.in_default.ensures.cases (omega arith))

pub returns : goal.returns
returns c =
    closed_or_not c.args.address.now c.in-Some.rest.now c.strip_suffix.result
    (strip_prefix_char 91 c.args.address.now (Some c.in-Some.rest) c.in-Some.ensures.cases (omega arith))
    (strip_suffix_char 93 c.in-Some.rest.now c.strip_suffix.result c.strip_suffix.ensures.cases (omega arith))
