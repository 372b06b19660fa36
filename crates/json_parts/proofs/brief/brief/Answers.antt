use Rattle.std.proofs.Common.{◌≡◌, [], subst, arith}
use Rattle.json_parts.specs.Places.{At}
use Rattle.json_parts.proofs.Places.{not_empty}
use Rattle.json_parts.proofs.brief.brief.Goals as goal

pub returns-in_err-token-clause-read : goal.returns-in_err-token-clause-read
returns-in_err-token-clause-read c = λ j rest at.
    let none : c.args.reader.now ≡ [] = grind arith in
    absurd (not_empty j rest (subst (λ l. At l j rest) none at))
