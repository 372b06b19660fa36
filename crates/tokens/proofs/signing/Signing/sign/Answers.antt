use Rattle.std.proofs.Common.{◌∙◌, ap, sym}
use Rattle.tokens.specs.Signing.{judged_at}
use Rattle.tokens.specs.Views.{granted_by}
use Rattle.tokens.proofs.signing.Signing.sign.Goals as goal

pub returns-then-is_wanted-clause-taken : goal.returns-then-is_wanted-clause-taken
returns-then-is_wanted-clause-taken c = record {
  grants = granted_by c.in_ok-claims.claims;
  is_taken = ap (judged_at c.args.self) (sym c.as_bytes.ensures.value) ∙ c.in_ok-claims.ensures;
  is_wanted = sym c.is_wanted.ensures ∙ c.if-is_wanted.true;
}
