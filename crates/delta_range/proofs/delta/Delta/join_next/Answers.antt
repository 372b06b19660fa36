use Rattle.std.proofs.Common.{sym, ◌∙◌, rules}
use Rattle.orswot_core.proofs.OrderFacts.{replicas_equal}
use Rattle.delta_range.proofs.delta.Delta.join_next.Goals as goal

pub join_contiguous-requires : goal.join_contiguous-requires
join_contiguous-requires c = record {
  owned = sym (replicas_equal c.args.self.now.owner c.args.next.now.owner (sym c.have_same_owner.ensures ∙ c.if-not-have_same_owner.false));
  begins = sym c.from.ensures ∙ sym c.if-to-from.false ∙ c.to.ensures;
}

pub returns-in-Ok-clause-answer : goal.returns-in-Ok-clause-answer
returns-in-Ok-clause-answer c = search rules

pub returns-in-Err-clause-answer : goal.returns-in-Err-clause-answer
returns-in-Err-clause-answer c = search rules
