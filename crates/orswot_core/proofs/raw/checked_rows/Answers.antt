use Rattle.std.proofs.Common.{not, cond, ◌++◌, ◌∷◌, [], Some, None, sym, ◌∙◌, ap, append_assoc}
use Rattle.orswot_core.specs.Checks.{is_raw_row}
use Rattle.orswot_core.specs.declared.told.ToldFault.TheVariants.{RowLimits}
use Rattle.orswot_core.proofs.LoopFacts.{first_false, first_true, not_guarded, found_row}
use Rattle.orswot_core.proofs.raw.checked_rows.Goals as goal

pub returns-in_default : goal.returns-in_default
returns-in_default c =
    let p = is_raw_row c.args.shard c.args.shards in
    ap (λ b. cond (not b) (Some RowLimits) None)
    (sym c.loop-dot.invariant.limited
    ∙ first_false p (c.in-Some.dot, c.in-Some.raw) c.next.new.self.rest.items c.loop-dot.dot-iterator.rest.items c.in-Some.ensures.steps.0
    (not_guarded (p (c.in-Some.dot, c.in-Some.raw)) (c.in-Some.dot, c.in-Some.raw) (sym c.in_default.is ∙ c.in_ok-row.ensures)))

pub loop-dot-preserved : goal.loop-dot-preserved
loop-dot-preserved c =
    let p = is_raw_row c.args.shard c.args.shards in
    let found = found_row (p (c.in-Some.dot, c.in-Some.raw)) (c.in-Some.dot, c.in-Some.raw) c.in-Some-2.row c.in_ok-row.field-0 c.in_ok-row.ensures c.in-Some-2.is in
    record {
      all =
          ap (λ l. l ++ c.next.new.self.rest.items) (c.in_ok-push_row.ensures ∙ ap (λ x. c.loop-dot.rows.items ++ x ∷ []) found.1)
          ∙ append_assoc c.loop-dot.rows.items ((c.in-Some.dot, c.in-Some.raw) ∷ []) c.next.new.self.rest.items
          ∙ ap (λ l. c.loop-dot.rows.items ++ l) (sym c.in-Some.ensures.steps.0)
          ∙ c.loop-dot.invariant.all;
      limited = first_true p (c.in-Some.dot, c.in-Some.raw) c.next.new.self.rest.items c.loop-dot.dot-iterator.rest.items c.in-Some.ensures.steps.0 found.0 ∙ c.loop-dot.invariant.limited;
    }
