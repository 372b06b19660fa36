use Rattle.std.proofs.Common.{length, sym, ◌∙◌}
use Rattle.orswot_core.specs.Full.{all_ranges}
use Rattle.orswot_core.proofs.FittingFacts.{runs_split, counted, too_many}
use Rattle.orswot_core.proofs.fitting.has_runs_at_most.Goals as goal

pub returns-in_default : goal.returns-in_default
returns-in_default c =
    let l = c.loop-replica in
    too_many l.left (length c.in-Some.runs) (length (all_ranges c.args.all)) c.args.most (length (all_ranges c.next.new.self))
    (runs_split l.left c.args.most (length (all_ranges c.args.all)) c.in-Some._replica.now c.in-Some.runs l._replica-iterator c.next.new.self c.in-Some.ensures.steps l.invariant)
    (sym c.in_default.is ∙ c.left_behind_runs.ensures)

pub loop-replica-preserved : goal.loop-replica-preserved
loop-replica-preserved c =
    let l = c.loop-replica in
    counted l.left c.in-Some-left_behind_runs.rest (length c.in-Some.runs) (length (all_ranges c.args.all)) c.args.most (length (all_ranges c.next.new.self))
    (runs_split l.left c.args.most (length (all_ranges c.args.all)) c.in-Some._replica.now c.in-Some.runs l._replica-iterator c.next.new.self c.in-Some.ensures.steps l.invariant)
    (sym c.in-Some-left_behind_runs.is ∙ c.left_behind_runs.ensures)
