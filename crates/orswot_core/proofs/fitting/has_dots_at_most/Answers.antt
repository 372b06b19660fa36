use Rattle.std.proofs.Common.{length, sym, ◌∙◌}
use Rattle.orswot_core.specs.Full.{dots_of_runs, counts_in}
use Rattle.orswot_core.proofs.FittingFacts.{dots_split, counted, too_many}
use Rattle.orswot_core.proofs.fitting.has_dots_at_most.Goals as goal

pub returns-in_default : goal.returns-in_default
returns-in_default c =
    let l = c.loop-replica in
    too_many l.left (counts_in c.in-Some.runs) (length (dots_of_runs c.args.cloud)) c.args.most (length (dots_of_runs c.next.new.self))
    (dots_split l.left c.args.most (length (dots_of_runs c.args.cloud)) c.in-Some._replica.now c.in-Some.runs l._replica-iterator c.next.new.self c.in-Some.ensures.steps l.invariant)
    (sym c.in_default.is ∙ c.left_behind_counts.ensures)

pub loop-replica-preserved : goal.loop-replica-preserved
loop-replica-preserved c =
    let l = c.loop-replica in
    counted l.left c.in-Some-left_behind_counts.rest (counts_in c.in-Some.runs) (length (dots_of_runs c.args.cloud)) c.args.most (length (dots_of_runs c.next.new.self))
    (dots_split l.left c.args.most (length (dots_of_runs c.args.cloud)) c.in-Some._replica.now c.in-Some.runs l._replica-iterator c.next.new.self c.in-Some.ensures.steps l.invariant)
    (sym c.in-Some-left_behind_counts.is ∙ c.left_behind_counts.ensures)
