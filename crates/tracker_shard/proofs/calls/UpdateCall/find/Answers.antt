use Rattle.std.proofs.Common.{◌≡◌, true, Some, ap, sym, ◌∙◌}
use Rattle.presence_journal.specs.StepLimits.{is_within_limits}
use Rattle.presence_journal.specs.Table.{outcome_of}
use Rattle.presence_journal.specs.declared.step.Step.TheVariants as steps_are
use Rattle.presence_journal.specs.declared.entry.Outcome.TheVariants as outcomes_are
use Rattle.tracker_shard.specs.Steps.{new_dot}
use Rattle.tracker_shard.proofs.Doors.{found_is}
use Rattle.tracker_shard.proofs.Tables.{pid_limits, update_replaced}
use Rattle.tracker_shard.proofs.calls.UpdateCall.find.Goals as goal

pub returns-clause-found : goal.returns-clause-found
returns-clause-found c =
    let a = c.args.self.now in
    let h = c.args.table.now.history in
    let table : outcome_of h (steps_are.Update a.pid a.topic.now a.key.now a.meta.now) ≡ Some (outcomes_are.Replaced c.in-Some-next_dot.dot c.in-Some.old) =
    update_replaced h a.pid a.topic.now a.key.now a.meta.now c.in-Some-next_dot.dot c.in-Some.old
    (sym c.in_ok-old.ensures ∙ c.in-Some.is) (sym c.in-Some-next_dot.ensures)
    in
    let within : is_within_limits c.in_ok-step.step ≡ true = pid_limits _ a.pid c.in_ok-step.ensures.limits a.count in
    found_is _ h _ _ c.in_ok-step.ensures.step within (table ∙ ap Some (sym c.in_ok-outcome.ensures)) (ap new_dot table)
