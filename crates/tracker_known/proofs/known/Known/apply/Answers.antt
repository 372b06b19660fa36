use Rattle.std.proofs.Common.{sym, ap, ◌∙◌}
use Rattle.presence_journal.specs.declared.step.Step.TheVariants.{Heard, PermDown, Merge}
use Rattle.tracker_known.proofs.Results.{on_ok}
use Rattle.tracker_known.proofs.KnownLemmas.{rest_is_callers}
use Rattle.tracker_known.proofs.known.Known.apply.Goals as goal

pub returns-in-Heard-clause-ok : goal.returns-in-Heard-clause-ok
returns-in-Heard-clause-ok c =
    let asked = c.in-Heard.is ∙ ap (λ r. Heard r c.in-Heard.now) (sym c.get.ensures) in
    on_ok c.apply_heard.result (λ f h legal known. f h c.args.entry.now asked legal known) c.apply_heard.ensures.ok

pub returns-in-Tick-clause-ok : goal.returns-in-Tick-clause-ok
returns-in-Tick-clause-ok c = λ h legal known. c.apply_tick.ensures h c.args.entry.now c.in-Tick.is legal known

pub returns-in-PermDown-clause-ok : goal.returns-in-PermDown-clause-ok
returns-in-PermDown-clause-ok c =
    let asked = c.in-PermDown.is ∙ ap PermDown (sym c.get-in-PermDown.ensures) in
    on_ok c.apply_down.result (λ f h legal known. f h c.args.entry.now asked legal known) c.apply_down.ensures.ok

pub returns-in-Merge-clause-ok : goal.returns-in-Merge-clause-ok
returns-in-Merge-clause-ok c =
    let asked = c.in-Merge.is ∙ ap Merge (sym c.get-in-Merge.ensures) in
    on_ok c.apply_merge.result (λ f h legal known. f h c.args.entry.now asked legal known) c.apply_merge.ensures.ok

pub apply_own-requires-clause-own : goal.apply_own-requires-clause-own
apply_own-requires-clause-own c = let d = c.in_default in rest_is_callers c.args.entry.now.step d.not-Heard d.not-Tick d.not-PermDown d.not-Merge d.not-Rebirth
