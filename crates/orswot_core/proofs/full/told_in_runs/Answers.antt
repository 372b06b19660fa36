use Rattle.std.proofs.Common.{◌∙◌, ap}
use Rattle.orswot_core.proofs.FullFacts.{entries_are}
use Rattle.orswot_core.proofs.RunRangeFacts.{told_full_in_runs, full_in_runs_told}
use Rattle.orswot_core.proofs.full.told_in_runs.Goals as goal

pub new-requires-2 : goal.new-requires-2
new-requires-2 c = full_in_runs_told _ _ c.requires (told_full_in_runs _ _ c.runs.result c.runs.ensures c.in_ok-ranges.ensures c.new.ensures.items
    (c.in_ok-live.ensures.rows ∙ entries_are c.args.live.now.entries c.in_ok-live.ensures.ordered))

pub returns : goal.returns
returns c = told_full_in_runs _ c.new-2.result c.runs.result c.runs.ensures
    (ap (λ t. t.ranges) c.new-2.ensures ∙ c.in_ok-ranges.ensures)
    (ap (λ t. t.extras) c.new-2.ensures ∙ c.new.ensures.items)
    (ap (λ t. t.live) c.new-2.ensures ∙ c.in_ok-live.ensures.rows ∙ entries_are c.args.live.now.entries c.in_ok-live.ensures.ordered)
