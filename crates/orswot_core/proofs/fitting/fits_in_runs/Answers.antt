use Rattle.std.proofs.Common.{◌≡◌, ℕ, length, ◌∙◌, ap}
use Rattle.std.specs.FinMap as map
use Rattle.orswot_core.specs.Sets.{rows_of, seen}
use Rattle.orswot_core.proofs.FullFacts.{entries_are}
use Rattle.orswot_core.proofs.FittingFacts.{runs_fit, runs_fit_not}
use Rattle.orswot_core.proofs.fitting.fits_in_runs.Goals as goal

pub returns-then-rows-le-MAX_ROWS : goal.returns-then-rows-le-MAX_ROWS
returns-then-rows-le-MAX_ROWS c = runs_fit (seen c.args.covered.now c.args.live.now) c.runs-all.result c.len-rows.result c.has_runs_at_most.result c.runs-all.ensures
    (c.len-rows.ensures.len ∙ ap length (entries_are c.args.live.now.entries c.len-rows.ensures.ordered)) c.if-rows-le-MAX_ROWS.true c.has_runs_at_most.ensures

pub returns-else-rows-le-MAX_ROWS : goal.returns-else-rows-le-MAX_ROWS
returns-else-rows-le-MAX_ROWS c = runs_fit_not (seen c.args.covered.now c.args.live.now) c.runs-all.result c.len-rows.result c.runs-all.ensures
    (c.len-rows.ensures.len ∙ ap length (entries_are c.args.live.now.entries c.len-rows.ensures.ordered)) c.if-rows-le-MAX_ROWS.false
