use Rattle.std.proofs.Common.{◌≡◌, ℕ, length, ◌∙◌, ap}
use Rattle.std.specs.FinMap as map
use Rattle.orswot_core.specs.Sets.{rows_of, seen}
use Rattle.orswot_core.proofs.FullFacts.{entries_are}
use Rattle.orswot_core.proofs.FittingFacts.{tops_fit, tops_fit_not}
use Rattle.orswot_core.proofs.fitting.fits_in_tops.Goals as goal

pub returns-then-rows-le-MAX_ROWS : goal.returns-then-rows-le-MAX_ROWS
returns-then-rows-le-MAX_ROWS c = tops_fit (seen c.args.covered.now c.args.live.now) c.cloud-cloud.result c.len-rows.result c.has_dots_at_most.result c.cloud-cloud.ensures
    (c.len-rows.ensures.len ∙ ap length (entries_are c.args.live.now.entries c.len-rows.ensures.ordered)) c.if-rows-le-MAX_ROWS.true c.has_dots_at_most.ensures

pub returns-else-rows-le-MAX_ROWS : goal.returns-else-rows-le-MAX_ROWS
returns-else-rows-le-MAX_ROWS c = tops_fit_not (seen c.args.covered.now c.args.live.now) c.cloud-cloud.result c.len-rows.result c.cloud-cloud.ensures
    (c.len-rows.ensures.len ∙ ap length (entries_are c.args.live.now.entries c.len-rows.ensures.ordered)) c.if-rows-le-MAX_ROWS.false
