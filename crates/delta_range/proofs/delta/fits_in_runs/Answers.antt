use Rattle.delta_range.proofs.CountFacts.{runs_fit_then, runs_fit_else}
use Rattle.delta_range.proofs.delta.fits_in_runs.Goals as goal

pub returns-then-rows-lt-MAX_ROWS : goal.returns-then-rows-lt-MAX_ROWS
returns-then-rows-lt-MAX_ROWS c =
    let live = c.live-rows.ensures.live in rw (live, c.older.ensures.older) (runs_fit_then c.args.delta.now (rw live at c.if-rows-lt-MAX_ROWS.true))

pub returns-else-rows-lt-MAX_ROWS : goal.returns-else-rows-lt-MAX_ROWS
returns-else-rows-lt-MAX_ROWS c =
    let live = c.live-rows.ensures.live in rw live (runs_fit_else c.args.delta.now (rw live at c.if-rows-lt-MAX_ROWS.false))
