use Rattle.delta_range.proofs.CountFacts.{fits_then, fits_else}
use Rattle.delta_range.proofs.delta.fits_in_dots.Goals as goal

pub returns-then-rows-le-MAX_ROWS : goal.returns-then-rows-le-MAX_ROWS
returns-then-rows-le-MAX_ROWS c =
    let live = c.live-rows.ensures.live in
    fits_then c.args.delta.now c.have_at_most.result (rw live at c.if-rows-le-MAX_ROWS.true) (rw (live, c.older.ensures.older) at c.have_at_most.ensures)

pub returns-else-rows-le-MAX_ROWS : goal.returns-else-rows-le-MAX_ROWS
returns-else-rows-le-MAX_ROWS c =
    let live = c.live-rows.ensures.live in rw live (fits_else c.args.delta.now (rw live at c.if-rows-le-MAX_ROWS.false))
