use Rattle.std.proofs.Common.{◌∙◌, ◌&&◌, not}
use Rattle.std.specs.BTreeSet.{contains}
use Rattle.presence_base.specs.declared.dots.Dot.{Dot}
use Rattle.presence_base.specs.Order.{dot_cmp}
use Rattle.tracker_known.specs.Picks.{out_of, one_untold}
use Rattle.tracker_known.proofs.GatherLemmas.{still_step, still_end, keyed_by, range_keys, range_split, range_done}
use Rattle.tracker_known.proofs.merge_turn.gather_range.Goals as goal

pub loop-dot-init : goal.loop-dot-init
loop-dot-init c = range_keys c.args.set.now.live c.args.range.now (λ q. not (contains dot_cmp c.args.told.now q)) c.args.rows.now c.into_iter-dot-iterator.result (c.into_iter-dot-iterator.ensures.into_iter_gives ∙ c.rows_in-dot-items.ensures)

pub loop-dot-preserved : goal.loop-dot-preserved
loop-dot-preserved c =
    let l = c.loop-dot in
    let d = c.in-Some.dot.now in
    let told = c.args.told.now in
    let stays = λ (q : Dot). not (contains dot_cmp told q) in
    still_step c.args.set.now.live (λ q. keyed_by l.dot-iterator q && stays q) (one_untold told d) (λ q. keyed_by c.next.new.self q && stays q) (out_of told c.args.range.now) c.args.rows.now l.rows c.gather_untold.new.rows
    (range_split stays l.dot-iterator c.next.new.self d c.in-Some._row.now c.in-Some.ensures.steps) c.in_ok-gather_untold.ensures l.invariant

pub returns : goal.returns
returns c =
    let l = c.loop-dot in
    let told = c.args.told.now in
    let stays = λ (q : Dot). not (contains dot_cmp told q) in
    still_end c.args.set.now.live (λ q. keyed_by l.dot-iterator q && stays q) (out_of told c.args.range.now) c.args.rows.now l.rows (range_done stays l.dot-iterator c.in-None.ensures.steps.0) l.invariant
