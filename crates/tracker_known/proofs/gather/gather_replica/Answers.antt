use Rattle.std.proofs.Common.{◌∙◌}
use Rattle.presence_base.specs.Order.{same_dot, same_replica}
use Rattle.tracker_known.proofs.GatherLemmas.{still_step, still_end, keyed_by, keys_split, keys_done, replica_keys}
use Rattle.tracker_known.proofs.gather.gather_replica.Goals as goal

pub loop-dot-init : goal.loop-dot-init
loop-dot-init c = replica_keys c.args.set.now.live c.args.replica.now c.args.rows.now c.into_iter-dot-iterator.result (c.into_iter-dot-iterator.ensures.into_iter_gives ∙ c.rows_of-dot-items.ensures)

pub loop-dot-preserved : goal.loop-dot-preserved
loop-dot-preserved c =
    let l = c.loop-dot in
    let d = c.in-Some.dot.now in
    still_step c.args.set.now.live (keyed_by l.dot-iterator) (λ q. same_dot q d) (keyed_by c.next.new.self) (λ q. same_replica q.replica c.args.replica.now) c.args.rows.now l.rows c.gather_dot.new.rows
    (keys_split l.dot-iterator c.next.new.self d c.in-Some._row.now c.in-Some.ensures.steps) c.in_ok-gather_dot.ensures l.invariant

pub returns : goal.returns
returns c =
    let l = c.loop-dot in
    still_end c.args.set.now.live (keyed_by l.dot-iterator) (λ q. same_replica q.replica c.args.replica.now) c.args.rows.now l.rows (keys_done l.dot-iterator c.in-None.ensures.steps.0) l.invariant
