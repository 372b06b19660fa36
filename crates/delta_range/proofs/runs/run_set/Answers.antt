use Rattle.std.proofs.Common.{◌||◌, ◌&&◌, ◌+◌, drop, slice_index_or, ◌∷◌, sym, ◌∙◌, ap, add-one, drop-cons}
use Rattle.std.specs.FinSet as set
use Rattle.presence_base.specs.Order.{dot_cmp, same_replica}
use Rattle.dot_context.specs.Runs.{holds}
use Rattle.delta_range.proofs.LoopFacts.{run_added}
use Rattle.delta_range.proofs.runs.run_set.Goals as goal

pub loop-run-init : goal.loop-run-init
loop-run-init c = λ q.
    let held = same_replica q.replica c.args.owner.now && holds c.args.runs.now q.count in
    ap (λ s. set.contains s q || held) c.new-dots.ensures ∙ ap (λ b. b || held) (set.contains-empty dot_cmp q)

pub loop-run-preserved : goal.loop-run-preserved
loop-run-preserved c = λ q.
    let r = slice_index_or c.args.runs.now c.loop-run.run-index (0, 0) in
    run_added c.loop-run.dots c.add_range.new.self c.args.owner.now r (drop c.loop-run.run-index c.args.runs.now) (drop (c.loop-run.run-index + 1) c.args.runs.now) q
    (drop-cons c.args.runs.now c.loop-run.run-index (0, 0) c.loop-run-test.true ∙ ap (λ n. r ∷ drop n c.args.runs.now) (sym (add-one c.loop-run.run-index)))
    c.in_ok-add_range.ensures.ok
    ∙ c.loop-run.invariant q
