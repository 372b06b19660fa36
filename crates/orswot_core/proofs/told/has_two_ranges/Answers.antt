use Rattle.std.proofs.Common.{sym, ◌∙◌, ap, drop, ◌+◌}
use Rattle.std.proofs.lemmas.List.{drop_all}
use Rattle.std.specs.List.{list_any}
use Rattle.std.specs.Ordering.{is_eq}
use Rattle.std.specs.BTreeSet.{contains}
use Rattle.presence_base.specs.Order.{replica_cmp, same_replica}
use Rattle.orswot_core.specs.Checks.{replicas_of}
use Rattle.orswot_core.proofs.LoopFacts.{next_rest, meets, seen_one, seen_before, nothing_seen, in_cond}
use Rattle.orswot_core.proofs.told.has_two_ranges.Goals as goal

pub loop-range-init : goal.loop-range-init
loop-range-init c = nothing_seen same_replica (contains replica_cmp c.new-seen.result) (replicas_of c.args.ranges.now) (λ q. ap (list_any (λ k. is_eq (replica_cmp q k))) c.new-seen.ensures.empty)

pub returns-then-contains : goal.returns-then-contains
returns-then-contains c =
    sym (ap (λ l. meets same_replica (contains replica_cmp c.loop-range.seen) (replicas_of l)) (next_rest c.args.ranges.now c.loop-range.range-index c.range-item.result c.loop-range-test.true c.range-item.is)
    ∙ seen_before same_replica (contains replica_cmp c.loop-range.seen) c.range-item.result.0 (replicas_of (drop (c.loop-range.range-index + 1) c.args.ranges.now)) (sym c.contains.ensures ∙ c.if-contains.true))
    ∙ c.loop-range.invariant

pub loop-range-preserved : goal.loop-range-preserved
loop-range-preserved c =
    seen_one same_replica (contains replica_cmp c.loop-range.seen) (contains replica_cmp c.insert.new.self) c.range-item.result.0 (replicas_of (drop (c.loop-range.range-index + 1) c.args.ranges.now))
    (sym c.contains.ensures ∙ c.if-contains.false)
    (λ q. c.in_ok-insert.ensures.updates.0 q ∙ in_cond (same_replica c.range-item.result.0 q) (contains replica_cmp c.loop-range.seen q))
    ∙ ap (λ l. meets same_replica (contains replica_cmp c.loop-range.seen) (replicas_of l)) (sym (next_rest c.args.ranges.now c.loop-range.range-index c.range-item.result c.loop-range-test.true c.range-item.is))
    ∙ c.loop-range.invariant

pub returns : goal.returns
returns c =
    sym (ap (λ l. meets same_replica (contains replica_cmp c.loop-range.seen) (replicas_of l)) (drop_all c.loop-range.range-index c.args.ranges.now c.loop-range-test.false))
    ∙ c.loop-range.invariant
