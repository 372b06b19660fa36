use Rattle.std.proofs.Common.{sym, ◌∙◌, ap, drop, ◌+◌}
use Rattle.std.proofs.lemmas.List.{drop_all}
use Rattle.std.specs.List.{list_any}
use Rattle.std.specs.Ordering.{is_eq}
use Rattle.std.specs.BTreeSet.{contains}
use Rattle.presence_base.specs.Order.{dot_cmp, same_dot}
use Rattle.orswot_core.specs.Checks.{dots_of}
use Rattle.orswot_core.proofs.LoopFacts.{next_rest, meets, seen_one, seen_before, nothing_seen, in_cond}
use Rattle.orswot_core.proofs.told.has_live_twice.Goals as goal

pub loop-row-init : goal.loop-row-init
loop-row-init c = nothing_seen same_dot (contains dot_cmp c.new-seen.result) (dots_of c.args.live.now) (λ q. ap (list_any (λ k. is_eq (dot_cmp q k))) c.new-seen.ensures.empty)

pub returns-then-contains : goal.returns-then-contains
returns-then-contains c =
    sym (ap (λ l. meets same_dot (contains dot_cmp c.loop-row.seen) (dots_of l)) (next_rest c.args.live.now c.loop-row.row-index c.row-item.result c.loop-row-test.true c.row-item.is)
    ∙ seen_before same_dot (contains dot_cmp c.loop-row.seen) c.row-item.result.0 (dots_of (drop (c.loop-row.row-index + 1) c.args.live.now)) (sym c.contains.ensures ∙ c.if-contains.true))
    ∙ c.loop-row.invariant

pub loop-row-preserved : goal.loop-row-preserved
loop-row-preserved c =
    seen_one same_dot (contains dot_cmp c.loop-row.seen) (contains dot_cmp c.insert.new.self) c.row-item.result.0 (dots_of (drop (c.loop-row.row-index + 1) c.args.live.now))
    (sym c.contains.ensures ∙ c.if-contains.false)
    (λ q. c.in_ok-insert.ensures.updates.0 q ∙ in_cond (same_dot c.row-item.result.0 q) (contains dot_cmp c.loop-row.seen q))
    ∙ ap (λ l. meets same_dot (contains dot_cmp c.loop-row.seen) (dots_of l)) (sym (next_rest c.args.live.now c.loop-row.row-index c.row-item.result c.loop-row-test.true c.row-item.is))
    ∙ c.loop-row.invariant

pub returns : goal.returns
returns c =
    sym (ap (λ l. meets same_dot (contains dot_cmp c.loop-row.seen) (dots_of l)) (drop_all c.loop-row.row-index c.args.live.now c.loop-row-test.false))
    ∙ c.loop-row.invariant
