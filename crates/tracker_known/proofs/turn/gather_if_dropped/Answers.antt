use Rattle.std.proofs.Common.{sym, ◌∙◌, ◌&&◌}
use Rattle.presence_base.specs.Order.{same_replica}
use Rattle.tracker_known.proofs.Results.{on_ok}
use Rattle.tracker_known.specs.Picks.{drops}
use Rattle.tracker_known.proofs.GatherLemmas.{gathers_like, gathers_none, and_is_true, and_is_false}
use Rattle.tracker_known.proofs.turn.gather_if_dropped.Goals as goal

pub returns-then-not-drops : goal.returns-then-not-drops
returns-then-not-drops c =
    let r = c.args.replica.now in
    let b = drops c.args.time c.args.standing in
    gathers_none c.args.set.now.live (λ d. same_replica d.replica r && b) c.args.rows.now (λ q. and_is_false (same_replica q.replica r) b (sym c.drops.ensures ∙ c.if-not-drops.true))

pub returns : goal.returns
returns c =
    let r = c.args.replica.now in
    let b = drops c.args.time c.args.standing in
    on_ok c.gather_replica.result (λ gathers. gathers_like c.args.set.now.live (λ q. same_replica q.replica r) (λ d. same_replica d.replica r && b) c.args.rows.now c.gather_replica.new.rows
    (λ q. sym (and_is_true (same_replica q.replica r) b (sym c.drops.ensures ∙ c.if-not-drops.false))) gathers) c.gather_replica.ensures
