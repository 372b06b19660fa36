use Rattle.std.proofs.Common.{Bool, subst, ◌&&◌}
use Rattle.presence_base.specs.Order.{same_replica}
use Rattle.tracker_known.specs.Picks.{picked}
use Rattle.tracker_shown.specs.Turns.{IsListOf}
use Rattle.tracker_known.proofs.turn.turn_of_replica.Goals as goal

pub returns-clause-joins : goal.returns-clause-joins
returns-clause-joins c = subst (λ (b : Bool). IsListOf (picked c.args.set.now.live (λ d. same_replica d.replica c.args.replica.now && b)) c.in_ok-joins.joins.items) c.begins.ensures c.in_ok-joins.ensures

pub returns-clause-leaves : goal.returns-clause-leaves
returns-clause-leaves c = subst (λ (b : Bool). IsListOf (picked c.args.set.now.live (λ d. same_replica d.replica c.args.replica.now && b)) c.in_ok-leaves.leaves.items) c.ends.ensures c.in_ok-leaves.ensures
