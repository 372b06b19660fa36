use Rattle.std.proofs.Common.{◌&&◌}
use Rattle.presence_base.specs.Order.{same_replica}
use Rattle.tracker_known.specs.Picks.{picked}
use Rattle.tracker_known.proofs.GatherLemmas.{gathered, list_like, none_list, none_wanted, all_wanted}
use Rattle.tracker_known.proofs.Results.{if_ok}
use Rattle.tracker_known.proofs.turn.rows_where.Goals as goal

pub returns-then-not-is_wanted : goal.returns-then-not-is_wanted
returns-then-not-is_wanted c =
    none_list (picked c.args.set.now.live (λ d. same_replica d.replica c.args.replica.now && c.args.is_wanted)) c.new.result.items c.new.ensures.items (none_wanted c.args.set.now.live c.args.replica.now c.args.is_wanted c.if-not-is_wanted.true)

pub returns : goal.returns
returns c =
    let source = c.args.set.now.live in
    let r = c.args.replica.now in
    if_ok _ _ (λ v list. list_like (picked source (λ d. same_replica d.replica r)) (picked source (λ d. same_replica d.replica r && c.args.is_wanted)) v.items (all_wanted source r c.args.is_wanted c.if-not-is_wanted.false)
    (gathered source (λ d. same_replica d.replica r) c.new-rows.result c.gather_replica.new.rows v.items c.new-rows.ensures.empty c.in_ok-gather_replica.ensures list))
    c.listed.result c.listed.ensures
