use Rattle.std.proofs.Common.{ap, ◌∙◌}
use Rattle.std.specs.List.{filter}
use Rattle.tracker_known.specs.Picks.{is_new}
use Rattle.tracker_known.proofs.GatherLemmas.{filter_list}
use Rattle.tracker_known.proofs.merge_turn.turn_of_merge.Goals as goal

pub returns-clause-joins : goal.returns-clause-joins
returns-clause-joins c =
    let new = is_new c.args.set.now c.args.others.now in
    filter_list new c.args.told.now.live c.in_ok-joins.joins.items (c.in_ok-joins.ensures ∙ ap (filter (λ x. new x.0)) c.live.ensures.live) c.live.ensures.told.once
