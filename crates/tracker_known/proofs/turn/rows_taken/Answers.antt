use Rattle.std.proofs.Common.{subst, List}
use Rattle.presence_base.specs.declared.dots.Dot.{Dot}
use Rattle.presence_journal.specs.History.{has_dot}
use Rattle.presence_journal.specs.Present.{dots_taken}
use Rattle.tracker_known.specs.Picks.{Gathers}
use Rattle.tracker_known.proofs.GatherLemmas.{gathered}
use Rattle.tracker_known.proofs.Results.{if_ok}
use Rattle.tracker_known.proofs.turn.rows_taken.Goals as goal

pub returns : goal.returns
returns c =
    if_ok _ _ (λ v list. gathered c.args.set.now.live (has_dot (dots_taken c.args.outcome.now)) c.new-rows.result c.gather_dots.new.rows v.items c.new-rows.ensures.empty
    (subst (λ (ds : List Dot). Gathers c.args.set.now.live (has_dot ds) c.new-rows.result c.gather_dots.new.rows) c.dots_taken.ensures c.in_ok-gather_dots.ensures) list)
    c.listed.result c.listed.ensures
