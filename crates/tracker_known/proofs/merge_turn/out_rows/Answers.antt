use Rattle.std.proofs.Common.{subst, ◌∙◌, ap, List}
use Rattle.presence_base.specs.declared.dots.Dot.{Dot}
use Rattle.presence_base.specs.Order.{same_dot}
use Rattle.std.specs.Map.{lookup}
use Rattle.std.specs.Prelude.{is_some}
use Rattle.orswot_core.specs.Telling.{Range}
use Rattle.tracker_known.specs.Picks.{Gathers, is_out, out_ranges, out_extras}
use Rattle.tracker_known.proofs.GatherLemmas.{gathered}
use Rattle.tracker_known.proofs.MergeLemmas.{both_out}
use Rattle.tracker_known.proofs.Results.{if_ok}
use Rattle.tracker_known.proofs.merge_turn.out_rows.Goals as goal

pub returns : goal.returns
returns c =
    let o = c.args.others.now in
    let t = c.args.told.now in
    let source = c.args.set.now.live in
    let live = c.in_ok-live.live in
    let first = subst (λ (gs : List Range). Gathers source (out_ranges o live gs) c.new-rows.result c.gather_ranges.new.rows) c.ranges-2.ensures.ranges c.in_ok-gather_ranges.ensures in
    let second = subst (λ (ds : List Dot). Gathers source (out_extras o live ds) c.gather_ranges.new.rows c.gather_extras.new.rows) c.extras.ensures.extras c.in_ok-gather_extras.ensures in
    if_ok _ _ (λ v list. gathered source (is_out o t) c.new-rows.result c.gather_extras.new.rows v.items c.new-rows.ensures.empty
    (both_out source o t live c.new-rows.result c.gather_ranges.new.rows c.gather_extras.new.rows (λ q. c.in_ok-live.ensures q ∙ ap (λ xs. is_some (lookup (same_dot q) xs)) c.live.ensures.live) first second) list)
    c.listed.result c.listed.ensures
