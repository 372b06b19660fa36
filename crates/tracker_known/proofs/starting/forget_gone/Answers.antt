use Rattle.std.proofs.Common.{◌||◌, refl}
use Rattle.presence_journal_lists.specs.Standings.{first_list, gone_list, standing_at}
use Rattle.presence_journal_known.specs.LeftOut.{is_listed}
use Rattle.replica_status.specs.Boards.{standing_in}
use Rattle.tracker_known.specs.Starts.{is_gone_by}
use Rattle.tracker_known.proofs.StartLemmas.{loses_both, all_gone}
use Rattle.tracker_known.proofs.starting.forget_gone.Goals as goal

pub returns : goal.returns
returns c =
    let g = c.parts.result.0.now in
    let m = c.parts.result.1.now in
    let xs = c.args.standings.now in
    let first = c.forget_first.new.set in
    let last = c.forget_others.new.set in
    let named = is_listed (gone_list g.further.entries) in
    loses_both c.args.set.now first last (is_listed (first_list g.first.entries)) (λ r. named r || is_gone_by (standing_at m r)) (λ r. is_gone_by (standing_in xs r)) c.forget_first.ensures
    (loses_both first c.forget_names.new.set last named (λ r. is_gone_by (standing_at m r)) (λ r. named r || is_gone_by (standing_at m r)) c.forget_names.ensures c.forget_others.ensures (λ r. refl))
    (all_gone g m xs c.parts.ensures)
