use Rattle.tracker_known.proofs.GatherLemmas.{entries_list}
use Rattle.tracker_known.proofs.Results.{if_ok_both}
use Rattle.tracker_known.proofs.gather.listed.Goals as goal

pub returns : goal.returns
returns c = if_ok_both _ _ _ (λ v is sorted. entries_list c.args.rows.now v.items is sorted) c.copies.result c.copies.ensures.rows c.copies.ensures.ordered
