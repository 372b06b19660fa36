use Rattle.std.proofs.Common.{rules}
use Rattle.std.proofs.lemmas.Map.Made.{map_same_pairs}
use Rattle.replica_status.specs.Table.{ticked_at}
use Rattle.presence_journal_lists.proofs.standings.tick_all.Goals as goal

pub returns : goal.returns
returns c = map_same_pairs _ (ticked_at c.args.time) _ (λ k v b w f' t. search rules) _ _ c.retain.ensures.filtered
