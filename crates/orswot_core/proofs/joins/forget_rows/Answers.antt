use Rattle.std.proofs.Common.{not, rules}
use Rattle.std.proofs.lemmas.Map.Made.{filter_same_pairs}
use Rattle.orswot_core.proofs.RowFacts.{after_filter}
use Rattle.presence_base.specs.Order.{same_replica}
use Rattle.orswot_core.proofs.joins.forget_rows.Goals as goal

pub returns : goal.returns
returns c = λ q.
    after_filter c.args.live.now c.retain.new.self (λ k. not (same_replica k.replica c.args.replica.now)) q
    (filter_same_pairs _ (λ e. not (same_replica e.0.replica c.args.replica.now)) _ (λ k v b w f' t. search rules) _ _ c.retain.ensures.filtered)
