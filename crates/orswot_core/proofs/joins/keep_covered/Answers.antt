use Rattle.std.proofs.Common.{rules}
use Rattle.std.proofs.lemmas.Map.Made.{filter_same_pairs}
use Rattle.std.specs.FinSet as set
use Rattle.orswot_core.proofs.RowFacts.{after_filter}
use Rattle.orswot_core.proofs.joins.keep_covered.Goals as goal

pub returns : goal.returns
returns c = λ q.
    after_filter c.args.live.now c.retain.new.self (λ k. set.contains c.args.covered.now k) q
    (filter_same_pairs _ (λ e. set.contains c.args.covered.now e.0) _ (λ k v b w f' t. search rules) _ _ c.retain.ensures.filtered)
