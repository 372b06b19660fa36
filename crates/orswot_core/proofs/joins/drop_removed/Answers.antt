use Rattle.std.proofs.Common.{◌||◌, not, is_some, rules}
use Rattle.std.proofs.lemmas.Map.Made.{filter_same_pairs}
use Rattle.std.specs.FinSet as set
use Rattle.std.specs.BTreeMap.{get}
use Rattle.presence_base.specs.Order.{dot_cmp}
use Rattle.orswot_core.proofs.RowFacts.{after_filter}
use Rattle.orswot_core.proofs.joins.drop_removed.Goals as goal

pub returns : goal.returns
returns c = λ q.
    after_filter c.args.live.now c.retain.new.self (λ k. not (set.contains c.args.covered.now k) || is_some (get dot_cmp c.args.others.now k)) q
    (filter_same_pairs _ (λ e. not (set.contains c.args.covered.now e.0) || is_some (get dot_cmp c.args.others.now e.0)) _ (λ k v b w f' t. search rules) _ _ c.retain.ensures.filtered)
