use Rattle.std.proofs.Common.{refl, ◌∙◌}
use Rattle.std.specs.BTreeMap.{get}
use Rattle.presence_base.specs.Order.{dot_cmp}
use Rattle.presence_journal_walks.proofs.DiffLemmas.{diff_between}
use Rattle.presence_journal_walks.proofs.diff.diff_rows.Goals as goal

pub returns : goal.returns
returns c =
    diff_between (get dot_cmp c.args.before.now) (get dot_cmp c.args.after.now) (get dot_cmp c.in_ok-joined.joined) (get dot_cmp c.in_ok-left.left) c.new.result c.new-2.result _ refl
    c.in_ok-joined.ensures c.in_ok-left.ensures (λ m t. c.new.ensures ∙ c.in_ok-joins.ensures m t) (λ m t. c.new-2.ensures ∙ c.in_ok-leaves.ensures m t)
