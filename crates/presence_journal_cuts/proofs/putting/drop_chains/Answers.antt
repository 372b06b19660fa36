use Rattle.std.proofs.Common.{◌≡◌, ◌+◌, ◌∷◌, List, cond, None, drop, ◌∙◌, ap, nat_eq}
use Rattle.std.specs.BTreeMap.{get}
use Rattle.std.specs.Ordering.{nat_cmp}
use Rattle.presence_base.specs.declared.dots.Dot.{Dot}
use Rattle.presence_journal.proofs.Walking.{drop_next}
use Rattle.presence_journal_cuts.specs.Changes.{is_counted}
use Rattle.presence_journal_cuts.proofs.ChainLemmas.{lost_more}
use Rattle.presence_journal_cuts.proofs.putting.drop_chains.Goals as goal

pub loop-dot-preserved : goal.loop-dot-preserved
loop-dot-preserved c =
    let l = c.loop-dot in
    let ds : List Dot = c.args.dots.now in
    let next : drop l.dot-index ds ≡ c.dot-item.result ∷ drop (l.dot-index + 1) ds = drop_next ds l.dot-index c.dot-item.result c.loop-dot-test.true c.dot-item.is in
    λ k. l.invariant k
    ∙ (ap (λ (xs : List Dot). cond (is_counted xs k) None (get nat_cmp l.chains k)) next
    ∙ lost_more (nat_eq k c.dot-item.result.count) (is_counted (drop (l.dot-index + 1) ds) k) (get nat_cmp l.chains k) (get nat_cmp c.drop_chain.new.chains k) (c.drop_chain.ensures k))
