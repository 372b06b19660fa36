use Rattle.std.proofs.Common.{List, sym, ap, subst}
use Rattle.std.specs.BTreeMap.{get, is_at}
use Rattle.std.specs.Map.{lookup, keys_of}
use Rattle.std.proofs.lemmas.Map.Keys.{IsDistinct-from_sorted}
use Rattle.presence_base.specs.declared.dots.Dot.{Dot}
use Rattle.presence_base.specs.declared.row.Row.{Row}
use Rattle.presence_base.specs.Order.{dot_cmp}
use Rattle.presence_journal_cuts.proofs.RebirthLemmas.{AreCopied, none_copied, more_copied, all_copied}
use Rattle.presence_journal_cuts.proofs.rows.copied.Goals as goal

pub loop-dot-init : goal.loop-dot-init
loop-dot-init c =
    let f = get dot_cmp c.new-map.result in
    subst (λ (rest : List (Dot × Row)). AreCopied c.args.rows rest f) (sym c.into_iter-dot-iterator.ensures.into_iter_gives)
    (none_copied c.args.rows f (IsDistinct-from_sorted dot_cmp (keys_of c.args.rows) c.requires) (λ d. ap (λ (es : List (Dot × Row)). lookup (is_at (dot_cmp d)) es) c.new-map.ensures.empty))

pub loop-dot-preserved : goal.loop-dot-preserved
loop-dot-preserved c =
    let f = get dot_cmp c.loop-dot.map in
    more_copied c.args.rows c.next.new.self (c.in-Some.dot.now, c.in-Some.row.now) f (get dot_cmp c.put_copy.new.map) c.in_ok-put_copy.ensures
    (subst (λ (rest : List (Dot × Row)). AreCopied c.args.rows rest f) c.in-Some.ensures.steps c.loop-dot.invariant)

pub returns : goal.returns
returns c =
    let f = get dot_cmp c.loop-dot.map in
    all_copied c.args.rows f (subst (λ (rest : List (Dot × Row)). AreCopied c.args.rows rest f) c.in-None.ensures.steps.0 c.loop-dot.invariant)
