use Rattle.std.proofs.Common.{sym, ◌∙◌, ap, drop, ◌+◌}
use Rattle.std.proofs.lemmas.List.{drop_all}
use Rattle.std.specs.List.{list_any}
use Rattle.std.specs.Ordering.{is_eq}
use Rattle.std.specs.BTreeSet.{contains}
use Rattle.presence_base.specs.Order.{text_cmp, same_text}
use Rattle.orswot_core.proofs.LoopFacts.{next_rest, meets, seen_one, seen_before, nothing_seen, in_cond}
use Rattle.node_world.proofs.names.has_name_twice.Goals as goal

pub loop-name-init : goal.loop-name-init
loop-name-init c = nothing_seen same_text (contains text_cmp c.new-seen.result) c.args.names.now (λ q. ap (list_any (λ k. is_eq (text_cmp q k))) c.new-seen.ensures.empty)

pub returns-then-contains : goal.returns-then-contains
returns-then-contains c =
    sym (ap (λ l. meets same_text (contains text_cmp c.loop-name.seen) l) (next_rest c.args.names.now c.loop-name.name-index c.name-item.result c.loop-name-test.true c.name-item.is)
    ∙ seen_before same_text (contains text_cmp c.loop-name.seen) c.name-item.result (drop (c.loop-name.name-index + 1) c.args.names.now) (sym c.contains.ensures ∙ c.if-contains.true))
    ∙ c.loop-name.invariant

pub loop-name-preserved : goal.loop-name-preserved
loop-name-preserved c =
    seen_one same_text (contains text_cmp c.loop-name.seen) (contains text_cmp c.insert.new.self) c.name-item.result (drop (c.loop-name.name-index + 1) c.args.names.now)
    (sym c.contains.ensures ∙ c.if-contains.false)
    (λ q. c.in_ok-insert.ensures.updates.0 q ∙ in_cond (same_text c.name-item.result q) (contains text_cmp c.loop-name.seen q))
    ∙ ap (λ l. meets same_text (contains text_cmp c.loop-name.seen) l) (sym (next_rest c.args.names.now c.loop-name.name-index c.name-item.result c.loop-name-test.true c.name-item.is))
    ∙ c.loop-name.invariant

pub returns : goal.returns
returns c =
    sym (ap (λ l. meets same_text (contains text_cmp c.loop-name.seen) l) (drop_all c.loop-name.name-index c.args.names.now c.loop-name-test.false))
    ∙ c.loop-name.invariant
