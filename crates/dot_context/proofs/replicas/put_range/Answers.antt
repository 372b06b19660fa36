use Rattle.std.proofs.Common.{◌≡◌, Some, ap, sym, ◌∙◌, subst, OnOk, OnErr, eqb, ◌&&◌, []}
use Rattle.presence_base.specs.Order.{same_replica}
use Rattle.dot_context.specs.Runs.{in_run, holds, has_room, Fills}
use Rattle.dot_context.specs.Sets.{listed}
use Rattle.dot_context.proofs.SetFacts.{on_ok, on_err}
use Rattle.dot_context.proofs.LoopFacts.{loose, some_room}
use Rattle.dot_context.specs.Changes.{ChangesAt}
use Rattle.dot_context.proofs.OuterFacts.{stepped, fills_at, kept_at, some_at, some_of, either_way, compact_filled, compact_same, some_unchanged, same_entries}
use Rattle.dot_context.proofs.replicas.put_range.Goals as goal

pub returns-in-Some-clause-ok : goal.returns-in-Some-clause-ok
returns-in-Some-clause-ok c =
    let m = c.args.replicas.now in
    let r = c.args.replica in
    let old = c.in-Some.runs.now in
    let new = c.add_range.new.self in
    let n = c.get_mut.follows.lender new in
    let was = sym c.in-Some.ensures.value in
    let step = stepped m n r old new was (c.get_mut.follows.holds new) in
    on_ok c.add_range.result (λ f q.
    (fills_at m n r old new (in_run (c.args.from, c.args.to)) (λ g. eqb c.args.from g) step (λ q. loose 0 _ (c.requires.compact.runs q)) (ap listed was) f q.replica).counts q.count) c.add_range.ensures.ok

pub returns-in-Some-clause-err : goal.returns-in-Some-clause-err
returns-in-Some-clause-err c =
    let m = c.args.replicas.now in
    let r = c.args.replica in
    let old = c.in-Some.runs.now in
    let new = c.add_range.new.self in
    let n = c.get_mut.follows.lender new in
    let was = sym c.in-Some.ensures.value in
    let step = stepped m n r old new was (c.get_mut.follows.holds new) in
    on_err c.add_range.result (λ e q. ap (λ s. holds s q.count) (kept_at m n r old new step (ap listed was) e q.replica)) c.add_range.ensures.err

pub returns-in-Some-clause-compact : goal.returns-in-Some-clause-compact
returns-in-Some-clause-compact c =
    let m = c.args.replicas.now in
    let r = c.args.replica in
    let old = c.in-Some.runs.now in
    let new = c.add_range.new.self in
    let n = c.get_mut.follows.lender new in
    let was = sym c.in-Some.ensures.value in
    let step = stepped m n r old new was (c.get_mut.follows.holds new) in
    let compact = c.requires.compact in
    either_way c.add_range.result c.add_range.ensures.ok c.add_range.ensures.err
    (λ f. compact_filled m n (λ q k. same_replica q r && in_run (c.args.from, c.args.to) k) (λ q g. same_replica q r && eqb c.args.from g) compact
    (some_at m n r (Some new) step compact.some (some_of m r old new was compact.some c.add_range.ensures.apart f.room))
    (fills_at m n r old new (in_run (c.args.from, c.args.to)) (λ g. eqb c.args.from g) step (λ q. loose 0 _ (compact.runs q)) (ap listed was) f))
    (λ e. compact_same m n compact (kept_at m n r old new step (ap listed was) e)
    (some_at m n r (Some new) step compact.some (some_of m r old new was compact.some c.add_range.ensures.apart (λ g there. ap (λ s. has_room s g) e ∙ there))))

pub returns-clause-ok : goal.returns-clause-ok
returns-clause-ok c =
    let m = c.args.replicas.now in
    let r = c.args.replica in
    let new = c.add_range-2.new.self in
    let n = c.insert_new.new.replicas in
    let none = c.in_default.ensures.value in
    let filled = subst (λ s. Fills s new (in_run (c.args.from, c.args.to)) (λ g. eqb c.args.from g)) c.new-runs.ensures c.in_ok-add_range.ensures.ok in
    on_ok c.insert_new.result (λ step q.
    (fills_at m n r [] new (in_run (c.args.from, c.args.to)) (λ g. eqb c.args.from g) step (λ q. loose 0 _ (c.requires.compact.runs q)) (ap listed (sym none)) filled q.replica).counts q.count)
    (subst (λ k. OnOk c.insert_new.result (ChangesAt k n r (Some new))) c.get_mut.follows.holds-at-none c.insert_new.ensures.ok)

pub returns-clause-compact : goal.returns-clause-compact
returns-clause-compact c =
    let m = c.args.replicas.now in
    let r = c.args.replica in
    let new = c.add_range-2.new.self in
    let n = c.insert_new.new.replicas in
    let none = c.in_default.ensures.value in
    let compact = c.requires.compact in
    let filled = subst (λ s. Fills s new (in_run (c.args.from, c.args.to)) (λ g. eqb c.args.from g)) c.new-runs.ensures c.in_ok-add_range.ensures.ok in
    either_way c.insert_new.result
    (subst (λ k. OnOk c.insert_new.result (ChangesAt k n r (Some new))) c.get_mut.follows.holds-at-none c.insert_new.ensures.ok)
    (subst (λ k. OnErr c.insert_new.result (n.entries ≡ k.entries)) c.get_mut.follows.holds-at-none c.insert_new.ensures.err)
    (λ step. compact_filled m n (λ q k. same_replica q r && in_run (c.args.from, c.args.to) k) (λ q g. same_replica q r && eqb c.args.from g) compact
    (some_at m n r (Some new) step compact.some (some_room new c.args.from c.in_ok-add_range.ensures.some))
    (fills_at m n r [] new (in_run (c.args.from, c.args.to)) (λ g. eqb c.args.from g) step (λ q. loose 0 _ (compact.runs q)) (ap listed (sym none)) filled))
    (λ e. compact_same m n compact (same_entries m n e) (some_unchanged m n e compact.some))
