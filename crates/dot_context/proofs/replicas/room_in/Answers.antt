use Rattle.std.proofs.Common.{◌≡◌, Some, ap, sym, subst, OnOk, OnErr, []}
use Rattle.dot_context.specs.Runs.{begins, Opens}
use Rattle.dot_context.specs.Sets.{listed}
use Rattle.dot_context.proofs.SetFacts.{on_ok}
use Rattle.dot_context.specs.Changes.{ChangesAt}
use Rattle.dot_context.proofs.OuterFacts.{stepped, opens_at, some_at, some_of, either_way, some_unchanged, opens_unchanged, room_here, some_opened}
use Rattle.dot_context.proofs.replicas.room_in.Goals as goal

pub returns-in-Some-clause-some : goal.returns-in-Some-clause-some
returns-in-Some-clause-some c =
    let m = c.args.replicas.now in
    let r = c.args.replica.now in
    let old = c.in-Some.own.now in
    let new = c.make_room_for.new.self in
    let n = c.get_mut.follows.lender new in
    let was = sym c.in-Some.ensures.value in
    let step = stepped m n r old new was (c.get_mut.follows.holds new) in
    some_at m n r (Some new) step c.requires.some (some_of m r old new was c.requires.some c.make_room_for.ensures.apart c.make_room_for.ensures.opens.room)

pub returns-in-Some-clause-opens : goal.returns-in-Some-clause-opens
returns-in-Some-clause-opens c =
    let m = c.args.replicas.now in
    let r = c.args.replica.now in
    let old = c.in-Some.own.now in
    let new = c.make_room_for.new.self in
    let n = c.get_mut.follows.lender new in
    let was = sym c.in-Some.ensures.value in
    let step = stepped m n r old new was (c.get_mut.follows.holds new) in
    opens_at m n r old new (begins c.args.runs.now) step c.requires.apart (ap listed was) c.make_room_for.ensures.opens

pub returns-in-Some-clause-ok : goal.returns-in-Some-clause-ok
returns-in-Some-clause-ok c =
    let m = c.args.replicas.now in
    let r = c.args.replica.now in
    let old = c.in-Some.own.now in
    let new = c.make_room_for.new.self in
    let n = c.get_mut.follows.lender new in
    let was = sym c.in-Some.ensures.value in
    let step = stepped m n r old new was (c.get_mut.follows.holds new) in
    on_ok c.make_room_for.result (λ room. room_here m n r new (begins c.args.runs.now) step room) c.make_room_for.ensures.ok

pub returns-clause-some : goal.returns-clause-some
returns-clause-some c =
    let m = c.args.replicas.now in
    let r = c.args.replica.now in
    let new = c.make_room_for-2.new.self in
    let n = c.insert_new.new.replicas in
    either_way c.insert_new.result
    (subst (λ k. OnOk c.insert_new.result (ChangesAt k n r (Some new))) c.get_mut.follows.holds-at-none c.insert_new.ensures.ok)
    (subst (λ k. OnErr c.insert_new.result (n.entries ≡ k.entries)) c.get_mut.follows.holds-at-none c.insert_new.ensures.err)
    (λ step. some_at m n r (Some new) step c.requires.some (some_opened c.args.runs.now new c.if-is_empty.ensures c.in_ok-make_room_for.ensures.ok))
    (λ e. some_unchanged m n e c.requires.some)

pub returns-clause-opens : goal.returns-clause-opens
returns-clause-opens c =
    let m = c.args.replicas.now in
    let r = c.args.replica.now in
    let new = c.make_room_for-2.new.self in
    let n = c.insert_new.new.replicas in
    let none = c.in_default.ensures.value in
    let opens = subst (λ s. Opens s new (begins c.args.runs.now)) c.new-own.ensures c.in_ok-make_room_for.ensures.opens in
    either_way c.insert_new.result
    (subst (λ k. OnOk c.insert_new.result (ChangesAt k n r (Some new))) c.get_mut.follows.holds-at-none c.insert_new.ensures.ok)
    (subst (λ k. OnErr c.insert_new.result (n.entries ≡ k.entries)) c.get_mut.follows.holds-at-none c.insert_new.ensures.err)
    (λ step. opens_at m n r [] new (begins c.args.runs.now) step c.requires.apart (ap listed (sym none)) opens)
    (λ e. opens_unchanged m n r (begins c.args.runs.now) e c.requires.apart)

pub returns-clause-ok : goal.returns-clause-ok
returns-clause-ok c =
    let m = c.args.replicas.now in
    let r = c.args.replica.now in
    let new = c.make_room_for-2.new.self in
    let n = c.insert_new.new.replicas in
    on_ok c.insert_new.result (λ step. room_here m n r new (begins c.args.runs.now) step c.in_ok-make_room_for.ensures.ok)
    (subst (λ k. OnOk c.insert_new.result (ChangesAt k n r (Some new))) c.get_mut.follows.holds-at-none c.insert_new.ensures.ok)
