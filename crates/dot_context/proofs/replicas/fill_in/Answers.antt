use Rattle.std.proofs.Common.{Some, ap, sym, ◌∙◌, ◌&&◌}
use Rattle.dot_context.specs.Runs.{begins, holds, has_room}
use Rattle.dot_context.specs.Sets.{listed}
use Rattle.dot_context.proofs.OuterFacts.{stepped, fills_at, fills_nothing, some_at, some_of, same_itself}
use Rattle.dot_context.proofs.replicas.fill_in.Goals as goal

pub fill_from-requires-clause-room : goal.fill_from-requires-clause-room
fill_from-requires-clause-room c = λ g there.
    sym (ap (λ o. has_room (listed o) g) (sym c.in-Some.ensures.value)) ∙ c.requires.room c.args.replica.now g (ap (λ b. b && begins c.args.runs.now g) (same_itself c.args.replica.now) ∙ there)

pub returns-in-Some-clause-some : goal.returns-in-Some-clause-some
returns-in-Some-clause-some c =
    let m = c.args.replicas.now in
    let r = c.args.replica.now in
    let old = c.in-Some.own.now in
    let new = c.fill_from.new.self in
    let n = c.get_mut.follows.lender new in
    let was = sym c.in-Some.ensures.value in
    let step = stepped m n r old new was (c.get_mut.follows.holds new) in
    some_at m n r (Some new) step c.requires.some (some_of m r old new was c.requires.some c.fill_from.ensures.apart c.fill_from.ensures.fills.room)

pub returns-in-Some-clause-fills : goal.returns-in-Some-clause-fills
returns-in-Some-clause-fills c =
    let m = c.args.replicas.now in
    let r = c.args.replica.now in
    let old = c.in-Some.own.now in
    let new = c.fill_from.new.self in
    let n = c.get_mut.follows.lender new in
    let was = sym c.in-Some.ensures.value in
    let step = stepped m n r old new was (c.get_mut.follows.holds new) in
    fills_at m n r old new (holds c.args.runs.now) (begins c.args.runs.now) step c.requires.apart (ap listed was) c.fill_from.ensures.fills

pub returns-in_default-clause-fills : goal.returns-in_default-clause-fills
returns-in_default-clause-fills c =
    fills_nothing c.args.replicas.now c.get_mut.follows.lender-at-none c.args.replica.now c.args.runs.now c.get_mut.follows.holds-at-none c.in_default.ensures.value c.requires.apart c.requires.room
