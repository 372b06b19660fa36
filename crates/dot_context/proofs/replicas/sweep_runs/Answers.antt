use Rattle.std.proofs.Common.{ap, sym}
use Rattle.dot_context.specs.Runs.{begins}
use Rattle.dot_context.specs.Sets.{listed}
use Rattle.dot_context.proofs.OuterFacts.{stepped, sweeps_at, sweeps_nothing, some_left}
use Rattle.dot_context.proofs.replicas.sweep_runs.Goals as goal

pub returns-in-Some-clause-some : goal.returns-in-Some-clause-some
returns-in-Some-clause-some c =
    let m = c.args.replicas.now in
    let r = c.args.replica.now in
    let old = c.in-Some.own.now in
    let new = c.sweep_from.new.self in
    let n = c.get_mut.follows.lender new in
    let step = stepped m n r old new (sym c.in-Some.ensures.value) (c.get_mut.follows.holds new) in
    some_left m n r new c.is_empty.result step c.requires.some c.is_empty.ensures

pub returns-in-Some-clause-sweeps : goal.returns-in-Some-clause-sweeps
returns-in-Some-clause-sweeps c =
    let m = c.args.replicas.now in
    let r = c.args.replica.now in
    let old = c.in-Some.own.now in
    let new = c.sweep_from.new.self in
    let n = c.get_mut.follows.lender new in
    let was = sym c.in-Some.ensures.value in
    let step = stepped m n r old new was (c.get_mut.follows.holds new) in
    sweeps_at m n r old new (begins c.args.runs.now) step c.requires.apart (ap listed was) c.sweep_from.ensures.sweeps

pub returns-in-None-clause-sweeps : goal.returns-in-None-clause-sweeps
returns-in-None-clause-sweeps c = sweeps_nothing c.args.replicas.now c.get_mut.follows.lender-at-none c.args.replica.now (begins c.args.runs.now) c.get_mut.follows.holds-at-none c.in-None.ensures.value c.requires.apart
