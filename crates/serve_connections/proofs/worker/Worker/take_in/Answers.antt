use Rattle.std.proofs.Common.{◌≡◌, ◌≤◌, length, refl, sym, subst, None, Ok, rules}
use Rattle.crossbeam_queue.specs.Passes.{view}
use Rattle.serve_connections.specs.Places.{served}
use Rattle.serve_connections.specs.declared.worker.TheConstants.{MAX_CONNECTIONS}
use Rattle.serve_connections.proofs.Places.{kept_length}
use Rattle.serve_connections.proofs.Takings.{counted, ends_by, full, lost_neither, lost_none, takes_by, takes_none, took_by}
use Rattle.serve_connections.proofs.worker.Worker.take_in.Goals as goal

pub loop-init : goal.loop-init
loop-init g c = (
  takes_none c.args.settings.now g.S.CarriesToken.carried c.args.now (served c.args.self.now.clients c.args.self.now.order.items) (served c.args.self.now.clients c.args.self.now.order.items) refl,
  lost_none (view c.args.self.now.taker.pass).pops (served c.args.self.now.clients c.args.self.now.order.items),
  search rules,
)

pub returns-in_err-no_more-clause-takes : goal.returns-in_err-no_more-clause-takes
returns-in_err-no_more-clause-takes g c =
    takes_by c.args.settings.now g.S.CarriesToken.carried c.args.now (served c.args.self.now.clients c.args.self.now.order.items) (served c.loop.self.clients c.loop.self.order.items) (served c.take_one.new.self.clients c.take_one.new.self.order.items)
    c.take_one.result c.take_one.ensures.takes c.loop.invariant.0

pub returns-in_err-no_more-clause-none_lost : goal.returns-in_err-no_more-clause-none_lost
returns-in_err-no_more-clause-none_lost g c =
    lost_neither (view c.args.self.now.taker.pass).pops (view c.loop.self.taker.pass).pops (view c.take_one.new.self.taker.pass).pops
    (served c.args.self.now.clients c.args.self.now.order.items) (served c.loop.self.clients c.loop.self.order.items) (served c.take_one.new.self.clients c.take_one.new.self.order.items)
    c.loop.invariant.1 c.take_one.ensures.none_lost

pub returns-in-Some-clause-takes : goal.returns-in-Some-clause-takes
returns-in-Some-clause-takes g c =
    takes_by c.args.settings.now g.S.CarriesToken.carried c.args.now (served c.args.self.now.clients c.args.self.now.order.items) (served c.loop.self.clients c.loop.self.order.items) (served c.take_one.new.self.clients c.take_one.new.self.order.items)
    c.take_one.result c.take_one.ensures.takes c.loop.invariant.0

pub returns-in-Some-clause-none_lost : goal.returns-in-Some-clause-none_lost
returns-in-Some-clause-none_lost g c =
    lost_neither (view c.args.self.now.taker.pass).pops (view c.loop.self.taker.pass).pops (view c.take_one.new.self.taker.pass).pops
    (served c.args.self.now.clients c.args.self.now.order.items) (served c.loop.self.clients c.loop.self.order.items) (served c.take_one.new.self.clients c.take_one.new.self.order.items)
    c.loop.invariant.1 c.take_one.ensures.none_lost

pub returns-in-Some-clause-ends : goal.returns-in-Some-clause-ends
returns-in-Some-clause-ends g c =
    ends_by c.args.settings.now g.S.CarriesToken.carried c.args.now (served c.loop.self.clients c.loop.self.order.items) (served c.take_one.new.self.clients c.take_one.new.self.order.items)
    c.take_one.result c.in-Some.no_more c.take_one.ensures.takes (search rules)

pub loop-preserved : goal.loop-preserved
loop-preserved g c =
    let none : c.take_one.result ≡ Ok None = search rules in (
      takes_by c.args.settings.now g.S.CarriesToken.carried c.args.now (served c.args.self.now.clients c.args.self.now.order.items) (served c.loop.self.clients c.loop.self.order.items) (served c.take_one.new.self.clients c.take_one.new.self.order.items)
          c.take_one.result c.take_one.ensures.takes c.loop.invariant.0,
      lost_neither (view c.args.self.now.taker.pass).pops (view c.loop.self.taker.pass).pops (view c.take_one.new.self.taker.pass).pops
          (served c.args.self.now.clients c.args.self.now.order.items) (served c.loop.self.clients c.loop.self.order.items) (served c.take_one.new.self.clients c.take_one.new.self.order.items)
          c.loop.invariant.1 c.take_one.ensures.none_lost,
      counted (length (served c.args.self.now.clients c.args.self.now.order.items)) (length (served c.loop.self.clients c.loop.self.order.items)) (length (served c.take_one.new.self.clients c.take_one.new.self.order.items)) c.loop.counter c.loop.invariant.2
          (took_by c.args.settings.now g.S.CarriesToken.carried c.args.now (served c.loop.self.clients c.loop.self.order.items) (served c.take_one.new.self.clients c.take_one.new.self.order.items) c.take_one.result c.take_one.ensures.takes none),
    )

pub returns-clause-takes : goal.returns-clause-takes
returns-clause-takes g c = c.loop.invariant.0

pub returns-clause-none_lost : goal.returns-clause-none_lost
returns-clause-none_lost g c = c.loop.invariant.1

pub returns-clause-ends : goal.returns-clause-ends
returns-clause-ends g c =
    let many : length (served c.loop.self.clients c.loop.self.order.items) ≡ length c.loop.self.order.items =
    kept_length c.loop.self.clients c.loop.self.order.items c.loop.self.kept in
    let enough : MAX_CONNECTIONS ≤ c.loop.counter = search rules in
    full (length (served c.args.self.now.clients c.args.self.now.order.items)) (length (served c.loop.self.clients c.loop.self.order.items)) c.loop.counter c.loop.invariant.2 enough (subst (λ n. n ≤ MAX_CONNECTIONS) (sym many) c.loop.self.few)
