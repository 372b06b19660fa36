use Rattle.std.proofs.Common.{◌≡◌, false, List, Err, subst, ap, ◌∙◌}
use Rattle.presence_journal.specs.History.{History}
use Rattle.shard_pool_settled.specs.Settled.{CountsDiffer, are_told}
use Rattle.shard_pool_settled.specs.declared.fault.SettleFault.TheVariants.{MissingSeat, NoSuchEntry, CountDiffers}
use Rattle.shard_pool.specs.Seats.{Hands}
use Rattle.shard_pool.specs.Settling.{by_number, IsMissing}
use Rattle.shard_pool.proofs.Settled.{are_placed, handed_on}
use Rattle.shard_pool.proofs.pool.Pool.settle.Goals as goal

pub returns-in_err-check_seats-clause-missing : goal.returns-in_err-check_seats-clause-missing
returns-in_err-check_seats-clause-missing g c = λ is.
    subst (λ (hs : List Hands). IsMissing hs c.args.self.seats) c.as_slice-2.ensures.value
    (c.in_err-check_seats.ensures.missing (ap Err (handed_on c.from_residual-in_err-check_seats.result c.in_err-check_seats.field-0.0 MissingSeat c.from_residual-in_err-check_seats.ensures.1 is)))

pub returns-in_err-check_seats-clause-untold : goal.returns-in_err-check_seats-clause-untold
returns-in_err-check_seats-clause-untold g c = λ is. (
  c.in_ok-journals.journals.items,
  c.in_ok-journals.ensures.ok,
  subst (λ (hs : List Hands). are_told c.in_ok-journals.journals.items (by_number hs c.args.self.seats) ≡ false) c.as_slice-2.ensures.value
      (subst (λ (js : List History). are_told js (by_number c.as_slice-2.result.now c.args.self.seats) ≡ false) c.as_slice.ensures.value
      (c.in_err-check_seats.ensures.untold (ap Err (handed_on c.from_residual-in_err-check_seats.result c.in_err-check_seats.field-0.0 NoSuchEntry c.from_residual-in_err-check_seats.ensures.1 is)))),
)

pub returns-in_err-check_seats-clause-differs : goal.returns-in_err-check_seats-clause-differs
returns-in_err-check_seats-clause-differs g c = λ is. (
  c.in_ok-journals.journals.items,
  c.in_ok-journals.ensures.ok,
  subst (λ (hs : List Hands). CountsDiffer c.in_ok-journals.journals.items (by_number hs c.args.self.seats)) c.as_slice-2.ensures.value
      (subst (λ (js : List History). CountsDiffer js (by_number c.as_slice-2.result.now c.args.self.seats)) c.as_slice.ensures.value
      (c.in_err-check_seats.ensures.differs (ap Err (handed_on c.from_residual-in_err-check_seats.result c.in_err-check_seats.field-0.0 CountDiffers c.from_residual-in_err-check_seats.ensures.1 is)))),
)

pub returns-clause-places : goal.returns-clause-places
returns-clause-places g c =
    let pool = c.args.self in
    let law = g.met.L.Lanes in
    are_placed pool.own.name g.L.Lanes.begins g.L.First.Lane.begins g.L.Second.Lane.begins g.L.Third.Lane.begins g.L.Fourth.Lane.begins pool.shards
    c.taken_out-first.result c.taken_out-second.result c.taken_out-third.result c.taken_out-fourth.result c.in_ok-journals.journals.items
    pool.some.1 law.first law.second law.third law.fourth c.in_ok-journals.ensures.order
    (c.taken_out-first.ensures.journal.1 ∙ pool.one_node.0) (c.taken_out-second.ensures.journal.1 ∙ pool.one_node.1)
    (c.taken_out-third.ensures.journal.1 ∙ pool.one_node.2) (c.taken_out-fourth.ensures.journal.1 ∙ pool.one_node.3)
    c.taken_out-first.ensures.lane c.taken_out-second.ensures.lane c.taken_out-third.ensures.lane c.taken_out-fourth.ensures.lane
