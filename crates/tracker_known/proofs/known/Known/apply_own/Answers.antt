use Rattle.std.proofs.Common.{refl, ◌+◌, ap, arith}
use Rattle.tracker_known.proofs.KnownLemmas.{can_take, count_room, follows_own, stays_set}
use Rattle.tracker_known.proofs.Results.{err_leaves}
use Rattle.tracker_known.proofs.known.Known.apply_own.Goals as goal

pub overflow_add-next : goal.overflow_add-next
overflow_add-next c = let room = (count_room c.args.self.now c.args.entry.now c.requires.own c.requires.follows).0 in omega (arith, room)

pub take_own-requires-clause-follows : goal.take_own-requires-clause-follows
take_own-requires-clause-follows c = can_take c.args.self.now c.args.entry.now (record { replica = c.args.self.now.others.own; count = c.args.self.now.count + 1 }) refl c.requires.follows

pub returns-in_err-take_own-clause-err : goal.returns-in_err-take_own-clause-err
returns-in_err-take_own-clause-err c = err_leaves c.from_residual.result (stays_set c.args.self.now (record { set = c.take_own.new.set; others = c.args.self.now.others; count = c.args.self.now.count }) c.in_err-take_own.ensures.err refl refl)

pub overflow_add-self : goal.overflow_add-self
overflow_add-self c = let room = (count_room c.args.self.now c.args.entry.now c.requires.own c.requires.follows).1 in omega (arith, room, c.used_by.ensures)

pub returns-clause-ok : goal.returns-clause-ok
returns-clause-ok c =
    follows_own c.args.self.now (record { set = c.take_own.new.set; others = c.args.self.now.others; count = c.args.self.now.count + c.used_by.result }) c.args.entry.now (record { replica = c.args.self.now.others.own; count = c.args.self.now.count + 1 })
    c.requires.own refl c.in_ok-take_own.ensures.ok refl (ap (λ n. c.args.self.now.count + n) c.used_by.ensures)
