use Rattle.std.proofs.Common.{length, refl}
use Rattle.tracker_known.specs.declared.known.Known.{Known}
use Rattle.tracker_known.proofs.Results.{err_leaves}
use Rattle.tracker_known.proofs.KnownLemmas.{stays_set}
use Rattle.tracker_known.proofs.ToldAgainLemmas.{can_rejoin, was_ok, follows_reborn, stays_reborn}
use Rattle.tracker_known.proofs.known.Known.apply_reborn.Goals as goal

pub join_again-requires : goal.join_again-requires
join_again-requires c =
    can_rejoin c.args.self.now c.args.entry.now c.args.incarnation c.own_after-new.result c.reborn_pairs-pairs.result.now
    c.requires.step c.own_after-new.ensures c.reborn_pairs-pairs.ensures c.requires.follows

pub returns-in_err-join_again-clause-err : goal.returns-in_err-join_again-clause-err
returns-in_err-join_again-clause-err c =
    let k = c.args.self.now in
    let l : Known = record { set = c.join_again.new.set; others = k.others; count = k.count } in
    err_leaves c.from_residual.result (stays_set k l c.in_err-join_again.ensures.err refl refl)

pub returns-in-Err-clause-err : goal.returns-in-Err-clause-err
returns-in-Err-clause-err c =
    let k = c.args.self.now in
    let l : Known = record { set = c.forget.new.self; others = c.reborn.new.self; count = k.count } in
    stays_reborn k l c.args.entry.now c.args.incarnation c.own_after-new.result c.reborn_pairs-pairs.result.now c.join_again.new.set
    c.requires.step c.own_after-new.ensures c.reborn_pairs-pairs.ensures c.requires.follows c.in_ok-join_again.ensures.ok c.forget.ensures c.in-Err.ensures.err refl

pub returns-clause-ok : goal.returns-clause-ok
returns-clause-ok c =
    let k = c.args.self.now in
    let ps = c.reborn_pairs-pairs.result.now in
    let l : Known = record { set = c.forget-2.new.self; others = c.reborn.new.self; count = length ps } in
    follows_reborn k l c.args.entry.now c.args.incarnation c.own_after-new.result k.others.own ps c.join_again.new.set
    c.requires.step c.own_after-new.ensures refl c.reborn_pairs-pairs.ensures c.in_ok-join_again.ensures.ok c.forget-2.ensures
    (was_ok c.reborn.result c.in_default.not-Err c.reborn.ensures.ok) refl
