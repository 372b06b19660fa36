use Rattle.std.proofs.Common.{sym}
use Rattle.presence_journal_lists.proofs.GoneLemmas.{less_where, less_none}
use Rattle.presence_journal_lists.proofs.gone.take_out_further.Goals as goal

pub returns-in-Some-clause-out : goal.returns-in-Some-clause-out
returns-in-Some-clause-out c =
    let new = c.remove.new.self in
    less_where c.args.further.now (c.get_mut.follows.lender new) c.args.replica.now c.in-Some.lives.now new (sym c.in-Some.ensures.value) (c.get_mut.follows.holds new) c.remove.ensures

pub returns-in_default-clause-out : goal.returns-in_default-clause-out
returns-in_default-clause-out c = less_none c.args.further.now c.get_mut.follows.lender-at-none c.args.replica.now c.get_mut.follows.holds-at-none (sym c.in_default.ensures.value)
