use Rattle.std.proofs.Common.{sym}
use Rattle.std.proofs.lemmas.Result.{on_ok_weaker, on_err_weaker}
use Rattle.presence_journal_lists.proofs.GoneLemmas.{added_where, added_first, same_where}
use Rattle.presence_journal_lists.proofs.gone.add_further.Goals as goal

pub returns-in-Some-clause-ok : goal.returns-in-Some-clause-ok
returns-in-Some-clause-ok c =
    let new = c.insert.new.self in
    on_ok_weaker c.insert.result
    (added_where c.args.further.now (c.get_mut.follows.lender new) c.args.replica.now c.in-Some.lives.now new (sym c.in-Some.ensures.value) (c.get_mut.follows.holds new)) c.insert.ensures.ok

pub returns-in-Some-clause-err : goal.returns-in-Some-clause-err
returns-in-Some-clause-err c =
    let new = c.insert.new.self in
    on_err_weaker c.insert.result
    (same_where c.args.further.now (c.get_mut.follows.lender new) c.args.replica.now c.in-Some.lives.now new (sym c.in-Some.ensures.value) (c.get_mut.follows.holds new)) c.insert.ensures.err

pub returns-in-Ok-clause-ok : goal.returns-in-Ok-clause-ok
returns-in-Ok-clause-ok c =
    added_first c.args.further.now c.get_mut.follows.lender-at-none c.insert-2.new.self c.args.replica.now c.in_ok-lives.lives c.get_mut.follows.holds-at-none (sym c.in_default.ensures.value)
    c.in-Ok.ensures.updates.0 c.in_ok-lives.ensures
