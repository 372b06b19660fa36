use Rattle.std.proofs.Common.{◌+◌, ◌++◌, ℕ, List, None, cond, refl, ap, ◌∙◌, arith}
use Rattle.std.specs.BTreeMap.{get}
use Rattle.std.specs.Ordering.{nat_cmp}
use Rattle.presence_journal.specs.History.{has_dot}
use Rattle.presence_journal_cuts.specs.Changes.{is_counted}
use Rattle.presence_journal_cuts.proofs.FreshLemmas.{is_new}
use Rattle.presence_journal_cuts.proofs.UntoldLemmas.{stays, count_room, err_leaves, uncut_plain}
use Rattle.presence_journal_cuts.proofs.ChangeLemmas.{committed}
use Rattle.presence_journal_cuts.proofs.untold.Untold.commit.Goals as goal

pub put_both-requires : goal.put_both-requires
put_both-requires c =
    let follows = c.requires.follows in
    is_new follows.before c.args.entry.now c.args.change.row c.args.self.now.rows follows.legal follows.kept.rows c.requires.change.row

pub returns-in_err-put_both-clause-err : goal.returns-in_err-put_both-clause-err
returns-in_err-put_both-clause-err c =
    let u = c.args.self.now in
    err_leaves c.from_residual-in_err-put_both.result
    (stays u (record { own = u.own; count = u.count; last = u.last; unsettled = u.unsettled; chains = c.put_both.new.chains; older = c.reserve.new.self; rows = c.put_both.new.rows; kept = u.kept })
    refl refl refl refl c.in_err-put_both.ensures.same_chains c.reserve.ensures.items c.in_err-put_both.ensures.same_rows refl)

pub overflow_add-self : goal.overflow_add-self
overflow_add-self c = let room = count_room c.args.self.now c.args.entry.now (uncut_plain c.args.entry.now.outcome c.requires.other) c.requires.follows in omega (arith, room, c.used_by.ensures)

pub returns-clause-ok : goal.returns-clause-ok
returns-clause-ok c =
    let u = c.args.self.now in
    committed u (record { own = u.own; count = u.count + c.used_by.result; last = u.last; unsettled = u.unsettled; chains = c.drop_chains.new.chains; older = c.add_runs.new.runs; rows = c.drop_dots.new.rows; kept = u.kept }) c.args.entry.now c.args.change c.put_both.new.chains
    c.requires.other c.requires.change refl (ap (λ n. u.count + n) c.used_by.ensures) refl refl
    (c.add_runs.ensures ∙ ap (λ (xs : List (ℕ × ℕ)). xs ++ c.args.change.gone.items) c.reserve.ensures.items)
    c.in_ok-put_both.ensures.chains
    (λ k. c.drop_chains.ensures k ∙ ap (λ ds. cond (is_counted ds k) None (get nat_cmp c.put_both.new.chains k)) c.dots_out-out.ensures)
    (λ d. c.drop_dots.ensures d ∙ (λ i. cond (has_dot (c.dots_out-out.ensures i) d) None (c.in_ok-put_both.ensures.rows d i)))
    refl
