use Rattle.std.proofs.Common.{sym, subst, ◌∙◌}
use Rattle.tracker_shown.specs.Kept.{IsShownOf}
use Rattle.tracker_shown.specs.States.{IsSameStates}
use Rattle.tracker_shown.proofs.ListLemmas.{all_listed}
use Rattle.tracker_shown.proofs.StateLemmas.{state_kept, same_kept, one_kept}
use Rattle.tracker_shown.proofs.shown.Shown.state.Goals as goal

pub returns-in-Some-clause-state : goal.returns-in-Some-clause-state
returns-in-Some-clause-state c = λ g s.
    let t = c.args.topic.now in
    let v = c.in-Some.state in
    all_listed g c.self.inside.table (subst (IsShownOf g) (sym c.self.view_is) s) t v
    (c.self.invariant t v (state_kept c.self.inside.states.kept t c.in_ok-state.field-0 v c.in-Some.is c.in_ok-state.ensures.state))

pub invariant_of-self-2 : goal.invariant_of-self-2
invariant_of-self-2 c =
    let m = c.self.inside.table.rows in
    let ss = c.self.inside.states.kept in
    let ts = c.state.new.self.kept in
    let us = c.list.new.self.kept in
    let t = c.args.topic.now in
    let v = c.in_ok-state-2.state in
    let same = subst (λ ws. IsSameStates ss ws) (sym c.in_ok-state-2.ensures.same) c.in_ok-state.ensures.same in
    one_kept m t v c.in_ok-rows.rows.items us c.keep-kept.new.self.kept (same_kept m ss us c.self.invariant same) c.in_ok-rows.ensures c.in_ok-state-2.ensures.state c.keep-kept.ensures

pub returns-clause-state : goal.returns-clause-state
returns-clause-state c = λ g s.
    c.in_ok-state-2.ensures.state
    ∙ all_listed g c.self.inside.table (subst (IsShownOf g) (sym c.self.view_is) s) c.args.topic.now c.in_ok-rows.rows.items c.in_ok-rows.ensures
