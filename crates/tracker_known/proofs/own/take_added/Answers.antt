use Rattle.std.proofs.Common.{◌∙◌, ap, None, refl}
use Rattle.orswot_core.specs.Limits.{is_dot}
use Rattle.tracker_known.proofs.Results.{on_ok}
use Rattle.presence_journal_known.proofs.OwnLemmas.{is_in, next_dot_limits, made_within}
use Rattle.tracker_known.proofs.SetLemmas.{new_uncovered, takes_added}
use Rattle.tracker_known.proofs.own.take_added.Goals as goal

pub add_made-requires-clause-new : goal.add_made-requires-clause-new
add_made-requires-clause-new c =
    let can = c.requires.follows in
    new_uncovered can.before c.args.new c.args.set.now can.legal.0 can.holds (is_in can.before c.args.entry.now c.args.new can.legal c.requires.outcome).next

pub add_made-requires-clause-dot : goal.add_made-requires-clause-dot
add_made-requires-clause-dot c =
    let can = c.requires.follows in
    let i = is_in can.before c.args.entry.now c.args.new can.legal c.requires.outcome in
    ap is_dot i.next ∙ next_dot_limits can.before can.legal.0 i.room

pub add_made-requires-clause-row : goal.add_made-requires-clause-row
add_made-requires-clause-row c = made_within c.args.entry.now.step None c.requires.follows.legal.4 refl

pub returns-clause-ok : goal.returns-clause-ok
returns-clause-ok c = on_ok c.add_made.result (λ after. takes_added c.args.entry.now c.args.next c.args.new c.args.set.now c.add_made.new.set c.requires.own c.requires.outcome after) c.add_made.ensures.ok
