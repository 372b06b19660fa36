use Rattle.std.proofs.Common.{sym, ◌∙◌, ap, subst}
use Rattle.orswot_core.specs.Limits.{is_dot}
use Rattle.orswot_core.specs.Sets.{removed}
use Rattle.presence_journal.specs.History.{Begin, Then, onto}
use Rattle.presence_journal_known.specs.Walked.{Holds}
use Rattle.presence_journal_known.proofs.OwnLemmas.{out, out_dots, next_dot_limits, taken_any}
use Rattle.presence_journal_known.proofs.walked.take_removed.Goals as goal

pub remove-requires-clause-dots : goal.remove-requires-clause-dots
remove-requires-clause-dots c =
    let h = onto (Begin c.args.start.now) c.args.entries.now in
    out_dots h c.args.entry.now c.args.dots.now c.requires.legal (out h c.args.entry.now c.args.dots.now c.requires.legal c.requires.some c.requires.outcome)

pub remove-requires-clause-event : goal.remove-requires-clause-event
remove-requires-clause-event c =
    let h = onto (Begin c.args.start.now) c.args.entries.now in
    ap is_dot c.requires.next ∙ next_dot_limits h c.requires.legal.0 (out h c.args.entry.now c.args.dots.now c.requires.legal c.requires.some c.requires.outcome).room

pub returns : goal.returns
returns c =
    let h = onto (Begin c.args.start.now) c.args.entries.now in
    subst (Holds (Then h c.args.entry.now)) (sym (c.in_ok-remove.ensures.ok ∙ ap (removed c.args.set.now c.args.dots.now) c.requires.next)) (taken_any h c.args.entry.now c.args.dots.now c.args.set.now c.requires.legal c.requires.holds c.requires.some c.requires.outcome)
