use Rattle.std.proofs.Common.{◌∙◌, ap, None, refl}
use Rattle.orswot_core.specs.Limits.{is_dot}
use Rattle.presence_journal.specs.History.{Begin, onto}
use Rattle.presence_journal_known.proofs.OwnLemmas.{is_in, new_uncovered, next_dot_limits, made_within, added_any}
use Rattle.presence_journal_known.proofs.walked.take_added.Goals as goal

pub add_made-requires-clause-new : goal.add_made-requires-clause-new
add_made-requires-clause-new c =
    let h = onto (Begin c.args.start.now) c.args.entries.now in
    new_uncovered h c.args.new c.args.set.now c.requires.legal.0 c.requires.holds (is_in h c.args.entry.now c.args.new c.requires.legal c.requires.outcome).next

pub add_made-requires-clause-dot : goal.add_made-requires-clause-dot
add_made-requires-clause-dot c =
    let h = onto (Begin c.args.start.now) c.args.entries.now in
    let i = is_in h c.args.entry.now c.args.new c.requires.legal c.requires.outcome in
    ap is_dot i.next ∙ next_dot_limits h c.requires.legal.0 i.room

pub add_made-requires-clause-row : goal.add_made-requires-clause-row
add_made-requires-clause-row c = made_within c.args.entry.now.step None c.requires.legal.4 refl

pub returns : goal.returns
returns c = added_any (onto (Begin c.args.start.now) c.args.entries.now) c.args.entry.now c.args.new c.args.set.now c.add_made.new.set c.requires.legal c.requires.holds c.requires.outcome c.in_ok-add_made.ensures
