use Rattle.std.proofs.Common.{◌∙◌, ap, Some, List, true, ◌&&◌}
use Rattle.std.specs.List.{list_all}
use Rattle.presence_base.specs.declared.dots.Dot.{Dot}
use Rattle.orswot_core.specs.Limits.{is_dot}
use Rattle.orswot_core.specs.Sets.{removed}
use Rattle.presence_journal.specs.History.{Begin, onto}
use Rattle.presence_journal_known.proofs.OwnLemmas.{is_swap, old_dot, new_uncovered, next_dot_limits, made_within, swapped_any}
use Rattle.presence_journal_known.proofs.walked.take_replaced.Goals as goal

pub add_made-requires-clause-new : goal.add_made-requires-clause-new
add_made-requires-clause-new c =
    let h = onto (Begin c.args.start.now) c.args.entries.now in
    new_uncovered h c.args.new.now c.args.set.now c.requires.legal.0 c.requires.holds (is_swap h c.args.entry.now c.args.new.now c.args.old.now c.requires.legal c.requires.outcome).next

pub add_made-requires-clause-dot : goal.add_made-requires-clause-dot
add_made-requires-clause-dot c =
    let h = onto (Begin c.args.start.now) c.args.entries.now in
    let i = is_swap h c.args.entry.now c.args.new.now c.args.old.now c.requires.legal c.requires.outcome in
    ap is_dot i.next ∙ next_dot_limits h c.requires.legal.0 i.room

pub add_made-requires-clause-row : goal.add_made-requires-clause-row
add_made-requires-clause-row c =
    let h = onto (Begin c.args.start.now) c.args.entries.now in
    let i = is_swap h c.args.entry.now c.args.new.now c.args.old.now c.requires.legal c.requires.outcome in
    made_within c.args.entry.now.step (Some c.args.old.now) c.requires.legal.4 (old_dot h c.args.old.now c.requires.legal.0 i.shown)

pub remove-requires-clause-dots : goal.remove-requires-clause-dots
remove-requires-clause-dots c =
    let h = onto (Begin c.args.start.now) c.args.entries.now in
    let i = is_swap h c.args.entry.now c.args.new.now c.args.old.now c.requires.legal c.requires.outcome in
    ap (list_all is_dot) c.only-dots.ensures ∙ ap (λ b. b && true) (old_dot h c.args.old.now c.requires.legal.0 i.shown)

pub remove-requires-clause-event : goal.remove-requires-clause-event
remove-requires-clause-event c =
    let h = onto (Begin c.args.start.now) c.args.entries.now in
    let i = is_swap h c.args.entry.now c.args.new.now c.args.old.now c.requires.legal c.requires.outcome in
    ap is_dot i.next ∙ next_dot_limits h c.requires.legal.0 i.room

pub returns : goal.returns
returns c = swapped_any (onto (Begin c.args.start.now) c.args.entries.now) c.args.entry.now c.args.new.now c.args.old.now c.args.set.now c.add_made.new.set c.remove.new.self c.requires.legal c.requires.holds c.requires.outcome c.in_ok-add_made.ensures (c.in_ok-remove.ensures.ok ∙ ap (λ (ds : List Dot). removed c.add_made.new.set ds c.args.new.now) c.only-dots.ensures)
