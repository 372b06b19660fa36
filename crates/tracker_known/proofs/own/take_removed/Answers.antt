use Rattle.std.proofs.Common.{sym, ◌∙◌, length}
use Rattle.std.proofs.lemmas.Bool.{eqb-true}
use Rattle.tracker_known.proofs.Results.{on_ok}
use Rattle.tracker_known.proofs.SetLemmas.{removed_dots, takes_removed, takes_none, some_dots}
use Rattle.tracker_known.proofs.own.take_removed.Goals as goal

pub returns-then-is_empty-clause-ok : goal.returns-then-is_empty-clause-ok
returns-then-is_empty-clause-ok c = takes_none c.args.entry.now c.args.next c.args.dots.now c.args.set.now c.requires.own c.requires.outcome (eqb-true (length c.args.dots.now) 0 (sym c.is_empty.ensures ∙ c.if-is_empty.true))

pub remove-requires-clause-dots : goal.remove-requires-clause-dots
remove-requires-clause-dots c = (removed_dots c.args.entry.now c.args.next c.args.dots.now c.args.set.now c.requires.follows (some_dots c.args.dots.now (sym c.is_empty.ensures ∙ c.if-is_empty.false)) c.requires.outcome).0

pub remove-requires-clause-event : goal.remove-requires-clause-event
remove-requires-clause-event c = (removed_dots c.args.entry.now c.args.next c.args.dots.now c.args.set.now c.requires.follows (some_dots c.args.dots.now (sym c.is_empty.ensures ∙ c.if-is_empty.false)) c.requires.outcome).1

pub returns-clause-ok : goal.returns-clause-ok
returns-clause-ok c = on_ok c.remove.result
    (λ after. takes_removed c.args.entry.now c.args.next c.args.dots.now c.args.set.now c.remove.new.self c.requires.own (some_dots c.args.dots.now (sym c.is_empty.ensures ∙ c.if-is_empty.false)) c.requires.outcome after)
    c.remove.ensures.ok
