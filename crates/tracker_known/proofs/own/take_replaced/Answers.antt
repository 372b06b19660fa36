use Rattle.std.proofs.Common.{sym, ◌∙◌, subst}
use Rattle.orswot_core.specs.Telling.{ToldValue}
use Rattle.tracker_known.proofs.Results.{on_ok}
use Rattle.orswot_core.specs.Laws.{TakesIn}
use Rattle.tracker_known.proofs.SetLemmas.{swap_sound, takes_swap, swap_made, none_from}
use Rattle.tracker_known.proofs.own.take_replaced.Goals as goal

pub returns-in_default-clause-ok : goal.returns-in_default-clause-ok
returns-in_default-clause-ok c =
    swap_made c.args.entry.now c.args.next c.args.new.now c.args.old.now c.args.set.now c.requires.outcome (sym c.in_ok-row.ensures ∙ none_from c.in_ok-row.field-0 c.in_default.not-Some)

pub swap-requires : goal.swap-requires
swap-requires c = swap_sound c.args.entry.now c.args.next c.args.new.now c.args.old.now c.in-Some.row c.args.set.now c.requires.follows c.requires.outcome (sym c.in_ok-row.ensures ∙ c.in-Some.is)

pub returns-clause-ok : goal.returns-clause-ok
returns-clause-ok c =
    on_ok c.join.result
    (λ takes. takes_swap c.args.entry.now c.args.next c.args.new.now c.args.old.now c.in-Some.row c.args.set.now c.join.new.self c.requires.own c.requires.outcome (sym c.in_ok-row.ensures ∙ c.in-Some.is)
    (subst (λ (t : ToldValue). TakesIn c.args.set.now t c.join.new.self) c.in_ok-told.ensures takes))
    c.join.ensures.ok
