use Rattle.std.proofs.Common.{sym, ap, ◌∙◌}
use Rattle.presence_journal.specs.declared.step.Step.TheVariants.{Heard, PermDown, Merge}
use Rattle.tracker_known.proofs.KnownLemmas.{rest_is_callers}
use Rattle.tracker_known.proofs.Results.{if_ok}
use Rattle.tracker_known.proofs.known.Known.turn_of.Goals as goal

pub returns-in-Heard : goal.returns-in-Heard
returns-in-Heard c =
    let asked = c.in-Heard.is ∙ ap (λ r. Heard r c.in-Heard.now) (sym c.get.ensures) in
    if_ok _ _ (λ t f h legal known. f c.in-Heard.now h c.args.entry.now asked legal known) c.turn_of_heard.result c.turn_of_heard.ensures

pub returns-in-Tick : goal.returns-in-Tick
returns-in-Tick c = if_ok _ _ (λ t f h legal known. f h c.args.entry.now c.in-Tick.is legal known) c.turn_of_tick.result c.turn_of_tick.ensures

pub returns-in-PermDown : goal.returns-in-PermDown
returns-in-PermDown c =
    let asked = c.in-PermDown.is ∙ ap PermDown (sym c.get-in-PermDown.ensures) in
    if_ok _ _ (λ t f h legal known. f h c.args.entry.now asked legal known) c.turn_of_down.result c.turn_of_down.ensures

pub returns-in-Merge : goal.returns-in-Merge
returns-in-Merge c =
    let asked = c.in-Merge.is ∙ ap Merge (sym c.get-in-Merge.ensures) in
    if_ok _ _ (λ t f h legal known. f h c.args.entry.now asked legal known) c.turn_of_told.result c.turn_of_told.ensures

pub turn_of_own-requires : goal.turn_of_own-requires
turn_of_own-requires c = let d = c.in_default in rest_is_callers c.args.entry.now.step d.not-Heard d.not-Tick d.not-PermDown d.not-Merge d.not-Rebirth
