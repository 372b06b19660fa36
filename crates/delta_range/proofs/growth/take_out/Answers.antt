use Rattle.std.proofs.Common.{not, sym, ◌∙◌, ap, rules}
use Rattle.std.proofs.lemmas.Fn.{filter_same}
use Rattle.std.specs.FinSet as set
use Rattle.presence_base.specs.declared.dots.Dot.{Dot}
use Rattle.presence_base.specs.declared.row.Row.{Row}
use Rattle.delta_range.specs.Growing.{rows_left}
use Rattle.delta_range.proofs.growth.take_out.Goals as goal

pub returns-in-Some-clause-live : goal.returns-in-Some-clause-live
returns-in-Some-clause-live c =
    filter_same _ (λ (x : Dot × Row). not (set.contains c.in-Some.removal.dots x.0)) _ (λ x b q k. search rules) _ _ c.retain.ensures.filtered
    ∙ ap (λ r. rows_left r c.args.live.now.items) (sym c.in-Some.is)
