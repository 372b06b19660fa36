use Rattle.std.proofs.Common.{◌||◌, ◌∙◌, ap}
use Rattle.std.specs.List.{list_any}
use Rattle.std.specs.FinSet as set
use Rattle.presence_base.specs.Order.{dot_cmp, same_dot}
use Rattle.orswot_core.specs.Telling.{range_has}
use Rattle.orswot_core.proofs.told.told_context.Goals as goal

pub returns : goal.returns
returns c = λ q.
    c.in_ok-add_dots.ensures q
    ∙ ap (λ b. b || list_any (same_dot q) c.args.extras.now)
    (c.in_ok-add_ranges.ensures q ∙ ap (λ b. b || list_any (range_has q) c.args.ranges.now) (ap (λ s. set.contains s q) c.new-covered.ensures ∙ set.contains-empty dot_cmp q))
