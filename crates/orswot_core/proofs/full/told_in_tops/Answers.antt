use Rattle.std.proofs.Common.{◌∙◌, ap}
use Rattle.orswot_core.specs.Sets.{rows_of}
use Rattle.orswot_core.specs.Full.{IsFull}
use Rattle.orswot_core.proofs.FullFacts.{told_full, full_is_told, entries_are}
use Rattle.orswot_core.proofs.full.told_in_tops.Goals as goal

is_full : (c : goal.In_ok-live) → IsFull (record { covered = c.args.covered.now; live = rows_of c.args.live.now.entries }) (record { ranges = c.in_ok-ranges.ranges.items; extras = c.in_ok-extras.extras.items; live = c.in_ok-live.live.items })
is_full c = told_full _ _ c.tops.result c.cloud.result c.tops.ensures c.cloud.ensures c.in_ok-ranges.ensures c.in_ok-extras.ensures
    (c.in_ok-live.ensures.rows ∙ entries_are c.args.live.now.entries c.in_ok-live.ensures.ordered)

pub new-requires : goal.new-requires
new-requires c = full_is_told _ _ c.requires (is_full c)

pub returns : goal.returns
returns c = told_full _ c.new.result c.tops.result c.cloud.result c.tops.ensures c.cloud.ensures
    (ap (λ t. t.ranges) c.new.ensures ∙ c.in_ok-ranges.ensures)
    (ap (λ t. t.extras) c.new.ensures ∙ c.in_ok-extras.ensures)
    (ap (λ t. t.live) c.new.ensures ∙ c.in_ok-live.ensures.rows ∙ entries_are c.args.live.now.entries c.in_ok-live.ensures.ordered)
