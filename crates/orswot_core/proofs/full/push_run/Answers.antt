use Rattle.std.proofs.Common.{◌∙◌}
use Rattle.orswot_core.proofs.ListedFacts.{count_pushed}
use Rattle.orswot_core.proofs.full.push_run.Goals as goal

pub loop-count-preserved : goal.loop-count-preserved
loop-count-preserved c =
    count_pushed c.loop-count.dots.items c.push_count.new.dots.items c.args.replica.now c.loop-count.count c.args.to c.loop-count-test.true c.in_ok-push_count.ensures
    ∙ c.loop-count.invariant
