use Rattle.serve_metrics.specs.Metrics.{tight_behind}
use Rattle.serve_metrics.proofs.metrics.tight_text.Goals as goal

-- src/metrics.rt
pub returns : goal.returns
unfolding tight_behind
returns c = rw c.flag-is_tight.ensures at c.count_text.ensures
