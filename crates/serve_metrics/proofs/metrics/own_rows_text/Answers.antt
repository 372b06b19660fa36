use Rattle.serve_metrics.proofs.metrics.own_rows_text.Goals as goal

-- src/metrics.rt
pub returns : goal.returns
returns c = rw c.as_slice.ensures.value at c.numbered_text.ensures
