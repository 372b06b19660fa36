use Rattle.serve_connections.specs.Serving.{served_by}
use Rattle.serve_connections.specs.Marks.{OnlyMarks}
use Rattle.serve_connections.proofs.long_texts.LongTexts.hold.Given as goal

abbrev pub invariant-loop-place : goal.invariant-loop-place
invariant-loop-place l = OnlyMarks (served_by l.fn.worker) (served_by l.worker)
