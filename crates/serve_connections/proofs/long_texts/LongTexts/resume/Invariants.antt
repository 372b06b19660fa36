use Rattle.serve_connections.specs.Serving.{served_by}
use Rattle.serve_connections.specs.Marks.{OnlyMarks}
use Rattle.serve_connections.proofs.long_texts.LongTexts.resume.Given as goal

abbrev pub invariant-loop-token : goal.invariant-loop-token
invariant-loop-token l = OnlyMarks (served_by l.fn.worker) (served_by l.worker)
