use Rattle.std.proofs.Common.{◌≡◌, ◌++◌, take, drop}
use Rattle.serve_handshakes.specs.Answers.{path_in}
use Rattle.serve_handshakes.proofs.answer.path_of.Given as goal

-- the path is what was passed over, and that of the rest
abbrev pub invariant-loop-i : goal.invariant-loop-i
invariant-loop-i l = path_in l.target ≡ take l.i l.target ++ path_in (drop l.i l.target)
