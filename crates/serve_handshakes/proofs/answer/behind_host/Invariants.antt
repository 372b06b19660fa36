use Rattle.std.proofs.Common.{◌≡◌, drop}
use Rattle.serve_handshakes.specs.Answers.{behind_host}
use Rattle.serve_handshakes.proofs.answer.behind_host.Given as goal

-- the host doesn't end before
abbrev pub invariant-loop-i : goal.invariant-loop-i
invariant-loop-i l = behind_host l.target ≡ behind_host (drop l.i l.target)
