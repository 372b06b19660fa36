use Rattle.tracker_shown.proofs.StateLemmas.{ForgotTo}
use Rattle.tracker_shown.proofs.states.States.forget_all.Given as goal

abbrev pub invariant-loop-row : goal.invariant-loop-row
invariant-loop-row l = ForgotTo l.rows l.row-index l.fn.self.kept l.self.kept
