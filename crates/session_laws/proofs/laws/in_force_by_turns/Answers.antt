use Rattle.session_laws.proofs.InForceTurns.{in_force_by_turns, ok_joins_are_given}
use Rattle.session_laws.proofs.laws.in_force_by_turns.Goals as goal

pub returns-clause-in_force : goal.returns-clause-in_force
returns-clause-in_force c = in_force_by_turns

pub returns-clause-given : goal.returns-clause-given
returns-clause-given c = ok_joins_are_given
