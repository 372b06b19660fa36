use Rattle.std.proofs.Common.{sym, subst}
use Rattle.presence_journal_cuts.specs.KeptDeltas.{AreKeptOf}
use Rattle.presence_journal_cuts.proofs.untold.Untold.kept.Goals as goal

pub returns : goal.returns
returns c = λ h untold. subst (AreKeptOf h) (sym c.in_ok-kept.ensures.cases) untold.kept
