use Rattle.presence_stdio.proofs.Folds.{StandsAt}
use Rattle.presence_stdio.proofs.fold.fold_all.Given as goal

abbrev pub invariant-loop-n : goal.invariant-loop-n
invariant-loop-n g l = StandsAt (g.R.Read.remaining l.initial.reader) (g.R.Read.remaining l.reader) l.mirrors.entries l.n
