use Rattle.presence_stdio.specs.declared.lines.TheConstants.{MAX_LINES}
use Rattle.presence_stdio.proofs.Folds.{fold_told}
use Rattle.presence_stdio.proofs.fold.run_fold.Goals as goal

pub returns-clause-input : goal.returns-clause-input
returns-clause-input g c =
    fold_told MAX_LINES (g.R.Read.remaining c.args.reader.now) (g.R.Read.remaining c.fold_lines.new.reader) (g.W.Write.contents c.args.writer.now) (g.W.Write.contents c.fold_lines.new.writer) c.fold_lines.result c.fold_lines.ensures
