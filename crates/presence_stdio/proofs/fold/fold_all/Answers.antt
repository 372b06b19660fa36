use Rattle.std.proofs.Common.{◌≡◌, arith}
use Rattle.presence_stdio.proofs.Folds.{fold_more, folds_last, folds_end, folds_fault, folds_beyond, folds_unread}
use Rattle.presence_stdio.proofs.fold.fold_all.Goals as goal

pub loop-n-preserved : goal.loop-n-preserved
loop-n-preserved g c =
    fold_more (g.R.Read.remaining c.args.reader.now) (g.R.Read.remaining c.loop-n.reader) (g.R.Read.remaining c.fold_turn.new.reader) c.loop-n.mirrors.entries c.fold_turn.new.mirrors.entries c.loop-n.n c.loop-n.invariant
    (rw c.in-Ok-true.field-0-test at c.in-Ok-true.ensures)

pub returns-in-Ok-false : goal.returns-in-Ok-false
returns-in-Ok-false g c =
    folds_end c.args.max (g.R.Read.remaining c.args.reader.now) (g.R.Read.remaining c.loop-n.reader) (g.R.Read.remaining c.fold_turn.new.reader) c.loop-n.mirrors.entries c.fold_turn.new.mirrors.entries c.loop-n.n c.loop-n.invariant
    c.loop-n.auto.n-end (rw c.in-Ok-false.field-0-test at c.in-Ok-false.ensures)

pub returns-in-Err : goal.returns-in-Err
returns-in-Err g c =
    folds_fault c.args.max (g.R.Read.remaining c.args.reader.now) (g.R.Read.remaining c.loop-n.reader) (g.R.Read.remaining c.fold_turn.new.reader) c.loop-n.mirrors.entries c.fold_turn.new.mirrors.entries c.loop-n.n c.in-Err.fault
    c.loop-n.invariant c.loop-n-test.true c.in-Err.ensures

pub returns-in-Ok-true-is_at_end : goal.returns-in-Ok-true-is_at_end
returns-in-Ok-true-is_at_end g c =
    folds_last c.args.max (g.R.Read.remaining c.args.reader.now) (g.R.Read.remaining c.loop-n.reader) (g.R.Read.remaining c.is_at_end.new.reader) c.loop-n.mirrors.entries c.loop-n.n c.loop-n.invariant c.loop-n.auto.n-end
    (rw c.in-Ok-true-is_at_end.field-0-test at c.in-Ok-true-is_at_end.ensures)

pub returns-in-Ok-false-is_at_end : goal.returns-in-Ok-false-is_at_end
returns-in-Ok-false-is_at_end g c =
    let full : c.loop-n.n ≡ c.args.max = omega arith in
    folds_beyond c.args.max (g.R.Read.remaining c.args.reader.now) (g.R.Read.remaining c.loop-n.reader) (g.R.Read.remaining c.is_at_end.new.reader) c.loop-n.mirrors.entries c.loop-n.n c.loop-n.invariant full
    (rw c.in-Ok-false-is_at_end.field-0-test at c.in-Ok-false-is_at_end.ensures)

pub returns-in-Err-is_at_end : goal.returns-in-Err-is_at_end
returns-in-Err-is_at_end g c =
    let full : c.loop-n.n ≡ c.args.max = omega arith in
    folds_unread c.args.max (g.R.Read.remaining c.args.reader.now) (g.R.Read.remaining c.loop-n.reader) (g.R.Read.remaining c.is_at_end.new.reader) c.loop-n.mirrors.entries c.loop-n.n c.loop-n.invariant full c.in-Err-is_at_end.ensures
