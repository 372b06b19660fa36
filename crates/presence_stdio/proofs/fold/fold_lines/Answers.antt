use Rattle.std.proofs.Common.{Ok}
use Rattle.presence_stdio.proofs.Whole.{printed_whole}
use Rattle.presence_stdio.proofs.fold.fold_lines.Goals as goal

pub returns-in-Ok : goal.returns-in-Ok
returns-in-Ok g c = record {
  read = Ok c.in-Ok.mirrors.entries;
  lines = c.in-Ok.ensures;
  told = c.print_mirrors.ensures (printed_whole c.in-Ok.mirrors.entries c.in-Ok.ensures.lines c.in-Ok.ensures.told.2);
}
