use Rattle.presence_stdio.specs.Outlets.{held}
use Rattle.presence_stdio.specs.Session.{voice_of}
use Rattle.presence_stdio.proofs.Turns.{Stands}
use Rattle.presence_stdio.proofs.local.LocalSession.run_lines.Given as goal

abbrev pub invariant-loop-n : goal.invariant-loop-n
invariant-loop-n g l =
    Stands (voice_of g.H.PresenceHooks l.hooks) l.fn.self (g.R.Read.remaining l.initial.reader) (g.R.Read.remaining l.reader) (held g.W.Write.contents g.N.Write.contents l.initial.out)
    (held g.W.Write.contents g.N.Write.contents l.out) l.self l.n
