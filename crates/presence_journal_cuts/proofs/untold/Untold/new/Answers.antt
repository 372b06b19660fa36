use Rattle.std.proofs.Common.{refl}
use Rattle.presence_journal_cuts.proofs.UntoldLemmas.{begins}
use Rattle.presence_journal_cuts.proofs.untold.Untold.new.Goals as goal

pub returns : goal.returns
returns c =
    begins c.args.own (record { own = c.args.own; count = 0; last = 0; unsettled = 0; chains = c.new.result; older = c.new-2.result; rows = c.new-3.result; kept = c.new-4.result })
    refl refl refl refl c.new.ensures.empty c.new-2.ensures.items c.new-3.ensures.empty c.new-4.ensures
