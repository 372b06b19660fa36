use Rattle.std.proofs.Common.{refl}
use Rattle.presence_journal_cuts.proofs.RebirthLemmas.{begins_again}
use Rattle.presence_journal_cuts.proofs.untold.Untold.reborn.Goals as goal

pub returns : goal.returns
returns c =
    begins_again c.args.own c.args.count c.args.rows (record { own = c.args.own; count = c.args.count; last = 0; unsettled = 0; chains = c.new.result; older = c.new-2.result; rows = c.in_ok-rows.rows; kept = c.new-3.result })
    refl refl refl refl c.new.ensures.empty c.new-2.ensures.items c.in_ok-rows.ensures c.new-3.ensures
