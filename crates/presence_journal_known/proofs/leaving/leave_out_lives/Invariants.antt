use Rattle.std.proofs.Common.{drop}
use Rattle.presence_journal.specs.History.{Begin, onto}
use Rattle.presence_journal_lists.specs.Standings.{gone_lives}
use Rattle.presence_journal_known.proofs.LeftLemmas.{LeavesRest}
use Rattle.presence_journal_known.proofs.leaving.leave_out_lives.Given as goal

abbrev pub invariant-loop-life : goal.invariant-loop-life
invariant-loop-life l = LeavesRest (onto (Begin l.start) l.entries) (gone_lives l.name l.lives) (gone_lives l.name (drop l.life-index l.lives)) l.fn.set l.set
