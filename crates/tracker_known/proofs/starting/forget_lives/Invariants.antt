use Rattle.std.proofs.Common.{drop}
use Rattle.presence_journal_lists.specs.Standings.{gone_lives}
use Rattle.presence_journal_known.specs.LeftOut.{is_listed}
use Rattle.tracker_known.proofs.FadingLemmas.{StillLoses}
use Rattle.tracker_known.proofs.starting.forget_lives.Given as goal

abbrev pub invariant-loop-life : goal.invariant-loop-life
invariant-loop-life l = StillLoses l.fn.set (is_listed (gone_lives l.name l.lives)) (is_listed (gone_lives l.name (drop l.life-index l.lives))) l.set
