use Rattle.presence_journal.specs.History.{Begin, onto}
use Rattle.presence_journal_known.proofs.OwnLemmas.{quiet_holds, rest_is_quiet}
use Rattle.presence_journal_known.proofs.walked.take_own.Goals as goal

pub returns-in_default : goal.returns-in_default
returns-in_default c =
    let d = c.in_default in
    quiet_holds (onto (Begin c.args.start.now) c.args.entries.now) c.args.entry.now c.args.set.now c.requires.legal (rest_is_quiet c.args.entry.now.outcome d.not-Added d.not-Replaced d.not-Removed d.not-Reborn) c.requires.alone c.requires.holds
