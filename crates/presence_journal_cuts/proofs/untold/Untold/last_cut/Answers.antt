use Rattle.presence_journal_cuts.proofs.untold.Untold.last_cut.Goals as goal

pub returns : goal.returns
returns c = λ h kept. kept.last
