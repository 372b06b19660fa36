use Rattle.std.proofs.Common.{◌∙◌}
use Rattle.presence_journal_cuts.proofs.ListingLemmas.{are_older}
use Rattle.presence_journal_cuts.proofs.untold.Untold.older.Goals as goal

pub returns : goal.returns
returns c = λ h kept. are_older h c.args.self.now c.new.result (c.new.ensures ∙ (c.in_ok-runs.ensures ∙ c.deref.ensures.value)) kept
