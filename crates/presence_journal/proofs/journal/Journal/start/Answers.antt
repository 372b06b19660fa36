use Rattle.std.proofs.Common.{sym, ◌∙◌, ap}
use Rattle.presence_journal.specs.History.{Begin, start_of}
use Rattle.presence_journal.proofs.HistoryLemmas.{start_of-onto}
use Rattle.presence_journal.proofs.journal.Journal.start.Goals as goal

pub returns : goal.returns
returns c = let j = c.self.inside in sym (start_of-onto (Begin j.start) j.entries) ∙ ap start_of c.self.view_is
