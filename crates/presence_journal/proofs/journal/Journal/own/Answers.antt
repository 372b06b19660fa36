use Rattle.std.proofs.Common.{◌∙◌, ap, List}
use Rattle.presence_journal.specs.Steps.{Entry}
use Rattle.presence_journal.specs.History.{Begin, onto, own}
use Rattle.presence_journal.proofs.journal.Journal.own.Goals as goal

pub returns : goal.returns
returns c =
    let j = c.self.inside in
    c.own_of.ensures ∙ (ap (λ (es : List Entry). own (onto (Begin j.start) es)) c.as_slice.ensures.value ∙ ap own c.self.view_is)
