use Rattle.std.proofs.Common.{◌∙◌, ap}
use Rattle.presence_journal.specs.History.{Begin, onto}
use Rattle.tracker_index.proofs.IndexedLemmas.{sound_whole}
use Rattle.tracker_index.proofs.indexed.Indexed.of_journal.Goals as goal

pub invariant_of-result : goal.invariant_of-result
invariant_of-result c =
    sound_whole c.start.result.now c.entries.result.now c.args.journal c.in_ok-parts.parts
    (ap (λ s. onto (Begin s) c.entries.result.now) c.start.ensures ∙ c.entries.ensures.history)
    c.entries.ensures.legal c.entries.ensures.limits c.in_ok-parts.ensures.kept
