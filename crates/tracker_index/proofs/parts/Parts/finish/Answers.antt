use Rattle.std.proofs.Common.{ap}
use Rattle.presence_journal.specs.Walk.{is_reborn}
use Rattle.tracker_index.proofs.PartLemmas.{rest_is_plain}
use Rattle.tracker_index.proofs.parts.Parts.finish.Goals as goal

pub finish_again-requires-clause-again : goal.finish_again-requires-clause-again
finish_again-requires-clause-again c = ap is_reborn c.in-Reborn.is

pub finish_plain-requires-clause-plain : goal.finish_plain-requires-clause-plain
finish_plain-requires-clause-plain c = rest_is_plain c.args.entry.now.outcome c.in_default.not-Reborn
