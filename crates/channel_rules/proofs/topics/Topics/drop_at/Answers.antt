use Rattle.std.proofs.Common.{map, ap, ◌∙◌}
use Rattle.indexmap.proofs.SetLemmas.{map-remove}
use Rattle.channel_rules.specs.InForce.{joined_of}
use Rattle.channel_rules.proofs.topics.Topics.drop_at.Goals as goal

pub returns : goal.returns
returns c = ap (map joined_of) c.shift_remove_index-join.ensures.entries ∙ map-remove joined_of c.args.self.now.joins.entries c.args.index
