use Rattle.std.proofs.Common.{◌++◌, ap, ◌∙◌}
use Rattle.std.specs.Prelude.{option_to_list}
use Rattle.channel_session.specs.Ending.{topics_named}
use Rattle.channel_rules.proofs.Joins.{map-topics}
use Rattle.channel_session.proofs.session.Session.joined.Goals as goal

pub returns : goal.returns
returns c = (λ i. (c.keys.ensures.rest ∙ map-topics c.self.inside.topics.joins.entries) i ++ option_to_list (c.as_ref.ensures.value i)) ∙ ap topics_named c.self.view_is
