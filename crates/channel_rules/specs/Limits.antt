-- The limit of topics, which the rules cite by its name.
use Rattle.std.specs.Prelude.{◌≡◌}
use Rattle.channel_rules.specs.declared.topics.TheConstants.{MAX_TOPICS}

abbrev pub LimitOfTopics : Type 0
LimitOfTopics = MAX_TOPICS ≡ 64
