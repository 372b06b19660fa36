-- What was told, by what is kept of it.
use Rattle.orswot_core.specs.Telling.{ToldValue}
use Rattle.delta_range.specs.Deltas.{telling_in}
use Rattle.node_world.specs.declared.telling.Source.{Source}
use Rattle.node_world.specs.declared.telling.Source.TheVariants as sources_are

abbrev pub told_by : Source → ToldValue
told_by (sources_are.Cut delta form) = telling_in form delta
told_by (sources_are.Whole told) = told
