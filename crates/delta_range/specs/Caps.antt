-- How many rows and older runs each kept delta may have: the generations cite them by these names.
use Rattle.std.specs.Prelude.{◌≡◌}
use Rattle.delta_range.specs.declared.generations.TheConstants.{SHORT_CAP, MIDDLE_CAP, LONG_CAP}

pub record AreCaps : Type 0 where
  pub short : SHORT_CAP ≡ 100
  pub middle : MIDDLE_CAP ≡ 1000
  pub long : LONG_CAP ≡ 10000
