-- The limits, which the other definitions cite by their names.
use Rattle.std.specs.Prelude.{◌≡◌, ◌^◌}
use Rattle.presence_base.specs.declared.dots.TheConstants.{MAX_COUNT}
use Rattle.presence_base.specs.declared.meta.TheConstants.{MAX_META_DEPTH, MAX_META_BYTES}
use Rattle.presence_base.specs.declared.names.TheConstants.{MAX_NAME_BYTES, MAX_TEXT_BYTES, MAX_SHARDS}

pub record LimitsAreThese : Type 0 where
  pub name_bytes : MAX_NAME_BYTES ≡ 32
  pub text_bytes : MAX_TEXT_BYTES ≡ 255
  pub meta_depth : MAX_META_DEPTH ≡ 32
  pub meta_bytes : MAX_META_BYTES ≡ 16384
  pub count : MAX_COUNT ≡ 2 ^ 62
  pub shards : MAX_SHARDS ≡ 4
