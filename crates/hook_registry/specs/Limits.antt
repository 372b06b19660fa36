-- The limits, which the other definitions cite by their names.
use Rattle.std.specs.Prelude.{◌≡◌}
use Rattle.hook_registry.specs.declared.extra.TheConstants.{MAX_EXTRA_MEMBERS, MAX_EXTRA_NAME_BYTES, MAX_EXTRA_VALUE_DEPTH}
use Rattle.hook_registry.specs.declared.notice.TheConstants.{MAX_NOTICE_BYTES}
use Rattle.hook_registry.specs.declared.routes.TheConstants.{MAX_PATTERN_BYTES, MAX_ROUTES}

pub record LimitsAreThese : Type 0 where
  pub extra_members : MAX_EXTRA_MEMBERS ≡ 16
  pub extra_name_bytes : MAX_EXTRA_NAME_BYTES ≡ 64
  pub extra_value_depth : MAX_EXTRA_VALUE_DEPTH ≡ 32
  pub notice_bytes : MAX_NOTICE_BYTES ≡ 256
  pub pattern_bytes : MAX_PATTERN_BYTES ≡ 255
  pub routes : MAX_ROUTES ≡ 64
