use Rattle.std.proofs.Common.{refl}
use Rattle.hook_registry.proofs.laws.limits_are_these.Goals as goal

pub returns : goal.returns
returns c = record { extra_members = refl; extra_name_bytes = refl; extra_value_depth = refl; notice_bytes = refl; pattern_bytes = refl; routes = refl }
