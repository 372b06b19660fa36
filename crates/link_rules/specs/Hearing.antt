-- When a shard is told that a node was heard.
use Rattle.std.specs.Prelude.{ℕ, ◌-◌, Bool, nat_le}
use Rattle.link_rules.specs.declared.hearing.TheConstants.{HEARD_MILLISECONDS}

-- where it was told so last that long ago, or longer: by a beat there, or by whatever else came
abbrev pub is_told_anew : (last now : ℕ) → Bool
is_told_anew last now = nat_le HEARD_MILLISECONDS (now - last)
