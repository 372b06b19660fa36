-- How often a node goes on under a higher incarnation.
use Rattle.std.specs.Prelude.{ℕ, ◌-◌, Bool, false, nat_lt, Option, Some, None}
use Rattle.link_rules.specs.declared.rebirths.Rebirths.{Rebirths}
use Rattle.link_rules.specs.declared.rebirths.TheConstants.{REBIRTH_MILLISECONDS}

abbrev pub no_rebirths : Rebirths
no_rebirths = record { last = None; second = None; third = None }

-- of the times of all rebirths the last three are kept
abbrev pub and_one : Rebirths → ℕ → Rebirths
and_one b now = record { last = Some now; second = b.last; third = b.second }

abbrev pub is_of_late : Option ℕ → ℕ → Bool
is_of_late None now = false
is_of_late (Some t) now = nat_lt (now - t) REBIRTH_MILLISECONDS

-- the third last was less than that time before
abbrev pub are_many : Rebirths → ℕ → Bool
are_many b now = is_of_late b.third now
