-- How much of the memory that a process has counts as taken.
use Rattle.std.specs.Prelude.{◌≡◌, ◌+◌, ◌-◌, ◌/◌, ◌||◌, ℕ, Bool, Option, Some, None, if◌then◌else◌, nat_lt}
use Rattle.presence_server.specs.declared.growth.Growth.{Growth}
use Rattle.presence_server.specs.declared.growth.TheConstants.{FALL_PART, GROWTH_MILLISECONDS, GROWTH_PART, LIMIT_MILLISECONDS}

-- as much as it was, where nobody says
abbrev pub taken_in : Growth → Option ℕ → ℕ
taken_in old (Some bytes) = bytes
taken_in old None = old.last

-- It is more than when it had grown last, or less, by these parts of what it may be.
abbrev pub has_changed : Growth → ℕ → ℕ → Bool
has_changed old taken limit =
    nat_lt (old.grown + limit / GROWTH_PART) taken || nat_lt taken (old.grown - limit / FALL_PART)

-- how long it counts, which is longer where it is as much as it may be
abbrev pub rest_of : ℕ → ℕ → ℕ
rest_of taken limit = if nat_lt taken limit then GROWTH_MILLISECONDS else LIMIT_MILLISECONDS

-- All counts, but where it hasn't changed for so long.
abbrev pub counted_in : ℕ → ℕ → ℕ → ℕ → ℕ
counted_in taken since limit now = if nat_lt (now - since) (rest_of taken limit) then taken else 0

-- It counts by when it has changed last, which is now where it has.
abbrev pub Counts : Growth → Option ℕ → ℕ → ℕ → ℕ → Growth → Type 0
Counts old bytes limit now result new =
    (new.last ≡ taken_in old bytes)
    × (new.since ≡ (if has_changed old new.last limit then now else old.since))
    × (new.grown ≡ (if has_changed old new.last limit then new.last else old.grown))
    × (result ≡ counted_in new.last new.since limit now)
