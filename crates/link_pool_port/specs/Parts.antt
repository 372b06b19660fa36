-- What is told in parts, where a kept delta, or all that a shard knows, is more than a line takes.
use Rattle.std.specs.Prelude.{◌≡◌, ◌⊎◌, ◌<◌, ◌≤◌, ◌||◌, ℕ, suc, Bool, true, false, not, cond, nat_le, nat_lt, List, length, map, Option, Some, None, Result, Ok, Err, ⊤}
use Rattle.presence_base.specs.declared.dots.Dot.{Dot}
use Rattle.presence_base.specs.declared.row.Row.{Row}
use Rattle.presence_base.specs.Names.{guarded}
use Rattle.orswot_core.specs.declared.form.Form.{Form}
use Rattle.orswot_core.specs.declared.form.Form.TheVariants.{One, Two}
use Rattle.orswot_core.specs.Telling.{ToldValue}
use Rattle.orswot_core.specs.Checks.{is_too_many_in, WhereItFits}
use Rattle.delta_range.specs.Deltas.{DeltaValue, telling_in, IsDelta}
use Rattle.presence_journal.specs.History.{History}
use Rattle.presence_journal_cuts.specs.Parting.{up_to}
use Rattle.presence_journal_cuts.specs.KeptDeltas.{TellsFrom}
use Rattle.tracker_shard.specs.declared.fault.ShardFault.{ShardFault}
use Rattle.presence_journal_cuts.specs.ToldParts.{IsPart, IsLargestPart, HasNoPart}
use Rattle.link_lines.specs.declared.lines.Line.{Line}
use Rattle.link_lines.specs.declared.lines.Line.TheVariants as lines
use Rattle.link_lines.specs.declared.lines.TheConstants.{MAX_LINE_BYTES}
use Rattle.link_lines.specs.Values.{row_value}
use Rattle.link_lines.specs.Writing.{text_of}
use Rattle.link_pool_port.specs.declared.parts.TheConstants.{MAX_PART_BYTES}
use Rattle.link_pool_port.specs.Lengths.{counted, sizes}

-- the line that a value of the second form is told on
abbrev pub told_line : ℕ → ToldValue → Line
told_line shard t = lines.Told shard (record { form = Two; told = t })

-- it has more bytes than a line may have
abbrev pub is_long : ℕ → ToldValue → Bool
is_long shard t = nat_lt MAX_LINE_BYTES (length (text_of (told_line shard t)))

-- its line is longer than what is told whole
abbrev pub is_large : ℕ → ToldValue → Bool
is_large shard t = nat_lt MAX_PART_BYTES (length (text_of (told_line shard t)))

-- these rows, each with what stands behind it on a line, are more than a part has
abbrev pub is_over : List (Dot × Row) → Bool
is_over rows = nat_lt MAX_PART_BYTES (sizes (map row_value rows))

-- what is told whole: in the second form what no long line is needed for
abbrev pub IsSmall : ℕ → Form → Option ToldValue → Type 0
IsSmall shard One told = ⊤
IsSmall shard Two None = ⊥
IsSmall shard Two (Some t) = is_large shard t ≡ false

-- what is told in parts, where there is one: what has a long line, or more than a node takes in
abbrev pub IsLarge : ℕ → Option ToldValue → Type 0
IsLarge shard None = ⊤
IsLarge shard (Some t) = is_large shard t ≡ true

-- the same of a shard's reply
abbrev pub IsSmallIfOk : ℕ → Form → Result (Option ToldValue) ShardFault → Type 0
IsSmallIfOk shard form (Ok told) = IsSmall shard form told
IsSmallIfOk shard form (Err fault) = ⊤

abbrev pub IsLargeIfOk : ℕ → Result (Option ToldValue) ShardFault → Type 0
IsLargeIfOk shard (Ok told) = IsLarge shard told
IsLargeIfOk shard (Err fault) = ⊥

abbrev pub bytes_on_line : ℕ → ToldValue → ℕ
bytes_on_line shard t = counted (length (text_of (told_line shard t)))

-- of a whole and a part the whole where its line is no longer, and in the place of no part a whole that has a line
abbrev pub shorter : ℕ → (whole part : Option ToldValue) → Option ToldValue
shorter shard None part = part
shorter shard (Some t) None = guarded (not (is_long shard t)) t
shorter shard (Some t) (Some p) = Some (cond (nat_le (bytes_on_line shard t) (bytes_on_line shard p)) t p)

-- the same of a shard's replies
abbrev pub shorter_reply : ℕ → (whole part : Result (Option ToldValue) ShardFault) → Result (Option ToldValue) ShardFault
shorter_reply shard (Ok whole) (Ok part) = Ok (shorter shard whole part)
shorter_reply shard (Ok whole) (Err fault) = Err fault
shorter_reply shard (Err fault) part = Err fault

-- the delta up to a count, where a line takes it
abbrev pub IsUpTo : ℕ → ℕ → DeltaValue → Option ToldValue → Type 0
IsUpTo shard m d None = is_long shard (telling_in Two (up_to m d)) ≡ true
IsUpTo shard m d (Some t) = (t ≡ telling_in Two (up_to m d)) × (is_long shard t ≡ false)

-- up to a count the delta has no line, or more rows than a part has
abbrev pub is_no_part : ℕ → ℕ → DeltaValue → Bool
is_no_part shard m d = is_long shard (telling_in Two (up_to m d)) || is_over (up_to m d).live

-- the delta up to a count, where it is a part
abbrev pub IsPartUpTo : ℕ → ℕ → DeltaValue → Option ToldValue → Type 0
IsPartUpTo shard m d None = is_no_part shard m d ≡ true
IsPartUpTo shard m d (Some t) = (t ≡ telling_in Two (up_to m d)) × (is_no_part shard m d ≡ false)

-- up to this count there are as many rows as a part has: it is the delta's last one, or with the next one they are more
abbrev pub TakesNoMore : ℕ → DeltaValue → Type 0
TakesNoMore m d = (d.to ≤ m) ⊎ (is_over (up_to (suc m) d).live ≡ true)

-- one count alone: as many rows as a part has end there, or are too many for a line beside the older runs
pub record IsOneCount (shard m : ℕ) (d : DeltaValue) : Type 0 where
  pub one : m ≡ suc d.from
  pub end : ℕ
  pub no_more : TakesNoMore end d
  pub why : (end ≤ m) ⊎ (is_no_part shard end d ≡ true)

-- the delta up to a count is as much of it as a part and its line hold
abbrev pub IsFilled : ℕ → ℕ → DeltaValue → Type 0
IsFilled shard m d = ((is_no_part shard m d ≡ false) × TakesNoMore m d) ⊎ IsOneCount shard m d

-- the delta, which is sound, cut short by no less than one count, to as much as a part and its line hold; none where it ends where it
-- begins, or already with one count more is too long for a line
abbrev pub IsShortened : ℕ → DeltaValue → Option ToldValue → Type 0
IsShortened shard d None =
    (d.to ≤ d.from) ⊎ (IsDelta d × (d.from < d.to) × (is_long shard (telling_in Two (up_to (suc d.from) d)) ≡ true))
IsShortened shard d (Some t) =
    (m : ℕ) × IsDelta d × (d.from < d.to) × (d.from < m) × (t ≡ telling_in Two (up_to m d)) × (is_long shard t ≡ false)
    × IsFilled shard m d

-- A part of what the history tells from a count on, on a line that a node takes in: who has it knows at least one count more. It is
-- as much of the largest part as a part's bytes and its line hold.
pub record IsPartOnLine (shard : ℕ) (h : History) (n : ℕ) (t : ToldValue) : Type 0 where
  pub delta : DeltaValue
  pub part : IsPart h n delta
  pub further : delta.from < delta.to
  pub sound : IsDelta delta
  pub tells : t ≡ telling_in Two delta
  pub few : is_too_many_in Two t ≡ false
  pub short : is_long shard t ≡ false
  pub largest : DeltaValue
  pub is_largest : IsLargestPart h n largest
  pub end : ℕ
  pub cut : delta ≡ up_to end largest
  pub filled : IsFilled shard end largest

-- the part that goes on by one count is more than a line takes
pub record IsOneTooLong (shard : ℕ) (h : History) (n : ℕ) : Type 0 where
  pub delta : DeltaValue
  pub part : IsPart h n delta
  pub one : delta.to ≡ suc delta.from
  pub long : is_long shard (telling_in Two delta) ≡ true

-- the largest part goes on by nothing
pub record GoesNowhere (h : History) (n : ℕ) : Type 0 where
  pub delta : DeltaValue
  pub largest : IsLargestPart h n delta
  pub nothing : delta.to ≤ delta.from

-- a part, where one is told; none where there are too many older runs, where the largest part goes on by nothing, or where a line
-- has no room even for the part that goes on by one count
abbrev pub TellsPart : ℕ → History → ℕ → Option ToldValue → Type 0
TellsPart shard h n None = HasNoPart h n ⊎ (GoesNowhere h n ⊎ IsOneTooLong shard h n)
TellsPart shard h n (Some t) = IsPartOnLine shard h n t
