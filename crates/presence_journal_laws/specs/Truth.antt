-- What is true of deeds, of histories and of told values, however the histories came about.
use Rattle.std.specs.Prelude.{◌≡◌, ◌⊎◌, ℕ, ◌<◌, ◌≤◌, true, false, Option, Some, None}
use Rattle.presence_base.specs.declared.dots.Replica.{Replica}
use Rattle.presence_base.specs.declared.dots.Dot.{Dot}
use Rattle.presence_base.specs.declared.row.Row.{Row}
use Rattle.dot_context.specs.Runs.{holds}
use Rattle.orswot_core.specs.Telling.{ToldValue, covers, live_row, tells_removed}
use Rattle.orswot_core.specs.Full.{dot_of}
use Rattle.delta_range.specs.Deltas.{DeltaValue, telling, IsDelta}
use Rattle.delta_range.specs.Keeping.{Kept}
use Rattle.presence_journal.specs.History.{History, own, count, last_cut, known, removed, row, shown}
use Rattle.presence_journal.specs.Table.{IsLegal}
use Rattle.presence_journal_cuts.specs.Cuts.{chain, older}
use Rattle.presence_journal_cuts.specs.KeptDeltas.{AreKeptOf}
use Rattle.presence_journal_laws.specs.Deeds.{Deeds, AllDeeds}

-- Deeds hang together: rows stand under counts that were used; a row that went was removed by a higher count.
pub record AreDeeds (x : Deeds) : Type 0 where
  pub made_in : (n : ℕ) (r : Row) → x.made n ≡ Some r → (0 < n) × (n ≤ x.used)
  pub went_why : (n : ℕ) → x.went n ≡ true → ((c : ℕ) × (x.removes c n ≡ true)) ⊎ (x.made n ≡ None)
  pub went_low : (n : ℕ) → x.went n ≡ true → n ≤ x.used
  pub targets_in : (c n : ℕ) → x.removes c n ≡ true → (0 < n) × (n < c) × (c ≤ x.used)

-- What a history says of any dot is what its owner did: a row was made there, a known count used, a removed row gone. And
-- whoever knows a count knows as removed what that count removed.
pub record IsHonest (deeds : AllDeeds) (h : History) : Type 0 where
  pub row_made : (d : Dot) (r : Row) → row h d ≡ Some r → (deeds d.replica).made d.count ≡ Some r
  pub known_used : (d : Dot) → known h d ≡ true → d.count ≤ (deeds d.replica).used
  pub removed_went : (d : Dot) → removed h d ≡ true → (deeds d.replica).went d.count ≡ true
  pub targets_known : (r : Replica) (c n : ℕ) → known h (dot_of r c) ≡ true → (deeds r).removes c n ≡ true
      → removed h (dot_of r n) ≡ true

-- the same of a told value: whoever is told a count is told as removed what that count removed
pub record TellsTrue (deeds : AllDeeds) (t : ToldValue) : Type 0 where
  pub row_made : (d : Dot) (r : Row) → live_row t d ≡ Some r → (deeds d.replica).made d.count ≡ Some r
  pub used : (d : Dot) → covers t d ≡ true → d.count ≤ (deeds d.replica).used
  pub removed_went : (d : Dot) → tells_removed t d ≡ true → (deeds d.replica).went d.count ≡ true
  pub targets_told : (r : Replica) (c n : ℕ) → covers t (dot_of r c) ≡ true → (deeds r).removes c n ≡ true
      → tells_removed t (dot_of r n) ≡ true

-- the owner's own history has all that it did
pub record IsOwners (x : Deeds) (h : History) : Type 0 where
  pub used : x.used ≡ count h
  pub went : (n : ℕ) → x.went n ≡ true → removed h (dot_of (own h) n) ≡ true

-- the row of an own count is shown
abbrev pub IsShownAt : History → ℕ → Type 0
IsShownAt h n = (r : Row) × (shown h (dot_of (own h) n) ≡ Some r)

-- The older counts of which the next cut tells those without a live row, and each chain of an own row, are closed: with a count
-- stands all that it removed. A chain's counts are below its row's, and counts that aren't used yet have no chain.
pub record IsClosed (x : Deeds) (h : History) : Type 0 where
  pub older_low : (n : ℕ) → 0 < n → older h n ≡ true → n ≤ last_cut h
  pub older_all : (c n : ℕ) → x.removes c n ≡ true → last_cut h < c → n ≤ last_cut h → older h n ≡ true
  pub older_closed : (c n : ℕ) → x.removes c n ≡ true → older h c ≡ true → older h n ≡ true
  pub chain_first : (c n : ℕ) → IsShownAt h c → x.removes c n ≡ true → holds (chain h c) n ≡ true
  pub chain_closed : (b c n : ℕ) → IsShownAt h b → holds (chain h b) c ≡ true → x.removes c n ≡ true
      → holds (chain h b) n ≡ true
  pub chain_low : (b n : ℕ) → IsShownAt h b → 0 < n → holds (chain h b) n ≡ true → n < b
  pub chain_unused : (b n : ℕ) → count h < b → 0 < n → holds (chain h b) n ≡ false

-- a kept delta is true, and ends where the last cut did
abbrev pub IsTrueKept : AllDeeds → Option (Replica × ℕ) → Option DeltaValue → Type 0
IsTrueKept deeds last None = Unit {0}
IsTrueKept deeds last (Some d) = IsDelta d × TellsTrue deeds (telling d) × (last ≡ Some (d.owner, d.to))

pub record AreTrueKept (deeds : AllDeeds) (k : Kept) : Type 0 where
  pub short : IsTrueKept deeds k.last k.short
  pub middle : IsTrueKept deeds k.last k.middle
  pub long : IsTrueKept deeds k.last k.long

-- all that is true of a history, where each replica did these deeds
pub record IsTrueOf (deeds : AllDeeds) (h : History) : Type 0 where
  pub legal : IsLegal h
  pub honest : IsHonest deeds h
  pub owners : IsOwners (deeds (own h)) h
  pub closed : IsClosed (deeds (own h)) h
  pub kept : (k : Kept) → AreKeptOf h k → AreTrueKept deeds k

-- later deeds: more was done, but no count that was used removes more
pub record DoesMore (x y : Deeds) : Type 0 where
  pub made : (n : ℕ) (r : Row) → x.made n ≡ Some r → y.made n ≡ Some r
  pub used : x.used ≤ y.used
  pub went : (n : ℕ) → x.went n ≡ true → y.went n ≡ true
  pub removes : (c n : ℕ) → c ≤ x.used → y.removes c n ≡ true → x.removes c n ≡ true

abbrev pub DoMore : AllDeeds → AllDeeds → Type 0
DoMore old new = (r : Replica) → DoesMore (old r) (new r)
