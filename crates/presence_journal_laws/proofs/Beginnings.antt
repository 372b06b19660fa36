-- What a history says that has a Start alone.
use Rattle.std.proofs.Common.{◌≡◌, ℕ, Bool, true, false, cond, ◌&&◌, Option, Some, None, refl}
use Rattle.std.specs.Prelude.{is_none}
use Rattle.presence_base.specs.declared.dots.Dot.{Dot}
use Rattle.presence_base.specs.declared.dots.Replica.{Replica}
use Rattle.presence_base.specs.declared.row.Row.{Row}
use Rattle.dot_context.specs.Runs.{holds}
use Rattle.orswot_core.specs.Telling.{covers, live_row, tells_removed}
use Rattle.replica_status.specs.Boards.{standing_in}
use Rattle.presence_journal.specs.declared.entry.Start.{Start}
use Rattle.presence_journal.specs.History.{Begin, count, last_number, time, standing, last_cut, known, removed, row, live}
use Rattle.presence_journal_cuts.specs.Cuts.{chain_in, chain, older}

pub count-begin : (s : Start) → count (Begin s) ≡ s.count
unfolding count
count-begin s = refl

pub number-begin : (s : Start) → last_number (Begin s) ≡ s.number
unfolding last_number
number-begin s = refl

pub time-begin : (s : Start) → time (Begin s) ≡ s.time
unfolding time
time-begin s = refl

pub last_cut-begin : (s : Start) → last_cut (Begin s) ≡ s.last_cut
unfolding last_cut
last_cut-begin s = refl

pub standing-begin : (s : Start) (r : Replica) → standing (Begin s) r ≡ standing_in s.standings r
unfolding standing
standing-begin s r = refl

pub known-begin : (s : Start) (d : Dot) → known (Begin s) d ≡ covers s.content d
unfolding known
known-begin s d = refl

pub removed-begin : (s : Start) (d : Dot) → removed (Begin s) d ≡ tells_removed s.content d
unfolding removed
removed-begin s d = refl

pub chain-begin : (s : Start) (c : ℕ) → chain (Begin s) c ≡ chain_in s.chains c
unfolding chain
chain-begin s c = refl

pub older-begin : (s : Start) (n : ℕ) → older (Begin s) n ≡ holds s.older n
unfolding older
older-begin s n = refl

-- a row that is listed as live is live
pub live-begin : (s : Start) (d : Dot) → live (Begin s) d ≡ live_row s.content d
unfolding live removed row
live-begin s d = go (covers s.content d) (live_row s.content d)
  where
    go : (c : Bool) (o : Option Row) → cond (c && is_none o) None o ≡ o
    go true None = refl
    go true (Some r) = refl
    go false o = refl
