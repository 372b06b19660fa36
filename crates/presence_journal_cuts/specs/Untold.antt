-- What is kept of a history for the next cut.
use Rattle.std.specs.Prelude.{◌≡◌, ℕ, ◌≤◌, ◌<◌, true, List, [], Option, Some, option_map}
use Rattle.std.specs.BTreeMap.{get}
use Rattle.presence_base.specs.declared.dots.Dot.{Dot}
use Rattle.presence_base.specs.declared.row.Row.{Row}
use Rattle.presence_base.specs.Order.{dot_cmp, same_dot}
use Rattle.dot_context.specs.Runs.{holds}
use Rattle.orswot_core.specs.declared.form.Form.{Form}
use Rattle.orswot_core.specs.Telling.{ToldValue}
use Rattle.orswot_core.specs.Sets.{DotRows}
use Rattle.delta_range.specs.Deltas.{telling_in}
use Rattle.delta_range.specs.Keeping.{Kept, from_count}
use Rattle.presence_journal.specs.declared.entry.Entry.{Entry}
use Rattle.presence_journal.specs.History.{History, Then, own, count, last_cut, shown}
use Rattle.presence_journal.specs.Table.{IsLegal}
use Rattle.presence_journal_known.specs.ByDot.{Alike}
use Rattle.presence_journal_known.specs.LeftOut.{HoldsCovered}
use Rattle.presence_journal_cuts.specs.Chains.{Chains, AreChains, AreUpTo, Counts, kept_chain}
use Rattle.presence_journal_cuts.specs.Cuts.{chain, older, recent}
use Rattle.presence_journal_cuts.specs.KeptDeltas.{AreKeptOf}
use Rattle.presence_journal_cuts.specs.declared.untold.Untold.{Untold}
use Rattle.std.specs.Map.{lookup}
use Rattle.presence_base.specs.declared.dots.Replica.{Replica}
use Rattle.presence_journal.specs.Walk.{is_reborn}
use Rattle.presence_journal_cuts.specs.Reborn.{own_live}

-- each own row that is shown has its chain
abbrev pub HasChains : History → Chains → Type 0
HasChains h m = (d : Dot) (r : Row) → d.replica ≡ own h → shown h d ≡ Some r → kept_chain m d.count ≡ chain h d.count

-- and so has each count that is not used yet
abbrev pub HasUnused : History → Chains → Type 0
HasUnused h m = (c : ℕ) → count h < c → kept_chain m c ≡ chain h c

-- no count above both has a chain
abbrev pub AreBelow : ℕ → ℕ → (ℕ → List (ℕ × ℕ)) → Type 0
AreBelow most unsettled f = (c : ℕ) → most < c → unsettled < c → f c ≡ []

-- what stands in the chain of a count above `unsettled`, and itself at or below the last cut, is among these
abbrev pub AreSettled : ℕ → ℕ → (ℕ → List (ℕ × ℕ)) → List (ℕ × ℕ) → Type 0
AreSettled last unsettled f rs = (c n : ℕ) → 1 ≤ n → n ≤ last → unsettled < c → holds (f c) n ≡ true → holds rs n ≡ true

-- the chains of the own rows that are shown, the older counts that went since the last cut, the own rows above it, and the
-- kept deltas
pub record IsUntoldOf (h : History) (u : Untold) : Type 0 where
  pub chains : HasChains h u.chains
  pub unused : HasUnused h u.chains
  pub long : AreChains u.chains
  pub few : AreBelow (count h) u.unsettled (kept_chain u.chains)
  pub settled : AreSettled u.last u.unsettled (kept_chain u.chains) u.older.items
  pub unsettled : u.last ≤ u.unsettled
  pub counts : Counts (holds u.older.items) (older h)
  pub low : AreUpTo u.last u.older.items
  pub rows : Alike (get dot_cmp u.rows) (recent h)
  pub kept : AreKeptOf h u.kept
  pub last : u.last ≡ last_cut h
  pub own : u.own ≡ own h
  pub count : u.count ≡ count h

-- it is that of a legal history
pub record IsOfOne (u : Untold) : Type 0 where
  pub history : History
  pub legal : IsLegal history
  pub kept : IsUntoldOf history u

-- the entry can follow a legal history of which this is kept
pub record CanFollow (u : Untold) (e : Entry) : Type 0 where
  pub before : History
  pub legal : IsLegal (Then before e)
  pub kept : IsUntoldOf before u

-- what is kept after the entry, where u was kept before it, and the set is of what is covered after it
abbrev pub Follows : Untold → Entry → DotRows → Untold → Type 0
Follows u e s v = (h : History) → IsLegal (Then h e) → HoldsCovered (Then h e) s → IsUntoldOf h u → IsUntoldOf (Then h e) v

-- after a rebirth under this replica, with so many counts and these rows, and no others, it is that of the history
abbrev pub BeginsAgain : Replica → ℕ → List (Dot × Row) → Untold → Type 0
BeginsAgain o n rows u = (h : History) (e : Entry) → IsLegal (Then h e) → is_reborn e.outcome ≡ true → o ≡ own (Then h e)
    → n ≡ count (Then h e) → ((d : Dot) → lookup (same_dot d) rows ≡ own_live (Then h e) d) → IsUntoldOf (Then h e) u

-- what is told of the kept deltas from a count on, where one of them begins at or below it
pub record IsKeptFrom (form : Form) (h : History) (n : ℕ) (o : Option ToldValue) : Type 0 where
  pub kept : Kept
  pub of : AreKeptOf h kept
  pub is : o ≡ option_map (telling_in form) (from_count form kept n)

-- v keeps what u kept
abbrev pub Stays : Untold → Untold → Type 0
Stays u v = (h : History) → IsUntoldOf h u → IsUntoldOf h v
