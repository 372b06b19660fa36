-- What an entry changes of what is kept.
use Rattle.std.specs.Prelude.{◌≡◌, ◌<◌, ◌≤◌, ◌++◌, ℕ, Bool, false, cond, nat_eq, nat_le, List, [], Option, Some, None}
use Rattle.std.specs.List.{filter, list_any}
use Rattle.std.specs.BTreeMap.{BTreeMap, get}
use Rattle.std.specs.Ordering.{nat_cmp}
use Rattle.presence_base.specs.declared.dots.Dot.{Dot}
use Rattle.presence_base.specs.declared.row.Row.{Row}
use Rattle.presence_base.specs.Order.{dot_cmp, same_dot}
use Rattle.dot_context.specs.Runs.{holds}
use Rattle.presence_journal.specs.declared.entry.Outcome.TheVariants as outcomes_are
use Rattle.presence_journal.specs.declared.entry.Outcome.{Outcome}
use Rattle.presence_journal.specs.declared.entry.Entry.{Entry}
use Rattle.orswot_core.specs.Sets.{DotRows as RowSet}
use Rattle.delta_range.specs.Keeping.{Kept}
use Rattle.presence_journal.specs.History.{History, row_added}
use Rattle.presence_journal.specs.Present.{dots_taken}
use Rattle.presence_journal.specs.Walk.{row_at}
use Rattle.presence_journal_cuts.specs.Chains.{Chains, AreUpTo, Counts, TakesInBy, kept_chain}
use Rattle.presence_journal_cuts.specs.Cuts.{stands_for}
use Rattle.presence_journal_cuts.specs.Handing.{handed}
use Rattle.presence_journal_cuts.specs.Parting.{HasOwnRows}
use Rattle.presence_journal_cuts.specs.KeptDeltas.{IsPushed, AreKeptOf}
use Rattle.presence_journal_cuts.specs.declared.change.Link.{Link}
use Rattle.presence_journal_cuts.specs.declared.change.Change.{Change}
use Rattle.presence_journal_cuts.specs.declared.untold.Untold.{Untold}
use Rattle.presence_journal_cuts.specs.Untold.{AreSettled, IsUntoldOf}

abbrev pub DotRows : Type 0
DotRows = BTreeMap Dot Row

-- the dots up to a count
abbrev pub told_in : ℕ → List Dot → List Dot
told_in unsettled ds = filter (λ d. nat_le d.count unsettled) ds

-- The new row's count has the chain that the old one's hands on. Where it need not be told, it has but the old one's own count more,
-- which is above `unsettled`.
pub record HandsOn (unsettled : ℕ) (m : Chains) (new old : Dot) (l : Link) : Type 0 where
  pub to : l.to ≡ new.count
  pub chain : l.chain ≡ handed (kept_chain m old.count) old.count
  pub above : l.is_told ≡ false → unsettled < old.count
  pub same : l.is_told ≡ false → Counts (holds l.chain) (stands_for (kept_chain m) old.count)

-- an update links its two rows, and nothing else links any
abbrev pub IsLinkOf : ℕ → Outcome → Chains → Option Link → Type 0
IsLinkOf unsettled (outcomes_are.Replaced new old) m (Some l) = HandsOn unsettled m new old l
IsLinkOf unsettled (outcomes_are.Replaced new old) m None = ⊥
IsLinkOf unsettled _ m o = o ≡ None

-- the runs are what goes with an outcome, for those that have what counts above `unsettled` stand for
abbrev pub TellsGone : ℕ → ℕ → Chains → Outcome → List (ℕ × ℕ) → Type 0
TellsGone last unsettled m o gone = (old : List (ℕ × ℕ)) → AreSettled last unsettled (kept_chain m) old → last ≤ unsettled
    → TakesInBy o last m old (old ++ gone)

-- the row that an entry adds, its link, and the older counts that go with it
pub record IsChange (last unsettled : ℕ) (m : Chains) (e : Entry) (c : Change) : Type 0 where
  pub row : (d : Dot) → row_at c.row d ≡ row_added e.step e.outcome d
  pub link : IsLinkOf unsettled e.outcome m c.link
  pub counts : TellsGone last unsettled m e.outcome c.gone.items
  pub low : AreUpTo last c.gone.items

abbrev pub IsChangeOf : Untold → Entry → Change → Type 0
IsChangeOf u e c = IsChange u.last u.unsettled u.chains e c

abbrev pub SameChains : Chains → Chains → Type 0
SameChains m n = (c : ℕ) → get nat_cmp n c ≡ get nat_cmp m c

-- the link's chain is there
abbrev pub linked : Option Link → Chains → ℕ → Option (List (ℕ × ℕ))
linked None m c = get nat_cmp m c
linked (Some l) m c = cond (nat_eq c l.to) (Some l.chain) (get nat_cmp m c)

abbrev pub IsLinked : Option Link → Chains → Chains → Type 0
IsLinked o m n = (c : ℕ) → get nat_cmp n c ≡ linked o m c

-- one of the dots has the count
abbrev pub is_counted : List Dot → ℕ → Bool
is_counted ds c = list_any (λ d. nat_eq c d.count) ds

-- the counts of the dots have no chains
abbrev pub LosesChains : List Dot → Chains → Chains → Type 0
LosesChains ds m n = (c : ℕ) → get nat_cmp n c ≡ cond (is_counted ds c) None (get nat_cmp m c)

-- the dot of a row that comes
abbrev pub dot_in : Option (Dot × Row) → Option Dot
dot_in None = None
dot_in (Some x) = Some x.0

-- no row is there under the dot
abbrev pub IsNew : Option (Dot × Row) → DotRows → Type 0
IsNew None m = Unit {0}
IsNew (Some x) m = get dot_cmp m x.0 ≡ None

-- with no row under the dot
abbrev pub IsWithoutDot : Option Dot → DotRows → DotRows → Type 0
IsWithoutDot None m n = (d : Dot) → get dot_cmp n d ≡ get dot_cmp m d
IsWithoutDot (Some x) m n = (d : Dot) → get dot_cmp n d ≡ cond (same_dot x d) None (get dot_cmp m d)

-- with these kept deltas
abbrev pub with_kept : Untold → Kept → Untold
with_kept u k = record {
  own = u.own;
  count = u.count;
  last = u.last;
  unsettled = u.unsettled;
  chains = u.chains;
  older = u.older;
  rows = u.rows;
  kept = k;
}

-- what a cut tells, where the set has the own rows, comes to the kept deltas, and nothing else changes
pub record KeepsCut (u : Untold) (s : RowSet) (v : Untold) : Type 0 where
  pub same : v ≡ with_kept u v.kept
  pub pushed : (h : History) → IsUntoldOf h u → HasOwnRows h s → IsPushed (AreKeptOf h) h v.kept

-- all is told up to a count, and only the chains and the kept deltas stay
pub record IsToldTo (to : ℕ) (u v : Untold) : Type 0 where
  pub own : v.own ≡ u.own
  pub count : v.count ≡ u.count
  pub last : v.last ≡ to
  pub above : to ≤ v.unsettled
  pub unsettled : u.unsettled ≤ v.unsettled
  pub chains : v.chains ≡ u.chains
  pub older : v.older.items ≡ []
  pub rows : v.rows.entries ≡ []
  pub kept : v.kept ≡ u.kept
