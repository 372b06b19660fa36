-- Chains as the code keeps them: runs of counts by count.
use Rattle.std.specs.Prelude.{◌≡◌, ℕ, ◌-◌, ◌≤◌, Bool, true, false, cond, ◌&&◌, ◌||◌, nat_eq, nat_le, List, [], ◌∷◌, ◌++◌, Option, Some, None}
use Rattle.std.specs.BTreeMap.{BTreeMap, get}
use Rattle.std.specs.Ordering.{nat_cmp}
use Rattle.std.specs.List.{list_all}
use Rattle.presence_base.specs.declared.dots.Dot.{Dot}
use Rattle.presence_base.specs.declared.row.Row.{Row}
use Rattle.dot_context.specs.Runs.{holds, AreLong}
use Rattle.dot_context.specs.Sets.{in_range, listed}
use Rattle.presence_journal.specs.declared.entry.Outcome.TheVariants as outcomes_are
use Rattle.presence_journal.specs.declared.entry.Outcome.{Outcome}
use Rattle.presence_journal.specs.declared.entry.Entry.{Entry}
use Rattle.presence_journal.specs.declared.entry.Start.{Start}
use Rattle.presence_journal.specs.History.{History, Then, first_some, cut_after, row_added}
use Rattle.presence_journal.specs.Present.{dots_taken}
use Rattle.presence_journal.specs.Walk.{row_at, without_dots}
use Rattle.presence_journal_cuts.specs.Cuts.{goes, goes_by, older_after, recent}
use Rattle.presence_journal_cuts.specs.Handing.{grown}

abbrev pub Chains : Type 0
Chains = BTreeMap ℕ (List (ℕ × ℕ))

-- the chain of a count, or none
abbrev pub kept_chain : Chains → ℕ → List (ℕ × ℕ)
kept_chain m c = listed (get nat_cmp m c)

-- no run of a chain is hollow
abbrev pub AreChains : Chains → Type 0
AreChains m = (c : ℕ) → AreLong (kept_chain m c)

-- both have the same counts
abbrev pub Counts : (ℕ → Bool) → (ℕ → Bool) → Type 0
Counts f g = (n : ℕ) → 1 ≤ n → f n ≡ g n

-- the last run goes on to the count, or it is to come as a run of its own
abbrev pub GrowsLast : Bool → List (ℕ × ℕ) → ℕ → List (ℕ × ℕ) → Type 0
GrowsLast true old count new = new ≡ grown old count
GrowsLast false old count new = (new ≡ old) × (grown old count ≡ old ++ (count - 1, count) ∷ [])

-- a chain comes in the place of that of its count
abbrev pub PutsChain : Chains → ℕ → List (ℕ × ℕ) → Chains → Type 0
PutsChain m count chain m' = (c : ℕ) → get nat_cmp m' c ≡ cond (nat_eq c count) (Some chain) (get nat_cmp m c)

-- the chain of an entry of a list, at its count
abbrev pub chain_at : ℕ × List (ℕ × ℕ) → ℕ → Option (List (ℕ × ℕ))
chain_at x c = cond (nat_eq c x.0) (Some x.1) None

-- that chain comes where its count has none yet
abbrev pub KeepsChain : Chains → ℕ × List (ℕ × ℕ) → Chains → Type 0
KeepsChain m x m' = (c : ℕ) → get nat_cmp m' c ≡ first_some (get nat_cmp m c) (chain_at x c)

-- runs of counts up to one, none of which is hollow
abbrev pub AreUpTo : ℕ → List (ℕ × ℕ) → Type 0
AreUpTo end rs = AreLong rs × (list_all (λ r. nat_le r.1 end) rs ≡ true)

-- what goes with these dots comes to the runs, as far as it is at or below the last cut
abbrev pub TakesIn : ℕ → Chains → List Dot → List (ℕ × ℕ) → List (ℕ × ℕ) → Type 0
TakesIn last m ds rs rs' = Counts (holds rs') (λ n. holds rs n || (nat_le n last && goes (kept_chain m) ds n))

-- and so does what goes with an outcome
abbrev pub TakesInBy : Outcome → ℕ → Chains → List (ℕ × ℕ) → List (ℕ × ℕ) → Type 0
TakesInBy o last m rs rs' = Counts (holds rs') (λ n. holds rs n || (nat_le n last && goes_by o (kept_chain m) n))

-- the runs have what an outcome makes of the older counts
abbrev pub OlderAfter : Outcome → ℕ → Chains → List (ℕ × ℕ) → List (ℕ × ℕ) → Type 0
OlderAfter o last m rs rs' = Counts (holds rs') (older_after o last (kept_chain m) (holds rs))

-- the runs stay at or below the last cut
abbrev pub KeptAfter : Outcome → ℕ → Chains → List (ℕ × ℕ) → List (ℕ × ℕ) → Type 0
KeptAfter o last m rs rs' = AreChains m → AreUpTo last rs → AreUpTo (cut_after o last) rs'

-- what a cut tells is not told by the next one
abbrev pub unless_cut : Outcome → Option Row → Option Row
unless_cut (outcomes_are.CutAt from to) o = None
unless_cut _ o = o

-- the rows above the last cut after an entry, where f gives those before it
abbrev pub recent_after : Entry → (Dot → Option Row) → Dot → Option Row
recent_after e f d =
    unless_cut e.outcome (first_some (row_added e.step e.outcome d) (without_dots (dots_taken e.outcome) f d))

-- g gives the rows above the last cut of a history that ends with the entry, where f gives those before it
abbrev pub AreNextRecent : Entry → History → (Dot → Option Row) → (Dot → Option Row) → Type 0
AreNextRecent e h f g = (before : History) → h ≡ Then before e → ((d : Dot) → f d ≡ recent before d) → (d : Dot) → g d ≡ recent h d

-- a dot of a Start's own counts above its last cut
abbrev pub is_recent : Start → Dot → Bool
is_recent s d = in_range s.own s.last_cut s.count d

-- the row of an entry of a list, where its dot is one of those
abbrev pub row_recent : Start → Dot × Row → Dot → Option Row
row_recent s x d = cond (is_recent s x.0) (row_at (Some x) d) None

-- the first of these rows of a list at a dot
abbrev pub rows_recent : Start → List (Dot × Row) → Dot → Option Row
rows_recent s [] d = None
rows_recent s (x ∷ xs) d = first_some (row_recent s x d) (rows_recent s xs d)
