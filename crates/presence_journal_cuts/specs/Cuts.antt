-- What a cut tells: the own rows that came since the last cut, and the older counts that went since.
use Rattle.std.specs.Prelude.{◌≡◌, ℕ, ◌≤◌, Bool, false, cond, ◌&&◌, ◌||◌, nat_eq, nat_le, List, [], Option, None, is_none}
use Rattle.std.specs.List.{list_any}
use Rattle.std.specs.Map.{lookup}
use Rattle.presence_base.specs.declared.dots.Dot.{Dot}
use Rattle.presence_base.specs.declared.row.Row.{Row}
use Rattle.dot_context.specs.Runs.{holds}
use Rattle.dot_context.specs.Sets.{in_range, listed}
use Rattle.orswot_core.specs.Telling.{live_row}
use Rattle.delta_range.specs.Deltas.{DeltaValue, telling}
use Rattle.delta_range.specs.Laws.{IsInOrder}
use Rattle.presence_journal.specs.declared.entry.Outcome.TheVariants as outcomes_are
use Rattle.presence_journal.specs.declared.entry.Outcome.{Outcome}
use Rattle.presence_journal.specs.History.{History, Begin, Then, own, count, last_cut, shown}
use Rattle.presence_journal.specs.Present.{dots_taken}
use Rattle.presence_journal_cuts.specs.Handing.{handed}
use Rattle.presence_journal_cuts.specs.ToldParts.{row_of_count}

-- the chains but that of one count
abbrev pub left_at : ℕ → (ℕ → List (ℕ × ℕ)) → ℕ → List (ℕ × ℕ)
left_at gone chain c = cond (nat_eq c gone) [] (chain c)

-- an update hands the old row's chain on to the new row's count
abbrev pub chain_after : Outcome → (ℕ → List (ℕ × ℕ)) → ℕ → List (ℕ × ℕ)
chain_after (outcomes_are.Replaced new old) chain c =
    cond (nat_eq c new.count) (handed (chain old.count) old.count) (left_at old.count chain c)
chain_after (outcomes_are.Reborn pairs) chain c = []
chain_after _ chain c = chain c

-- the chain that a list has for a count
abbrev pub chain_in : List (ℕ × List (ℕ × ℕ)) → ℕ → List (ℕ × ℕ)
chain_in xs c = listed (lookup (nat_eq c) xs)

-- the chain of a live row, as runs: the counts of the rows that were replaced in turn, or all counts up to one of them and those
-- above it
unfoldable pub chain : History → ℕ → List (ℕ × ℕ)
chain (Begin s) c = chain_in s.chains c
chain (Then h e) c = chain_after e.outcome (chain h) c

-- a count stands for itself, and for those of its chain
abbrev pub stands_for : (ℕ → List (ℕ × ℕ)) → ℕ → ℕ → Bool
stands_for chain c n = nat_eq n c || holds (chain c) n

-- one of these dots goes, each with its chain
abbrev pub goes : (ℕ → List (ℕ × ℕ)) → List Dot → ℕ → Bool
goes chain ds n = list_any (λ d. stands_for chain d.count n) ds

-- what goes with an outcome: with an update the chain that it hands on, and else each dot that is taken out, with its chain
abbrev pub goes_by : Outcome → (ℕ → List (ℕ × ℕ)) → ℕ → Bool
goes_by (outcomes_are.Replaced new old) chain n = holds (handed (chain old.count) old.count) n
goes_by o chain n = goes chain (dots_taken o) n

abbrev pub older_after : Outcome → ℕ → (ℕ → List (ℕ × ℕ)) → (ℕ → Bool) → ℕ → Bool
older_after (outcomes_are.CutAt from to) last chain older n = false
older_after (outcomes_are.Reborn pairs) last chain older n = false
older_after o last chain older n = older n || (nat_le n last && goes_by o chain n)

-- the counts at or below the last cut that went since, or that stand in a chain beside them
unfoldable pub older : History → ℕ → Bool
older (Begin s) n = holds s.older n
older (Then h e) n = older_after e.outcome (last_cut h) (chain h) (older h) n

-- the own rows above the last cut
unfoldable pub recent : History → Dot → Option Row
recent h d = cond (in_range (own h) (last_cut h) (count h) d) (shown h d) None

-- the delta that a cut tells: the counts above the last cut with their rows, and of the older ones that went or stand in a chain
-- beside them those that have no live row: who knows what removed them knows them all as removed
pub record IsCut (h : History) (c : DeltaValue) : Type 0 where
  pub owner : c.owner ≡ own h
  pub from : c.from ≡ last_cut h
  pub to : c.to ≡ count h
  pub before : (n : ℕ) → 1 ≤ n → holds c.older n ≡ (older h n && is_none (row_of_count h n))
  pub rows : (d : Dot) → live_row (telling c) d ≡ recent h d
  pub in_order : IsInOrder c
