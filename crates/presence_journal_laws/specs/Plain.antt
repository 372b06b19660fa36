-- Cuts that leave out the chains of what went, and what another node makes of them.
use Rattle.std.specs.Prelude.{◌≡◌, ℕ, ◌≤◌, Bool, true, List, [], ◌∷◌, Some, None, codes}
use Rattle.presence_base.specs.declared.dots.Replica.{Replica}
use Rattle.presence_base.specs.declared.dots.Dot.{Dot}
use Rattle.dot_context.specs.Runs.{holds}
use Rattle.orswot_core.specs.Telling.{live_row}
use Rattle.delta_range.specs.Deltas.{DeltaValue, telling}
use Rattle.delta_range.specs.Laws.{IsInOrder}
use Rattle.presence_journal.specs.declared.step.Step.TheVariants as steps_are
use Rattle.presence_journal.specs.History.{History, Begin, Then, begun, own, count, last_cut, known, shown}
use Rattle.presence_journal.specs.Laws.{ran, empty, dot, row_of, here, track, update, untrack}
use Rattle.presence_journal_cuts.specs.Cuts.{older_after, recent, IsCut}
use Rattle.presence_journal_laws.specs.Joined.{merge_of}

-- no count stands for another
abbrev pub no_chain : ℕ → List (ℕ × ℕ)
no_chain c = []

-- the counts at or below the last cut that went since, but none that their rows had replaced
unfoldable pub older_plain : History → ℕ → Bool
older_plain (Begin s) n = holds s.older n
older_plain (Then h e) n = older_after e.outcome (last_cut h) no_chain (older_plain h) n

-- a cut in all but that
pub record IsPlainCut (h : History) (c : DeltaValue) : Type 0 where
  pub owner : c.owner ≡ own h
  pub from : c.from ≡ last_cut h
  pub to : c.to ≡ count h
  pub before : (n : ℕ) → 1 ≤ n → holds c.older n ≡ older_plain h n
  pub rows : (d : Dot) → live_row (telling c) d ≡ recent h d
  pub in_order : IsInOrder c

abbrev pub node_a : Replica
node_a = record { name = codes "a"; incarnation = 1 }

-- the owner tracks a row and cuts, updates the row and cuts, and takes it out
abbrev pub tracked : History
tracked = ran empty (track 1 ∷ [])

abbrev pub untracked : History
untracked = ran empty (track 1 ∷ steps_are.Cut ∷ update 1 ∷ steps_are.Cut ∷ untrack 1 ∷ [])

abbrev pub first_delta : DeltaValue
first_delta = record { owner = node_a; from = 0; to = 1; older = []; live = (dot 1, row_of 1 here None) ∷ [] }

abbrev pub third_delta : DeltaValue
third_delta = record { owner = node_a; from = 2; to = 3; older = (1, 2) ∷ []; live = [] }

-- another node, to which the first delta came, but not the second, and then a third one
abbrev pub hearer : DeltaValue → History
hearer third =
    ran (begun (record { name = codes "b"; incarnation = 1 }))
    (steps_are.Heard node_a 0 ∷ merge_of first_delta ∷ merge_of third ∷ [])

-- With no chain the other node comes to know each count of the owner, and shows a row that went. With its chain, the
-- third cut tells that it went.
pub record NeedChains : Type 0 where
  pub first : IsPlainCut tracked first_delta
  pub third : IsPlainCut untracked third_delta
  pub caught_up : (n : ℕ) → 1 ≤ n → n ≤ count untracked → known (hearer third_delta) (dot n) ≡ true
  pub went : shown untracked (dot 1) ≡ None
  pub stays : shown (hearer third_delta) (dot 1) ≡ Some (row_of 1 here None)
  pub goes : (c : DeltaValue) → IsCut untracked c → shown (hearer c) (dot 1) ≡ None
