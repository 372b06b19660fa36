-- The chain that an update hands on from the row that it takes out.
use Rattle.std.specs.Prelude.{ℕ, suc, ◌-◌, cond, nat_lt, nat_eq, length, List, [], ◌∷◌}
use Rattle.presence_journal_cuts.specs.declared.chain.TheConstants.{MAX_CHAIN_RUNS}

-- the run of the counts above one, up to another, where there are any
abbrev pub run_between : ℕ → ℕ → List (ℕ × ℕ)
run_between low high = cond (nat_lt low high) ((low, high) ∷ []) []

-- the runs with one count more: the last one goes on to it, where it ends right below
abbrev pub grown : List (ℕ × ℕ) → ℕ → List (ℕ × ℕ)
grown [] n = run_between (n - 1) n
grown (r ∷ []) n = cond (nat_eq (suc r.1) n) ((r.0, n) ∷ []) (r ∷ run_between (n - 1) n)
grown (r ∷ s ∷ rs) n = r ∷ grown (s ∷ rs) n

-- a row's chain with its own count, for the row that replaces it: where these are more runs than a chain has, it is the one run of
-- all counts up to that one
unfoldable pub handed : List (ℕ × ℕ) → ℕ → List (ℕ × ℕ)
handed rs n = cond (nat_lt MAX_CHAIN_RUNS (length (grown rs n))) (run_between 0 n) (grown rs n)
