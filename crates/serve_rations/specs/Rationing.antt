-- What a port counts of the calls that go through it, and which calls it refuses.
use Rattle.std.specs.Prelude.{◌≡◌, ◌⊎◌, ℕ, List, [], ◌∷◌, ◌++◌, Bool, true, false, not, filter, Result, Ok, Err, alloc_error}
use Rattle.std.specs.declared.alloc.AllocError.{AllocError}
use Rattle.channel_rules.specs.Asks.{Ask, Answer, track, update, untrack, untrack_all}
use Rattle.tracker_shard.specs.declared.fault.ShardFault.TheVariants.{OutOfMemory}
use Rattle.channel_rules.specs.declared.refusal.Refusal.{Refusal}
use Rattle.channel_rules.specs.declared.refusal.Refusal.TheVariants.{OverRation, Table}
use Rattle.serve_rations.specs.Amounts.{nothing, without}
use Rattle.serve_rations.specs.Connections.{IsNow, SameRows, rows_of, kept}
use Rattle.serve_rations.specs.Rows.{has_row, has_room, is_row, is_of, row_bytes, amount_of, amount_with, resized}
use Rattle.serve_rations.specs.declared.amount.Amount.{Amount}
use Rattle.serve_rations.specs.declared.ration.Kept.{Kept}
use Rattle.serve_rations.specs.declared.rations.Rations.{Rations}

-- what a port has: the port inside, the rows that it has counted, and what they are charged to
pub record Books (P B : Type 0) : Type 0 where
  pub port : P
  pub rations : Rations
  pub budgets : B

abbrev pub books : {P B : Type 0} → P → Rations → B → Books P B
books port rations budgets = record { port = port; rations = rations; budgets = budgets }

module _ {B : Type 0} (charged : B → List ℕ → Amount → Result Bool AllocError → B → Type 0) where
  -- So much more of a topic is charged, where it is anything.
  abbrev pub Charged : B → List ℕ → Amount → B → Type 0
  Charged old topic more new = charged old topic more (Ok true) new ⊎ ((more ≡ nothing) × (new ≡ old))

  -- So much more is charged, or there is no room for it in the topic's budget, or no memory.
  abbrev pub Charges : B → List ℕ → Amount → Result (Unit {0}) Refusal → B → Type 0
  Charges old topic more (Ok done) new = Charged old topic more new
  Charges old topic more (Err fault) new =
      ((fault ≡ OverRation) × charged old topic more (Ok false) new)
      ⊎ ((fault ≡ Table OutOfMemory) × charged old topic more (Err alloc_error) new)

-- So much of a topic is given back, where it is anything.
abbrev pub Released : {B : Type 0} → (B → List ℕ → Amount → B → Type 0) → B → List ℕ → Amount → B → Type 0
Released released old topic less new = released old topic less new ⊎ ((less ≡ nothing) × (new ≡ old))

-- what a change of a connection's rows comes to: the rows that it has then, and what is charged and given back for them
pub record Change : Type 0 where
  pub pid : ℕ
  pub topic : List ℕ
  pub rows : List Kept
  pub more : Amount
  pub less : Amount

-- The rows change where the call was accepted, and what is less is given back; where it was refused they stay, and what was
-- charged is given back.
abbrev pub Settles : {A B : Type 0} → (B → List ℕ → Amount → B → Type 0) → Rations → B → Change → Result A Refusal → Rations → B → Type 0
Settles released old mid change (Ok value) new budgets =
    IsNow old change.pid change.rows new × Released released mid change.topic change.less budgets
Settles released old mid change (Err fault) new budgets =
    SameRows old new × Released released mid change.topic change.more budgets

-- What the change adds is counted and charged; or it isn't, where there is no room in the topic's budget, or no memory.
abbrev pub Admits : {B : Type 0} → (B → List ℕ → Amount → Result Bool AllocError → B → Type 0) → Rations → B → Change
    → Result (Unit {0}) Refusal → Rations → B → Type 0
Admits charged old budgets change (Ok done) new left =
    IsNow old change.pid change.rows new × Charged charged budgets change.topic change.more left
Admits charged old budgets change (Err fault) new left = SameRows old new
    × (Charges charged budgets change.topic change.more (Err fault) left ⊎ ((fault ≡ Table OutOfMemory) × (left ≡ budgets)))

-- a row more of a connection
abbrev pub tracked : Rations → ℕ → List ℕ → List ℕ → ℕ → Change
tracked old pid topic key bytes = record {
  pid = pid;
  topic = topic;
  rows = rows_of old pid ++ kept topic key bytes ∷ [];
  more = amount_of (kept topic key bytes);
  less = nothing;
}

-- what the row of this key at this topic takes
abbrev pub taken_by : Rations → ℕ → List ℕ → List ℕ → Amount
taken_by old pid topic key = amount_with (is_row topic key) nothing (rows_of old pid)

-- a row of so many bytes from now on
abbrev pub updated : Rations → ℕ → List ℕ → List ℕ → ℕ → Change
updated old pid topic key bytes = record {
  pid = pid;
  topic = topic;
  rows = resized topic key bytes (rows_of old pid);
  more = without (amount_of (kept topic key bytes)) (taken_by old pid topic key);
  less = without (taken_by old pid topic key) (amount_of (kept topic key bytes));
}

-- this row less
abbrev pub untracked : Rations → ℕ → List ℕ → List ℕ → Change
untracked old pid topic key = record {
  pid = pid;
  topic = topic;
  rows = filter (λ row. not (is_row topic key row)) (rows_of old pid);
  more = nothing;
  less = taken_by old pid topic key;
}

-- none of this topic any more
abbrev pub left : Rations → ℕ → List ℕ → Change
left old pid topic = record {
  pid = pid;
  topic = topic;
  rows = filter (λ row. not (is_of topic row)) (rows_of old pid);
  more = nothing;
  less = amount_with (is_of topic) nothing (rows_of old pid);
}

module _ {P B : Type 0} (step : P → (q : Ask) → Answer q → P → Type 0)
    (charged : B → List ℕ → Amount → Result Bool AllocError → B → Type 0) (released : B → List ℕ → Amount → B → Type 0)
    (old new : Books P B) where
  -- The port inside is asked, and nothing is counted.
  abbrev pub Passes : (q : Ask) → Answer q → Type 0
  Passes q a = step old.port q a new.port × (new.rations ≡ old.rations) × (new.budgets ≡ old.budgets)

  -- What the change adds is charged, then the port inside is asked, and then the books are settled.
  abbrev pub Counts : Change → (q : Ask) → Answer q → Type 0
  Counts change q a = (mid : B) × Charged charged old.budgets change.topic change.more mid × step old.port q a new.port
      × Settles released old.rations mid change a new.rations new.budgets

  -- The port inside isn't asked: what the change adds isn't admitted.
  abbrev pub Refuses : Change → {A : Type 0} → Result A Refusal → Type 0
  Refuses change (Ok value) = ⊥
  Refuses change (Err fault) =
      (new.port ≡ old.port) × Admits charged old.rations old.budgets change (Err fault) new.rations new.budgets

  -- A change that fits into the connection's ration is counted or refused, and one that doesn't is refused: nobody is asked.
  abbrev pub CountsIf : Bool → Change → (q : Ask) → Answer q → Type 0
  CountsIf true change q a = Counts change q a ⊎ Refuses change a
  CountsIf false change q a =
      (a ≡ Err OverRation) × (new.port ≡ old.port) × (new.rations ≡ old.rations) × (new.budgets ≡ old.budgets)

  -- The row of a call, which is there or isn't.
  abbrev pub TracksIf : Bool → ℕ → List ℕ → List ℕ → ℕ → (q : Ask) → Answer q → Type 0
  TracksIf true pid t k bytes q a = Passes q a
  TracksIf false pid t k bytes q a =
      CountsIf (has_room t k bytes (rows_of old.rations pid)) (tracked old.rations pid t k bytes) q a

  abbrev pub UpdatesIf : Bool → ℕ → List ℕ → List ℕ → ℕ → (q : Ask) → Answer q → Type 0
  UpdatesIf true pid t k bytes q a =
      CountsIf (has_room t k bytes (rows_of old.rations pid)) (updated old.rations pid t k bytes) q a
  UpdatesIf false pid t k bytes q a = Passes q a

  -- A new row of the caller, and a change of one that is there, has to fit into its ration and into the topic's budget. Any
  -- other call goes through, and what it takes away is given back. It is told by what is asked which call it is.
  abbrev pub RationedAs : ℕ → (asked : Ask) → (q : Ask) → Answer q → Type 0
  RationedAs pid (track t k m) q a =
      TracksIf (has_row t k (rows_of old.rations pid)) pid t k (row_bytes t k m) q a
  RationedAs pid (update t k m) q a =
      UpdatesIf (has_row t k (rows_of old.rations pid)) pid t k (row_bytes t k m) q a
  RationedAs pid (untrack t k) q a = Counts (untracked old.rations pid t k) q a
  RationedAs pid (untrack_all t) q a = Counts (left old.rations pid t) q a
  RationedAs pid _ q a = Passes q a

  abbrev pub Rationed : ℕ → (q : Ask) → Answer q → Type 0
  Rationed pid q a = RationedAs pid q q a
