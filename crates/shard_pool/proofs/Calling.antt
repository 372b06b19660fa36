-- A call behind the lock of the topic's shard, as the seat sees it.
use Rattle.std.proofs.Common.{◌≡◌, ◌<◌, ◌≤◌, ℕ, zero, suc, Bool, List, refl, sym, subst, arith}
use Rattle.std.specs.Prelude.{◌%◌, sum, Result}
use Rattle.presence_journal.specs.declared.step.Step.{Step}
use Rattle.presence_journal.specs.History.{History}
use Rattle.tracker_shard.specs.declared.fault.ShardFault.{ShardFault}
use Rattle.shard_pool.specs.declared.reply.Reply.{Reply}
use Rattle.shard_pool.specs.Hands.{Hand}
use Rattle.shard_pool.specs.Seated.{Called}
use Rattle.shard_pool.specs.Lines.{IsOfShard}
use Rattle.shard_pool.specs.Seats.{Hands, CalledAt, IsOfShardAt, IsSeated, shard_of}
use Rattle.shard_pool.proofs.AtNumber.{last_shard, shard_of_name}

module _ {A : Type 0} (Begins : ℕ → History → Type 0) (First : History → Type 0) (node name t : List ℕ) (n shard : ℕ) (there : History → Bool) (old : Hands) (x : Hand) (step : Step) (Gives : History → A → Type 0) (r : Result (Reply A) ShardFault) where
  abbrev Here : ℕ → History → Type 0
  Here = IsOfShardAt node Begins

  called_here : (k : ℕ) (h : Hand) → ((j : History) → First j → Begins k j) → name ≡ node → Called (IsOfShard name First) there h x step Gives r → Called (Here k) there h x step Gives r
  called_here k h law named c = record {
    history = c.history;
    left = c.left;
    legal = c.legal;
    here = shard_of_name First (Begins k) law name node c.history named c.here;
    made = c.made;
    notes = c.notes;
    answer = c.answer;
    due = c.due;
  }

  moved : (k : ℕ) (new : Hands) → k ≡ shard_of t n → CalledAt Here there old new k step Gives r → CalledAt Here there old new (shard_of t n) step Gives r
  moved k new is called = subst (λ (s : ℕ). CalledAt Here there old new s step Gives r) is called

  pub called_first : ((h : History) → First h → Begins 0 h) → name ≡ node → shard ≡ shard_of t n → shard ≡ 0 → IsSeated old → Called (IsOfShard name First) there old.first x step Gives r
      → CalledAt Here there old (record { number = old.number; first = x; second = old.second; third = old.third; fourth = old.fourth }) (shard_of t n) step Gives r
  called_first law named is same seated called =
      let new : Hands = record { number = old.number; first = x; second = old.second; third = old.third; fourth = old.fourth } in
      moved 0 new (subst (λ s. s ≡ shard_of t n) same is) (record { others = refl; shard = seated.4; call = called_here 0 old.first law named called })

  pub called_second : ((h : History) → First h → Begins 1 h) → name ≡ node → shard ≡ shard_of t n → shard ≡ 1 → IsSeated old → Called (IsOfShard name First) there old.second x step Gives r
      → CalledAt Here there old (record { number = old.number; first = old.first; second = x; third = old.third; fourth = old.fourth }) (shard_of t n) step Gives r
  called_second law named is same seated called =
      let new : Hands = record { number = old.number; first = old.first; second = x; third = old.third; fourth = old.fourth } in
      moved 1 new (subst (λ s. s ≡ shard_of t n) same is) (record { others = refl; shard = seated.5; call = called_here 1 old.second law named called })

  pub called_third : ((h : History) → First h → Begins 2 h) → name ≡ node → shard ≡ shard_of t n → shard ≡ 2 → IsSeated old → Called (IsOfShard name First) there old.third x step Gives r
      → CalledAt Here there old (record { number = old.number; first = old.first; second = old.second; third = x; fourth = old.fourth }) (shard_of t n) step Gives r
  called_third law named is same seated called =
      let new : Hands = record { number = old.number; first = old.first; second = old.second; third = x; fourth = old.fourth } in
      moved 2 new (subst (λ s. s ≡ shard_of t n) same is) (record { others = refl; shard = seated.6; call = called_here 2 old.third law named called })

  below : shard ≡ shard_of t n → 0 < n → shard < n
  below is some = subst (λ (s : ℕ). s < n) (sym is) (remains (sum t))
    where
      remains : (m : ℕ) → m % n < n
      remains m = grind (arith)

  pub called_fourth : ((h : History) → First h → Begins 3 h) → name ≡ node → shard ≡ shard_of t n → 0 < n → n ≤ 4 → (shard ≡ 0 → ⊥) → (shard ≡ 1 → ⊥) → (shard ≡ 2 → ⊥) → IsSeated old → Called (IsOfShard name First) there old.fourth x step Gives r
      → CalledAt Here there old (record { number = old.number; first = old.first; second = old.second; third = old.third; fourth = x }) (shard_of t n) step Gives r
  called_fourth law named is some few a b c seated called =
      let new : Hands = record { number = old.number; first = old.first; second = old.second; third = old.third; fourth = x } in
      moved 3 new (subst (λ s. s ≡ shard_of t n) (last_shard shard n (below is some) few a b c) is) (record { others = refl; shard = seated.7; call = called_here 3 old.fourth law named called })
