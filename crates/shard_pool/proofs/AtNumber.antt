-- What is behind a call of one shard, as it is said of the shard of that number.
use Rattle.std.proofs.Common.{◌≡◌, ◌<◌, ◌≤◌, ℕ, zero, suc, List, refl, sym, subst, arith}
use Rattle.presence_journal.specs.History.{History, own}
use Rattle.shard_pool.specs.Lines.{Comes, Descends, IsOfLane, IsOfShard}
use Rattle.shard_pool.specs.Unseated.{IsBehind, IsBehindOf}
use Rattle.shard_pool.specs.Seats.{IsBehindAt}

-- that it is of the lane says more
pub out_of_lane : (name node : List ℕ) (Begins Is : History → Type 0) → name ≡ node → IsBehindOf (IsOfShard name Begins) Is → IsBehind node Is
out_of_lane name node Begins Is named b =
    record { history = b.history; legal = b.legal; of_node = subst (λ n. (own b.history).name ≡ n) named b.here.of_node; is = b.is }

-- ---- what comes of one beginning comes of another that it is

module _ (First Here : History → Type 0) (law : (h : History) → First h → Here h) where
  comes_of : (n : ℕ) (h : History) → Comes First n h → Comes Here n h
  comes_of zero h c = law h c
  comes_of (suc n) h c = record { old = c.old; is = comes_of n c.old c.is; follows = c.follows }

  descends : (h : History) → Descends First h → Descends Here h
  descends h d = record { turns = d.turns; comes = comes_of d.turns h d.comes }

  pub line_of : (h : History) → IsOfLane First h → IsOfLane Here h
  line_of h d = ∥∥₁_rec squash₁ (λ x. ∣ descends h x ∣₁) d

  pub shard_of_name : (name node : List ℕ) (h : History) → name ≡ node → IsOfShard name First h → IsOfShard node Here h
  shard_of_name name node h named s = record { of_node = subst (λ n. (own h).name ≡ n) named s.of_node; of_lane = line_of h s.of_lane }

  pub behind_of : (name node : List ℕ) (Is : History → Type 0) → name ≡ node → IsBehindOf (IsOfShard name First) Is → IsBehindOf (IsOfShard node Here) Is
  behind_of name node Is named b = record { history = b.history; legal = b.legal; here = shard_of_name name node b.history named b.here; is = b.is }

-- ---- at the shard of a number

pub last_shard : (s n : ℕ) → s < n → n ≤ 4 → (s ≡ 0 → ⊥) → (s ≡ 1 → ⊥) → (s ≡ 2 → ⊥) → s ≡ 3
last_shard zero n less few a b c = absurd (a refl)
last_shard (suc zero) n less few a b c = absurd (b refl)
last_shard (suc (suc zero)) n less few a b c = absurd (c refl)
last_shard (suc (suc (suc zero))) n less few a b c = refl
last_shard (suc (suc (suc (suc s)))) n less few a b c = absurd (omega (arith, less, few))

module _ (Begins : ℕ → History → Type 0) (First : History → Type 0) (shard : ℕ) (name node : List ℕ) where
  pub at_number : (k : ℕ) (Is : History → Type 0) → shard ≡ k → name ≡ node → ((h : History) → First h → Begins k h) → IsBehindOf (IsOfShard name First) Is → IsBehindAt Begins shard node Is
  at_number k Is same named law b =
      subst (λ (s : ℕ). IsBehindAt Begins s node Is) (sym same) (behind_of First (Begins k) law name node Is named b)

pub ruleset lanes = (out_of_lane)
