-- Whether a life is caught up, by what its shard answers.
use Rattle.std.proofs.Common.{◌≡◌, ℕ, ◌+◌, ◌<◌, ◌≤◌, true, false, not, nat_le, refl, sym, ◌∙◌, ap, arith, leb-true, inl, inr, Decides, le-leb}
use Rattle.std.specs.Prelude.{◌⊎◌}
use Rattle.std.proofs.lemmas.Bool.{and_parts, and_from, both_ways, cases_lt}
use Rattle.presence_base.specs.declared.dots.Replica.{Replica}
use Rattle.orswot_core.specs.Full.{dot_of}
use Rattle.replica_status.specs.declared.status.Status.{Status}
use Rattle.replica_status.specs.declared.status.Status.TheVariants as status_is
use Rattle.presence_journal.specs.History.{History, status, is_up, is_gone, known, covered, IsTop}
use Rattle.node_world.specs.Claims.{IsCaughtUp}

up_kept : (s : Status) → is_up s ≡ true → is_gone s ≡ false
up_kept status_is.Up f = refl
up_kept status_is.Down f = absurd (cc)
up_kept status_is.Gone f = absurd (cc)
up_kept status_is.Unheard f = absurd (cc)

up_is : (s : Status) → is_up s ≡ true → s ≡ status_is.Up
up_is status_is.Up f = refl
up_is status_is.Down f = absurd (cc)
up_is status_is.Gone f = absurd (cc)
up_is status_is.Unheard f = absurd (cc)

-- a replica that is not up
pub not_up : (h : History) (r : Replica) (n : ℕ) (s : Status) → s ≡ status h r → (s ≡ status_is.Up → ⊥) → IsCaughtUp h r n → ⊥
not_up h r n s e apart c = apart (e ∙ up_is (status h r) c.up)

all_known : (h : History) (r : Replica) (n t : ℕ) → status_is.Up ≡ status h r → IsTop h r t → n ≤ t → IsCaughtUp h r n
all_known h r n t e top l = record {
  all = λ c pos m. (and_parts (known h (dot_of r c)) (not (is_gone (status h r))) (top.below c (omega (arith, pos)) (omega (arith, m, l)))).0;
  up = ap is_up (sym e);
}

some_unknown : (h : History) (r : Replica) (n t : ℕ) → IsTop h r t → t < n → IsCaughtUp h r n → ⊥
some_unknown h r n t top l c =
    let k : known h (dot_of r (t + 1)) ≡ true = c.all (t + 1) (omega arith) (omega (arith, l)) in
    both_ways (covered h (dot_of r (t + 1))) top.next (and_from (known h (dot_of r (t + 1))) (not (is_gone (status h r))) k (ap not (up_kept (status h r) c.up)))

pub level : (h : History) (r : Replica) (n t : ℕ) → status_is.Up ≡ status h r → IsTop h r t → Decides (nat_le n t) (IsCaughtUp h r n)
level h r n t e top = (λ f. all_known h r n t e top (leb-true n t f), λ c. go c (cases_lt t n))
  where
    go : IsCaughtUp h r n → (t < n) ⊎ (n ≤ t) → nat_le n t ≡ true
    go c (inl l) = absurd (some_unknown h r n t top l c)
    go c (inr l) = le-leb n t l

pub ruleset asked = (not_up, level)
