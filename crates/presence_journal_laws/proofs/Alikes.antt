-- Who is up and who is heard, and what is covered, in histories that say the same.
use Rattle.std.proofs.Common.{◌≡◌, ℕ, ◌+◌, Bool, true, false, not, ◌&&◌, refl, sym, ◌∙◌, ap}
use Rattle.presence_base.specs.declared.dots.Replica.{Replica}
use Rattle.presence_base.specs.declared.dots.Dot.{Dot}
use Rattle.presence_base.specs.Order.{same_replica}
use Rattle.replica_status.specs.Table.{status_of}
use Rattle.presence_journal.specs.History.{History, own, next_dot, standing, status, is_gone, hears, known, covered, IsTop}
use Rattle.presence_journal_known.proofs.StatusLemmas.{status_up, status_other}
use Rattle.presence_journal_laws.specs.Later.{IsLike}

pub and_true : (b : Bool) → (b && true) ≡ b
and_true true = refl
and_true false = refl

pub and_false : (b : Bool) → (b && false) ≡ false
and_false true = refl
and_false false = refl

-- the own replica is up, and the status of another is that of its standing
pub status_from : (g h : History) → own g ≡ own h → ((r : Replica) → same_replica r (own h) ≡ false → standing g r ≡ standing h r) → (r : Replica) → status g r ≡ status h r
status_from g h mine others r = go (same_replica r (own h)) refl
  where
    same : same_replica r (own g) ≡ same_replica r (own h)
    same = ap (same_replica r) mine

    go : (b : Bool) → same_replica r (own h) ≡ b → status g r ≡ status h r
    go true e = sym (status_up g r (same ∙ e)) ∙ status_up h r e
    go false e = sym (status_other g r (same ∙ e)) ∙ (ap status_of (others r e) ∙ status_other h r e)

-- the top of one is that of the other, where both cover the same
pub top_of : (g h : History) (r : Replica) (n : ℕ) → ((d : Dot) → covered g d ≡ covered h d) → IsTop h r n → IsTop g r n
top_of g h r n same t = record {
  below = λ m low high. same (record { replica = r; count = m }) ∙ t.below m low high;
  next = same (record { replica = r; count = n + 1 }) ∙ t.next;
}

-- what is covered of a replica that is not gone is what is known of it
pub known_covered : (h : History) (d : Dot) → is_gone (status h d.replica) ≡ false → known h d ≡ covered h d
known_covered h d there = sym (ap (λ b. known h d && not b) there ∙ and_true (known h d))

module _ (g h : History) (a : IsLike g h) where
  pub status_same : (r : Replica) → status g r ≡ status h r
  status_same = status_from g h a.own a.standings

  pub hears_same : (r : Replica) → hears g r ≡ hears h r
  unfolding hears
  hears_same r = λ i. not (same_replica r (a.own i)) && not (is_gone (status_same r i))

  pub gone_same : (r : Replica) → is_gone (status g r) ≡ is_gone (status h r)
  gone_same r = ap is_gone (status_same r)

  pub known_same : (d : Dot) → is_gone (status h d.replica) ≡ false → known g d ≡ known h d
  known_same d there = known_covered g d (gone_same d.replica ∙ there) ∙ (a.covers d ∙ sym (known_covered h d there))

  pub next_same : next_dot g ≡ next_dot h
  next_same = λ i. record { replica = a.own i; count = a.count i + 1 }
