-- Histories that say the same tell the same parts.
use Rattle.std.proofs.Common.{◌≡◌, ℕ, suc, ◌≤◌, min, Bool, true, false, cond, ◌&&◌, nat_lt, nat_le, Option, Some, None, is_none, refl, sym, ◌∙◌, ap, subst, arith, inl, inr}
use Rattle.std.specs.Prelude.{IsSome}
use Rattle.std.proofs.lemmas.Bool.{and_parts}
use Rattle.presence_base.specs.declared.dots.Replica.{Replica}
use Rattle.presence_base.specs.declared.dots.Dot.{Dot}
use Rattle.presence_base.specs.declared.row.Row.{Row}
use Rattle.presence_base.specs.Order.{same_replica}
use Rattle.dot_context.specs.Sets.{in_range}
use Rattle.orswot_core.specs.Full.{dot_of}
use Rattle.delta_range.specs.Deltas.{DeltaValue}
use Rattle.presence_journal.specs.History.{History, Begin, own, count, status, is_gone, live}
use Rattle.presence_journal.proofs.Same.{same_replica-true}
use Rattle.presence_journal.proofs.HistoryLemmas.{status-own}
use Rattle.presence_journal_cuts.specs.ToldParts.{row_of_count, IsPart, GoesFar, IsLargestPart, HasNoPart, IsPartWhereItFits}
use Rattle.presence_journal_laws.specs.Later.{IsLike}
use Rattle.presence_journal_laws.proofs.AlikeRows.{live_same}
use Rattle.presence_journal_laws.proofs.AlikeTold.{turned}
use Rattle.presence_journal_laws.proofs.Covered.{begins_alike}
use Rattle.presence_journal_laws.specs.PartsStay.{KeepsParts, KeepsLargestParts}

module _ (g h : History) (a : IsLike g h) where
  own_there : (d : Dot) → d.replica ≡ own h → is_gone (status h d.replica) ≡ false
  own_there d o = ap (λ r. is_gone (status h r)) o ∙ ap is_gone (status-own h)

  row_same : (c : ℕ) → row_of_count g c ≡ row_of_count h c
  row_same c = ap (λ r. live g (dot_of r c)) a.own ∙ live_same g h a (dot_of (own h) c) (own_there (dot_of (own h) c) refl)

  rows_same : (from to : ℕ) (d : Dot) → cond (in_range (own g) from to d) (live g d) None ≡ cond (in_range (own h) from to d) (live h d) None
  rows_same from to d = ap (λ r. cond (in_range r from to d) (live g d) None) a.own ∙ go (in_range (own h) from to d) refl
    where
      go : (b : Bool) → in_range (own h) from to d ≡ b → cond b (live g d) None ≡ cond b (live h d) None
      go true e =
          let p = and_parts (same_replica d.replica (own h)) (nat_lt from d.count && nat_le d.count to) e in
          live_same g h a d (own_there d (same_replica-true d.replica (own h) p.0))
      go false e = refl

  part_of : (n : ℕ) (d : DeltaValue) → IsPart g n d → IsPart h n d
  part_of n d p = record {
    owner = p.owner ∙ a.own;
    from = p.from ∙ ap (min n) a.count;
    to = omega (arith, p.to, a.count);
    before = λ c low. p.before c low ∙ ap (λ o. nat_le c d.from && is_none o) (row_same c);
    rows = λ x. p.rows x ∙ rows_same d.from d.to x;
    in_order = p.in_order;
  }

  far_of : (d : DeltaValue) → GoesFar g d → GoesFar h d
  far_of d (inl e) = inl (e ∙ a.count)
  far_of d (inr p) = inr (subst IsSome (row_same (suc d.to)) p.0, p.1)

  none_of : (n : ℕ) → HasNoPart g n → HasNoPart h n
  none_of n p = (p.0, p.1, part_of n p.0 p.2, p.3, p.4)

  largest_of : (n : ℕ) (o : Option DeltaValue) → IsPartWhereItFits g n o → IsPartWhereItFits h n o
  largest_of n None p = none_of n p
  largest_of n (Some d) p = record { part = part_of n d p.part; fits = p.fits; far = far_of d p.far }

pub keeps_parts : KeepsParts
keeps_parts h s c n d =
    let a = begins_alike h s c in (
      part_of h (Begin s) (turned (Begin s) h a) n d,
      part_of (Begin s) h a n d,
    )

pub keeps_largest_parts : KeepsLargestParts
keeps_largest_parts h s c n o =
    let a = begins_alike h s c in (
      largest_of h (Begin s) (turned (Begin s) h a) n o,
      largest_of (Begin s) h a n o,
    )
