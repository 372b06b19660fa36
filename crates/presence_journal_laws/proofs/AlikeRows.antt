-- What is live, shown, removed and present in histories that say the same.
use Rattle.std.proofs.Common.{◌≡◌, true, false, cond, List, ℕ, Option, None, refl, sym, ◌∙◌, ap}
use Rattle.presence_base.specs.declared.dots.Dot.{Dot}
use Rattle.presence_base.specs.declared.row.Row.{Row}
use Rattle.replica_status.specs.declared.status.Status.{Status}
use Rattle.replica_status.specs.declared.status.Status.TheVariants as status_is
use Rattle.presence_journal.specs.History.{History, status, is_up, is_gone, known as is_known, removed, row, live, shown}
use Rattle.presence_journal.specs.Present.{of_topic, present, listed, in_order}
use Rattle.presence_journal.specs.Table.{IsLegal}
use Rattle.presence_journal.proofs.Fold.{same_present}
use Rattle.presence_journal.proofs.Merges.{removed_is_known, known_is_live_or_removed}
use Rattle.presence_journal_cuts.specs.Checkpoints.{kept_row}
use Rattle.presence_journal_laws.specs.Later.{IsLike}
use Rattle.presence_journal_cuts.proofs.Sound.{one_truth}
use Rattle.presence_journal_laws.proofs.Alikes.{status_same, gone_same, known_same}

-- the row of a removed dot is not live
pub removed-live : (h : History) (d : Dot) → removed h d ≡ true → live h d ≡ None
unfolding live
removed-live h d e = ap (λ b. cond b None (row h d)) e

-- a replica that is up is not gone
up_only : (x : Status) (o : Option Row) → cond (is_up x) (cond (is_gone x) None o) None ≡ cond (is_up x) o None
up_only status_is.Unheard o = refl
up_only status_is.Up o = refl
up_only status_is.Down o = refl
up_only status_is.Gone o = refl

pub shown-kept : (h : History) (d : Dot) → cond (is_up (status h d.replica)) (kept_row h d) None ≡ shown h d
unfolding shown
shown-kept h d = up_only (status h d.replica) (live h d)

-- what is kept of a replica that is not gone is what is live
pub kept-live : (h : History) (d : Dot) → is_gone (status h d.replica) ≡ false → kept_row h d ≡ live h d
kept-live h d there = ap (λ b. cond b None (live h d)) there

module _ (g h : History) (a : IsLike g h) where
  pub live_same : (d : Dot) → is_gone (status h d.replica) ≡ false → live g d ≡ live h d
  live_same d there = sym (kept-live g d (gone_same g h a d.replica ∙ there)) ∙ (a.rows d ∙ kept-live h d there)

  pub shown_same : (d : Dot) → shown g d ≡ shown h d
  shown_same d = sym (shown-kept g d) ∙ ((λ i. cond (is_up (status_same g h a d.replica i)) (a.rows d i) None) ∙ shown-kept h d)

  pub present_same : (t : List ℕ) → present g t ≡ present h t
  present_same t = same_present g h t (λ d. ap (of_topic t) (shown_same d))

  pub listed_same : (t : List ℕ) → listed g t ≡ listed h t
  listed_same t = ap in_order (present_same t)

  -- a dot is removed in both, or in neither
  pub removed_same : IsLegal g → IsLegal h → (d : Dot) → is_gone (status h d.replica) ≡ false → removed g d ≡ removed h d
  removed_same lg lh d there = one_truth (removed g d) (removed h d)
      (λ e. known_is_live_or_removed h lh d (sym knows ∙ removed_is_known g lg d e) (sym rows ∙ removed-live g d e))
      (λ e. known_is_live_or_removed g lg d (knows ∙ removed_is_known h lh d e) (rows ∙ removed-live h d e))
    where
      knows : is_known g d ≡ is_known h d
      knows = known_same g h a d there

      rows : live g d ≡ live h d
      rows = live_same d there
