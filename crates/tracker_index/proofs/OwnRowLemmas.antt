-- The own rows that are kept are the own live rows of the history.
use Rattle.std.proofs.Common.{◌≡◌, ℕ, ◌+◌, ◌≤◌, min, Bool, true, false, cond, List, Option, Some, None, length, refl, sym, ◌∙◌, ap, subst}
use Rattle.std.specs.Map.{lookup}
use Rattle.presence_base.specs.declared.dots.Replica.{Replica}
use Rattle.presence_base.specs.declared.dots.Dot.{Dot}
use Rattle.presence_base.specs.declared.row.Row.{Row}
use Rattle.presence_base.specs.Order.{same_dot, same_replica}
use Rattle.replica_status.specs.declared.status.Status.{Status}
use Rattle.replica_status.specs.declared.status.Status.TheVariants.{Up}
use Rattle.replica_status.specs.Table.{status_of}
use Rattle.presence_journal.specs.History.{History, own, count, status, standing, is_gone, live}
use Rattle.delta_range.specs.Deltas.{DeltaValue, IsDelta}
use Rattle.presence_journal_cuts.specs.Parting.{AreOwnRows, vacant, rows_above, end_of}
use Rattle.presence_journal_cuts.specs.ToldParts.{IsLargestPart, HasNoPart}
use Rattle.presence_journal_cuts.proofs.PartFacts.{IsMadeOf, made_sound, made_largest, made_none}
use Rattle.tracker_known.specs.Known.{IsKnownOf, AreRowsOf, kept}
use Rattle.tracker_index.specs.Seen.{Seen}
use Rattle.tracker_index.specs.declared.parts.Parts.{Parts}
use Rattle.tracker_index.specs.Parts.{IsSound}
use Rattle.tracker_index.proofs.IndexedLemmas.{seen, kept_seen}

own_rows_at : (h : History) (d : Dot) (o : Option Row) → o ≡ cond (same_replica d.replica (own h)) (kept h d) None → o ≡ cond (same_replica d.replica (own h)) (live h d) None
unfolding status
own_rows_at h d o e = go (same_replica d.replica (own h)) e
  where
    go : (b : Bool) → o ≡ cond b (cond (is_gone (cond b Up (status_of (standing h d.replica)))) None (live h d)) None → o ≡ cond b (live h d) None
    go true f = f
    go false f = f

pub own_rows : (h : History) (r : Replica) (es : List (Dot × Row)) → r ≡ own h → AreRowsOf h r es → AreOwnRows h es
own_rows h r es mine rows = record {
  found = λ d. own_rows_at h d (lookup (same_dot d) es) (rows.found d ∙ ap (λ q. cond (same_replica d.replica q) (kept h d) None) mine);
  in_order = rows.in_order;
}

-- a part that is made of what is kept, of one list of the own rows and another
module _ (s : Seen) (j : History) (p : Parts) (view : seen j p ≡ s) (ready : s.is_ready ≡ true) (sound : IsSound j p) (r : Replica) (last : ℕ) (es fs : List (Dot × Row)) (mine : (h : History) → IsKnownOf h p.known → r ≡ own h)
    (counts : (h : History) → IsKnownOf h p.known → last ≡ count h) (before : (h : History) → IsKnownOf h p.known → AreRowsOf h r es) (rows : (h : History) → IsKnownOf h p.known → AreRowsOf h r fs) where
  same : j ≡ s.history
  same = ap (λ (v : Seen). v.history) view

  known : IsKnownOf j p.known
  known = subst (λ h. IsKnownOf h p.known) (sym same) (kept_seen s j p view ready sound).known

  before_own : AreOwnRows j es
  before_own = own_rows j r es (mine j known) (before j known)

  rows_own : AreOwnRows j fs
  rows_own = own_rows j r fs (mine j known) (rows j known)

  module _ (n from room to : ℕ) (older : List (ℕ × ℕ)) (live : List (Dot × Row)) (begins : from ≡ min n last) (runs : older ≡ vacant from 0 es) (ends : to ≡ end_of from last room fs) (told : live ≡ rows_above from room fs) where
    abbrev d : DeltaValue
    d = record { owner = r; from = from; to = to; older = older; live = live }

    made : IsMadeOf j n es fs room d
    made = record {
      owner = mine j known;
      from = begins ∙ ap (min n) (counts j known);
      to = ends ∙ ap (λ k. end_of from k room fs) (counts j known);
      older = runs;
      live = told;
    }

    pub part_sound_seen : IsDelta d
    part_sound_seen = made_sound j sound.kept.legal es fs before_own rows_own n room d made

    pub part_seen : length older + room + 1 ≡ 65536 → IsLargestPart s.history n d
    part_seen fills = subst (λ h. IsLargestPart h n d) same (made_largest j sound.kept.legal es fs before_own rows_own n room d made fills)

    pub none_seen : 65536 ≤ length older → HasNoPart s.history n
    none_seen many = subst (λ h. HasNoPart h n) same (made_none j sound.kept.legal es fs before_own rows_own n room d made many)
