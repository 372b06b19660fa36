-- A checkpoint says what the history says: the counts, who is up and heard, and what is covered.
use Rattle.std.proofs.Common.{◌≡◌, ◌↔◌, Bool, true, false, cond, not, ◌&&◌, Option, None, refl, sym, ◌∙◌, subst}
use Rattle.presence_base.specs.declared.dots.Replica.{Replica}
use Rattle.presence_base.specs.declared.row.Row.{Row}
use Rattle.presence_base.specs.Order.{same_replica}
use Rattle.delta_range.specs.Keeping.{Kept}
use Rattle.presence_journal.specs.declared.entry.Start.{Start}
use Rattle.presence_journal.specs.History.{History, Begin, own, standing, status, is_gone, known, live}
use Rattle.presence_journal_known.proofs.StatusLemmas.{own-begin}
use Rattle.presence_journal_cuts.specs.KeptDeltas.{AreKeptOf}
use Rattle.presence_journal_cuts.proofs.KeptLemmas.{kept-begin, begin-kept, one_kept}
use Rattle.presence_journal_cuts.specs.Checkpoints.{StandsFor}
use Rattle.presence_journal_laws.specs.Later.{IsLike, BeginsAlike}
use Rattle.presence_journal_laws.specs.Laws.{KeepsCounts, KeepsStatus, KeepsHearing, KeepsCoveredDots, KeepsTop, KeepsKnown}
use Rattle.presence_journal_laws.proofs.Beginnings.{count-begin, number-begin, time-begin, standing-begin, last_cut-begin, known-begin, live-begin, chain-begin, older-begin}
use Rattle.presence_journal_laws.proofs.Alikes.{status_from, status_same, hears_same, known_same, next_same, top_of}

-- of a replica that is gone nothing is covered or kept, once or twice
covered_twice : (a b : Bool) → ((a && b) && b) ≡ (a && b)
covered_twice true true = refl
covered_twice true false = refl
covered_twice false b = refl

kept_twice : (b : Bool) (o : Option Row) → cond b None (cond b None o) ≡ cond b None o
kept_twice true o = refl
kept_twice false o = refl

pub stands_alike : (h : History) (s : Start) → StandsFor h s → IsLike (Begin s) h
stands_alike h s st = record {
  standings = others;
  covers = λ d. (λ i. (known-begin s d ∙ st.covers d) i && not (is_gone (up d.replica i))) ∙ covered_twice (known h d) (not (is_gone (status h d.replica)));
  rows = λ d. (λ i. cond (is_gone (up d.replica i)) None ((live-begin s d ∙ st.rows d) i)) ∙ kept_twice (is_gone (status h d.replica)) (live h d);
  older = λ n low. older-begin s n ∙ st.older n low;
  chains = λ d r o e. chain-begin s d.count ∙ st.chains d r o e;
  unused = λ c l. chain-begin s c ∙ st.unused c l;
  deltas = begin_deltas;
  time = time-begin s ∙ st.time;
  last_cut = last_cut-begin s ∙ st.last_cut;
  own = mine;
  count = count-begin s ∙ st.count;
}
  where
    mine : own (Begin s) ≡ own h
    mine = own-begin s ∙ st.own

    others : (r : Replica) → same_replica r (own h) ≡ false → standing (Begin s) r ≡ standing h r
    others = λ r e. standing-begin s r ∙ st.standings r e

    begin_deltas : (k : Kept) → AreKeptOf (Begin s) k ↔ AreKeptOf h k
    begin_deltas k = (
      λ p. subst (AreKeptOf h) (sym (begin-kept s k p)) st.deltas,
      λ p. kept-begin s k (one_kept h k s.kept p st.deltas),
    )

    up : (r : Replica) → status (Begin s) r ≡ status h r
    up = status_from (Begin s) h mine others

pub begins_alike : BeginsAlike
begins_alike h s c = stands_alike h s c.stands

pub keeps_counts : KeepsCounts
keeps_counts h s c =
    let a = begins_alike h s c in
    record {
      number = number-begin s ∙ c.stands.number;
      time = a.time;
      last_cut = a.last_cut;
      next = next_same (Begin s) h a;
      own = a.own;
      count = a.count;
    }

pub keeps_status : KeepsStatus
keeps_status h s c = status_same (Begin s) h (begins_alike h s c)

pub keeps_hearing : KeepsHearing
keeps_hearing h s c = hears_same (Begin s) h (begins_alike h s c)

pub keeps_covered : KeepsCoveredDots
keeps_covered h s c = (begins_alike h s c).covers

pub keeps_top : KeepsTop
keeps_top h s c r n =
    let covers = (begins_alike h s c).covers in (
      top_of (Begin s) h r n covers,
      top_of h (Begin s) r n (λ d. sym (covers d)),
    )

pub keeps_known : KeepsKnown
keeps_known h s c = known_same (Begin s) h (begins_alike h s c)
