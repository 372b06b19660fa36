-- The kept deltas stay true, and so what is told from a count on; all of a history stays true behind an entry.
use Rattle.orswot_core.specs.declared.form.Form.{Form}
use Rattle.orswot_core.specs.declared.form.Form.TheVariants.{One}
use Rattle.std.proofs.Common.{◌≡◌, ℕ, Bool, true, false, cond, ◌&&◌, nat_le, Option, Some, None, refl, sym, ◌∙◌, subst}
use Rattle.presence_base.specs.declared.dots.Replica.{Replica}
use Rattle.presence_base.specs.Names.{guarded}
use Rattle.delta_range.specs.Deltas.{DeltaValue, telling, IsDelta, GoesOn}
use Rattle.delta_range.specs.Fitting.{fits_line}
use Rattle.delta_range.specs.Joining.{joined}
use Rattle.delta_range.specs.Keeping.{Kept, size, alone, grown, pushed, IsNext, begun, first_of_both, from_count}
use Rattle.delta_range.proofs.JoinFacts.{joined_keeps}
use Rattle.presence_journal.specs.declared.entry.Outcome.TheVariants as outcomes_are
use Rattle.presence_journal.specs.declared.entry.Outcome.{Outcome}
use Rattle.presence_journal.specs.History.{History, Then, own, nothing_kept}
use Rattle.presence_journal.proofs.HistoryLemmas.{own-then}
use Rattle.presence_journal_cuts.specs.KeptDeltas.{KeepsAfter, AreKeptOf, TellsOrAll}
use Rattle.presence_journal_cuts.proofs.KeptLemmas.{then-kept, next_cut}
use Rattle.presence_journal_laws.specs.Deeds.{AllDeeds, with_entry}
use Rattle.presence_journal_laws.specs.Truth.{AreDeeds, TellsTrue, IsOwners, IsClosed, IsTrueKept, AreTrueKept, IsTrueOf}
use Rattle.presence_journal_laws.specs.DeedLaws.{then_did, EntriesStayTrue, KeptTellTrue}
use Rattle.presence_journal_laws.proofs.More.{put_same, entries_go_on, kept_stays}
use Rattle.presence_journal_laws.proofs.Entries.{honest_then, owners_then}
use Rattle.presence_journal_laws.proofs.Closed.{closed_then}
use Rattle.presence_journal_laws.proofs.Telling.{cuts_tell_true, delta_tells_alike, fulls_tell_true, joined_tells}

-- ---- a cut is pushed

-- the delta goes on from what was kept
goes_on : (last : Option (Replica × ℕ)) (a c : DeltaValue) → last ≡ Some (a.owner, a.to) → IsNext last c → GoesOn a.owner a.to c
goes_on last a c e n = subst (λ (o : Option (Replica × ℕ)). IsNext o c) e n

module _ (deeds : AllDeeds) (c : DeltaValue) (dc : IsDelta c) (tc : TellsTrue deeds (telling c)) where
  alone_true : (cap : ℕ) → IsTrueKept deeds (Some (c.owner, c.to)) (alone cap c)
  alone_true cap = go (nat_le (size c) cap)
    where
      go : (b : Bool) → IsTrueKept deeds (Some (c.owner, c.to)) (guarded b c)
      go true = (dc, tc, refl)
      go false = tt

  grown_true : (cap : ℕ) (last : Option (Replica × ℕ)) (o : Option DeltaValue) → IsNext last c → IsTrueKept deeds last o → IsTrueKept deeds (Some (c.owner, c.to)) (grown cap o c)
  unfolding joined
  grown_true cap last None n k = alone_true cap
  grown_true cap last (Some a) n k = go (nat_le (size (joined a c)) cap)
    where
      on : GoesOn a.owner a.to c
      on = goes_on last a c k.2 n

      both : IsTrueKept deeds (Some (c.owner, c.to)) (Some (joined a c))
      both = (joined_keeps a c k.0 dc on, joined_tells deeds a c k.0 dc on k.1 tc, λ i. Some (on.owned i, c.to))

      go : (b : Bool) → IsTrueKept deeds (Some (c.owner, c.to)) (cond b (Some (joined a c)) (alone cap c))
      go true = both
      go false = alone_true cap

  pushed_true : (k : Kept) → IsNext k.last c → AreTrueKept deeds k → AreTrueKept deeds (pushed k c)
  pushed_true k n t = record {
    short = grown_true _ k.last k.short n t.short;
    middle = grown_true _ k.last k.middle n t.middle;
    long = grown_true _ k.last k.long n t.long;
  }

-- ---- behind an entry

-- nothing is kept that could be false
pub nothing_true : {deeds : AllDeeds} → AreTrueKept deeds nothing_kept
nothing_true = record { short = tt; middle = tt; long = tt }

kept_after : (deeds : AllDeeds) (h : History) (o : Outcome) (k : Kept) → ((r : Replica) → AreDeeds (deeds r)) → IsTrueOf deeds h → KeepsAfter o (AreKeptOf h) h k → AreTrueKept deeds k
kept_after deeds h (outcomes_are.CutAt from to) k are t p =
    subst (AreTrueKept deeds) (sym p.is)
    (pushed_true deeds p.delta p.sound (cuts_tell_true deeds h p.delta are t p.cut p.sound One) p.before (next_cut h p.before p.delta t.legal p.was p.cut) (t.kept p.before p.was))
kept_after deeds h (outcomes_are.Reborn pairs) k are t p = subst (AreTrueKept deeds) (sym p) nothing_true
kept_after deeds h _ k are t p = t.kept k p

pub entries_stay_true : EntriesStayTrue
entries_stay_true deeds h e are t l lasts hears = record {
  legal = l;
  honest = honest_then deeds h e are t l lasts hears;
  owners = subst (λ x. IsOwners x (Then h e)) (sym same) (owners_then deeds h e are t l lasts);
  closed = subst (λ x. IsClosed x (Then h e)) (sym same) (closed_then (deeds (own h)) h e (are (own h)) l lasts t.owners t.closed);
  kept = λ k f. kept_stays deeds (then_did deeds h e) k (entries_go_on deeds h e t) (kept_after deeds h e.outcome k are t (then-kept h e k f));
}
  where
    same : then_did deeds h e (own (Then h e)) ≡ with_entry (deeds (own h)) h e
    same = put_same (own h) (own (Then h e)) (with_entry (deeds (own h)) h e) deeds (own-then h e lasts)

-- ---- from a count on

begun_true : (deeds : AllDeeds) (form : Form) (n : ℕ) (last : Option (Replica × ℕ)) (o : Option DeltaValue) (d : DeltaValue) → IsTrueKept deeds last o → begun form n o ≡ Some d → TellsTrue deeds (telling d)
begun_true deeds form n last None d k f = absurd (cc)
begun_true deeds form n last (Some a) d k f = go (nat_le a.from n && fits_line form a) f
  where
    go : (b : Bool) → guarded b a ≡ Some d → TellsTrue deeds (telling d)
    go true g = let same : a ≡ d = cc in subst (λ (z : DeltaValue). TellsTrue deeds (telling z)) same k.1
    go false g = absurd (cc)

from_true : (deeds : AllDeeds) (form : Form) (k : Kept) (n : ℕ) (d : DeltaValue) → AreTrueKept deeds k → from_count form k n ≡ Some d → TellsTrue deeds (telling d)
from_true deeds form k n d t f = first (begun form n k.short) (begun form n k.middle) (begun form n k.long) refl refl refl f
  where
    first : (a b c : Option DeltaValue) → begun form n k.short ≡ a → begun form n k.middle ≡ b → begun form n k.long ≡ c → first_of_both a (first_of_both b c) ≡ Some d → TellsTrue deeds (telling d)
    first (Some x) b c p q r g = begun_true deeds form n k.last k.short d t.short (p ∙ g)
    first None (Some x) c p q r g = begun_true deeds form n k.last k.middle d t.middle (q ∙ g)
    first None None c p q r g = begun_true deeds form n k.last k.long d t.long (r ∙ g)

pub kept_tell_true : KeptTellTrue
kept_tell_true deeds h form n u t f = go (from_count form f.kept n) refl f.tells
  where
    go : (o : Option DeltaValue) → from_count form f.kept n ≡ o → TellsOrAll form o h u → TellsTrue deeds u
    go (Some d) p g = subst (TellsTrue deeds) (sym g) (delta_tells_alike deeds form d (from_true deeds form f.kept n d (t.kept f.kept f.of) p))
    go None p g = fulls_tell_true deeds h form u t g
