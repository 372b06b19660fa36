-- What is kept, entry by entry.
use Rattle.std.proofs.Common.{◌≡◌, ℕ, ◌+◌, ◌<◌, ◌≤◌, List, length, get_or, refl, sym, subst}
use Rattle.presence_journal.specs.declared.entry.Entry.{Entry}
use Rattle.presence_journal.specs.declared.entry.Start.{Start}
use Rattle.presence_journal.specs.History.{History, Begin, Then, onto}
use Rattle.presence_journal.specs.Table.{IsLegal}
use Rattle.presence_journal.proofs.Walking.{Reached, reached_none, reached_more, reached_all}
use Rattle.tracker_shown.proofs.TurnLemmas.{at_first}
use Rattle.tracker_index.specs.declared.parts.Parts.{Parts}
use Rattle.tracker_index.specs.declared.parts.Stage.TheVariants.{Done, Begun}
use Rattle.tracker_index.specs.Parts.{IsKeptOf, IsBegun, IsAt, CanGoOn, GoesOn}

-- it is that of so many of the entries
pub record KeptTo (s : Start) (es : List Entry) (i : ℕ) (p : Parts) : Type 0 where
  pub done : p.stage ≡ Done
  pub kept : Reached (onto (Begin s) es) es i (λ h. IsKeptOf h p)

pub kept_none : (s : Start) (es : List Entry) (p : Parts) → p.stage ≡ Done → IsAt p.stage (Begin s) p → KeptTo s es 0 p
kept_none s es p done at = record {
  done = done;
  kept = reached_none s (onto (Begin s) es) es (λ h. IsKeptOf h p) refl (subst (λ x. IsAt x (Begin s) p) done at);
}

-- the parts with an entry begun
abbrev pub begun : Parts → Parts
begun p = record { known = p.known; shown = p.shown; feeds = p.feeds; untold = p.untold; stage = Begun }

begins : (h : History) (e : Entry) (p : Parts) → IsKeptOf h p → IsBegun h e (begun p)
begins h e p k = record { known = k.known; shown = at_first h e p.shown k.shown; feeds = k.feeds; untold = k.untold }

module _ (s : Start) (es : List Entry) (i : ℕ) (e : Entry) (p : Parts) (legal : IsLegal (onto (Begin s) es)) (within : i < length es) (is : e ≡ get_or es i e) (k : KeptTo s es i p) where
  pub can_replay : CanGoOn (begun p) e
  can_replay =
      (reached_more (onto (Begin s) es) es i e (λ h. IsKeptOf h p) (λ g. CanGoOn (begun p) e) legal within is
      (λ h l kept. record { before = h; legal = l; at = begins h e p kept }) k.kept).here

  pub kept_more : (q : Parts) → GoesOn e (begun p) q → q.stage ≡ Done → KeptTo s es (i + 1) q
  kept_more q goes done = record {
    done = done;
    kept = reached_more (onto (Begin s) es) es i e (λ h. IsKeptOf h p) (λ h. IsKeptOf h q) legal within is
        (λ h l kept. subst (λ x. IsAt x (Then h e) q) done (goes h l (begins h e p kept))) k.kept;
  }

pub kept_all : (s : Start) (es : List Entry) (i : ℕ) (p : Parts) → length es ≤ i → KeptTo s es i p → IsAt p.stage (onto (Begin s) es) p
kept_all s es i p far k =
    subst (λ x. IsAt x (onto (Begin s) es) p) (sym k.done) (reached_all (onto (Begin s) es) es i (λ h. IsKeptOf h p) far k.kept)
