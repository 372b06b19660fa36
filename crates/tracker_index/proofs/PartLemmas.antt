-- How what is kept goes on from stage to stage.
use Rattle.std.proofs.Common.{◌≡◌, Bool, true, false, cond, List, None, refl, sym, ◌∙◌, ap, subst}
use Rattle.std.specs.Map.{lookup}
use Rattle.presence_base.specs.declared.dots.Replica.{Replica}
use Rattle.presence_base.specs.declared.dots.Dot.{Dot}
use Rattle.presence_base.specs.declared.row.Row.{Row}
use Rattle.presence_base.specs.Order.{same_dot, same_replica}
use Rattle.presence_journal.specs.declared.entry.Outcome.TheVariants as outcomes_are
use Rattle.presence_journal.specs.declared.entry.Outcome.{Outcome}
use Rattle.presence_journal.specs.declared.entry.Entry.{Entry}
use Rattle.presence_journal.specs.History.{History, Then, begun, own, own_after, live}
use Rattle.presence_journal.specs.Walk.{is_reborn}
use Rattle.presence_journal.proofs.Same.{same_replica-true}
use Rattle.orswot_core.specs.Sets.{DotRows}
use Rattle.presence_journal_known.specs.LeftOut.{HoldsCovered}
use Rattle.presence_journal_cuts.specs.Reborn.{own_live}
use Rattle.tracker_known.proofs.SetLemmas.{not_gone_own}
use Rattle.tracker_shown.specs.declared.turn.Turn.{Turn}
use Rattle.tracker_shown.specs.Turns.{IsTurn}
use Rattle.tracker_known.specs.Known.{IsKnownOf, IsOfOne, AreRowsOf, CanFollow, Follows, Stays, kept}
use Rattle.tracker_known.specs.Turns.{TurnsEntry}
use Rattle.tracker_shown.specs.declared.shown.Shown.{Shown}
use Rattle.tracker_shown.specs.Kept.{IsShownOf}
use Rattle.tracker_shown.specs.ShownTurns.{BringsUp, StaysBetween}
use Rattle.tracker_shown.proofs.TurnLemmas.{at_first, at_last, goes_on as shown_next}
use Rattle.presence_journal_cuts.specs.Untold as cuts
use Rattle.tracker_feeds.specs.Fed.{SameFed, IsFedBy}
use Rattle.tracker_feeds.specs.Laws.{SameIsFed}
use Rattle.tracker_index.specs.declared.parts.Parts.{Parts}
use Rattle.tracker_index.specs.declared.parts.Stage.TheVariants.{Done, Begun, Delivered, Learned}
use Rattle.tracker_index.specs.Parts.{IsKeptOf, IsBegun, IsDelivered, IsLearned, IsAt, CanGoOn, GoesOn, CanFeed, FeedsFollow, OwnAfter, IsUntoldAgain}

-- a new entry is begun
pub begins : (h : History) (e : Entry) (p : Parts) → IsKeptOf h p → IsBegun h e p
begins h e p k = record { known = k.known; shown = at_first h e p.shown k.shown; feeds = k.feeds; untold = k.untold }

-- the own replica after the entry
own_next : (h : History) (e : Entry) (p : Parts) (o : Replica) → o ≡ own_after e.step (own h) → o ≡ own (Then h e)
unfolding own
own_next h e p o is = is

-- what is shown and what waits was brought up
pub delivered : (e : Entry) (p q : Parts) (turn : Turn) (o : Replica) (mid : Shown) → p.stage ≡ Begun → TurnsEntry p.known e turn → OwnAfter p.known e o → BringsUp o turn p.shown mid → q.shown.own ≡ o → q.shown.rows ≡ mid.rows → FeedsFollow e turn p.feeds q.feeds → q.known ≡ p.known → q.untold ≡ p.untold → q.stage ≡ Delivered → GoesOn e p q
delivered e p q turn o mid begun turns owns brings own_is rows follow same rest to h legal at =
    let b : IsBegun h e p = subst (λ s. IsAt s (Then h e) p) begun at in
    let is : IsTurn h e turn = turns h legal b.known in
    let mine : o ≡ own (Then h e) = own_next h e p o (owns h b.known) in
    subst (λ s. IsAt s (Then h e) q) (sym to) (record {
      known = subst (IsKnownOf h) (sym same) b.known;
      shown = shown_next h e o mid q.shown mine own_is rows (brings h e legal mine is b.shown);
      feeds = follow h legal is b.feeds;
      untold = subst (cuts.IsUntoldOf h) (sym rest) b.untold;
    })

-- memory ran out before all rows were shown
pub half_shown : (e : Entry) (p q : Parts) (turn : Turn) (o : Replica) → p.stage ≡ Begun → TurnsEntry p.known e turn → OwnAfter p.known e o → StaysBetween o turn p.shown q.shown → q.feeds ≡ p.feeds → q.known ≡ p.known → q.untold ≡ p.untold → q.stage ≡ Begun → GoesOn e p q
half_shown e p q turn o begun turns owns stays fed same rest to h legal at =
    let b : IsBegun h e p = subst (λ s. IsAt s (Then h e) p) begun at in
    let is : IsTurn h e turn = turns h legal b.known in
    subst (λ s. IsAt s (Then h e) q) (sym to) (record {
      known = subst (IsKnownOf h) (sym same) b.known;
      shown = stays h e (own_next h e p o (owns h b.known)) is b.shown;
      feeds = subst (IsFedBy h) (sym fed) b.feeds;
      untold = subst (cuts.IsUntoldOf h) (sym rest) b.untold;
    })

-- memory ran out before what waits was brought up
pub not_fed : (e : Entry) (p q : Parts) (turn : Turn) (o : Replica) → SameIsFed → p.stage ≡ Begun → TurnsEntry p.known e turn → OwnAfter p.known e o → BringsUp o turn p.shown q.shown → SameFed p.feeds q.feeds → q.known ≡ p.known → q.untold ≡ p.untold → q.stage ≡ Begun → GoesOn e p q
not_fed e p q turn o law begun turns owns brings fed same rest to h legal at =
    let b : IsBegun h e p = subst (λ s. IsAt s (Then h e) p) begun at in
    let is : IsTurn h e turn = turns h legal b.known in
    subst (λ s. IsAt s (Then h e) q) (sym to) (record {
      known = subst (IsKnownOf h) (sym same) b.known;
      shown = at_last h e q.shown (brings h e legal (own_next h e p o (owns h b.known)) is b.shown);
      feeds = law h p.feeds q.feeds fed b.feeds;
      untold = subst (cuts.IsUntoldOf h) (sym rest) b.untold;
    })

-- what is known was brought up
pub learned : (e : Entry) (p q : Parts) → p.stage ≡ Delivered → Follows p.known e q.known → q.shown ≡ p.shown → q.feeds ≡ p.feeds → q.untold ≡ p.untold → q.stage ≡ Learned → GoesOn e p q
learned e p q before follows seen fed rest to h legal at =
    let d : IsDelivered h e p = subst (λ s. IsAt s (Then h e) p) before at in
    subst (λ s. IsAt s (Then h e) q) (sym to) (record {
      known = follows h legal d.known;
      shown = subst (IsShownOf (Then h e)) (sym seen) d.shown;
      feeds = subst (IsFedBy (Then h e)) (sym fed) d.feeds;
      untold = subst (cuts.IsUntoldOf h) (sym rest) d.untold;
    })

-- memory ran out before that
pub not_learned : (e : Entry) (p q : Parts) → p.stage ≡ Delivered → Stays p.known q.known → q.shown ≡ p.shown → q.feeds ≡ p.feeds → q.untold ≡ p.untold → q.stage ≡ Delivered → GoesOn e p q
not_learned e p q before stays seen fed rest to h legal at =
    let d : IsDelivered h e p = subst (λ s. IsAt s (Then h e) p) before at in
    subst (λ s. IsAt s (Then h e) q) (sym to) (record {
      known = stays h d.known;
      shown = subst (IsShownOf (Then h e)) (sym seen) d.shown;
      feeds = subst (IsFedBy (Then h e)) (sym fed) d.feeds;
      untold = subst (cuts.IsUntoldOf h) (sym rest) d.untold;
    })

-- what is untold was brought up
pub finished : (e : Entry) (p q : Parts) (s : DotRows) → p.stage ≡ Learned → ((h : History) → IsKnownOf h p.known → HoldsCovered h s) → cuts.Follows p.untold e s q.untold → q.known ≡ p.known → q.shown ≡ p.shown → q.feeds ≡ p.feeds → q.stage ≡ Done → GoesOn e p q
finished e p q s before covered follows same seen fed to h legal at =
    let l : IsLearned h e p = subst (λ s. IsAt s (Then h e) p) before at in
    subst (λ s. IsAt s (Then h e) q) (sym to) (record {
      known = subst (IsKnownOf (Then h e)) (sym same) l.known;
      shown = subst (IsShownOf (Then h e)) (sym seen) l.shown;
      feeds = subst (IsFedBy (Then h e)) (sym fed) l.feeds;
      untold = follows h legal (covered (Then h e) l.known) l.untold;
    })

-- what is untold was made anew behind a rebirth
pub finished_again : (e : Entry) (p q : Parts) → p.stage ≡ Learned → is_reborn e.outcome ≡ true → IsUntoldAgain p.known q.untold → q.known ≡ p.known → q.shown ≡ p.shown → q.feeds ≡ p.feeds → q.stage ≡ Done → GoesOn e p q
finished_again e p q before again untold same seen fed to h legal at =
    let l : IsLearned h e p = subst (λ s. IsAt s (Then h e) p) before at in
    subst (λ s. IsAt s (Then h e) q) (sym to) (record {
      known = subst (IsKnownOf (Then h e)) (sym same) l.known;
      shown = subst (IsShownOf (Then h e)) (sym seen) l.shown;
      feeds = subst (IsFedBy (Then h e)) (sym fed) l.feeds;
      untold = untold h e legal again l.known;
    })

-- the rows that are kept of the own replica are the own live ones
pub rows_live : (h : History) (o : Replica) (es : List (Dot × Row)) → o ≡ own h → AreRowsOf h o es → (d : Dot) → lookup (same_dot d) es ≡ own_live h d
rows_live h o es mine rows d =
    rows.found d
    ∙ (ap (λ r. cond (same_replica d.replica r) (kept h d) None) mine
    ∙ go (same_replica d.replica (own h)) refl)
  where
    go : (b : Bool) → same_replica d.replica (own h) ≡ b → cond b (kept h d) None ≡ cond b (live h d) None
    go false f = refl
    go true f = ap (λ c. cond c None (live h d)) (not_gone_own h d (same_replica-true d.replica (own h) f))

-- what is known of one history
pub known_of_one : (p : Parts) (e : Entry) → CanGoOn p e → p.stage ≡ Learned → IsOfOne p.known
known_of_one p e c before =
    let l : IsLearned c.before e p = subst (λ s. IsAt s (Then c.before e) p) before c.at in
    record { history = Then c.before e; legal = c.legal; known = l.known }

-- any outcome but a rebirth's
pub rest_is_plain : (o : Outcome) → ((ps : List (Dot × Dot)) → o ≡ outcomes_are.Reborn ps → ⊥) → is_reborn o ≡ false
rest_is_plain (outcomes_are.Reborn ps) f = absurd (f ps refl)
rest_is_plain _ f = refl

-- memory ran out before that
pub not_finished : (e : Entry) (p q : Parts) → p.stage ≡ Learned → cuts.Stays p.untold q.untold → q.known ≡ p.known → q.shown ≡ p.shown → q.feeds ≡ p.feeds → q.stage ≡ Learned → GoesOn e p q
not_finished e p q before stays same seen fed to h legal at =
    let l : IsLearned h e p = subst (λ s. IsAt s (Then h e) p) before at in
    subst (λ s. IsAt s (Then h e) q) (sym to) (record {
      known = subst (IsKnownOf (Then h e)) (sym same) l.known;
      shown = subst (IsShownOf (Then h e)) (sym seen) l.shown;
      feeds = subst (IsFedBy (Then h e)) (sym fed) l.feeds;
      untold = stays h l.untold;
    })

-- one part after another
pub goes_on : (e : Entry) (p q r : Parts) → GoesOn e p q → GoesOn e q r → GoesOn e p r
goes_on e p q r one two h legal at = two h legal (one h legal at)

-- What the parts ask for.

pub can_feed : (p : Parts) (e : Entry) → CanGoOn p e → p.stage ≡ Begun → CanFeed p.feeds e
can_feed p e c begun =
    let b : IsBegun c.before e p = subst (λ s. IsAt s (Then c.before e) p) begun c.at in
    record { before = c.before; legal = c.legal; fed = b.feeds }

pub can_follow : (p : Parts) (e : Entry) → CanGoOn p e → p.stage ≡ Delivered → CanFollow p.known e
can_follow p e c before =
    let d : IsDelivered c.before e p = subst (λ s. IsAt s (Then c.before e) p) before c.at in
    record { before = c.before; legal = c.legal; known = d.known }

pub can_finish : (p : Parts) (e : Entry) → CanGoOn p e → p.stage ≡ Learned → cuts.CanFollow p.untold e
can_finish p e c before =
    let l : IsLearned c.before e p = subst (λ s. IsAt s (Then c.before e) p) before c.at in
    record { before = c.before; legal = c.legal; kept = l.untold }

pub can_still : (p q : Parts) (e : Entry) → CanGoOn p e → GoesOn e p q → CanGoOn q e
can_still p q e c goes = record { before = c.before; legal = c.legal; at = goes c.before c.legal c.at }
