-- Entries that change no more than what waits.
use Rattle.std.proofs.Common.{◌≡◌, ℕ, ◌+◌, Bool, true, false, cond, not, ◌&&◌, List, [], Option, Some, None, refl, sym, ◌∙◌, ap, subst, arith, inl, inr}
use Rattle.std.specs.Prelude.{◌⊎◌}
use Rattle.std.proofs.lemmas.Bool.{and_parts}
use Rattle.std.proofs.lemmas.Option.{same_Some}
use Rattle.presence_base.specs.declared.dots.Dot.{Dot}
use Rattle.presence_base.specs.declared.row.Row.{Row}
use Rattle.presence_journal.specs.declared.rows.Place.{Place}
use Rattle.presence_journal.specs.declared.step.Step.TheVariants as steps_are
use Rattle.presence_journal.specs.declared.entry.Outcome.TheVariants as outcomes_are
use Rattle.presence_journal.specs.declared.step.Step.{Step}
use Rattle.presence_journal.specs.declared.entry.Outcome.{Outcome}
use Rattle.presence_journal.specs.declared.entry.Entry.{Entry}
use Rattle.presence_journal.specs.History.{History, Then, own, shown, counts_used, has_dot, first_some, row_added, last_number}
use Rattle.presence_journal.specs.Laws.{is_callers}
use Rattle.presence_journal.specs.Present.{of_topic, present, listed, dots_of, dots_taken}
use Rattle.presence_journal.specs.Queue.{Waiting, Behind, Queued, queue, topic_of}
use Rattle.presence_journal.specs.Table.{IsLegal, listed_key, take_outcome, for_present, outcome_of}
use Rattle.presence_journal.specs.Walk.{keyed}
use Rattle.presence_journal.proofs.HistoryLemmas.{is_quiet, quiet_row, quiet_taken, kind_of, callers_plain, own-then, legal_knows, shown_by}
use Rattle.presence_journal.proofs.PresentLemmas.{get-present}
use Rattle.presence_journal.proofs.Walking.{quiet_uses_none}
use Rattle.presence_journal_cuts.specs.KeptDeltas.{renews_kept}
use Rattle.presence_journal_cuts.specs.Untold.{IsUntoldOf}
use Rattle.presence_journal_cuts.proofs.Passing.{untold_passes}
use Rattle.tracker_known.specs.declared.known.Known.{Known}
use Rattle.tracker_known.specs.Known.{IsKnownOf}
use Rattle.tracker_known.specs.Picks.{picked}
use Rattle.tracker_known.proofs.GatherLemmas.{none_list}
use Rattle.tracker_known.proofs.KnownLemmas.{follows_own}
use Rattle.tracker_known.proofs.KnownTurns.{turn_own}
use Rattle.tracker_known.proofs.SetLemmas.{takes_quiet}
use Rattle.tracker_shown.specs.declared.shown.Shown.{Shown}
use Rattle.tracker_shown.specs.declared.stand.Holder.{Holder}
use Rattle.tracker_shown.specs.declared.turn.Turn.{Turn}
use Rattle.tracker_shown.specs.Turns.{IsTurn}
use Rattle.tracker_shown.specs.Kept.{held_by, held, IsBetween, IsEither, IsShownOf, kept_at}
use Rattle.tracker_feeds.specs.Fed.{SameFed, IsFedBy}
use Rattle.tracker_feeds.specs.Laws.{SameIsFed}
use Rattle.tracker_index.specs.declared.parts.Parts.{Parts}
use Rattle.tracker_index.specs.declared.parts.Stage.TheVariants.{Done, Begun}
use Rattle.tracker_index.specs.Parts.{IsBegun, IsAt, GoesOn, FeedsFollow, changes_rows}

-- ---- what such a step comes to

callers : (s : Step) → changes_rows s ≡ false → is_callers s ≡ true
callers (steps_are.Heard replica now) c = absurd (cc)
callers (steps_are.Tick now) c = absurd (cc)
callers (steps_are.PermDown replica) c = absurd (cc)
callers (steps_are.Merge told) c = absurd (cc)
callers (steps_are.Rebirth incarnation) c = absurd (cc)
callers _ c = refl

-- it changes no own row, and cuts nothing
abbrev passes : Outcome → Bool
passes o = is_quiet o && not (renews_kept o)

present_passes : (t : Option (List ℕ)) (q o : Outcome) → passes q ≡ true → for_present t q ≡ Some o → passes o ≡ true
present_passes None q o p e = absurd (cc)
present_passes (Some t) q o p e = ap passes (same_Some o q (sym e)) ∙ p

take_passes : (max : ℕ) (w : Waiting) → passes (take_outcome max w) ≡ true
take_passes max Behind = refl
take_passes max (Queued q) = refl

outcome_passes : (h : History) (s : Step) (o : Outcome) → changes_rows s ≡ false → outcome_of h s ≡ Some o → passes o ≡ true
unfolding outcome_of
outcome_passes h (steps_are.List topic) o c e = ap passes (same_Some o (outcomes_are.Shown (dots_of (listed h topic))) (sym e))
outcome_passes h (steps_are.Get topic key) o c e = ap passes (same_Some o (outcomes_are.Shown (dots_of (listed_key h topic key))) (sym e))
outcome_passes h (steps_are.Subscribe topic) o c e = ap passes (same_Some o (outcomes_are.Subscribed (last_number h + 1)) (sym e))
outcome_passes h (steps_are.Take n max) o c e = present_passes (topic_of h n) (take_outcome max (queue h n)) o (take_passes max (queue h n)) e
outcome_passes h (steps_are.Unsubscribe n) o c e = present_passes (topic_of h n) outcomes_are.Ended o refl e
outcome_passes h (steps_are.Shout topic payload) o c e = ap passes (same_Some o outcomes_are.Sent (sym e))
outcome_passes h _ o c e = absurd (cc)

not_true : (b : Bool) → not b ≡ true → b ≡ false
not_true true n = absurd (cc)
not_true false n = refl

-- an entry of such a step
record Passes (e : Entry) : Type 0 where
  callers : is_callers e.step ≡ true
  quiet : is_quiet e.outcome ≡ true
  uncut : renews_kept e.outcome ≡ false

entry_passes : (h : History) (e : Entry) → IsLegal (Then h e) → changes_rows e.step ≡ false → Passes e
entry_passes h e l c =
    let parts = and_parts (is_quiet e.outcome) (not (renews_kept e.outcome)) (outcome_passes h e.step e.outcome c l.1) in
    record { callers = callers e.step c; quiet = parts.0; uncut = not_true (renews_kept e.outcome) parts.1 }

-- ---- what is kept is as it was

known_passes : (h : History) (e : Entry) (k : Known) → IsLegal (Then h e) → Passes e → IsKnownOf h k → IsKnownOf (Then h e) k
known_passes h e k l p known =
    let next : Dot = record { replica = k.others.own; count = k.count + 1 } in
    follows_own k k e next p.callers refl (takes_quiet e next k.set p.callers p.quiet) refl (plus k.count ∙ ap (λ n. k.count + n) (sym (quiet_uses_none e.outcome p.quiet))) h l known
  where
    plus : (n : ℕ) → n ≡ n + 0
    plus n = omega arith

shown_same : (h : History) (e : Entry) (d : Dot) → IsLegal (Then h e) → Passes e → shown (Then h e) d ≡ shown h d
shown_same h e d l p =
    shown_by h e d (legal_knows h l.0) (kind_of h e.step e.outcome (callers_plain e.step p.callers) l.1) p.callers
    ∙ rest (row_added e.step e.outcome d) (dots_taken e.outcome) (quiet_row e.step e.outcome d p.quiet) (quiet_taken e.outcome p.quiet)
  where
    rest : (a : Option Row) (ds : List Dot) → a ≡ None → ds ≡ [] → first_some a (cond (has_dot ds d) None (shown h d)) ≡ shown h d
    rest a ds none empty = (λ i. first_some (none i) (cond (has_dot (empty i) d) None (shown h d)))

held_same : (h : History) (e : Entry) (w : Holder) (t : List ℕ) (p : Place) → IsLegal (Then h e) → Passes e → held (Then h e) w t p ≡ held h w t p
held_same h e w t p l passes =
    ap (held_by (own (Then h e)) w p.dot) (get-present (Then h e) t p)
    ∙ ((λ i. held_by (own-then h e (callers_plain e.step passes.callers) i) w p.dot (keyed p.key (of_topic t (shown_same h e p.dot l passes i))))
    ∙ ap (held_by (own h) w p.dot) (sym (get-present h t p)))

shown_passes : (h : History) (e : Entry) (x : Shown) → IsLegal (Then h e) → Passes e → IsBetween h e x → IsShownOf (Then h e) x
shown_passes h e x l p b = record {
  own = b.own ∙ sym (own-then h e (callers_plain e.step p.callers));
  rows = λ w t q. both w t q (b.rows w t q);
}
  where
    both : (w : Holder) (t : List ℕ) (q : Place) → IsEither (kept_at x.rows w t q) (held h w t q) (held (Then h e) w t q) → kept_at x.rows w t q ≡ held (Then h e) w t q
    both w t q (inl y) = y ∙ sym (held_same h e w t q l p)
    both w t q (inr y) = y

-- no row joins or leaves
turn_passes : (h : History) (e : Entry) (k : Known) (turn : Turn) → IsLegal (Then h e) → Passes e → IsKnownOf h k → turn.joins.items ≡ [] → turn.leaves.items ≡ [] → IsTurn h e turn
turn_passes h e k turn l p known joins leaves =
    turn_own k e turn p.callers
    (none_list (row_added e.step e.outcome) turn.joins.items joins (λ d. sym (quiet_row e.step e.outcome d p.quiet)))
    (none_list (picked k.set.live (has_dot (dots_taken e.outcome))) turn.leaves.items leaves (λ d. ap (λ ds. picked k.set.live (has_dot ds) d) (sym (quiet_taken e.outcome p.quiet))))
    h l known

-- ---- the parts

-- what waits was brought up
pub passed : (e : Entry) (p q : Parts) (turn : Turn) → p.stage ≡ Begun → changes_rows e.step ≡ false → turn.joins.items ≡ [] → turn.leaves.items ≡ [] → FeedsFollow e turn p.feeds q.feeds → q.known ≡ p.known → q.shown ≡ p.shown → q.untold ≡ p.untold → q.stage ≡ Done → GoesOn e p q
passed e p q turn begun c joins leaves follow same seen rest to h legal at =
    let b : IsBegun h e p = subst (λ s. IsAt s (Then h e) p) begun at in
    let passes : Passes e = entry_passes h e legal c in
    subst (λ s. IsAt s (Then h e) q) (sym to) (record {
      known = subst (IsKnownOf (Then h e)) (sym same) (known_passes h e p.known legal passes b.known);
      shown = subst (IsShownOf (Then h e)) (sym seen) (shown_passes h e p.shown legal passes b.shown);
      feeds = follow h legal (turn_passes h e p.known turn legal passes b.known joins leaves) b.feeds;
      untold = subst (IsUntoldOf (Then h e)) (sym rest) (untold_passes h e p.untold legal passes.quiet passes.uncut b.untold);
    })

-- memory ran out before that
pub not_passed : (e : Entry) (p q : Parts) → SameIsFed → p.stage ≡ Begun → SameFed p.feeds q.feeds → q.known ≡ p.known → q.shown ≡ p.shown → q.untold ≡ p.untold → q.stage ≡ Begun → GoesOn e p q
not_passed e p q law begun fed same seen rest to h legal at =
    let b : IsBegun h e p = subst (λ s. IsAt s (Then h e) p) begun at in
    subst (λ s. IsAt s (Then h e) q) (sym to) (record {
      known = subst (IsKnownOf h) (sym same) b.known;
      shown = subst (IsBetween h e) (sym seen) b.shown;
      feeds = law h p.feeds q.feeds fed b.feeds;
      untold = subst (IsUntoldOf h) (sym rest) b.untold;
    })
