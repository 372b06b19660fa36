-- An entry of a subscriber leaves all that is said of rows.
use Rattle.std.proofs.Common.{◌≡◌, ℕ, Bool, true, false, cond, not, ◌&&◌, ◌||◌, nat_le, List, Option, Some, None, refl, sym, ◌∙◌, ap, arith}
use Rattle.std.specs.Prelude.{max}
use Rattle.std.proofs.lemmas.Option.{same_Some}
use Rattle.presence_base.specs.declared.dots.Replica.{Replica}
use Rattle.presence_base.specs.declared.dots.Dot.{Dot}
use Rattle.replica_status.specs.declared.standing.Standing.{Standing}
use Rattle.presence_journal.specs.declared.step.Step.TheVariants as steps_are
use Rattle.presence_journal.specs.declared.entry.Outcome.TheVariants as outcomes_are
use Rattle.presence_journal.specs.declared.step.Step.{Step}
use Rattle.presence_journal.specs.declared.entry.Outcome.{Outcome}
use Rattle.presence_journal.specs.declared.entry.Entry.{Entry}
use Rattle.presence_journal.specs.History.{History, Then, own, time, time_of, standing, standing_after, status, is_gone, last_cut, cut_after, known, first_some, has_dot, live}
use Rattle.presence_journal.specs.Queue.{Waiting, Behind, Queued, queue, topic_of}
use Rattle.presence_journal.specs.Table.{IsLegal, take_outcome, for_present, outcome_of}
use Rattle.presence_journal.specs.Walk.{tells, is_rebirth}
use Rattle.presence_journal.specs.Laws.{is_callers}
use Rattle.presence_journal.proofs.HistoryLemmas.{is_quiet, quiet_plain, callers_plain, quiet_row, quiet_taken, kind_of, legal_knows, known_quiet, live_by, status_stays, own-then, count-then, no_more}
use Rattle.presence_journal.proofs.ToldLemmas.{none_told_covers}
use Rattle.presence_journal.proofs.Walking.{quiet_uses_none}
use Rattle.presence_journal_cuts.specs.Cuts.{chain, chain_after, older, older_after}
use Rattle.presence_journal_cuts.specs.KeptDeltas.{renews_kept}
use Rattle.presence_journal_cuts.proofs.KeptLemmas.{kept_other, other_kept}
use Rattle.presence_journal_laws.specs.Later.{IsLike, is_of_subscribers}
use Rattle.presence_journal_laws.proofs.Thens.{standing-then, time-then, cut-then, chain-then, older-then}

-- ---- its step

callers : (s : Step) → is_of_subscribers s ≡ true → is_callers s ≡ true
callers (steps_are.Subscribe topic) f = refl
callers (steps_are.Take n max) f = refl
callers (steps_are.Unsubscribe n) f = refl
callers _ f = absurd (cc)

tells_none : (s : Step) → is_of_subscribers s ≡ true → tells s ≡ false
tells_none (steps_are.Subscribe topic) f = refl
tells_none (steps_are.Take n max) f = refl
tells_none (steps_are.Unsubscribe n) f = refl
tells_none _ f = absurd (cc)

no_time : (s : Step) → is_of_subscribers s ≡ true → time_of s ≡ 0
no_time (steps_are.Subscribe topic) f = refl
no_time (steps_are.Take n max) f = refl
no_time (steps_are.Unsubscribe n) f = refl
no_time _ f = absurd (cc)

same_standing : (o : Replica) (s : Step) (t : ℕ) (r : Replica) (x : Standing) → is_of_subscribers s ≡ true → standing_after o s t r x ≡ x
same_standing o (steps_are.Subscribe topic) t r x f = refl
same_standing o (steps_are.Take n max) t r x f = refl
same_standing o (steps_are.Unsubscribe n) t r x f = refl
same_standing o _ t r x f = absurd (cc)

-- ---- its outcome

abbrev is_silent : Outcome → Bool
is_silent (outcomes_are.Subscribed n) = true
is_silent (outcomes_are.Taken state items) = true
is_silent outcomes_are.Ended = true
is_silent _ = false

silent_present : (t : Option (List ℕ)) (q o : Outcome) → is_silent q ≡ true → for_present t q ≡ Some o → is_silent o ≡ true
silent_present None q o f e = absurd (cc)
silent_present (Some t) q o f e = ap is_silent (same_Some o q (sym e)) ∙ f

silent_take : (max : ℕ) (w : Waiting) → is_silent (take_outcome max w) ≡ true
silent_take max Behind = refl
silent_take max (Queued q) = refl

silent_outcome : (h : History) (s : Step) (o : Outcome) → is_of_subscribers s ≡ true → outcome_of h s ≡ Some o → is_silent o ≡ true
unfolding outcome_of
silent_outcome h (steps_are.Subscribe topic) o f e = ap is_silent (same_Some o _ (sym e))
silent_outcome h (steps_are.Take n max) o f e = silent_present (topic_of h n) (take_outcome max (queue h n)) o (silent_take max (queue h n)) e
silent_outcome h (steps_are.Unsubscribe n) o f e = silent_present (topic_of h n) outcomes_are.Ended o refl e
silent_outcome h _ o f e = absurd (cc)

quiet : (o : Outcome) → is_silent o ≡ true → is_quiet o ≡ true
quiet (outcomes_are.Subscribed n) f = refl
quiet (outcomes_are.Taken state items) f = refl
quiet outcomes_are.Ended f = refl
quiet _ f = absurd (cc)

uncut : (o : Outcome) → is_silent o ≡ true → renews_kept o ≡ false
uncut (outcomes_are.Subscribed n) f = refl
uncut (outcomes_are.Taken state items) f = refl
uncut outcomes_are.Ended f = refl
uncut _ f = absurd (cc)

same_cut : (o : Outcome) (n : ℕ) → is_silent o ≡ true → cut_after o n ≡ n
same_cut (outcomes_are.Subscribed k) n f = refl
same_cut (outcomes_are.Taken state items) n f = refl
same_cut outcomes_are.Ended n f = refl
same_cut _ n f = absurd (cc)

same_chain : (o : Outcome) (f : ℕ → List (ℕ × ℕ)) (c : ℕ) → is_silent o ≡ true → chain_after o f c ≡ f c
same_chain (outcomes_are.Subscribed k) f c e = refl
same_chain (outcomes_are.Taken state items) f c e = refl
same_chain outcomes_are.Ended f c e = refl
same_chain _ f c e = absurd (cc)

none_goes : (a b : Bool) → (a || (b && false)) ≡ a
none_goes true b = refl
none_goes false true = refl
none_goes false false = refl

same_older : (o : Outcome) (last : ℕ) (f : ℕ → List (ℕ × ℕ)) (k : ℕ → Bool) (n : ℕ) → is_silent o ≡ true → older_after o last f k n ≡ k n
same_older (outcomes_are.Subscribed m) last f k n e = none_goes (k n) (nat_le n last)
same_older (outcomes_are.Taken state items) last f k n e = none_goes (k n) (nat_le n last)
same_older outcomes_are.Ended last f k n e = none_goes (k n) (nat_le n last)
same_older _ last f k n e = absurd (cc)

-- ---- the entry

module _ (h : History) (e : Entry) (l : IsLegal (Then h e)) (of : is_of_subscribers e.step ≡ true) where
  silent_here : is_silent e.outcome ≡ true
  silent_here = silent_outcome h e.step e.outcome of l.1

  quiet_here : is_quiet e.outcome ≡ true
  quiet_here = quiet e.outcome silent_here

  plain_here : is_rebirth e.step ≡ false
  plain_here = callers_plain e.step (callers e.step of)

  known_here : (d : Dot) → known (Then h e) d ≡ known h d
  known_here d =
      known_quiet h e d l.0 plain_here (quiet_plain e.outcome quiet_here) (quiet_uses_none e.outcome quiet_here)
      ∙ (ap (λ b. known h d || b) (none_told_covers h e.step d (tells_none e.step of)) ∙ no_more (known h d))

  live_here : (d : Dot) → live (Then h e) d ≡ live h d
  live_here d =
      live_by h e d (legal_knows h l.0) (kind_of h e.step e.outcome plain_here l.1) (tells_none e.step of)
      ∙ (λ i. first_some (quiet_row e.step e.outcome d quiet_here i) (cond (has_dot (quiet_taken e.outcome quiet_here i) d) None (live h d)))

  status_here : (r : Replica) → status (Then h e) r ≡ status h r
  status_here r = status_stays h e r (callers e.step of)

  time_here : time (Then h e) ≡ time h
  time_here = time-then h e ∙ (ap (max (time h)) (no_time e.step of) ∙ omega arith)

  pub silent_alike : IsLike (Then h e) h
  silent_alike = record {
    standings = λ r f. standing-then h e r ∙ same_standing (own h) e.step (max (time h) (time_of e.step)) r (standing h r) of;
    covers = λ d. (λ i. known_here d i && not (is_gone (status_here d.replica i)));
    rows = λ d. (λ i. cond (is_gone (status_here d.replica i)) None (live_here d i));
    older = λ n low. older-then h e n ∙ same_older e.outcome (last_cut h) (chain h) (older h) n silent_here;
    chains = λ d r o s. chain-then h e d.count ∙ same_chain e.outcome (chain h) d.count silent_here;
    unused = λ c m. chain-then h e c ∙ same_chain e.outcome (chain h) c silent_here;
    deltas = λ k. (other_kept h e k (uncut e.outcome silent_here), kept_other h e k (uncut e.outcome silent_here));
    time = time_here;
    last_cut = cut-then h e ∙ same_cut e.outcome (last_cut h) silent_here;
    own = own-then h e plain_here;
    count = count-then h e (quiet_plain e.outcome quiet_here) ∙ omega (arith, quiet_uses_none e.outcome quiet_here);
  }
