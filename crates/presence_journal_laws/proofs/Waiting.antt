-- What waits for subscribers in histories that say the same.
use Rattle.std.proofs.Common.{◌≡◌, ℕ, Bool, true, false, cond, nat_eq, List, ◌++◌, Option, Some, None, refl, sym, ◌∙◌, ap, subst}
use Rattle.presence_base.specs.declared.dots.Dot.{Dot}
use Rattle.presence_base.specs.declared.row.Row.{Row}
use Rattle.presence_journal.specs.declared.rows.Item.{Item}
use Rattle.presence_journal.specs.declared.step.Step.TheVariants as steps_are
use Rattle.presence_journal.specs.declared.entry.Outcome.TheVariants as outcomes_are
use Rattle.presence_journal.specs.declared.step.Step.{Step}
use Rattle.presence_journal.specs.declared.entry.Outcome.{Outcome}
use Rattle.presence_journal.specs.declared.entry.Entry.{Entry}
use Rattle.presence_journal.specs.History.{History, Then, is_full}
use Rattle.presence_journal.specs.Present.{present, changes}
use Rattle.presence_journal.specs.Queue.{Waiting, topic_after, topic_of, diff_item, shout_item, items_made, made_for, push_items, left_by, queue_after, queue, listed_for, given}
use Rattle.presence_journal.specs.Table.{IsLegal, is_step, outcome_of, take_outcome, for_present, next_entry, with_outcome, after}
use Rattle.presence_journal.proofs.Topics.{topic_of-then, queue-then}
use Rattle.presence_journal_laws.specs.Later.{IsLike, WaitAlike, BeginsWaitingAlike, TakesAlike, is_subscribe, StepsWaitAlike}
use Rattle.presence_journal_laws.proofs.AlikeRows.{present_same, listed_same}
use Rattle.presence_journal_laws.proofs.Outcomes.{same_outcomes}
use Rattle.presence_journal_laws.proofs.Steps.{after_is, legal_next}
use Rattle.presence_journal_laws.proofs.Next.{alike_next}
use Rattle.presence_journal_laws.proofs.Told.{keeps_topics, quiet_stays}

pub begins_waiting_alike : BeginsWaitingAlike
begins_waiting_alike h s c quiet counts = record { topics = keeps_topics h s c; queues = quiet_stays h s c quiet counts }

module _ (g h : History) (a : IsLike g h) (w : WaitAlike g h) where
  rows_for : (o : Option (List ℕ)) → listed_for g o ≡ listed_for h o
  rows_for None = refl
  rows_for (Some t) = listed_same g h a t

  -- what holds of the one subscriber, where it is present
  take_at : (n max : ℕ) (o : Option (List ℕ)) → topic_of h n ≡ o → for_present o (take_outcome max (queue g n)) ≡ for_present o (take_outcome max (queue h n))
  take_at n max None e = refl
  take_at n max (Some t) e = ap (λ (x : Waiting). Some (take_outcome max x)) (w.queues n t e)

  outcome_same : (n max : ℕ) → outcome_of g (steps_are.Take n max) ≡ outcome_of h (steps_are.Take n max)
  unfolding outcome_of
  outcome_same n max = ap (λ o. for_present o (take_outcome max (queue g n))) (w.topics n) ∙ take_at n max (topic_of h n) refl

  unsubscribe_same : (n : ℕ) → outcome_of g (steps_are.Unsubscribe n) ≡ outcome_of h (steps_are.Unsubscribe n)
  unfolding outcome_of
  unsubscribe_same n = ap (λ o. for_present o outcomes_are.Ended) (w.topics n)

  -- each step but a subscribe has one outcome
  any_same : (s : Step) → is_subscribe s ≡ false → outcome_of g s ≡ outcome_of h s
  any_same (steps_are.Track pid topic key meta) f = same_outcomes g h a (steps_are.Track pid topic key meta) refl
  any_same (steps_are.Update pid topic key meta) f = same_outcomes g h a (steps_are.Update pid topic key meta) refl
  any_same (steps_are.Untrack pid topic key) f = same_outcomes g h a (steps_are.Untrack pid topic key) refl
  any_same (steps_are.UntrackAll pid topic) f = same_outcomes g h a (steps_are.UntrackAll pid topic) refl
  any_same (steps_are.List topic) f = same_outcomes g h a (steps_are.List topic) refl
  any_same (steps_are.Get topic key) f = same_outcomes g h a (steps_are.Get topic key) refl
  any_same (steps_are.Subscribe topic) f = absurd (cc)
  any_same (steps_are.Take n max) f = outcome_same n max
  any_same (steps_are.Unsubscribe n) f = unsubscribe_same n
  any_same (steps_are.Shout topic payload) f = same_outcomes g h a (steps_are.Shout topic payload) refl
  any_same (steps_are.Heard replica now) f = same_outcomes g h a (steps_are.Heard replica now) refl
  any_same (steps_are.Tick now) f = same_outcomes g h a (steps_are.Tick now) refl
  any_same (steps_are.PermDown replica) f = same_outcomes g h a (steps_are.PermDown replica) refl
  any_same steps_are.Cut f = same_outcomes g h a steps_are.Cut refl
  any_same (steps_are.Merge told) f = same_outcomes g h a (steps_are.Merge told) refl
  any_same (steps_are.Rebirth i) f = same_outcomes g h a (steps_are.Rebirth i) refl

pub takes_alike : TakesAlike
takes_alike g h a w n max = (
  λ t e.
      ap (λ o. given (listed_for g o) max (queue g n)) (w.topics n)
      ∙ (ap (λ (rows : List (Dot × Row)). given rows max (queue g n)) (rows_for g h a w (topic_of h n))
      ∙ ap (given (listed_for h (topic_of h n)) max) (w.queues n t e)),
  outcome_same g h a w n max,
)

-- the number of an entry that is no subscribe makes no difference

topic_other : (s : Step) → is_subscribe s ≡ false → (k m n : ℕ) (o : Option (List ℕ)) → topic_after s k n o ≡ topic_after s m n o
topic_other (steps_are.Subscribe topic) f k m n o = absurd (cc)
topic_other _ f k m n o = refl

queue_other : (s : Step) → is_subscribe s ≡ false → (k m n : ℕ) (new : List Item) (w : Waiting) → queue_after s k n new w ≡ queue_after s m n new w
queue_other (steps_are.Subscribe topic) f k m n new w = absurd (cc)
queue_other _ f k m n new w = refl

-- nobody comes by it
none_comes : (s : Step) → is_subscribe s ≡ false → (k n : ℕ) (t : List ℕ) → topic_after s k n None ≡ Some t → ⊥
none_comes (steps_are.Subscribe topic) f k n t e = cc
none_comes (steps_are.Unsubscribe m) f k n t e = go (nat_eq m n) e
  where
    go : (b : Bool) → cond b None None ≡ Some t → ⊥
    go true p = cc
    go false p = cc
none_comes _ f k n t e = cc

module _ (g h : History) (e f : Entry) (a : IsLike g h) (w : WaitAlike g h) (later : IsLike (Then g e) (Then h f)) (same : e.step ≡ f.step) (other : is_subscribe f.step ≡ false) where
  made_same : (o : Option (List ℕ)) → made_for g e o ≡ made_for h f o
  unfolding items_made
  made_same None = refl
  made_same (Some t) = λ i. diff_item (changes (present_same g h a t i) (present_same (Then g e) (Then h f) later t i)) ++ shout_item (same i) t

  then_alike : WaitAlike (Then g e) (Then h f)
  then_alike = record {
    topics = λ n. topic_of-then g e n ∙ (ap (λ (s : Step). topic_after s e.number n (topic_of g n)) same ∙ (topic_other f.step other e.number f.number n (topic_of g n) ∙ (ap (topic_after f.step f.number n) (w.topics n) ∙ sym (topic_of-then h f n))));
    queues = λ n t there. queue-then g e n ∙ (go n t (topic_of h n) refl (sym (topic_of-then h f n) ∙ there) ∙ sym (queue-then h f n));
  }
    where
      go : (n : ℕ) (t : List ℕ) (o : Option (List ℕ)) → topic_of h n ≡ o → topic_after f.step f.number n (topic_of h n) ≡ Some t → queue_after e.step e.number n (made_for g e (topic_of g n)) (queue g n) ≡ queue_after f.step f.number n (made_for h f (topic_of h n)) (queue h n)
      go n t None is there = absurd (none_comes f.step other f.number n t (ap (topic_after f.step f.number n) (sym is) ∙ there))
      go n t (Some u) is there =
          ap (λ (s : Step). queue_after s e.number n (made_for g e (topic_of g n)) (queue g n)) same
          ∙ (queue_other f.step other e.number f.number n (made_for g e (topic_of g n)) (queue g n)
          ∙ (ap (λ (o : Option (List ℕ)). queue_after f.step f.number n (made_for g e o) (queue g n)) (w.topics n)
          ∙ (ap (λ (is : List Item). queue_after f.step f.number n is (queue g n)) (made_same (topic_of h n))
          ∙ ap (queue_after f.step f.number n (made_for h f (topic_of h n))) (w.queues n u is))))

pub steps_wait_alike : StepsWaitAlike
steps_wait_alike g h a w lg lh rg rh s i other x y =
    let same = any_same g h a w s other in
    let g_is : after g s x ≡ with_outcome g s x (outcome_of h s) = after_is g s x (outcome_of h s) rg same in
    let h_is : after h s y ≡ with_outcome h s y (outcome_of h s) = after_is h s y (outcome_of h s) rh refl in
    subst (λ (z : History). WaitAlike z (after h s y)) (sym g_is) (subst (WaitAlike (with_outcome g s x (outcome_of h s))) (sym h_is) (both (outcome_of h s) same refl))
  where
    both : (o : Option Outcome) → outcome_of g s ≡ o → outcome_of h s ≡ o → WaitAlike (with_outcome g s x o) (with_outcome h s y o)
    both None p q = w
    both (Some o) p q =
        then_alike g h (next_entry g s x o) (next_entry h s y o) a w
        (alike_next g h (next_entry g s x o) (next_entry h s y o) a (legal_next g s x o lg rg i p) (legal_next h s y o lh rh i q) refl refl)
        refl other
