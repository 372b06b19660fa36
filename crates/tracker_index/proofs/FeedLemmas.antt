-- How the feeds follow an entry.
use Rattle.std.proofs.Common.{◌≡◌, ℕ, ◌<◌, ◌^◌, Bool, true, false, List, Option, Some, None, refl, sym, ◌∙◌, ap, subst}
use Rattle.std.specs.Prelude.{option_map, is_some, length}
use Rattle.presence_journal.specs.declared.rows.Item.{Item}
use Rattle.presence_journal.specs.declared.step.Step.TheVariants as steps_are
use Rattle.presence_journal.specs.declared.entry.Outcome.TheVariants as outcomes_are
use Rattle.presence_journal.specs.declared.step.Step.{Step}
use Rattle.presence_journal.specs.declared.entry.Entry.{Entry}
use Rattle.presence_journal.specs.History.{History}
use Rattle.presence_journal.specs.Queue.{queue, topic_of, is_waiting}
use Rattle.presence_journal.specs.Table.{outcome_of}
use Rattle.tracker_shown.specs.declared.turn.Turn.{Turn}
use Rattle.tracker_feeds.specs.Fed.{Fed, Subscriber, found, topic_at, waits_at, as_waiting, items_of, items_for, newcomer, left_with, IsFedBy, IsChanged, IsDelivered}
use Rattle.tracker_feeds.specs.Quiet.{is_idle, IsBusy, TellsIdle, TellsQuiet}
use Rattle.tracker_feeds.specs.Laws.{is_of_subscriber, IsTakeOf}
use Rattle.tracker_feeds.proofs.LawLemmas as laws
use Rattle.tracker_feeds.specs.Making.{Made, MakesItems}
use Rattle.tracker_index.specs.Parts.{CanFeed, FeedsFollow}

-- one delivery more can be counted
pub has_room : (f : Fed) (e : Entry) → CanFeed f e → f.delivered < 2 ^ 63
has_room f e c = laws.can_deliver c.before f c.legal.0 c.fed

-- the number of the entry is nobody's yet
pub is_free : (f : Fed) (e : Entry) → CanFeed f e → found f e.number ≡ None
is_free f e c = ap (found f) c.legal.2 ∙ laws.next_free c.before f c.legal.0 c.fed

pub follows_delivery : {A : Type 0} (e : Entry) (turn : Turn) (made : Made A) (f g : Fed) → is_of_subscriber e.step ≡ false → MakesItems f e.step turn made → IsDelivered f g (items_for made) → FeedsFollow e turn f g
follows_delivery e turn made f g other makes is h legal turns fed = laws.delivered h e (items_for made) f g legal other (makes h e refl legal turns) is fed

pub follows_subscribe : (e : Entry) (turn : Turn) (t : List ℕ) (f g : Fed) → e.step ≡ steps_are.Subscribe t → IsChanged f g e.number (Some (newcomer t)) → FeedsFollow e turn f g
follows_subscribe e turn t f g is changed h legal turns fed = laws.subscribed h e t f g legal is changed fed

pub follows_take : (e : Entry) (turn : Turn) (n max : ℕ) (f g : Fed) → e.step ≡ steps_are.Take n max → IsChanged f g n (option_map (left_with max) (found f n)) → FeedsFollow e turn f g
follows_take e turn n max f g is changed h legal turns fed = laws.taken h e n max f g legal is changed fed

pub follows_unsubscribe : (e : Entry) (turn : Turn) (n : ℕ) (f g : Fed) → e.step ≡ steps_are.Unsubscribe n → IsChanged f g n None → FeedsFollow e turn f g
follows_unsubscribe e turn n f g is changed h legal turns fed = laws.unsubscribed h e n f g legal is changed fed

pub is_other : (s : Step) → ((t : List ℕ) → s ≡ steps_are.Subscribe t → ⊥) → ((n max : ℕ) → s ≡ steps_are.Take n max → ⊥) → ((n : ℕ) → s ≡ steps_are.Unsubscribe n → ⊥) → is_of_subscriber s ≡ false
is_other (steps_are.Subscribe t) a b c = absurd (a t refl)
is_other (steps_are.Take n max) a b c = absurd (b n max refl)
is_other (steps_are.Unsubscribe n) a b c = absurd (c n refl)
is_other _ a b c = refl

-- What the feeds of a history answer.

pub waits_are : (h : History) (f : Fed) (n : ℕ) → IsFedBy h f → waits_at f n ≡ option_map (λ _. is_waiting (queue h n)) (topic_of h n)
waits_are h f n fed = ap (option_map (λ (s : Subscriber). is_waiting s.waiting)) (fed.subscribers n) ∙ go (topic_of h n)
  where
    go : (o : Option (List ℕ)) → option_map (λ (s : Subscriber). is_waiting s.waiting) (option_map (as_waiting h n) o) ≡ option_map (λ _. is_waiting (queue h n)) o
    go None = refl
    go (Some t) = refl

pub tells_quiet : (h : History) (f : Fed) (b : Bool) → IsFedBy h f → TellsIdle f b → TellsQuiet h b
tells_quiet h f true fed idle = λ n t there. idle n (as_waiting h n t) (fed.subscribers n ∙ ap (option_map (as_waiting h n)) there)
tells_quiet h f false fed busy = go (topic_of h busy.0) refl (sym (fed.subscribers busy.0) ∙ busy.2)
  where
    go : (o : Option (List ℕ)) → topic_of h busy.0 ≡ o → option_map (as_waiting h busy.0) o ≡ Some busy.1 → IsBusy h
    go None p q = absurd (cc)
    go (Some t) p q = let same : as_waiting h busy.0 t ≡ busy.1 = cc in (busy.0, t, p, ap (λ (s : Subscriber). is_idle s.waiting) same ∙ busy.3)

pub takes : (h : History) (f : Fed) (n max : ℕ) (t : List ℕ) (o : Option (List Item)) → IsFedBy h f → topic_of h n ≡ Some t → o ≡ items_of max (found f n) → IsTakeOf h n max t o
takes h f n max t o fed topic is = subst (IsTakeOf h n max t) (sym is) (laws.items_are_those h f n max t fed topic)

pub takes_state : (h : History) (f : Fed) (n max : ℕ) (t : List ℕ) → IsFedBy h f → topic_of h n ≡ Some t → None ≡ items_of max (found f n) → outcome_of h (steps_are.Take n max) ≡ Some (outcomes_are.Taken true 1)
takes_state h f n max t fed topic is = (takes h f n max t None fed topic is).1

pub takes_items : (h : History) (f : Fed) (n max : ℕ) (t : List ℕ) (is : List Item) → IsFedBy h f → topic_of h n ≡ Some t → Some is ≡ items_of max (found f n) → outcome_of h (steps_are.Take n max) ≡ Some (outcomes_are.Taken false (length is))
takes_items h f n max t is fed topic e = (takes h f n max t (Some is) fed topic e).1

-- What a take comes to, by whether there is such a subscriber.

no_take : (h : History) (n max : ℕ) → topic_of h n ≡ None → outcome_of h (steps_are.Take n max) ≡ None
unfolding outcome_of
no_take h n max none = rw none refl

pub takes_none : (h : History) (f : Fed) (n max : ℕ) → IsFedBy h f → is_some (topic_at f n) ≡ false → outcome_of h (steps_are.Take n max) ≡ None
takes_none h f n max fed none = no_take h n max (sym (laws.topics_are_those h f n fed) ∙ go (topic_at f n) none)
  where
    go : (o : Option (List ℕ)) → is_some o ≡ false → o ≡ None
    go None e = refl
    go (Some t) e = absurd (cc)

pub takes_some_state : (h : History) (f : Fed) (n max : ℕ) → IsFedBy h f → is_some (topic_at f n) ≡ true → None ≡ items_of max (found f n) → outcome_of h (steps_are.Take n max) ≡ Some (outcomes_are.Taken true 1)
takes_some_state h f n max fed some is = go (topic_at f n) refl some
  where
    go : (o : Option (List ℕ)) → topic_at f n ≡ o → is_some o ≡ true → outcome_of h (steps_are.Take n max) ≡ Some (outcomes_are.Taken true 1)
    go None e p = absurd (cc)
    go (Some t) e p = takes_state h f n max t fed (sym (laws.topics_are_those h f n fed) ∙ e) is

pub takes_some_items : (h : History) (f : Fed) (n max : ℕ) (is : List Item) → IsFedBy h f → is_some (topic_at f n) ≡ true → Some is ≡ items_of max (found f n) → outcome_of h (steps_are.Take n max) ≡ Some (outcomes_are.Taken false (length is))
takes_some_items h f n max is fed some e = go (topic_at f n) refl some
  where
    go : (o : Option (List ℕ)) → topic_at f n ≡ o → is_some o ≡ true → outcome_of h (steps_are.Take n max) ≡ Some (outcomes_are.Taken false (length is))
    go None q p = absurd (cc)
    go (Some t) q p = takes_items h f n max t is fed (sym (laws.topics_are_those h f n fed) ∙ q) e
