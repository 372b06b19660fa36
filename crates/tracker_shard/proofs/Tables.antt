-- What the table comes to, by what a shard looks up, and which refusals stand.
use Rattle.std.proofs.Common.{◌≡◌, ◌≤◌, ℕ, ◌+◌, ◌^◌, Bool, true, false, cond, nat_eq, ◌&&◌, List, [], ◌∷◌, Option, Some, None, refl, sym, ◌∙◌, ap, nat_le, arith}
use Rattle.std.specs.Prelude.{nat_lt, is_some, option_map}
use Rattle.serde_json.specs.Data.{Data}
use Rattle.presence_base.specs.declared.dots.Replica.{Replica}
use Rattle.presence_base.specs.declared.dots.Dot.{Dot}
use Rattle.presence_base.specs.declared.row.Row.{Row}
use Rattle.orswot_core.specs.Telling.{ToldValue}
use Rattle.presence_journal.specs.declared.step.Step.{Step}
use Rattle.presence_journal.specs.declared.step.Step.TheVariants as steps_are
use Rattle.presence_journal.specs.declared.entry.Outcome.{Outcome}
use Rattle.presence_journal.specs.declared.entry.Outcome.TheVariants as outcomes_are
use Rattle.delta_range.specs.Deltas.{DeltaValue}
use Rattle.presence_journal_cuts.specs.Cuts.{IsCut}
use Rattle.presence_journal.specs.History.{History, count, is_full, next_dot, last_number, own, reborn}
use Rattle.presence_journal.specs.Present.{listed, dots_of}
use Rattle.presence_journal.specs.Queue.{queue, topic_of, is_waiting}
use Rattle.presence_journal.specs.Table.{for_present, outcome_of, accepted, after, rows_of_key, rows_of_pid, listed_key, tracked, updated, untracked, counting, can_be_reborn, reborn_rows, own_dots, next_entry, with_outcome, IsLegal, pairs_for}
use Rattle.tracker_shard.specs.Steps.{Made, cause, refusal, first_dot, new_dot, next_counted, slot_of, is_found, found_topic, KeepsRows}
use Rattle.tracker_shard.specs.declared.fault.ShardFault.TheVariants.{JournalFull, NoSub, BadIncarnation}
use Rattle.presence_journal.specs.StepLimits.{is_within_limits}
use Rattle.presence_journal.proofs.Reborn.{can_parts}
use Rattle.presence_journal.proofs.AfterRebirth.{rebirth_loses_no_row}
use Rattle.std.proofs.lemmas.Bool.{and_from, le-leb}

pub made : (h : History) (s : Step) (seat : Option ℕ) (o : Outcome) → outcome_of h s ≡ Some o → is_full h ≡ false → (new : History) → new ≡ after h s seat → Made h new seat s
unfolding accepted
made h s seat o e room new is = record { accepted = rw (room, e) refl; journal = is }

next_is : (h : History) (d : Dot) (o : Dot → Outcome) → next_counted h ≡ Some d → counting h (o (next_dot h)) ≡ Some (o d)
next_is h d o e = go (nat_lt (count h) (2 ^ 62)) e
  where
    go : (b : Bool) → cond b (Some (next_dot h)) None ≡ Some d → cond b (Some (o (next_dot h))) None ≡ Some (o d)
    go true p = let same : next_dot h ≡ d = cc in ap (λ x. Some (o x)) same
    go false p = absurd (cc)

none_left : (h : History) (o : Outcome) → next_counted h ≡ None → counting h o ≡ None
none_left h o e = go (nat_lt (count h) (2 ^ 62)) e
  where
    go : (b : Bool) → cond b (Some (next_dot h)) None ≡ None → cond b (Some o) None ≡ None
    go true p = absurd (cc)
    go false p = refl

-- no refusal stands against a step that the table answers
pub none_due : (h : History) (s : Step) (o : Outcome) → outcome_of h s ≡ Some o → is_full h ≡ false → refusal true h s ≡ None
none_due h s o answered room = go (is_full h) (outcome_of h s) room answered
  where
    go : (b : Bool) (x : Option Outcome) → b ≡ false → x ≡ Some o → cond b (Some JournalFull) (cond (is_some x) None (Some (cause s))) ≡ None
    go false (Some y) p q = refl
    go false None p q = absurd (cc)
    go true x p q = absurd (cc)

pub none_is : {A : Type 0} (o : Option A) → is_some o ≡ false → o ≡ None
none_is None e = refl
none_is (Some x) e = absurd (cc)

pub track_added : (h : History) (pid : ℕ) (topic key : List ℕ) (meta : Data) (d : Dot) → first_dot (rows_of_key h pid topic key) ≡ None → next_counted h ≡ Some d → outcome_of h (steps_are.Track pid topic key meta) ≡ Some (outcomes_are.Added d)
unfolding outcome_of
track_added h pid topic key meta d none next = go (rows_of_key h pid topic key) none
  where
    go : (rows : List (Dot × Row)) → first_dot rows ≡ None → tracked h rows ≡ Some (outcomes_are.Added d)
    go [] p = next_is h d outcomes_are.Added next
    go (x ∷ xs) p = absurd (cc)

pub track_full : (h : History) (pid : ℕ) (topic key : List ℕ) (meta : Data) → first_dot (rows_of_key h pid topic key) ≡ None → next_counted h ≡ None → outcome_of h (steps_are.Track pid topic key meta) ≡ None
unfolding outcome_of
track_full h pid topic key meta none next = go (rows_of_key h pid topic key) none
  where
    go : (rows : List (Dot × Row)) → first_dot rows ≡ None → tracked h rows ≡ None
    go [] p = none_left h (outcomes_are.Added (next_dot h)) next
    go (x ∷ xs) p = absurd (cc)

pub track_again : (h : History) (pid : ℕ) (topic key : List ℕ) (meta : Data) → is_some (first_dot (rows_of_key h pid topic key)) ≡ true → outcome_of h (steps_are.Track pid topic key meta) ≡ Some outcomes_are.AlreadyTracked
unfolding outcome_of
track_again h pid topic key meta some = go (rows_of_key h pid topic key) some
  where
    go : (rows : List (Dot × Row)) → is_some (first_dot rows) ≡ true → tracked h rows ≡ Some outcomes_are.AlreadyTracked
    go [] p = absurd (cc)
    go (x ∷ xs) p = refl

pub update_replaced : (h : History) (pid : ℕ) (topic key : List ℕ) (meta : Data) (d old : Dot) → first_dot (rows_of_key h pid topic key) ≡ Some old → next_counted h ≡ Some d → outcome_of h (steps_are.Update pid topic key meta) ≡ Some (outcomes_are.Replaced d old)
unfolding outcome_of
update_replaced h pid topic key meta d old some next = go (rows_of_key h pid topic key) some
  where
    go : (rows : List (Dot × Row)) → first_dot rows ≡ Some old → updated h rows ≡ Some (outcomes_are.Replaced d old)
    go [] p = absurd (cc)
    go (x ∷ xs) p = let same : x.0 ≡ old = cc in next_is h d (λ n. outcomes_are.Replaced n x.0) next ∙ ap (λ y. Some (outcomes_are.Replaced d y)) same

pub update_full : (h : History) (pid : ℕ) (topic key : List ℕ) (meta : Data) (old : Dot) → first_dot (rows_of_key h pid topic key) ≡ Some old → next_counted h ≡ None → outcome_of h (steps_are.Update pid topic key meta) ≡ None
unfolding outcome_of
update_full h pid topic key meta old some next = go (rows_of_key h pid topic key) some
  where
    go : (rows : List (Dot × Row)) → first_dot rows ≡ Some old → updated h rows ≡ None
    go [] p = absurd (cc)
    go (x ∷ xs) p = none_left h (outcomes_are.Replaced (next_dot h) x.0) next

pub update_none : (h : History) (pid : ℕ) (topic key : List ℕ) (meta : Data) → first_dot (rows_of_key h pid topic key) ≡ None → outcome_of h (steps_are.Update pid topic key meta) ≡ Some outcomes_are.NoPresence
unfolding outcome_of
update_none h pid topic key meta none = go (rows_of_key h pid topic key) none
  where
    go : (rows : List (Dot × Row)) → first_dot rows ≡ None → updated h rows ≡ Some outcomes_are.NoPresence
    go [] p = refl
    go (x ∷ xs) p = absurd (cc)

pub list_shown : (h : History) (topic : List ℕ) → outcome_of h (steps_are.List topic) ≡ Some (outcomes_are.Shown (dots_of (listed h topic)))
unfolding outcome_of
list_shown h topic = refl

pub get_shown : (h : History) (topic key : List ℕ) → outcome_of h (steps_are.Get topic key) ≡ Some (outcomes_are.Shown (dots_of (listed_key h topic key)))
unfolding outcome_of
get_shown h topic key = refl

pub shout_sent : (h : History) (topic : List ℕ) (payload : Data) → outcome_of h (steps_are.Shout topic payload) ≡ Some outcomes_are.Sent
unfolding outcome_of
shout_sent h topic payload = refl

pub subscribe_number : (h : History) (topic : List ℕ) → outcome_of h (steps_are.Subscribe topic) ≡ Some (outcomes_are.Subscribed (last_number h + 1))
unfolding outcome_of
subscribe_number h topic = refl

pub heard_noted : (h : History) (replica : Replica) (now : ℕ) → outcome_of h (steps_are.Heard replica now) ≡ Some outcomes_are.Noted
unfolding outcome_of
heard_noted h replica now = refl

pub tick_noted : (h : History) (now : ℕ) → outcome_of h (steps_are.Tick now) ≡ Some outcomes_are.Noted
unfolding outcome_of
tick_noted h now = refl

pub permdown_noted : (h : History) (replica : Replica) → outcome_of h (steps_are.PermDown replica) ≡ Some outcomes_are.Noted
unfolding outcome_of
permdown_noted h replica = refl

pub merge_taken_in : (h : History) (t : ToldValue) → outcome_of h (steps_are.Merge t) ≡ Some outcomes_are.Merged
unfolding outcome_of
merge_taken_in h t = refl

pub cut_told : (h : History) (d : DeltaValue) → IsCut h d → outcome_of h steps_are.Cut ≡ Some (outcomes_are.CutAt d.from d.to)
unfolding outcome_of
cut_told h d c = λ i. Some (outcomes_are.CutAt (sym c.from i) (sym c.to i))

pub untrack_is : (h : History) (pid : ℕ) (topic key : List ℕ) → outcome_of h (steps_are.Untrack pid topic key) ≡ untracked h (dots_of (rows_of_key h pid topic key))
unfolding outcome_of
untrack_is h pid topic key = refl

pub untrack_all_is : (h : History) (pid : ℕ) (topic : List ℕ) → outcome_of h (steps_are.UntrackAll pid topic) ≡ untracked h (dots_of (rows_of_pid h pid topic))
unfolding outcome_of
untrack_all_is h pid topic = refl

-- a subscriber that is found has a topic there
pub found_is : (h : History) (slot n : ℕ) (t : List ℕ) → found_topic h slot n ≡ Some t → topic_of h n ≡ Some t
found_is h slot n t e = go (nat_eq slot (slot_of n)) e
  where
    go : (b : Bool) → cond b (topic_of h n) None ≡ Some t → topic_of h n ≡ Some t
    go true p = p
    go false p = absurd (cc)

pub found_some : (h : History) (slot n : ℕ) (t : List ℕ) → found_topic h slot n ≡ Some t → is_found h slot n ≡ true
found_some h slot n t e = go (nat_eq slot (slot_of n)) e
  where
    go : (b : Bool) → cond b (topic_of h n) None ≡ Some t → is_some (topic_of h n) && b ≡ true
    go true p = rw (p) refl
    go false p = absurd (cc)

pub found_none : (h : History) (slot n : ℕ) → found_topic h slot n ≡ None → is_found h slot n ≡ false
found_none h slot n e = go (nat_eq slot (slot_of n)) (topic_of h n) e
  where
    go : (b : Bool) (o : Option (List ℕ)) → cond b o None ≡ None → is_some o && b ≡ false
    go true None p = refl
    go true (Some x) p = absurd (cc)
    go false None p = refl
    go false (Some x) p = refl

pub ended : (h : History) (n : ℕ) (t : List ℕ) → topic_of h n ≡ Some t → outcome_of h (steps_are.Unsubscribe n) ≡ Some outcomes_are.Ended
unfolding outcome_of
ended h n t topic = ap (λ o. for_present o outcomes_are.Ended) topic

pub ended_found : (h : History) (slot n : ℕ) (t : List ℕ) → found_topic h slot n ≡ Some t → outcome_of h (steps_are.Unsubscribe n) ≡ Some outcomes_are.Ended
ended_found h slot n t e = ended h n t (found_is h slot n t e)

pub none_stands : (h : History) (s : Step) (o : Outcome) → outcome_of h s ≡ Some o → is_full h ≡ false → refusal true h s ≡ None
none_stands h s o e room = rw (room, e) refl

pub full_stands : (h : History) (s : Step) → is_full h ≡ true → refusal true h s ≡ Some JournalFull
full_stands h s full = rw full refl

pub clock_stands : (h : History) (s : Step) → outcome_of h s ≡ None → is_full h ≡ false → refusal true h s ≡ Some (cause s)
clock_stands h s e room = rw (room, e) refl

-- rebirths

pub reborn_answered : (h : History) (i : ℕ) (pairs : List (Dot × Dot)) → can_be_reborn h i ≡ true → pairs ≡ pairs_for h i → outcome_of h (steps_are.Rebirth i) ≡ Some (outcomes_are.Reborn pairs)
unfolding outcome_of
reborn_answered h i pairs can is =
    ap (λ b. reborn_rows b (reborn (own h) i) (own_dots h)) can
    ∙ ap (λ ps. Some (outcomes_are.Reborn ps)) (sym is)

-- what is answered, where it was looked up in a table of the same history
pub rebirth_answers : (h g : History) (i : ℕ) (pairs items : List (Dot × Dot)) → g ≡ h → can_be_reborn g i ≡ true → pairs ≡ pairs_for g i → items ≡ pairs → outcome_of h (steps_are.Rebirth i) ≡ Some (outcomes_are.Reborn items)
rebirth_answers h g i pairs items same can is copied =
    reborn_answered h i items (ap (λ k. can_be_reborn k i) (sym same) ∙ can) (copied ∙ (is ∙ ap (λ k. pairs_for k i) same))

pub reborn_refused : (h : History) (i : ℕ) → can_be_reborn h i ≡ false → outcome_of h (steps_are.Rebirth i) ≡ None
unfolding outcome_of
reborn_refused h i can = ap (λ b. reborn_rows b (reborn (own h) i) (own_dots h)) can

pub incarnation_stands : (h : History) (i : ℕ) → can_be_reborn h i ≡ false → is_full h ≡ false → refusal true h (steps_are.Rebirth i) ≡ Some BadIncarnation
incarnation_stands h i can room = clock_stands h (steps_are.Rebirth i) (reborn_refused h i can) room

pub reborn_limits : (h : History) (i : ℕ) → can_be_reborn h i ≡ true → is_within_limits (steps_are.Rebirth i) ≡ true
reborn_limits h i can =
    let parts = can_parts h i can in
    and_from (nat_le 1 i) (nat_le i (2 ^ 62)) (le-leb 1 i (omega (arith, parts.0))) (le-leb i (2 ^ 62) (omega (arith, parts.1)))

-- a row's pid within its limit
pub pid_limits : (within : Bool) (pid : ℕ) → within ≡ nat_le pid (2 ^ 62) → pid ≤ 2 ^ 62 → within ≡ true
pid_limits within pid is low = is ∙ le-leb pid (2 ^ 62) (omega (arith, low))

pub rebirth_keeps : (h : History) (i : ℕ) (seat : Option ℕ) (pairs : List (Dot × Dot)) → IsLegal h → outcome_of h (steps_are.Rebirth i) ≡ Some (outcomes_are.Reborn pairs) → is_full h ≡ false
    → (new : History) → new ≡ after h (steps_are.Rebirth i) seat → KeepsRows h new pairs
unfolding after accepted
rebirth_keeps h i seat pairs legal answered room new is =
    let e = next_entry h (steps_are.Rebirth i) seat (outcomes_are.Reborn pairs) in
    record {
      entry = e;
      last = is ∙ (λ j. with_outcome h (steps_are.Rebirth i) seat (cond (room j) None (answered j)));
      rows = rebirth_loses_no_row h e pairs (legal, answered, refl, room, refl) refl;
    }

-- the refusals of a call that names a subscriber
pub sub_none_stands : (h : History) (slot n : ℕ) (s : Step) (t : List ℕ) (o : Outcome) → found_topic h slot n ≡ Some t → outcome_of h s ≡ Some o → is_full h ≡ false → refusal (is_found h slot n) h s ≡ None
sub_none_stands h slot n s t o found e room = rw (found_some h slot n t found) (none_stands h s o e room)

pub sub_full_stands : (h : History) (slot n : ℕ) (s : Step) (t : List ℕ) → found_topic h slot n ≡ Some t → is_full h ≡ true → refusal (is_found h slot n) h s ≡ Some JournalFull
sub_full_stands h slot n s t found full = rw (found_some h slot n t found) (full_stands h s full)

pub no_sub_stands : (h : History) (slot n : ℕ) (s : Step) → found_topic h slot n ≡ None → refusal (is_found h slot n) h s ≡ Some NoSub
no_sub_stands h slot n s none = rw (found_none h slot n none) refl

-- what the walk says of whether something waits
pub waits_found : (h : History) (n : ℕ) (w : Bool) → option_map (λ _. is_waiting (queue h n)) (topic_of h n) ≡ Some w → (is_some (topic_of h n) ≡ true) × (w ≡ is_waiting (queue h n))
waits_found h n w e = go (topic_of h n) e
  where
    go : (o : Option (List ℕ)) → option_map (λ _. is_waiting (queue h n)) o ≡ Some w → (is_some o ≡ true) × (w ≡ is_waiting (queue h n))
    go None p = absurd (cc)
    go (Some t) p = (refl, cc)

pub waits_missing : (h : History) (n : ℕ) → option_map (λ _. is_waiting (queue h n)) (topic_of h n) ≡ None → is_some (topic_of h n) ≡ false
waits_missing h n e = go (topic_of h n) e
  where
    go : (o : Option (List ℕ)) → option_map (λ _. is_waiting (queue h n)) o ≡ None → is_some o ≡ false
    go None p = refl
    go (Some t) p = absurd (cc)

pub ruleset tables = (list_shown, get_shown, shout_sent, subscribe_number, heard_noted, tick_noted, permdown_noted, merge_taken_in, cut_told, track_added, track_full, track_again, update_replaced, update_full, update_none, untrack_is, untrack_all_is, found_is, ended_found, none_stands, full_stands, clock_stands, reborn_answered, reborn_refused, incarnation_stands, reborn_limits, sub_none_stands, sub_full_stands, no_sub_stands)

-- a subscriber that isn't there can't be ended
pub not_ended : (h : History) (n : ℕ) → topic_of h n ≡ None → outcome_of h (steps_are.Unsubscribe n) ≡ None
unfolding outcome_of
not_ended h n none = rw none refl

pub ruleset subscriber_tables = (ended, not_ended)

-- The same, where the history is known by another name.

pub track_answers : (h now : History) (pid : ℕ) (topic key : List ℕ) (meta : Data) (d : Dot) → h ≡ now → first_dot (rows_of_key h pid topic key) ≡ None → next_counted h ≡ Some d → new_dot (outcome_of now (steps_are.Track pid topic key meta)) ≡ Some d
track_answers h now pid topic key meta d same none next = ap new_dot (ap (λ g. outcome_of g (steps_are.Track pid topic key meta)) (sym same) ∙ track_added h pid topic key meta d none next)

pub update_answers : (h now : History) (pid : ℕ) (topic key : List ℕ) (meta : Data) (d old : Dot) → h ≡ now → first_dot (rows_of_key h pid topic key) ≡ Some old → next_counted h ≡ Some d → new_dot (outcome_of now (steps_are.Update pid topic key meta)) ≡ Some d
update_answers h now pid topic key meta d old same some next = ap new_dot (ap (λ g. outcome_of g (steps_are.Update pid topic key meta)) (sym same) ∙ update_replaced h pid topic key meta d old some next)
