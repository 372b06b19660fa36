-- The worked runs, computed.
use Rattle.std.proofs.Common.{◌≡◌, ℕ, List, [], ◌∷◌, ◌++◌, ◌∙◌, ap}
use Rattle.serde_json.specs.Data.{null}
use Rattle.presence_journal.specs.declared.step.Step.{Step}
use Rattle.presence_journal.specs.History.{own, count, status, removed, row, live, shown, last_number, entry_count}
use Rattle.presence_journal.specs.Present.{dots, listed}
use Rattle.presence_journal.specs.Queue.{topic_of, queue, taken}
use Rattle.presence_journal.specs.Table.{outcome_of}
use Rattle.presence_journal.specs.Laws.{AsWorked, ran, outcomes, empty, room, attic, user, subscribe, take_all, track, update, untrack, two_topics, shouts}
use Rattle.presence_journal.specs.declared.step.Step.TheVariants as steps_are
use Rattle.presence_journal_laws.proofs.WorkedTables.{rows_now, listed_now, queue_now, queue_is, taken_now, taken_is, ran_now, ran_is}

outcomes_run : (ss : List Step) → outcomes (ran empty ss) ≡ outcomes (ran_now empty ss)
outcomes_run ss = ap outcomes (ran_is empty ss)

listed_run : (t : List ℕ) (ss : List Step) → listed (ran empty ss) t ≡ rows_now (ran_now empty ss) t
listed_run t ss = ap (λ h. listed h t) (ran_is empty ss) ∙ listed_now (ran_now empty ss) t

queue_run : (ss : List Step) → queue (ran empty ss) 1 ≡ queue_now (ran_now empty ss) 1
queue_run ss = ap (λ h. queue h 1) (ran_is empty ss) ∙ queue_is (ran_now empty ss) 1

taken_run : (ss : List Step) → taken (ran empty ss) 1 ≡ taken_now (ran_now empty ss) 1
taken_run ss = ap (λ h. taken h 1) (ran_is empty ss) ∙ taken_is (ran_now empty ss) 1

pub as_worked : AsWorked
unfolding own count status removed row live shown last_number entry_count dots topic_of outcome_of
as_worked = record {
  first_outcomes = outcomes_run (subscribe ∷ take_all ∷ track 1 ∷ take_all ∷ steps_are.List room ∷ []);
  first_items = taken_run (subscribe ∷ take_all ∷ track 1 ∷ take_all ∷ steps_are.List room ∷ []);
  update_replaces = outcomes_run (subscribe ∷ track 1 ∷ take_all ∷ update 1 ∷ []);
  update_shows = listed_run room (subscribe ∷ track 1 ∷ take_all ∷ update 1 ∷ []);
  update_waits = queue_run (subscribe ∷ track 1 ∷ take_all ∷ update 1 ∷ []);
  second_track = outcomes_run (track 1 ∷ track 1 ∷ []);
  removal_counts = outcomes_run (track 1 ∷ untrack 1 ∷ track 1 ∷ []);
  both_present = listed_run room (track 1 ∷ track 2 ∷ []);
  own_leaves = listed_run room (track 1 ∷ track 2 ∷ untrack 1 ∷ []);
  empty_removal = outcomes_run (track 1 ∷ untrack 1 ∷ untrack 1 ∷ track 1 ∷ []);
  key_shown = outcomes_run (two_topics ++ steps_are.Get room user ∷ steps_are.List attic ∷ []);
  all_removed = outcomes_run (two_topics ++ steps_are.UntrackAll 1 room ∷ []);
  others_keep = listed_run room (two_topics ++ steps_are.UntrackAll 1 room ∷ []);
  topics_keep = listed_run attic (two_topics ++ steps_are.UntrackAll 1 room ∷ []);
  ends = outcomes_run (subscribe ∷ take_all ∷ steps_are.Unsubscribe 1 ∷ take_all ∷ []);
  other_shout = queue_run (subscribe ∷ take_all ∷ steps_are.Shout attic null ∷ []);
  state_again = taken_run (subscribe ∷ take_all ∷ track 1 ∷ shouts 256 ++ take_all ∷ []);
  nothing_waits = queue_run (subscribe ∷ take_all ∷ track 1 ∷ shouts 256 ++ take_all ∷ []);
  just_holds = queue_run (subscribe ∷ take_all ∷ shouts 256);
  falls_behind = queue_run (subscribe ∷ take_all ∷ shouts 257);
}
