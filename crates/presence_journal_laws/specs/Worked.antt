-- A worked checkpoint: of a run with a subscriber, an updated row, and another replica that is gone.
use Rattle.std.specs.Prelude.{List, [], ◌∷◌, Some, None, codes}
use Rattle.serde_json.specs.Data.{Data, object, no_members}
use Rattle.presence_base.specs.declared.dots.Replica.{Replica}
use Rattle.presence_base.specs.declared.dots.Dot.{Dot}
use Rattle.orswot_core.specs.Telling.{ToldValue}
use Rattle.replica_status.specs.declared.standing.Standing.TheVariants.{Gone}
use Rattle.presence_journal.specs.declared.step.Step.TheVariants as steps_are
use Rattle.presence_journal.specs.declared.step.Step.{Step}
use Rattle.presence_journal.specs.declared.entry.Start.{Start}
use Rattle.presence_journal.specs.History.{History, nothing_kept}
use Rattle.presence_journal.specs.Laws.{ran, empty, dot, room, user, row_of, subscribe}
use Rattle.presence_journal_cuts.specs.Checkpoints.{IsCheckpoint}

abbrev pub node_a : Replica
node_a = record { name = codes "a"; incarnation = 1 }

abbrev pub node_b : Replica
node_b = record { name = codes "b"; incarnation = 1 }

-- a meta with nothing in it
abbrev pub plain : Data
plain = object no_members

abbrev pub dot_of_b : Dot
dot_of_b = record { replica = node_b; count = 1 }

-- what node b tells: one row
abbrev pub told_by_b : ToldValue
told_by_b = record { ranges = (node_b, 0, 1) ∷ []; extras = []; live = (dot_of_b, row_of 7 plain None) ∷ [] }

abbrev pub track_one : Step
track_one = steps_are.Track 1 room user plain

abbrev pub update_one : Step
update_one = steps_are.Update 1 room user plain

abbrev pub worked_steps : List Step
worked_steps = subscribe ∷ track_one ∷ steps_are.Merge told_by_b ∷ steps_are.PermDown node_b ∷ update_one ∷ []

abbrev pub worked_run : History
worked_run = ran empty worked_steps

-- the own dots and the new row; of node b only that it is gone; the new row's count stands for that of the row that it replaced
abbrev pub worked_start : Start
worked_start = record {
  number = 6;
  own = node_a;
  count = 2;
  content = record { ranges = (node_a, 0, 2) ∷ []; extras = []; live = (dot 2, row_of 1 plain (Some (dot 1))) ∷ [] };
  standings = (node_b, Gone) ∷ [];
  time = 0;
  last_cut = 0;
  older = [];
  chains = (2, (0, 1) ∷ []) ∷ [];
  kept = nothing_kept;
  subscribers = (1, room) ∷ [];
  current = [];
  seated = 0;
}

abbrev pub StartStands : Type 0
StartStands = IsCheckpoint worked_run worked_start
