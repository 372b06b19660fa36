-- What the claims need of three rules of a step: runs in which a claim would break, were the rule another one.
use Rattle.std.specs.Prelude.{◌≡◌, suc, true, [], ◌∷◌, None, Some, codes}
use Rattle.presence_base.specs.declared.row.Row.{Row}
use Rattle.orswot_core.specs.Telling.{live_row}
use Rattle.delta_range.specs.Deltas.{DeltaValue, telling}
use Rattle.presence_journal.specs.declared.step.Step.TheVariants as steps_are
use Rattle.presence_journal.specs.History.{History, begun, count, status, is_up, live, shown}
use Rattle.presence_journal.specs.Laws.{ran, empty, dot, row_of, here, track, untrack}
use Rattle.presence_journal_laws.specs.Joined.{merge_of}
use Rattle.presence_journal_laws.specs.Plain.{node_a, tracked, first_delta}
use Rattle.node_world.specs.Claims.{IsOver, IsCaughtUp}

abbrev pub first_row : Row
first_row = row_of 1 here None

-- the owner took out the row that it had tracked
abbrev pub taken_out : History
taken_out = ran empty (track 1 ∷ untrack 1 ∷ [])

-- what its second cut tells
abbrev pub second_delta : DeltaValue
second_delta = record { owner = node_a; from = 1; to = 2; older = (0, 1) ∷ []; live = [] }

-- another node, which heard the owner, and what the first cut tells
abbrev pub hearer : History
hearer =
    ran (begun (record { name = codes "b"; incarnation = 1 })) (steps_are.Heard node_a 0 ∷ merge_of first_delta ∷ [])

-- and what the second one tells
abbrev pub hearer_of_both : History
hearer_of_both = ran hearer (merge_of second_delta ∷ [])

-- and put the owner down
abbrev pub parted : History
parted = ran hearer (steps_are.PermDown node_a ∷ [])

-- A removal uses a count. With none, a node would be caught up that shows a row which went.
pub record NeedCounts : Type 0 where
  pub level : IsCaughtUp hearer node_a (count tracked)
  pub stays : shown hearer (dot 1) ≡ Some first_row
  pub went : shown taken_out (dot 1) ≡ None
  pub counted : count taken_out ≡ suc (count tracked)

-- Who is gone stays gone. Heard again, the owner's rows would be shown again: the node has them still.
pub record NeedGone : Type 0 where
  pub over : IsOver parted (dot 1)
  pub has : live parted (dot 1) ≡ Some first_row
  pub hidden : shown (ran parted (steps_are.Heard node_a 1 ∷ [])) (dot 1) ≡ None

-- What is removed stays removed. Told again, the first delta would put the row back, as it does where the row is new.
pub record NeedRemovals : Type 0 where
  pub over : IsOver hearer_of_both (dot 1)
  pub tells : live_row (telling first_delta) (dot 1) ≡ Some first_row
  pub up : is_up (status hearer_of_both node_a) ≡ true
  pub hidden : shown (ran hearer_of_both (merge_of first_delta ∷ [])) (dot 1) ≡ None

pub record NeedRules : Type 0 where
  pub counts : NeedCounts
  pub gone : NeedGone
  pub removals : NeedRemovals
