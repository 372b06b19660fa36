-- What a plain table knows of other nodes, and what their steps do to it: who is heard, what is told, and a rebirth.
use Rattle.std.specs.Prelude.{ℕ, ◌+◌, ◌^◌, max, Bool, true, false, cond, not, ◌&&◌, ◌||◌, nat_lt, nat_le, List, [], ◌∷◌, ◌++◌, filter, Option, Some, None}
use Rattle.std.specs.List.{list_any}
use Rattle.std.specs.FinMap as map
use Rattle.presence_base.specs.declared.dots.Replica.{Replica}
use Rattle.presence_base.specs.declared.dots.Dot.{Dot}
use Rattle.presence_base.specs.declared.row.Row.{Row}
use Rattle.presence_base.specs.Order.{dot_cmp, same_replica}
use Rattle.orswot_core.specs.Telling.{ToldValue, covers, tells_removed}
use Rattle.replica_status.specs.declared.standing.Standing.{Standing}
use Rattle.replica_status.specs.declared.status.Status.{Status}
use Rattle.replica_status.specs.declared.status.Status.TheVariants as status_is
use Rattle.replica_status.specs.Table.{status_of, is_unheard, heard_at, ticked_at, put_down}
use Rattle.presence_journal.specs.declared.step.Step.{Step}
use Rattle.presence_journal.specs.declared.step.Step.TheVariants as steps_are

-- live rows by their dots
abbrev pub Rows : Type 0
Rows = map.FinMap dot_cmp Row

pub record Others : Type 0 where
  -- of each replica, whether it is unheard, up or down, and when it was heard last, or gone
  pub standing : Replica → Standing
  -- the greatest time handed in
  pub time : ℕ
  -- the dots that were counted here, told and heard, or covered by the Start, whether their rows are live or not
  pub known : Dot → Bool
  -- whether some dot of the replica is known
  pub named : Replica → Bool

-- the own replica is up
abbrev pub status : Replica → Others → Replica → Status
status own o r = cond (same_replica r own) status_is.Up (status_of (o.standing r))

abbrev pub is_up : Status → Bool
is_up status_is.Up = true
is_up _ = false

abbrev pub is_gone : Status → Bool
is_gone status_is.Gone = true
is_gone _ = false

-- what is told of the own replica, or of one that is gone, is not heard
abbrev pub hears : Replica → Others → Replica → Bool
hears own o r = not (same_replica r own) && not (is_gone (status own o r))

-- Merges.

abbrev pub merged_dot : Replica → Others → Step → Dot → Bool
merged_dot own o (steps_are.Merge told) d = hears own o d.replica && covers told d
merged_dot own o s d = false

-- a dot of the replica is told
abbrev pub tells_of : Replica → ToldValue → Bool
tells_of r told = list_any (λ g. same_replica r g.0 && nat_lt g.1 g.2) told.ranges
    || list_any (λ d. same_replica r d.replica) told.extras

abbrev pub merged_replica : Replica → Others → Step → Replica → Bool
merged_replica own o (steps_are.Merge told) r = hears own o r && tells_of r told
merged_replica own o s r = false

-- a row that is told comes where its dot is not known, and a live one goes where its dot is told without it
abbrev pub merged : Replica → Others → ToldValue → Rows → Rows
merged own o told rows =
    map.from_entries (filter (λ (x : Dot × Row). hears own o x.0.replica && not (o.known x.0)) told.live
    ++ map.entries (map.retain_keys rows (λ d. not (hears own o d.replica && tells_removed told d))))

abbrev pub rows_merged : Replica → Others → Step → Rows → Rows
rows_merged own o (steps_are.Merge told) rows = merged own o told rows
rows_merged own o s rows = rows

-- Rebirths: the own replica goes on under another incarnation, and each own row under a new dot.

abbrev pub reborn : Replica → ℕ → Replica
reborn r i = record { name = r.name; incarnation = i }

-- the incarnation is above the own one and at most 2^62, and nothing was heard or told of that replica
abbrev pub can_be_reborn : Replica → Others → ℕ → Bool
can_be_reborn own o i = nat_lt own.incarnation i && (nat_le i (2 ^ 62)
    && (is_unheard (status own o (reborn own i)) && not (o.named (reborn own i))))

-- these dots under the next counts of the replica, each new one with the old one
abbrev pub renewed : Replica → ℕ → List Dot → List (Dot × Dot)
renewed r n [] = []
renewed r n (d ∷ ds) = (record { replica = r; count = n + 1 }, d) ∷ renewed r (n + 1) ds

abbrev pub with_prev : Dot → Row → Row
with_prev old r = record { topic = r.topic; key = r.key; pid = r.pid; meta = r.meta; prev = Some old }

abbrev pub put_again : Dot × Dot → Option Row → Rows → Rows
put_again p None rows = rows
put_again p (Some r) rows = map.insert rows p.0 (with_prev p.1 r)

-- the old ones stay, but are of a replica that is gone
abbrev pub rows_again : Rows → List (Dot × Dot) → Rows
rows_again rows [] = rows
rows_again rows (p ∷ ps) = put_again p (map.get rows p.1) (rows_again rows ps)

abbrev pub own_after : Step → Replica → Replica
own_after (steps_are.Rebirth i) own = reborn own i
own_after s own = own

-- What is known behind a step.

-- the dots of the replica with the counts from 1 to n
abbrev pub is_counted : Replica → ℕ → Dot → Bool
is_counted r n d = same_replica d.replica r && (nat_lt 0 d.count && nat_le d.count n)

-- a clock that goes back counts as no time passed
abbrev pub time_after : Step → ℕ → ℕ
time_after (steps_are.Heard replica now) time = max time now
time_after (steps_are.Tick now) time = max time now
time_after s time = time

abbrev pub standing_after : Replica → Step → ℕ → Replica → Standing → Standing
standing_after own (steps_are.Heard replica now) time r x = cond (same_replica r replica) (heard_at time x) x
standing_after own (steps_are.Tick now) time r x = ticked_at time x
standing_after own (steps_are.PermDown replica) time r x = cond (same_replica r replica) (put_down x) x
standing_after own (steps_are.Rebirth i) time r x = cond (same_replica r own) (put_down x) x
standing_after own s time r x = x

-- `n` counts are used behind the step
abbrev pub others_after : Replica → Others → Step → ℕ → Others
others_after own o s n = record {
  standing = λ r. standing_after own s (time_after s o.time) r (o.standing r);
  time = time_after s o.time;
  known = λ d. o.known d || (is_counted (own_after s own) n d || merged_dot own o s d);
  named = λ r. o.named r || ((same_replica r (own_after s own) && nat_lt 0 n) || merged_replica own o s r);
}
