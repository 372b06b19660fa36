-- The world of nodes: the lives of each node, and all that was ever told, which may come to any node once, again, late or
-- never; and what an event makes of it.
use Rattle.std.specs.Prelude.{◌≡◌, ℕ, ◌^◌, Bool, true, false, cond, ◌&&◌, nat_lt, nat_le, is_some, List, [], ◌∷◌, ◌++◌, map as each, set, slice_get, Option, Some, None, option_map}
use Rattle.std.specs.FinMap as map
use Rattle.presence_base.specs.declared.dots.Replica.{Replica}
use Rattle.presence_base.specs.declared.dots.Dot.{Dot}
use Rattle.presence_base.specs.declared.row.Row.{Row}
use Rattle.presence_base.specs.Order.{replica_cmp}
use Rattle.orswot_core.specs.declared.form.Form.{Form}
use Rattle.orswot_core.specs.Telling.{ToldValue}
use Rattle.delta_range.specs.Deltas.{DeltaValue, telling_in, IsDelta}
use Rattle.presence_journal.specs.StepLimits.{is_heard}
use Rattle.presence_journal.specs.declared.step.Step.TheVariants as steps_are
use Rattle.presence_journal.specs.declared.entry.Outcome.TheVariants as outcomes_are
use Rattle.presence_journal.specs.declared.step.Step.{Step}
use Rattle.presence_journal.specs.declared.entry.Outcome.{Outcome}
use Rattle.presence_journal.specs.declared.entry.Start.{Start}
use Rattle.presence_journal.specs.History.{History, Begin, begun, last_number, row_made, row}
use Rattle.presence_journal.specs.Table.{accepted, after, is_step}
use Rattle.presence_journal_cuts.specs.Cuts.{IsCut}
use Rattle.presence_journal_cuts.specs.KeptDeltas.{TellsFrom}
use Rattle.presence_journal_cuts.specs.ToldParts.{IsPart, HasNoPart}
use Rattle.presence_journal_cuts.specs.Checkpoints.{IsCheckpoint}
use Rattle.node_world.specs.Others.{of_others}
use Rattle.node_world.specs.declared.event.Event.{Event}
use Rattle.node_world.specs.declared.event.Event.TheVariants as events_are

-- one life of a node: its history, from its last Start on, and each row that its own entries ever added, with its dot
pub record LifeValue : Type 0 where
  pub history : History
  pub made : List (Dot × Row)

abbrev pub Lives : Type 0
Lives = map.FinMap replica_cmp LifeValue

-- all lives by replica, those that ended too; the replica that each node is now; what was told, the oldest first
pub record WorldValue : Type 0 where
  pub lives : Lives
  pub present : List Replica
  pub told : List ToldValue

-- ---- at first

abbrev pub first_life : List ℕ → Replica
first_life name = record { name = name; incarnation = 1 }

abbrev pub newborn : Replica → LifeValue
newborn r = record { history = begun r; made = [] }

-- with the first life of each of these nodes
abbrev pub with_lives : Lives → List (List ℕ) → Lives
with_lives m [] = m
with_lives m (n ∷ ns) = with_lives (map.insert m (first_life n) (newborn (first_life n))) ns

-- each node in its first life, with nothing
abbrev pub start : List (List ℕ) → WorldValue
start names = record { lives = with_lives map.empty names; present = each first_life names; told = [] }

-- ---- a step of a node

abbrev pub with_replica : Replica → Option LifeValue → Option (Replica × LifeValue)
with_replica r None = None
with_replica r (Some l) = Some (r, l)

abbrev pub life_of : WorldValue → Option Replica → Option (Replica × LifeValue)
life_of w None = None
life_of w (Some r) = with_replica r (map.get w.lives r)

-- the present life of a node, if there is such a node
abbrev pub life_at : WorldValue → ℕ → Option (Replica × LifeValue)
life_at w n = life_of w (slice_get w.present n)

abbrev pub under : Dot → Option Row → Option (Dot × Row)
under d None = None
under d (Some r) = Some (d, r)

-- the row that a step adds, under its dot
abbrev pub added : Step → Option Outcome → Option (Dot × Row)
added s (Some (outcomes_are.Added d)) = under d (row_made s None)
added s (Some (outcomes_are.Replaced d old)) = under d (row_made s (Some old))
added s _ = None

abbrev pub with_row : List (Dot × Row) → Option (Dot × Row) → List (Dot × Row)
with_row xs None = xs
with_row xs (Some x) = xs ++ x ∷ []

-- the life behind a step of its own; no rebirth is one, since another life goes on from it
abbrev pub stepped : Step → LifeValue → LifeValue
stepped s l = record { history = after l.history s None; made = with_row l.made (added s (accepted l.history s)) }

abbrev pub with_life : WorldValue → Replica → LifeValue → WorldValue
with_life w r l = record w { lives = map.insert w.lives r l }

abbrev pub acted : WorldValue → Step → Option (Replica × LifeValue) → WorldValue
acted w s None = w
acted w s (Some x) = with_life w x.0 (stepped s x.1)

-- the step of a node's present life
abbrev pub acts : WorldValue → ℕ → Step → WorldValue
acts w n s = acted w s (life_at w n)

-- ---- what is told

abbrev pub with_told : WorldValue → ToldValue → WorldValue
with_told w t = record w { told = w.told ++ t ∷ [] }

-- what a cut of a history tells in a form
pub record TellsCut (form : Form) (h : History) (t : ToldValue) : Type 0 where
  pub delta : DeltaValue
  pub cut : IsCut h delta
  pub sound : IsDelta delta
  pub tells : t ≡ telling_in form delta
  pub limits : is_heard t ≡ true

-- what is told from a count on, or in full, in a form
pub record TellsWhole (form : Form) (h : History) (from : Option ℕ) (t : ToldValue) : Type 0 where
  pub tells : TellsFrom form h from t
  pub limits : is_heard t ≡ true

-- a part of what a history tells from a count on, in a form; where it ends is the teller's choice
pub record TellsPart (form : Form) (h : History) (n : ℕ) (t : ToldValue) : Type 0 where
  pub delta : DeltaValue
  pub part : IsPart h n delta
  pub sound : IsDelta delta
  pub is : t ≡ telling_in form delta
  pub limits : is_heard t ≡ true

-- or nothing, where even a part without rows is too much for a line
abbrev pub TellsPartIf : Form → History → ℕ → Option ToldValue → Type 0
TellsPartIf form h n None = HasNoPart h n
TellsPartIf form h n (Some t) = TellsPart form h n t

-- ---- events

-- the step is one that callers ask for
abbrev pub is_client : Step → Bool
is_client (steps_are.Heard replica now) = false
is_client (steps_are.Tick now) = false
is_client (steps_are.PermDown replica) = false
is_client steps_are.Cut = false
is_client (steps_are.Merge told) = false
is_client (steps_are.Rebirth incarnation) = false
is_client _ = true

-- and within its limits
abbrev pub may_ask : Step → Bool
may_ask s = is_client s && is_step s

-- where the cut is accepted, what it tells is kept
abbrev pub CutsHere : Form → Bool → WorldValue → Replica × LifeValue → WorldValue → Type 0
CutsHere form true w x v =
    (t : ToldValue) × TellsCut form x.1.history t × (v ≡ with_told (with_life w x.0 (stepped steps_are.Cut x.1)) t)
CutsHere form false w x v = v ≡ w

abbrev pub Cuts : Form → WorldValue → Option (Replica × LifeValue) → WorldValue → Type 0
Cuts form w None v = v ≡ w
Cuts form w (Some x) v = CutsHere form (is_some (accepted x.1.history steps_are.Cut)) w x v

abbrev pub Tells : Form → WorldValue → Option ℕ → Option (Replica × LifeValue) → WorldValue → Type 0
Tells form w from None v = v ≡ w
Tells form w from (Some x) v = (t : ToldValue) × TellsWhole form x.1.history from t × (v ≡ with_told w t)

abbrev pub with_told_if : WorldValue → Option ToldValue → WorldValue
with_told_if w None = w
with_told_if w (Some t) = with_told w t

abbrev pub TellsInPart : Form → WorldValue → ℕ → Option (Replica × LifeValue) → WorldValue → Type 0
TellsInPart form w n None v = v ≡ w
TellsInPart form w n (Some x) v = (o : Option ToldValue) × TellsPartIf form x.1.history n o × (v ≡ with_told_if w o)

abbrev pub delivered : WorldValue → ℕ → Option ToldValue → WorldValue
delivered w n None = w
delivered w n (Some t) = acts w n (steps_are.Merge t)

-- the life with this Start in its history's place
abbrev pub begun_again : Start → LifeValue → LifeValue
begun_again s l = record { history = Begin s; made = l.made }

-- where a number is left, the history becomes a Start that stands for it
abbrev pub BeginsHere : Bool → WorldValue → Replica × LifeValue → WorldValue → Type 0
BeginsHere true w x v =
    (s : Start) × IsCheckpoint x.1.history s × (v ≡ with_life w x.0 (begun_again s x.1))
BeginsHere false w x v = v ≡ w

abbrev pub Begins : WorldValue → Option (Replica × LifeValue) → WorldValue → Type 0
Begins w None v = v ≡ w
Begins w (Some x) v = BeginsHere (nat_lt (last_number x.1.history) (2 ^ 62)) w x v

-- a higher incarnation, up to 2^62
abbrev pub is_later : Replica → ℕ → Bool
is_later r i = nat_lt r.incarnation i && nat_le i (2 ^ 62)

abbrev pub next_life : Replica → ℕ → Replica
next_life r i = record { name = r.name; incarnation = i }

abbrev pub begun_anew : WorldValue → ℕ → Replica → WorldValue
begun_anew w n r = record { lives = map.insert w.lives r (newborn r); present = set w.present n r; told = w.told }

abbrev pub restarted : WorldValue → ℕ → ℕ → Option Replica → WorldValue
restarted w n i None = w
restarted w n i (Some r) = cond (is_later r i) (begun_anew w n (next_life r i)) w

-- a row before these, where there is one
abbrev pub before_rows : Option (Dot × Row) → List (Dot × Row) → List (Dot × Row)
before_rows None xs = xs
before_rows (Some x) xs = x ∷ xs

-- the rows under the new dots of these pairs
abbrev pub rows_under : (Dot → Option Row) → List (Dot × Dot) → List (Dot × Row)
rows_under rows [] = []
rows_under rows (p ∷ ps) = before_rows (under p.0 (rows p.0)) (rows_under rows ps)

-- the life that goes on from another one: its history is that one's with the entry of the rebirth, and the rows that it
-- made are those that go on
abbrev pub gone_on : ℕ → List (Dot × Dot) → LifeValue → LifeValue
gone_on i pairs l = record {
  history = after l.history (steps_are.Rebirth i) None;
  made = rows_under (row (after l.history (steps_are.Rebirth i) None)) pairs;
}

-- the node's present life is that one, and the one before stays as it was; where the rebirth is refused nothing changes
abbrev pub goes_on_as : WorldValue → ℕ → ℕ → Replica × LifeValue → Option Outcome → WorldValue
goes_on_as w n i x (Some (outcomes_are.Reborn pairs)) = record {
  lives = map.insert w.lives (next_life x.0 i) (gone_on i pairs x.1);
  present = set w.present n (next_life x.0 i);
  told = w.told;
}
goes_on_as w n i x _ = w

abbrev pub rebirths : WorldValue → ℕ → ℕ → Option (Replica × LifeValue) → WorldValue
rebirths w n i None = w
rebirths w n i (Some x) = goes_on_as w n i x (accepted x.1.history (steps_are.Rebirth i))

-- What an event makes of a world, one line for each. A cut, a full value, a part and a checkpoint leave open which value of the form
-- is told, or which Start is made, of those that are right; all that is said of worlds holds for each.
abbrev pub Happens : WorldValue → Event → WorldValue → Type 0
Happens w (events_are.Client n s) v = v ≡ cond (may_ask s) (acts w n s) w
Happens w (events_are.Cut n form) v = Cuts form w (life_at w n) v
Happens w (events_are.Full n from form) v = Tells form w from (life_at w n) v
Happens w (events_are.Part n from to form) v = TellsInPart form w from (life_at w n) v
Happens w (events_are.Deliver n k) v = v ≡ delivered w n (slice_get w.told k)
Happens w (events_are.DeliverOthers n k) v =
    v ≡ delivered w n (option_map (of_others (slice_get w.present n)) (slice_get w.told k))
Happens w (events_are.Heard n r now) v = v ≡ acts w n (steps_are.Heard r now)
Happens w (events_are.Tick n now) v = v ≡ acts w n (steps_are.Tick now)
Happens w (events_are.PermDown n r) v = v ≡ acts w n (steps_are.PermDown r)
Happens w (events_are.Checkpoint n) v = Begins w (life_at w n) v
Happens w (events_are.Restart n i) v = v ≡ restarted w n i (slice_get w.present n)
Happens w (events_are.Rebirth n i) v = v ≡ rebirths w n i (life_at w n)

-- events make this of a world, one after another
abbrev pub Runs : WorldValue → List Event → WorldValue → Type 0
Runs w [] v = v ≡ w
Runs w (e ∷ es) v = (u : WorldValue) × Happens w e u × Runs u es v
