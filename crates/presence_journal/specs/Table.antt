-- The sequential presence table: what each step comes to, and the histories that keep to it.
use Rattle.std.specs.Prelude.{◌≡◌, ◌≤◌, ℕ, ◌+◌, ◌^◌, Bool, true, false, cond, ◌&&◌, nat_eq, nat_lt, nat_le, min, IsTrue, List, [], ◌∷◌, length, filter, map as each, not, Option, Some, None}
use Rattle.std.specs.List.{AllByRecursion, list_all}
use Rattle.presence_base.specs.declared.dots.Replica.{Replica}
use Rattle.presence_base.specs.declared.dots.Dot.{Dot}
use Rattle.presence_base.specs.declared.row.Row.{Row}
use Rattle.presence_base.specs.Names.{is_node_name, is_short_text}
use Rattle.std.specs.FinMap as map
use Rattle.presence_base.specs.Order.{dot_cmp, same_text, same_replica}
pub use Rattle.replica_status.specs.Table.{is_unheard}
use Rattle.presence_base.specs.Refs.{IsCount}
use Rattle.dot_context.specs.Runs.{AreLong}
use Rattle.orswot_core.specs.Checks.{has_repeat}
use Rattle.orswot_core.specs.Telling.{covers}
use Rattle.delta_range.specs.Deltas.{DeltaValue, GoesOn}
use Rattle.delta_range.specs.Keeping.{IsNext}
use Rattle.presence_journal.specs.declared.step.Step.TheVariants as steps_are
use Rattle.presence_journal.specs.declared.entry.Outcome.TheVariants as outcomes_are
use Rattle.presence_journal.specs.StepLimits.{is_heard, is_within_limits}
use Rattle.presence_journal.specs.Steps.{Step, Outcome, Entry, Start}
use Rattle.presence_journal.specs.History.{History, Begin, Then, own, reborn, count, is_counted, last_cut, next_dot, last_number, is_full, status, shown, has_dots}
use Rattle.presence_journal.specs.Present.{dots, listed, dots_of}
use Rattle.presence_journal.specs.Queue.{Waiting, Behind, Queued, queue, topic_of}

-- an own row of this pid
abbrev pub is_mine : History → ℕ → Dot × Row → Bool
is_mine h pid x = same_replica x.0.replica (own h) && nat_eq x.1.pid pid

abbrev pub has_key : List ℕ → Dot × Row → Bool
has_key key x = same_text x.1.key key

-- the own present rows of a pid and topic, and of a key too
unfoldable pub rows_of_pid : History → ℕ → List ℕ → List (Dot × Row)
rows_of_pid h pid t = filter (is_mine h pid) (listed h t)

unfoldable pub rows_of_key : History → ℕ → List ℕ → List ℕ → List (Dot × Row)
rows_of_key h pid t key = filter (has_key key) (rows_of_pid h pid t)

-- the present rows of one key
unfoldable pub listed_key : History → List ℕ → List ℕ → List (Dot × Row)
listed_key h t key = filter (has_key key) (listed h t)

-- where a count is used, one has to be left
abbrev pub counting : History → Outcome → Option Outcome
counting h o = cond (nat_lt (count h) (2 ^ 62)) (Some o) None

abbrev pub tracked : History → List (Dot × Row) → Option Outcome
tracked h [] = counting h (outcomes_are.Added (next_dot h))
tracked h (x ∷ xs) = Some outcomes_are.AlreadyTracked

abbrev pub updated : History → List (Dot × Row) → Option Outcome
updated h [] = Some outcomes_are.NoPresence
updated h (x ∷ xs) = counting h (outcomes_are.Replaced (next_dot h) x.0)

abbrev pub untracked : History → List Dot → Option Outcome
untracked h [] = Some (outcomes_are.Removed [])
untracked h (d ∷ ds) = counting h (outcomes_are.Removed (d ∷ ds))

abbrev pub take_outcome : ℕ → Waiting → Outcome
take_outcome max Behind = outcomes_are.Taken true 1
take_outcome max (Queued q) = outcomes_are.Taken false (min max (length q))

abbrev pub for_present : Option (List ℕ) → Outcome → Option Outcome
for_present None o = None
for_present (Some t) o = Some o

-- Rebirths. The own dots whose rows are shown, in order of dot, and each under the new replica's next count.

abbrev pub own_shown : History → Dot → Option Row
own_shown h d = cond (same_replica d.replica (own h)) (shown h d) None

abbrev pub DotRows : Type 0
DotRows = map.FinMap dot_cmp Row

abbrev pub put_row : Dot → Option Row → DotRows → DotRows
put_row d None m = m
put_row d (Some r) m = map.insert m d r

abbrev pub put_rows : (Dot → Option Row) → List Dot → DotRows
put_rows f [] = map.empty
put_rows f (d ∷ ds) = put_row d (f d) (put_rows f ds)

unfoldable pub own_dots : History → List Dot
own_dots h = each (λ e. e.0) (map.entries (put_rows (own_shown h) (dots h)))

-- the new dots, each with its old one
abbrev pub reborn_from : Replica → ℕ → List Dot → List (Dot × Dot)
reborn_from r n [] = []
reborn_from r n (d ∷ ds) = (record { replica = r; count = n + 1 }, d) ∷ reborn_from r (n + 1) ds

abbrev pub pairs_for : History → ℕ → List (Dot × Dot)
pairs_for h i = reborn_from (reborn (own h) i) 0 (own_dots h)

abbrev pub reborn_rows : Bool → Replica → List Dot → Option Outcome
reborn_rows can r ds = cond can (Some (outcomes_are.Reborn (reborn_from r 0 ds))) None

-- the own replica can go on under the incarnation: it is above the own one and at most 2^62, and of that replica nothing was
-- heard or told
unfoldable pub can_be_reborn : History → ℕ → Bool
can_be_reborn h i = nat_lt (own h).incarnation i && (nat_le i (2 ^ 62)
    && (is_unheard (status h (reborn (own h) i)) && not (has_dots h (reborn (own h) i))))

-- What a step comes to where its entry has room, or None where no count is left or no present subscriber has the
-- number. (A subscriber is found by its slot too: that half is the shard's.)
unfoldable pub outcome_of : History → Step → Option Outcome
outcome_of h (steps_are.Track pid topic key meta) = tracked h (rows_of_key h pid topic key)
outcome_of h (steps_are.Update pid topic key meta) = updated h (rows_of_key h pid topic key)
outcome_of h (steps_are.Untrack pid topic key) = untracked h (dots_of (rows_of_key h pid topic key))
outcome_of h (steps_are.UntrackAll pid topic) = untracked h (dots_of (rows_of_pid h pid topic))
outcome_of h (steps_are.List topic) = Some (outcomes_are.Shown (dots_of (listed h topic)))
outcome_of h (steps_are.Get topic key) = Some (outcomes_are.Shown (dots_of (listed_key h topic key)))
outcome_of h (steps_are.Subscribe topic) = Some (outcomes_are.Subscribed (last_number h + 1))
outcome_of h (steps_are.Take n max) = for_present (topic_of h n) (take_outcome max (queue h n))
outcome_of h (steps_are.Unsubscribe n) = for_present (topic_of h n) outcomes_are.Ended
outcome_of h (steps_are.Shout topic payload) = Some outcomes_are.Sent
outcome_of h (steps_are.Heard replica now) = Some outcomes_are.Noted
outcome_of h (steps_are.Tick now) = Some outcomes_are.Noted
outcome_of h (steps_are.PermDown replica) = Some outcomes_are.Noted
outcome_of h steps_are.Cut = Some (outcomes_are.CutAt (last_cut h) (count h))
outcome_of h (steps_are.Merge told) = Some outcomes_are.Merged
outcome_of h (steps_are.Rebirth incarnation) =
    reborn_rows (can_be_reborn h incarnation) (reborn (own h) incarnation) (own_dots h)

abbrev pub next_entry : History → Step → Option ℕ → Outcome → Entry
next_entry h s seat o = record { number = last_number h + 1; seat = seat; step = s; outcome = o }

abbrev pub with_outcome : History → Step → Option ℕ → Option Outcome → History
with_outcome h s seat None = h
with_outcome h s seat (Some o) = Then h (next_entry h s seat o)

-- no entry can follow a full journal
unfoldable pub accepted : History → Step → Option Outcome
accepted h s = cond (is_full h) None (outcome_of h s)

-- the history after a step, the same where it is refused
unfoldable pub after : History → Step → Option ℕ → History
after h s seat = with_outcome h s seat (accepted h s)

-- a session's number, which a row keeps, is at most 2^62, and what is told is sound
abbrev pub is_step : Step → Bool
is_step (steps_are.Track pid topic key meta) = nat_le pid (2 ^ 62)
is_step (steps_are.Update pid topic key meta) = nat_le pid (2 ^ 62)
is_step (steps_are.Merge told) = is_heard told
is_step _ = true

-- a subscriber of a number up to this one, on a topic
abbrev pub is_subscriber : ℕ → ℕ × List ℕ → Bool
is_subscriber last x = nat_le x.0 last && is_short_text x.1

-- The limits of what a journal begins with. Of the own replica all counts that were used are covered, and no others. What
-- went since the last cut lies at or below it; no run is hollow. The next cut goes on from the kept deltas.
pub record IsStart (s : Start) : Type 0 where
  pub name : IsTrue (is_node_name s.own.name)
  pub incarnation : IsCount s.own.incarnation
  pub number : s.number ≤ 2 ^ 62
  pub count : s.count ≤ 2 ^ 62
  pub content : is_heard s.content ≡ true
  pub own_dots : (d : Dot) → d.replica ≡ s.own → covers s.content d ≡ is_counted s.own s.count d
  pub cut : s.last_cut ≤ s.count
  pub older : AreLong s.older
  pub older_low : list_all (λ r. nat_le r.1 s.last_cut) s.older ≡ true
  pub chains : AllByRecursion (λ x. AreLong x.1) s.chains
  pub kept : (d : DeltaValue) → GoesOn s.own s.last_cut d → IsNext s.kept.last d
  pub subscribers : list_all (is_subscriber s.number) s.subscribers ≡ true
  pub subscribers_once : has_repeat nat_eq (each (λ x. x.0) s.subscribers) ≡ false
  pub seated : s.seated ≤ s.number

-- each entry has the outcome of the table and the next number, and stands where there was room for it
abbrev pub IsLegal : History → Type 0
IsLegal (Begin s) = IsStart s
IsLegal (Then h e) = IsLegal h × (outcome_of h e.step ≡ Some e.outcome) × (e.number ≡ last_number h + 1)
    × (is_full h ≡ false) × (is_step e.step ≡ true)

-- each step is within all its limits
abbrev pub AreWithinLimits : History → Type 0
AreWithinLimits (Begin s) = Unit {0}
AreWithinLimits (Then h e) = AreWithinLimits h × (is_within_limits e.step ≡ true)

-- what a journal keeps: it is legal, and it has no step that a shard couldn't make
pub record IsKept (h : History) : Type 0 where
  pub legal : IsLegal h
  pub limits : AreWithinLimits h
