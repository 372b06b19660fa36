-- When two steps and two outcomes are alike. Metas and payloads are compared by their compact text.
use Rattle.std.specs.Prelude.{ℕ, Bool, true, false, ◌&&◌, nat_eq, List}
use Rattle.std.specs.Bool.{beq}
use Rattle.std.specs.declared.cmp.Ordering.{Ordering}
use Rattle.std.specs.Ordering.{eq_by_cmp, ordering_then}
use Rattle.std.specs.Cmp.Lexicographic.{slice_cmp}
use Rattle.serde_json.specs.Data.{Data}
use Rattle.serde_json.specs.Written.{compact_text}
use Rattle.presence_base.specs.declared.dots.Replica.{Replica}
use Rattle.presence_base.specs.declared.dots.Dot.{Dot}
use Rattle.presence_base.specs.Order.{same_text, same_replica, same_dot, dot_cmp}
use Rattle.presence_journal.specs.ListedDots.{same_dots}
use Rattle.presence_journal.specs.declared.step.Step.{Step}
use Rattle.presence_journal.specs.declared.step.Step.TheVariants as steps_are
use Rattle.presence_journal.specs.declared.entry.Outcome.{Outcome}
use Rattle.presence_journal.specs.declared.entry.Outcome.TheVariants as outcomes_are

abbrev pub same_value : Data → Data → Bool
same_value a b = same_text (compact_text a) (compact_text b)

-- Is this that step? One question for each kind.

abbrev pub is_track : ℕ → List ℕ → List ℕ → Data → Step → Bool
is_track pid topic key meta (steps_are.Track p t k m) =
    nat_eq p pid && (same_text t topic && (same_text k key && same_value m meta))
is_track pid topic key meta _ = false

abbrev pub is_update : ℕ → List ℕ → List ℕ → Data → Step → Bool
is_update pid topic key meta (steps_are.Update p t k m) =
    nat_eq p pid && (same_text t topic && (same_text k key && same_value m meta))
is_update pid topic key meta _ = false

abbrev pub is_untrack : ℕ → List ℕ → List ℕ → Step → Bool
is_untrack pid topic key (steps_are.Untrack p t k) = nat_eq p pid && (same_text t topic && same_text k key)
is_untrack pid topic key _ = false

abbrev pub is_untrack_all : ℕ → List ℕ → Step → Bool
is_untrack_all pid topic (steps_are.UntrackAll p t) = nat_eq p pid && same_text t topic
is_untrack_all pid topic _ = false

abbrev pub is_list : List ℕ → Step → Bool
is_list topic (steps_are.List t) = same_text t topic
is_list topic _ = false

abbrev pub is_get : List ℕ → List ℕ → Step → Bool
is_get topic key (steps_are.Get t k) = same_text t topic && same_text k key
is_get topic key _ = false

abbrev pub is_subscribe : List ℕ → Step → Bool
is_subscribe topic (steps_are.Subscribe t) = same_text t topic
is_subscribe topic _ = false

abbrev pub is_take : ℕ → ℕ → Step → Bool
is_take subscriber max (steps_are.Take n m) = nat_eq n subscriber && nat_eq m max
is_take subscriber max _ = false

abbrev pub is_unsubscribe : ℕ → Step → Bool
is_unsubscribe subscriber (steps_are.Unsubscribe n) = nat_eq n subscriber
is_unsubscribe subscriber _ = false

abbrev pub is_shout : List ℕ → Data → Step → Bool
is_shout topic payload (steps_are.Shout t p) = same_text t topic && same_value p payload
is_shout topic payload _ = false

abbrev pub is_heard : Replica → ℕ → Step → Bool
is_heard replica now (steps_are.Heard r n) = same_replica r replica && nat_eq n now
is_heard replica now _ = false

abbrev pub is_tick : ℕ → Step → Bool
is_tick now (steps_are.Tick n) = nat_eq n now
is_tick now _ = false

abbrev pub is_permdown : Replica → Step → Bool
is_permdown replica (steps_are.PermDown r) = same_replica r replica
is_permdown replica _ = false

abbrev pub is_cut : Step → Bool
is_cut steps_are.Cut = true
is_cut _ = false

abbrev pub same_step : Step → Step → Bool
same_step (steps_are.Track pid topic key meta) s = is_track pid topic key meta s
same_step (steps_are.Update pid topic key meta) s = is_update pid topic key meta s
same_step (steps_are.Untrack pid topic key) s = is_untrack pid topic key s
same_step (steps_are.UntrackAll pid topic) s = is_untrack_all pid topic s
same_step (steps_are.List topic) s = is_list topic s
same_step (steps_are.Get topic key) s = is_get topic key s
same_step (steps_are.Subscribe topic) s = is_subscribe topic s
same_step (steps_are.Take subscriber max) s = is_take subscriber max s
same_step (steps_are.Unsubscribe subscriber) s = is_unsubscribe subscriber s
same_step (steps_are.Shout topic payload) s = is_shout topic payload s
same_step (steps_are.Heard replica now) s = is_heard replica now s
same_step (steps_are.Tick now) s = is_tick now s
same_step (steps_are.PermDown replica) s = is_permdown replica s
same_step steps_are.Cut s = is_cut s
-- a merge and a rebirth have no seat, so that no receipt is of one
same_step (steps_are.Merge told) s = false
same_step (steps_are.Rebirth incarnation) s = false

-- Is this that outcome?

abbrev pub is_added : Dot → Outcome → Bool
is_added dot (outcomes_are.Added d) = same_dot d dot
is_added dot _ = false

abbrev pub is_already_tracked : Outcome → Bool
is_already_tracked outcomes_are.AlreadyTracked = true
is_already_tracked _ = false

abbrev pub is_replaced : Dot → Dot → Outcome → Bool
is_replaced dot old (outcomes_are.Replaced d o) = same_dot d dot && same_dot o old
is_replaced dot old _ = false

abbrev pub is_no_presence : Outcome → Bool
is_no_presence outcomes_are.NoPresence = true
is_no_presence _ = false

abbrev pub is_removed : List Dot → Outcome → Bool
is_removed dots (outcomes_are.Removed ds) = same_dots ds dots
is_removed dots _ = false

abbrev pub is_shown : List Dot → Outcome → Bool
is_shown dots (outcomes_are.Shown ds) = same_dots ds dots
is_shown dots _ = false

abbrev pub is_subscribed : ℕ → Outcome → Bool
is_subscribed number (outcomes_are.Subscribed n) = nat_eq n number
is_subscribed number _ = false

abbrev pub is_taken : Bool → ℕ → Outcome → Bool
is_taken state items (outcomes_are.Taken s n) = beq s state && nat_eq n items
is_taken state items _ = false

abbrev pub is_ended : Outcome → Bool
is_ended outcomes_are.Ended = true
is_ended _ = false

abbrev pub is_sent : Outcome → Bool
is_sent outcomes_are.Sent = true
is_sent _ = false

abbrev pub is_noted : Outcome → Bool
is_noted outcomes_are.Noted = true
is_noted _ = false

abbrev pub is_cut_at : ℕ → ℕ → Outcome → Bool
is_cut_at from to (outcomes_are.CutAt f t) = nat_eq f from && nat_eq t to
is_cut_at from to _ = false

abbrev pub is_merged : Outcome → Bool
is_merged outcomes_are.Merged = true
is_merged _ = false

-- the same pairs of a new and an old dot
abbrev pub pair_cmp : (Dot × Dot) → (Dot × Dot) → Ordering
pair_cmp p q = ordering_then (dot_cmp p.0 q.0) (dot_cmp p.1 q.1)

abbrev pub same_pairs : List (Dot × Dot) → List (Dot × Dot) → Bool
same_pairs = eq_by_cmp (slice_cmp pair_cmp)

abbrev pub is_reborn : List (Dot × Dot) → Outcome → Bool
is_reborn pairs (outcomes_are.Reborn ps) = same_pairs ps pairs
is_reborn pairs _ = false

abbrev pub same_outcome : Outcome → Outcome → Bool
same_outcome (outcomes_are.Added dot) o = is_added dot o
same_outcome outcomes_are.AlreadyTracked o = is_already_tracked o
same_outcome (outcomes_are.Replaced dot old) o = is_replaced dot old o
same_outcome outcomes_are.NoPresence o = is_no_presence o
same_outcome (outcomes_are.Removed dots) o = is_removed dots o
same_outcome (outcomes_are.Shown dots) o = is_shown dots o
same_outcome (outcomes_are.Subscribed number) o = is_subscribed number o
same_outcome (outcomes_are.Taken state items) o = is_taken state items o
same_outcome outcomes_are.Ended o = is_ended o
same_outcome outcomes_are.Sent o = is_sent o
same_outcome outcomes_are.Noted o = is_noted o
same_outcome (outcomes_are.CutAt from to) o = is_cut_at from to o
same_outcome outcomes_are.Merged o = is_merged o
same_outcome (outcomes_are.Reborn pairs) o = is_reborn pairs o
