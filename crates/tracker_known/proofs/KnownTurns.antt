-- The turns of entries, by what is known before them.
use Rattle.std.proofs.Common.{◌≡◌, ℕ, Bool, true, cond, not, ◌&&◌, [], Option, None, sym, ◌∙◌, ap, subst}
use Rattle.std.specs.Prelude.{max}
use Rattle.presence_base.specs.declared.dots.Replica.{Replica}
use Rattle.presence_base.specs.declared.dots.Dot.{Dot}
use Rattle.presence_base.specs.declared.row.Row.{Row}
use Rattle.presence_base.specs.Order.{same_replica}
use Rattle.orswot_core.specs.Telling.{ToldValue, live_row}
use Rattle.replica_status.specs.declared.status.Status.{Status}
use Rattle.replica_status.specs.Boards.{standing_in}
use Rattle.presence_journal.specs.declared.step.Step.TheVariants as steps_are
use Rattle.presence_journal.specs.declared.entry.Entry.{Entry}
use Rattle.presence_journal.specs.History.{History, own, is_up, is_gone, row_added, has_dot}
use Rattle.presence_journal.specs.Laws.{is_callers}
use Rattle.presence_journal.specs.Present.{dots_taken}
use Rattle.presence_journal.specs.Walk.{tells}
use Rattle.presence_journal.proofs.Same.{same_replica-refl}
use Rattle.tracker_known.specs.declared.known.Known.{Known}
use Rattle.tracker_shown.specs.declared.turn.Turn.{Turn}
use Rattle.tracker_known.specs.Standings.{status_at}
use Rattle.tracker_known.specs.Known.{IsKnownOf}
use Rattle.tracker_known.specs.Turns.{TurnsEntry, TurnsStep}
use Rattle.tracker_known.specs.Picks.{picked, drops, is_new, is_out}
use Rattle.tracker_shown.specs.Turns.{IsListOf, IsTurn, joins_at, leaves_at}
use Rattle.tracker_known.proofs.OthersLemmas.{status_kept}
use Rattle.tracker_known.proofs.FadingLemmas.{noted_leaves, noted_heard, noted_tick, noted_down}
use Rattle.tracker_known.proofs.GatherLemmas.{list_like, no_list}
use Rattle.tracker_known.proofs.TurnLemmas.{own_joins, own_leaves, ShiftsOne, heard_shifts, down_shifts, one_joins, one_leaves, tick_joins, tick_leaves, merge_joins, merge_leaves}

turn_like : (h : History) (e : Entry) (t : Turn) (f g : Dot → Option Row) → ((d : Dot) → f d ≡ joins_at h e d) → ((d : Dot) → g d ≡ leaves_at h e d) → IsListOf f t.joins.items → IsListOf g t.leaves.items → IsTurn h e t
turn_like h e t f g fs gs js ls = record { joins = list_like f (joins_at h e) t.joins.items fs js; leaves = list_like g (leaves_at h e) t.leaves.items gs ls }

shifts_as : (h : History) (e : Entry) (r : Replica) (was now was' now' : Bool) → was ≡ was' → now ≡ now' → ShiftsOne h e r was now → ShiftsOne h e r was' now'
shifts_as h e r was now was' now' p q one = subst (λ b. ShiftsOne h e r was' b) q (subst (λ b. ShiftsOne h e r b now) p one)

-- of one replica
abbrev pub one_shown : Known → Replica → Bool → Bool → Dot → Option Row
one_shown k r was now = picked k.set.live (λ d. same_replica d.replica r && (not was && now))

abbrev pub one_hidden : Known → Replica → Bool → Bool → Dot → Option Row
one_hidden k r was now = picked k.set.live (λ d. same_replica d.replica r && (was && not now))

turn_one : (k : Known) (h : History) (e : Entry) (r : Replica) (was now : Bool) (t : Turn) → ShiftsOne h e r was now → IsKnownOf h k → IsListOf (one_shown k r was now) t.joins.items → IsListOf (one_hidden k r was now) t.leaves.items → IsTurn h e t
turn_one k h e r was now t one known js ls = turn_like h e t (one_shown k r was now) (one_hidden k r was now) (one_joins h e r was now k.set one known.set) (one_leaves h e r was now k.set one known.set) js ls

pub turn_heard : (k : Known) (r : Replica) (x : Status) (was now_up : Bool) (t : Turn) → x ≡ status_at k.others r → was ≡ is_up x → now_up ≡ not (is_gone x) → IsListOf (one_shown k r was now_up) t.joins.items → IsListOf (one_hidden k r was now_up) t.leaves.items → (now : ℕ) → TurnsStep k (steps_are.Heard r now) t
turn_heard k r x was now_up t same was_is now_is js ls now h e is l known =
    let shifts = heard_shifts h e r now x is (noted_leaves h e l (noted_heard h e r now is l) (ap tells is)) (same_replica-refl r) (same ∙ status_kept h k.others r known.others) in
    turn_one k h e r was now_up t (shifts_as h e r (is_up x) (not (is_gone x)) was now_up (sym was_is) (sym now_is) shifts) known js ls

pub turn_down : (k : Known) (r : Replica) (x : Status) (was is_own : Bool) (t : Turn) → x ≡ status_at k.others r → was ≡ is_up x → is_own ≡ same_replica r k.others.own → IsListOf (one_shown k r was is_own) t.joins.items → IsListOf (one_hidden k r was is_own) t.leaves.items → TurnsStep k (steps_are.PermDown r) t
turn_down k r x was is_own t same was_is own_is js ls h e is l known =
    let shifts = down_shifts h e r x is (noted_leaves h e l (noted_down h e r is l) (ap tells is)) (same_replica-refl r) (same ∙ status_kept h k.others r known.others) in
    turn_one k h e r was is_own t (shifts_as h e r (is_up x) (same_replica r (own h)) was is_own (sym was_is) (ap (same_replica r) (sym known.others.own) ∙ sym own_is) shifts) known js ls

pub turn_tick : (k : Known) (now time : ℕ) (t : Turn) → time ≡ max k.others.time now → t.joins.items ≡ [] → IsListOf (picked k.set.live (λ d. drops time (standing_in k.others.standings d.replica))) t.leaves.items → TurnsStep k (steps_are.Tick now) t
turn_tick k now time t time_is none ls h e is l known =
    let leaves = noted_leaves h e l (noted_tick h e now is l) (ap tells is) in
    record {
      joins = subst (IsListOf (joins_at h e)) (sym none) (no_list (joins_at h e) (tick_joins h e now k.others k.set is leaves known.others known.set));
      leaves = list_like (picked k.set.live (λ d. drops time (standing_in k.others.standings d.replica))) (leaves_at h e) t.leaves.items (tick_leaves h e now time k.others k.set is time_is leaves known.others known.set) ls;
    }

pub turn_told : (k : Known) (told : ToldValue) (t : Turn) → IsListOf (λ d. cond (is_new k.set k.others d) (live_row told d) None) t.joins.items → IsListOf (picked k.set.live (is_out k.others told)) t.leaves.items → TurnsStep k (steps_are.Merge told) t
turn_told k told t js ls h e is l known =
    turn_like h e t (λ d. cond (is_new k.set k.others d) (live_row told d) None) (picked k.set.live (is_out k.others told)) (merge_joins h e told k.others k.set l is known.others known.set) (merge_leaves h e told k.others k.set l is known.others known.set) js ls

pub turn_own : (k : Known) (e : Entry) (t : Turn) → is_callers e.step ≡ true → IsListOf (row_added e.step e.outcome) t.joins.items → IsListOf (picked k.set.live (has_dot (dots_taken e.outcome))) t.leaves.items → TurnsEntry k e t
turn_own k e t c js ls h l known =
    turn_like h e t (row_added e.step e.outcome) (picked k.set.live (has_dot (dots_taken e.outcome))) (λ d. own_joins h e d l c) (λ d. own_leaves h e d k.set l c known.set) js ls
