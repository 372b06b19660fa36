-- What each kind of entry shows and hides, of the rows that are kept.
use Rattle.std.proofs.Common.{◌≡◌, ℕ, Bool, true, false, cond, not, ◌&&◌, ◌||◌, [], ◌∷◌, Option, Some, None, is_some, refl, sym, ◌∙◌, ap}
use Rattle.std.specs.Prelude.{max}
use Rattle.std.specs.FinMap as map
use Rattle.std.proofs.lemmas.Bool.{and_parts}
use Rattle.presence_base.specs.declared.dots.Replica.{Replica}
use Rattle.presence_base.specs.declared.dots.Dot.{Dot}
use Rattle.presence_base.specs.declared.row.Row.{Row}
use Rattle.presence_base.specs.Order.{same_replica}
use Rattle.orswot_core.specs.Telling.{ToldValue, covers, live_row}
use Rattle.orswot_core.specs.Sets.{DotRows}
use Rattle.replica_status.specs.declared.standing.Standing.{Standing}
use Rattle.replica_status.specs.declared.standing.Standing.TheVariants.{Unheard, Up, Down, Gone}
use Rattle.replica_status.specs.declared.status.Status.{Status}
use Rattle.replica_status.specs.declared.status.Status.TheVariants as status_is
use Rattle.replica_status.specs.Boards.{standing_in}
use Rattle.replica_status.specs.Table.{is_over, status_of, heard_at, ticked_at, put_down}
use Rattle.replica_status.specs.declared.standing.TheConstants.{GONE_AFTER_MS}
use Rattle.presence_journal.specs.declared.step.Step.TheVariants as steps_are
use Rattle.presence_journal.specs.declared.step.Step.{Step}
use Rattle.presence_journal.specs.declared.entry.Outcome.{Outcome}
use Rattle.presence_journal.specs.declared.entry.Entry.{Entry}
use Rattle.presence_journal.specs.History.{History, Then, own, known, live, row, removed, shown, status, standing, standing_after, time, time_of, is_up, is_gone, hears, has_dot, first_some, row_added, own_after}
use Rattle.presence_journal.specs.Present.{dots_taken}
use Rattle.presence_journal.specs.Laws.{is_callers}
use Rattle.presence_journal.specs.Merges.{row_taken_in}
use Rattle.presence_journal.specs.Table.{IsLegal}
use Rattle.presence_journal.proofs.Same.{same_replica-true}
use Rattle.presence_journal.proofs.Merges.{merge_is_live}
use Rattle.presence_journal.proofs.HistoryLemmas.{Kind, Adds, Replaces, Removes, Quiet, IsOwnShown, kind_of, legal_knows, shown_by, shown-live, added_fresh, quiet_taken, callers_plain}
use Rattle.presence_journal_known.specs.LeftOut.{HoldsCovered}
use Rattle.tracker_known.specs.declared.others.Others.{Others}
use Rattle.tracker_known.specs.Known.{kept}
use Rattle.tracker_known.specs.Standings.{AreOthersOf}
use Rattle.tracker_known.specs.Steps.{fades, loses}
use Rattle.tracker_known.specs.Picks.{picked, drops, shows_told, is_new, is_out}
use Rattle.tracker_shown.specs.Turns.{came, joins_at, leaves_at}
use Rattle.tracker_known.proofs.OthersLemmas.{status_kept}
use Rattle.tracker_known.proofs.SetLemmas.{not_gone_own, status_merge, all_has_dot}
use Rattle.tracker_known.proofs.FadingLemmas.{LeavesRows, status-then, status-here, gone_heard, gone_down, gone_tick}

cond_none : (b : Bool) → cond {A = Option Row} b None None ≡ None
cond_none true = refl
cond_none false = refl

same_came : (o : Option Row) → came o o ≡ None
same_came None = refl
same_came (Some r) = refl

up_not_gone : (x : Status) → is_up x ≡ true → is_gone x ≡ false
up_not_gone status_is.Unheard f = refl
up_not_gone status_is.Up f = refl
up_not_gone status_is.Down f = refl
up_not_gone status_is.Gone f = absurd (cc)

-- own steps: what is added joins, and what is taken leaves

pub own_joins : (h : History) (e : Entry) (d : Dot) → IsLegal (Then h e) → is_callers e.step ≡ true → row_added e.step e.outcome d ≡ joins_at h e d
own_joins h e d l c =
    let knows = legal_knows h l.0 in
    let kind = kind_of h e.step e.outcome (callers_plain e.step c) l.1 in
    go (row_added e.step e.outcome d) (has_dot (dots_taken e.outcome) d) (shown h d) (λ r. added_fresh h e d r knows kind)
    ∙ ap (came (shown h d)) (sym (shown_by h e d knows kind c))
  where
    go : (a : Option Row) (b : Bool) (o : Option Row) → ((r : Row) → a ≡ Some r → o ≡ None) → a ≡ came o (first_some a (cond b None o))
    go None b None f = sym (cond_none b)
    go None b (Some x) f = refl
    go (Some r) b None f = refl
    go (Some r) b (Some x) f = let w : Some x ≡ None = f r refl in absurd (cc)

taken_own : (h : History) (s : Step) (o : Outcome) (d : Dot) → Kind h s o → has_dot (dots_taken o) d ≡ true → d.replica ≡ own h
taken_own h s o d (Adds r m p l) f = let w : false ≡ true = sym (ap (λ x. has_dot (dots_taken x) d) p) ∙ f in absurd (cc)
taken_own h s o d (Replaces r old m p l w) f = (all_has_dot (IsOwnShown h) (old ∷ []) d (w, tt) (sym (ap (λ x. has_dot (dots_taken x) d) p) ∙ f)).own
taken_own h s o d (Removes y ys p l a q) f = (all_has_dot (IsOwnShown h) (y ∷ ys) d a (sym (ap (λ x. has_dot (dots_taken x) d) p) ∙ f)).own
taken_own h s o d (Quiet q) f = let w : false ≡ true = sym (ap (λ x. has_dot x d) (quiet_taken o q)) ∙ f in absurd (cc)

-- an own row that is shown is kept
pub own_kept : (h : History) (d : Dot) → d.replica ≡ own h → kept h d ≡ shown h d
own_kept h d o = ap (λ b. cond b None (live h d)) (not_gone_own h d o) ∙ sym (shown-live h d o)

pub own_leaves : (h : History) (e : Entry) (d : Dot) (s : DotRows) → IsLegal (Then h e) → is_callers e.step ≡ true → HoldsCovered h s → picked s.live (has_dot (dots_taken e.outcome)) d ≡ leaves_at h e d
own_leaves h e d s l c holds =
    let knows = legal_knows h l.0 in
    let kind = kind_of h e.step e.outcome (callers_plain e.step c) l.1 in
    ap (λ o. cond (has_dot (dots_taken e.outcome) d) o None) (holds.live d)
    ∙ (here (has_dot (dots_taken e.outcome) d) (λ f. own_kept h d (taken_own h e.step e.outcome d kind f))
    ∙ (go (row_added e.step e.outcome d) (has_dot (dots_taken e.outcome) d) (shown h d) (λ r. added_fresh h e d r knows kind)
    ∙ ap (λ o. came o (shown h d)) (sym (shown_by h e d knows kind c))))
  where
    here : (b : Bool) → (b ≡ true → kept h d ≡ shown h d) → cond b (kept h d) None ≡ cond b (shown h d) None
    here true f = f refl
    here false f = refl

    go : (a : Option Row) (b : Bool) (o : Option Row) → ((r : Row) → a ≡ Some r → o ≡ None) → cond b o None ≡ came (first_some a (cond b None o)) o
    go None true o f = refl
    go None false o f = sym (same_came o)
    go (Some r) b None f = cond_none b
    go (Some r) b (Some x) f = let w : Some x ≡ None = f r refl in absurd (cc)

-- other replicas

came_up : (u v : Bool) (o : Option Row) → came (cond u o None) (cond v o None) ≡ cond (not u && v) o None
came_up true true None = refl
came_up true true (Some r) = refl
came_up true false None = refl
came_up true false (Some r) = refl
came_up false v o = refl

cut_kept : (g b : Bool) (o : Option Row) → (b ≡ true → g ≡ false) → cond b o None ≡ cond b (cond g None o) None
cut_kept g true o f = ap (λ x. cond x None o) (sym (f refl))
cut_kept g false o f = refl

shown-is : (h : History) (d : Dot) → shown h d ≡ cond (is_up (status h d.replica)) (live h d) None
unfolding shown
shown-is h d = refl

flip : (u v : Bool) → (v && not u) ≡ (not u && v)
flip true true = refl
flip true false = refl
flip false true = refl
flip false false = refl

-- the rows of the replicas that are up from now on, and of those that were
pub shift_joins : (h : History) (e : Entry) (d : Dot) (s : DotRows) (test : Bool) → LeavesRows h e → HoldsCovered h s → (is_gone (status h d.replica) ≡ true → is_gone (status (Then h e) d.replica) ≡ true)
    → test ≡ (not (is_up (status h d.replica)) && is_up (status (Then h e) d.replica)) → cond test (map.get s.live d) None ≡ joins_at h e d
shift_joins h e d s test leaves holds stays is =
    ap (λ o. cond test o None) (holds.live d)
    ∙ (sym (cut_kept (is_gone (status h d.replica)) test (live h d) (λ f. apart (is_gone (status h d.replica)) stays (up_not_gone (status (Then h e) d.replica) ((and_parts (not (is_up (status h d.replica))) (is_up (status (Then h e) d.replica)) (sym is ∙ f)).1))))
    ∙ (ap (λ b. cond b (live h d) None) is
    ∙ (sym (came_up (is_up (status h d.replica)) (is_up (status (Then h e) d.replica)) (live h d))
    ∙ (λ i. came (sym (shown-is h d) i) ((ap (λ o. cond (is_up (status (Then h e) d.replica)) o None) (sym (leaves.live d)) ∙ sym (shown-is (Then h e) d)) i)))))
  where
    apart : (g : Bool) → (g ≡ true → is_gone (status (Then h e) d.replica) ≡ true) → is_gone (status (Then h e) d.replica) ≡ false → g ≡ false
    apart true f no_more = let w : true ≡ false = sym (f refl) ∙ no_more in absurd (cc)
    apart false f no_more = refl

pub shift_leaves : (h : History) (e : Entry) (d : Dot) (s : DotRows) (test : Bool) → LeavesRows h e → HoldsCovered h s
    → test ≡ (is_up (status h d.replica) && not (is_up (status (Then h e) d.replica))) → cond test (map.get s.live d) None ≡ leaves_at h e d
shift_leaves h e d s test leaves holds is =
    ap (λ o. cond test o None) (holds.live d)
    ∙ (sym (cut_kept (is_gone (status h d.replica)) test (live h d) (λ f. up_not_gone (status h d.replica) ((and_parts (is_up (status h d.replica)) (not (is_up (status (Then h e) d.replica))) (sym is ∙ f)).0)))
    ∙ (ap (λ b. cond b (live h d) None) (is ∙ flip (is_up (status (Then h e) d.replica)) (is_up (status h d.replica)))
    ∙ (sym (came_up (is_up (status (Then h e) d.replica)) (is_up (status h d.replica)) (live h d))
    ∙ (λ i. came ((ap (λ o. cond (is_up (status (Then h e) d.replica)) o None) (sym (leaves.live d)) ∙ sym (shown-is (Then h e) d)) i) (sym (shown-is h d) i)))))

still_true : (t g : Bool) → g ≡ true → (t || g) ≡ true
still_true true g f = refl
still_true false g f = f

-- one replica, whose status alone may change
pub record ShiftsOne (h : History) (e : Entry) (r : Replica) (was now : Bool) : Type 0 where
  pub leaves : LeavesRows h e
  pub was_up : is_up (status h r) ≡ was
  pub now_up : is_up (status (Then h e) r) ≡ now
  pub others : (q : Replica) → same_replica q r ≡ false → status (Then h e) q ≡ status h q
  pub gone : (q : Replica) → is_gone (status h q) ≡ true → is_gone (status (Then h e) q) ≡ true

never : (u : Bool) → false ≡ (not u && u)
never true = refl
never false = refl

pub one_joins : (h : History) (e : Entry) (r : Replica) (was now : Bool) (s : DotRows) → ShiftsOne h e r was now → HoldsCovered h s → (d : Dot) → picked s.live (λ x. same_replica x.replica r && (not was && now)) d ≡ joins_at h e d
one_joins h e r was now s one holds d = shift_joins h e d s (same_replica d.replica r && (not was && now)) one.leaves holds (one.gone d.replica) (go (same_replica d.replica r) refl)
  where
    go : (b : Bool) → same_replica d.replica r ≡ b → (b && (not was && now)) ≡ (not (is_up (status h d.replica)) && is_up (status (Then h e) d.replica))
    go true f = λ i. not ((sym one.was_up ∙ ap (λ q. is_up (status h q)) (sym (same_replica-true d.replica r f))) i) && (sym one.now_up ∙ ap (λ q. is_up (status (Then h e) q)) (sym (same_replica-true d.replica r f))) i
    go false f = never (is_up (status h d.replica)) ∙ ap (λ x. not (is_up (status h d.replica)) && is_up x) (sym (one.others d.replica f))

pub one_leaves : (h : History) (e : Entry) (r : Replica) (was now : Bool) (s : DotRows) → ShiftsOne h e r was now → HoldsCovered h s → (d : Dot) → picked s.live (λ x. same_replica x.replica r && (was && not now)) d ≡ leaves_at h e d
one_leaves h e r was now s one holds d = shift_leaves h e d s (same_replica d.replica r && (was && not now)) one.leaves holds (go (same_replica d.replica r) refl)
  where
    go : (b : Bool) → same_replica d.replica r ≡ b → (b && (was && not now)) ≡ (is_up (status h d.replica) && not (is_up (status (Then h e) d.replica)))
    go true f = λ i. (sym one.was_up ∙ ap (λ q. is_up (status h q)) (sym (same_replica-true d.replica r f))) i && not ((sym one.now_up ∙ ap (λ q. is_up (status (Then h e) q)) (sym (same_replica-true d.replica r f))) i)
    go false f = never (is_up (status h d.replica)) ∙ (sym (flip (is_up (status h d.replica)) (is_up (status h d.replica))) ∙ ap (λ x. is_up (status h d.replica) && not (is_up x)) (sym (one.others d.replica f)))

-- a replica that is heard is up, if it is not gone

heard-then : (h : History) (e : Entry) (r : Replica) (now : ℕ) (q : Replica) → e.step ≡ steps_are.Heard r now → status (Then h e) q ≡ cond (same_replica q (own h)) status_is.Up (status_of (cond (same_replica q r) (heard_at (max (time h) now) (standing h q)) (standing h q)))
heard-then h e r now q is = status-then h e q ∙ ap (λ s. cond (same_replica q (own_after s (own h))) status_is.Up (status_of (standing_after (own h) s (max (time h) (time_of s)) q (standing h q)))) is

up_heard : (b : Bool) (t : ℕ) (x : Standing) → is_up (cond b status_is.Up (status_of (heard_at t x))) ≡ not (is_gone (cond b status_is.Up (status_of x)))
up_heard true t x = refl
up_heard false t Unheard = refl
up_heard false t (Up n) = refl
up_heard false t (Down n) = refl
up_heard false t Gone = refl

pub heard_shifts : (h : History) (e : Entry) (r : Replica) (now : ℕ) (x : Status) → e.step ≡ steps_are.Heard r now → LeavesRows h e → same_replica r r ≡ true → x ≡ status h r → ShiftsOne h e r (is_up x) (not (is_gone x))
heard_shifts h e r now x is leaves self same = record {
  leaves = leaves;
  was_up = ap is_up (sym same);
  now_up =
      ap is_up (heard-then h e r now r is)
      ∙ (ap (λ b. is_up (cond (same_replica r (own h)) status_is.Up (status_of (cond b (heard_at (max (time h) now) (standing h r)) (standing h r))))) self
      ∙ (up_heard (same_replica r (own h)) (max (time h) now) (standing h r)
      ∙ ap (λ y. not (is_gone y)) (status-here h r ∙ sym same)));
  others = λ q apart. heard-then h e r now q is ∙ (ap (λ b. cond (same_replica q (own h)) status_is.Up (status_of (cond b (heard_at (max (time h) now) (standing h q)) (standing h q)))) apart ∙ status-here h q);
  gone = λ q gone. gone_heard h e r now is q ∙ gone;
}

-- one that is put down is not, if it is not the own one

down-then : (h : History) (e : Entry) (r q : Replica) → e.step ≡ steps_are.PermDown r → status (Then h e) q ≡ cond (same_replica q (own h)) status_is.Up (status_of (cond (same_replica q r) (put_down (standing h q)) (standing h q)))
down-then h e r q is = status-then h e q ∙ ap (λ s. cond (same_replica q (own_after s (own h))) status_is.Up (status_of (standing_after (own h) s (max (time h) (time_of s)) q (standing h q)))) is

up_down : (b : Bool) (x : Standing) → is_up (cond b status_is.Up (status_of (put_down x))) ≡ b
up_down true x = refl
up_down false Unheard = refl
up_down false (Up n) = refl
up_down false (Down n) = refl
up_down false Gone = refl

pub down_shifts : (h : History) (e : Entry) (r : Replica) (x : Status) → e.step ≡ steps_are.PermDown r → LeavesRows h e → same_replica r r ≡ true → x ≡ status h r → ShiftsOne h e r (is_up x) (same_replica r (own h))
down_shifts h e r x is leaves self same = record {
  leaves = leaves;
  was_up = ap is_up (sym same);
  now_up =
      ap is_up (down-then h e r r is)
      ∙ (ap (λ b. is_up (cond (same_replica r (own h)) status_is.Up (status_of (cond b (put_down (standing h r)) (standing h r))))) self
      ∙ up_down (same_replica r (own h)) (standing h r));
  others = λ q apart. down-then h e r q is ∙ (ap (λ b. cond (same_replica q (own h)) status_is.Up (status_of (cond b (put_down (standing h q)) (standing h q)))) apart ∙ status-here h q);
  gone = λ q gone. gone_down h e r (own h) is refl q ∙ still_true (loses (own h) r q) (is_gone (status h q)) gone;
}

-- time

tick-then : (h : History) (e : Entry) (now : ℕ) (q : Replica) → e.step ≡ steps_are.Tick now → status (Then h e) q ≡ cond (same_replica q (own h)) status_is.Up (status_of (ticked_at (max (time h) now) (standing h q)))
tick-then h e now q is = status-then h e q ∙ ap (λ s. cond (same_replica q (own_after s (own h))) status_is.Up (status_of (standing_after (own h) s (max (time h) (time_of s)) q (standing h q)))) is

never_up : (t : ℕ) (x : Standing) → false ≡ (not (is_up (status_of x)) && is_up (status_of (ticked_at t x)))
never_up t Unheard = refl
never_up t (Up n) = refl
never_up t (Down n) = go (is_over GONE_AFTER_MS n t)
  where
    go : (b : Bool) → false ≡ is_up (status_of (cond b Gone (Down n)))
    go true = refl
    go false = refl
never_up t Gone = refl

up_ticked : (h : History) (o : Others) (now : ℕ) (q : Replica) → AreOthersOf h o → (b : Bool) → same_replica q (own h) ≡ b
    → drops (max o.time now) (standing_in o.standings q) ≡ (is_up (cond b status_is.Up (status_of (standing h q))) && not (is_up (cond b status_is.Up (status_of (ticked_at (max o.time now) (standing h q))))))
up_ticked h o now q a true f = ap (drops (max o.time now)) (a.none_own q f)
up_ticked h o now q a false f = ap (drops (max o.time now)) (a.standing q f)

pub tick_leaves : (h : History) (e : Entry) (now t : ℕ) (o : Others) (s : DotRows) → e.step ≡ steps_are.Tick now → t ≡ max o.time now → LeavesRows h e → AreOthersOf h o → HoldsCovered h s → (d : Dot) → picked s.live (λ x. drops t (standing_in o.standings x.replica)) d ≡ leaves_at h e d
tick_leaves h e now t o s is time_is leaves a holds d =
    shift_leaves h e d s (drops t (standing_in o.standings d.replica)) leaves holds
    (ap (λ n. drops n (standing_in o.standings d.replica)) time_is
    ∙ (up_ticked h o now d.replica a (same_replica d.replica (own h)) refl
    ∙ (λ i. is_up (status-here h d.replica i) && not (is_up ((ap (λ n. cond (same_replica d.replica (own h)) status_is.Up (status_of (ticked_at (max n now) (standing h d.replica)))) a.time ∙ sym (tick-then h e now d.replica is)) i)))))

pub tick_joins : (h : History) (e : Entry) (now : ℕ) (o : Others) (s : DotRows) → e.step ≡ steps_are.Tick now → LeavesRows h e → AreOthersOf h o → HoldsCovered h s → (d : Dot) → None ≡ joins_at h e d
tick_joins h e now o s is leaves a holds d =
    shift_joins h e d s false leaves holds (λ g. gone_tick h e now o is a d.replica ∙ still_true (fades (max o.time now) (standing_in o.standings d.replica)) (is_gone (status h d.replica)) g)
    (go (same_replica d.replica (own h)) ∙ (λ i. not (is_up (status-here h d.replica i)) && is_up (sym (tick-then h e now d.replica is) i)))
  where
    go : (b : Bool) → false ≡ (not (is_up (cond b status_is.Up (status_of (standing h d.replica)))) && is_up (cond b status_is.Up (status_of (ticked_at (max (time h) now) (standing h d.replica)))))
    go true = refl
    go false = never_up (max (time h) now) (standing h d.replica)

-- a merge

hears-is : (h : History) (r : Replica) → hears h r ≡ (not (same_replica r (own h)) && not (is_gone (status h r)))
unfolding hears
hears-is h r = refl

-- a live row's dot is known
live_known : (h : History) → IsLegal h → (d : Dot) (r : Row) → live h d ≡ Some r → known h d ≡ true
unfolding live
live_known h l d r e = (legal_knows h l).of_row d r (go (removed h d) e)
  where
    go : (b : Bool) → cond b None (row h d) ≡ Some r → row h d ≡ Some r
    go true f = absurd (cc)
    go false f = f

-- of one dot: whether its replica is the own one, up and gone; whether the dot is known; its live row, the row that is told
-- and whether what is told covers it

merge_joins_at : (mine u g k : Bool) (o r : Option Row) (c : Bool) → (u ≡ true → g ≡ false) → ((x : Row) → o ≡ Some x → k ≡ true)
    → cond ((not mine && u) && not (k && not g)) r None ≡ came (cond u o None) (cond u (cond (not mine && not g) (row_taken_in o k r c) o) None)
merge_joins_at mine false g k o r c f w = ap (λ b. cond (b && not (k && not g)) r None) (never_here mine)
  where
    never_here : (b : Bool) → (not b && false) ≡ false
    never_here true = refl
    never_here false = refl
merge_joins_at mine true true k o r c f w = let x : true ≡ false = f refl in absurd (cc)
merge_joins_at true true false k None r c f w = refl
merge_joins_at true true false k (Some x) r c f w = refl
merge_joins_at false true false true None None c f w = refl
merge_joins_at false true false true None (Some y) c f w = refl
merge_joins_at false true false false None None c f w = refl
merge_joins_at false true false false None (Some y) c f w = refl
merge_joins_at false true false true (Some x) r c f w = refl
merge_joins_at false true false false (Some x) r c f w = let y : false ≡ true = w x refl in absurd (cc)

merge_leaves_at : (mine u g k : Bool) (o r : Option Row) (c : Bool) → (u ≡ true → g ≡ false)
    → cond ((not mine && u) && (c && not (is_some r))) (cond g None o) None ≡ came (cond u (cond (not mine && not g) (row_taken_in o k r c) o) None) (cond u o None)
merge_leaves_at mine false g k o r c f = ap (λ b. cond (b && (c && not (is_some r))) (cond g None o) None) (never_here mine)
  where
    never_here : (b : Bool) → (not b && false) ≡ false
    never_here true = refl
    never_here false = refl
merge_leaves_at mine true true k o r c f = let x : true ≡ false = f refl in absurd (cc)
merge_leaves_at true true false k o r c f = sym (same_came o)
merge_leaves_at false true false k (Some x) (Some y) true f = refl
merge_leaves_at false true false k (Some x) (Some y) false f = refl
merge_leaves_at false true false k (Some x) None true f = refl
merge_leaves_at false true false k (Some x) None false f = refl
merge_leaves_at false true false k None r c f = cond_none (c && not (is_some r)) ∙ none (row_taken_in None k r c)
  where
    none : (o : Option Row) → None ≡ came o None
    none None = refl
    none (Some x) = refl

shown-merge : (h : History) (e : Entry) (t : ToldValue) (d : Dot) → IsLegal (Then h e) → e.step ≡ steps_are.Merge t → shown (Then h e) d ≡ cond (is_up (status h d.replica)) (cond (not (same_replica d.replica (own h)) && not (is_gone (status h d.replica))) (row_taken_in (live h d) (known h d) (live_row t d) (covers t d)) (live h d)) None
shown-merge h e t d l is =
    shown-is (Then h e) d
    ∙ ((λ i. cond (is_up (status_merge h e t d.replica is i)) (merge_is_live h e l t is d i) None)
    ∙ ap (λ b. cond (is_up (status h d.replica)) (cond b (row_taken_in (live h d) (known h d) (live_row t d) (covers t d)) (live h d)) None) (hears-is h d.replica))

shows-told : (h : History) (o : Others) (r : Replica) → AreOthersOf h o → shows_told o r ≡ (not (same_replica r (own h)) && is_up (status h r))
shows-told h o r a = λ i. not (same_replica r (a.own i)) && is_up (status_kept h o r a i)

pub merge_joins : (h : History) (e : Entry) (t : ToldValue) (o : Others) (s : DotRows) → IsLegal (Then h e) → e.step ≡ steps_are.Merge t → AreOthersOf h o → HoldsCovered h s → (d : Dot) → cond (is_new s o d) (live_row t d) None ≡ joins_at h e d
merge_joins h e t o s l is a holds d =
    (λ i. cond (shows-told h o d.replica a i && not (holds.covered d i)) (live_row t d) None)
    ∙ (merge_joins_at (same_replica d.replica (own h)) (is_up (status h d.replica)) (is_gone (status h d.replica)) (known h d) (live h d) (live_row t d) (covers t d) (up_not_gone (status h d.replica)) (λ x f. live_known h l.0 d x f)
    ∙ (λ i. came (sym (shown-is h d) i) (sym (shown-merge h e t d l is) i)))

pub merge_leaves : (h : History) (e : Entry) (t : ToldValue) (o : Others) (s : DotRows) → IsLegal (Then h e) → e.step ≡ steps_are.Merge t → AreOthersOf h o → HoldsCovered h s → (d : Dot) → picked s.live (is_out o t) d ≡ leaves_at h e d
merge_leaves h e t o s l is a holds d =
    (λ i. cond (shows-told h o d.replica a i && (covers t d && not (is_some (live_row t d)))) (holds.live d i) None)
    ∙ (merge_leaves_at (same_replica d.replica (own h)) (is_up (status h d.replica)) (is_gone (status h d.replica)) (known h d) (live h d) (live_row t d) (covers t d) (up_not_gone (status h d.replica))
    ∙ (λ i. came (sym (shown-merge h e t d l is) i) (sym (shown-is h d) i)))
