-- What the steps on other replicas make of the set, and going over the standings.
use Rattle.std.proofs.Common.{◌≡◌, ℕ, Bool, true, false, cond, not, ◌&&◌, ◌||◌, List, ◌∷◌, Option, Some, None, refl, sym, ◌∙◌, ap}
use Rattle.std.specs.Prelude.{max}
use Rattle.std.specs.FinSet as set
use Rattle.std.specs.FinMap as map
use Rattle.std.proofs.lemmas.Option.{same_Some}
use Rattle.presence_base.specs.declared.dots.Replica.{Replica}
use Rattle.presence_base.specs.declared.dots.Dot.{Dot}
use Rattle.presence_base.specs.declared.row.Row.{Row}
use Rattle.presence_base.specs.Order.{same_replica}
use Rattle.dot_context.proofs.SetFacts.{contains-without}
use Rattle.orswot_core.specs.Sets.{DotRows, without_replica}
use Rattle.replica_status.specs.declared.standing.Standing.{Standing}
use Rattle.replica_status.specs.declared.standing.Standing.TheVariants.{Unheard, Up, Down, Gone}
use Rattle.replica_status.specs.declared.status.Status.TheVariants as status_is
use Rattle.replica_status.specs.Boards.{standing_in}
use Rattle.replica_status.specs.Table.{status_of, heard_at, ticked_at, put_down}
use Rattle.presence_journal.specs.declared.step.Step.TheVariants as steps_are
use Rattle.presence_journal.specs.declared.entry.Outcome.TheVariants as outcomes_are
use Rattle.presence_journal.specs.declared.step.Step.{Step}
use Rattle.presence_journal.specs.declared.entry.Entry.{Entry}
use Rattle.presence_journal.specs.History.{History, Then, own, counts_used, time, time_of, known, live, standing, standing_after, status, is_gone, has_dot, first_some, row_added, own_after}
use Rattle.presence_journal.specs.Present.{dots_taken}
use Rattle.presence_journal.specs.Table.{IsLegal, outcome_of}
use Rattle.presence_journal.specs.Walk.{tells, is_reborn}
use Rattle.presence_journal.proofs.Same.{same_replica-true, dot_cmp-IsAntisymmetric}
use Rattle.presence_journal.proofs.ToldLemmas.{none_told_covers}
use Rattle.presence_journal.proofs.HistoryLemmas.{kind_of, legal_knows, known_quiet, no_more, live_by}
use Rattle.presence_journal_known.specs.LeftOut.{HoldsCovered}
use Rattle.tracker_known.specs.declared.others.Others.{Others}
use Rattle.tracker_known.specs.Standings.{AreOthersOf}
use Rattle.tracker_known.proofs.StandingLemmas.{any_of}
use Rattle.tracker_known.specs.Steps.{LosesReplicas, fades, loses}
use Rattle.presence_journal_known.proofs.OwnLemmas.{plain_step}

-- a step that is only noted changes no row

noted : (h : History) (e : Entry) (s : Step) → e.step ≡ s → IsLegal (Then h e) → outcome_of h s ≡ Some outcomes_are.Noted → e.outcome ≡ outcomes_are.Noted
noted h e s is l table = same_Some e.outcome outcomes_are.Noted (sym l.1 ∙ (ap (outcome_of h) is ∙ table))

pub noted_heard : (h : History) (e : Entry) (r : Replica) (now : ℕ) → e.step ≡ steps_are.Heard r now → IsLegal (Then h e) → e.outcome ≡ outcomes_are.Noted
unfolding outcome_of
noted_heard h e r now is l = noted h e (steps_are.Heard r now) is l refl

pub noted_tick : (h : History) (e : Entry) (now : ℕ) → e.step ≡ steps_are.Tick now → IsLegal (Then h e) → e.outcome ≡ outcomes_are.Noted
unfolding outcome_of
noted_tick h e now is l = noted h e (steps_are.Tick now) is l refl

pub noted_down : (h : History) (e : Entry) (r : Replica) → e.step ≡ steps_are.PermDown r → IsLegal (Then h e) → e.outcome ≡ outcomes_are.Noted
unfolding outcome_of
noted_down h e r is l = noted h e (steps_are.PermDown r) is l refl

-- an entry that changes no row
pub record LeavesRows (h : History) (e : Entry) : Type 0 where
  pub known : (d : Dot) → known (Then h e) d ≡ known h d
  pub live : (d : Dot) → live (Then h e) d ≡ live h d

pub noted_leaves : (h : History) (e : Entry) → IsLegal (Then h e) → e.outcome ≡ outcomes_are.Noted → tells e.step ≡ false → LeavesRows h e
noted_leaves h e l is t = record {
  known = λ d. known_quiet h e d l.0 (plain_step h e l (ap is_reborn is)) (ap is_reborn is) (ap counts_used is) ∙ (ap (λ b. known h d || b) (none_told_covers h e.step d t) ∙ no_more (known h d));
  live = λ d.
      live_by h e d (legal_knows h l.0) (kind_of h e.step e.outcome (plain_step h e l (ap is_reborn is)) l.1) t
      ∙ (λ i. first_some (row_added e.step (is i) d) (cond (has_dot (dots_taken (is i)) d) None (live h d)));
}

-- the set, where some replicas become gone
pub lost : (h : History) (e : Entry) (s u : DotRows) (test : Replica → Bool) → LeavesRows h e → LosesReplicas s test u → ((r : Replica) → is_gone (status (Then h e) r) ≡ (test r || is_gone (status h r))) → HoldsCovered h s → HoldsCovered (Then h e) u
lost h e s u test leaves loses gone holds = record {
  covered = λ d.
      (loses d).0
      ∙ (ap (λ b. b && not (test d.replica)) (holds.covered d)
      ∙ (both (known h d) (is_gone (status h d.replica)) (test d.replica)
      ∙ (λ i. sym (leaves.known d) i && not (sym (gone d.replica) i))));
  live = λ d.
      (loses d).1
      ∙ (ap (λ o. cond (test d.replica) None o) (holds.live d)
      ∙ (either (is_gone (status h d.replica)) (test d.replica) (live h d)
      ∙ (λ i. cond (sym (gone d.replica) i) None (sym (leaves.live d) i))));
}
  where
    both : (k g t : Bool) → ((k && not g) && not t) ≡ (k && not (t || g))
    both false g t = refl
    both true true true = refl
    both true true false = refl
    both true false true = refl
    both true false false = refl

    either : (g t : Bool) (o : Option Row) → cond t None (cond g None o) ≡ cond (t || g) None o
    either g true o = refl
    either g false o = refl

-- which replicas become gone

pub status-then : (h : History) (e : Entry) (r : Replica) → status (Then h e) r ≡ cond (same_replica r (own_after e.step (own h))) status_is.Up (status_of (standing_after (own h) e.step (max (time h) (time_of e.step)) r (standing h r)))
unfolding status standing own
status-then h e r = refl

pub status-here : (h : History) (r : Replica) → cond (same_replica r (own h)) status_is.Up (status_of (standing h r)) ≡ status h r
unfolding status
status-here h r = refl

still_gone : (t : ℕ) (x : Standing) → is_gone (status_of (heard_at t x)) ≡ is_gone (status_of x)
still_gone t Unheard = refl
still_gone t (Up n) = refl
still_gone t (Down n) = refl
still_gone t Gone = refl

pub gone_heard : (h : History) (e : Entry) (r : Replica) (now : ℕ) → e.step ≡ steps_are.Heard r now → (q : Replica) → is_gone (status (Then h e) q) ≡ (false || is_gone (status h q))
gone_heard h e r now is q =
    ap is_gone (status-then h e q ∙ ap (λ s. cond (same_replica q (own_after s (own h))) status_is.Up (status_of (standing_after (own h) s (max (time h) (time_of s)) q (standing h q)))) is)
    ∙ (go (same_replica q (own h)) (same_replica q r)
    ∙ ap is_gone (status-here h q))
  where
    go : (a b : Bool) → is_gone (cond a status_is.Up (status_of (cond b (heard_at (max (time h) now) (standing h q)) (standing h q)))) ≡ is_gone (cond a status_is.Up (status_of (standing h q)))
    go true b = refl
    go false true = still_gone (max (time h) now) (standing h q)
    go false false = refl

gone_put : (x : Standing) → is_gone (status_of (put_down x)) ≡ true
gone_put Unheard = refl
gone_put (Up n) = refl
gone_put (Down n) = refl
gone_put Gone = refl

pub gone_down : (h : History) (e : Entry) (r mine : Replica) → e.step ≡ steps_are.PermDown r → mine ≡ own h → (q : Replica) → is_gone (status (Then h e) q) ≡ (loses mine r q || is_gone (status h q))
gone_down h e r mine is is_own q =
    ap is_gone (status-then h e q ∙ ap (λ s. cond (same_replica q (own_after s (own h))) status_is.Up (status_of (standing_after (own h) s (max (time h) (time_of s)) q (standing h q)))) is)
    ∙ (go (same_replica q (own h)) (same_replica q r) (same_replica r (own h)) same same_own
    ∙ (λ i. (not (same_replica r (sym is_own i)) && same_replica q r) || is_gone (status-here h q i)))
  where
    -- who is the own replica and this one
    same : same_replica q (own h) ≡ true → same_replica q r ≡ true → same_replica r (own h) ≡ true
    same f g = ap (λ x. same_replica x (own h)) (sym (same_replica-true q r g)) ∙ f

    same_own : same_replica q r ≡ true → same_replica r (own h) ≡ true → same_replica q (own h) ≡ true
    same_own f g = ap (λ x. same_replica x (own h)) (same_replica-true q r f) ∙ g

    go : (a b c : Bool) → (a ≡ true → b ≡ true → c ≡ true) → (b ≡ true → c ≡ true → a ≡ true)
        → is_gone (cond a status_is.Up (status_of (cond b (put_down (standing h q)) (standing h q)))) ≡ ((not c && b) || is_gone (cond a status_is.Up (status_of (standing h q))))
    go true true true f g = refl
    go true true false f g = let w : false ≡ true = f refl refl in absurd (cc)
    go true false true f g = refl
    go true false false f g = refl
    go false true true f g = let w : false ≡ true = g refl refl in absurd (cc)
    go false true false f g = gone_put (standing h q)
    go false false true f g = refl
    go false false false f g = refl

ticks : (t : ℕ) (x : Standing) → is_gone (status_of (ticked_at t x)) ≡ (fades t x || is_gone (status_of x))
ticks t Unheard = refl
ticks t (Up n) = sym (no_more (is_gone (status_of (ticked_at t (Up n)))))
ticks t (Down n) = sym (no_more (is_gone (status_of (ticked_at t (Down n)))))
ticks t Gone = refl

pub gone_tick : (h : History) (e : Entry) (now : ℕ) (o : Others) → e.step ≡ steps_are.Tick now → AreOthersOf h o → (q : Replica) → is_gone (status (Then h e) q) ≡ (fades (max o.time now) (standing_in o.standings q) || is_gone (status h q))
gone_tick h e now o is a q =
    ap is_gone (status-then h e q ∙ ap (λ s. cond (same_replica q (own_after s (own h))) status_is.Up (status_of (standing_after (own h) s (max (time h) (time_of s)) q (standing h q)))) is)
    ∙ (ap (λ n. is_gone (cond (same_replica q (own h)) status_is.Up (status_of (ticked_at (max n now) (standing h q))))) (sym a.time)
    ∙ (go (same_replica q (own h)) refl
    ∙ ap (λ x. fades (max o.time now) (standing_in o.standings q) || is_gone x) (status-here h q)))
  where
    go : (b : Bool) → same_replica q (own h) ≡ b → is_gone (cond b status_is.Up (status_of (ticked_at (max o.time now) (standing h q)))) ≡ (fades (max o.time now) (standing_in o.standings q) || is_gone (cond b status_is.Up (status_of (standing h q))))
    go true f = ap (λ x. fades (max o.time now) x || false) (sym (a.none_own q f))
    go false f = ticks (max o.time now) (standing h q) ∙ ap (λ x. fades (max o.time now) x || is_gone (status_of (standing h q))) (sym (a.standing q f))

-- losing none, or one

and_true : (b : Bool) → (b && true) ≡ b
and_true true = refl
and_true false = refl

pub loses_none : (s : DotRows) → LosesReplicas s (λ r. false) s
loses_none s d = (sym (and_true (set.contains s.covered d)), refl)

pub get_without : (s : DotRows) (r : Replica) (d : Dot) → map.get (without_replica s r).live d ≡ cond (same_replica d.replica r) None (map.get s.live d)
get_without s r d =
    map.get-retain_keys s.live (λ x. not (same_replica x.replica r)) d (λ q e. sym (ap (λ (x : Dot). not (same_replica x.replica r)) (dot_cmp-IsAntisymmetric d q e)))
    ∙ turned (same_replica d.replica r) (map.get s.live d)
  where
    turned : (b : Bool) (o : Option Row) → cond (not b) o None ≡ cond b None o
    turned true o = refl
    turned false o = refl

pub loses_other : (s u : DotRows) (mine r : Replica) → u ≡ cond (same_replica r mine) s (without_replica s r) → LosesReplicas s (loses mine r) u
loses_other s u mine r is d = (
  ap (λ (x : DotRows). set.contains x.covered d) is ∙ covers_other (same_replica r mine),
  ap (λ (x : DotRows). map.get x.live d) is ∙ keeps_other (same_replica r mine),
)
  where
    covers_other : (b : Bool) → set.contains (cond b s (without_replica s r)).covered d ≡ (set.contains s.covered d && not (not b && same_replica d.replica r))
    covers_other true = sym (and_true (set.contains s.covered d))
    covers_other false = contains-without s.covered r d

    keeps_other : (b : Bool) → map.get (cond b s (without_replica s r)).live d ≡ cond (not b && same_replica d.replica r) None (map.get s.live d)
    keeps_other true = refl
    keeps_other false = get_without s r d

-- what is left to lose

pub record StillLoses (s : DotRows) (test rest : Replica → Bool) (u : DotRows) : Type 0 where
  pub covered : (d : Dot) → (set.contains u.covered d && not (rest d.replica)) ≡ (set.contains s.covered d && not (test d.replica))
  pub live : (d : Dot) → cond (rest d.replica) None (map.get u.live d) ≡ cond (test d.replica) None (map.get s.live d)

pub still_all : (s : DotRows) (test rest : Replica → Bool) → ((r : Replica) → rest r ≡ test r) → StillLoses s test rest s
still_all s test rest same = record {
  covered = λ d. ap (λ b. set.contains s.covered d && not b) (same d.replica);
  live = λ d. ap (λ b. cond b None (map.get s.live d)) (same d.replica);
}

pub still_none : (s u : DotRows) (test rest : Replica → Bool) → ((r : Replica) → rest r ≡ false) → StillLoses s test rest u → LosesReplicas s test u
still_none s u test rest none left d = (
  sym (and_true (set.contains u.covered d)) ∙ (ap (λ b. set.contains u.covered d && not b) (sym (none d.replica)) ∙ left.covered d),
  ap (λ b. cond b None (map.get u.live d)) (sym (none d.replica)) ∙ left.live d,
)

-- one more is left out where it passes
pub still_next : (s u v : DotRows) (test : Replica → Bool) (p : Standing → Bool) (all es : List (Replica × Standing)) (r : Replica) (x : Standing) → all ≡ (r, x) ∷ es → v ≡ cond (p x) (without_replica u r) u → StillLoses s test (any_of p all) u → StillLoses s test (any_of p es) v
still_next s u v test p all es r x split is left = record {
  covered = λ d.
      ap (λ (y : DotRows). set.contains y.covered d && not (any_of p es d.replica)) is
      ∙ (covers_next (p x) d
      ∙ (ap (λ l. set.contains u.covered d && not (any_of p l d.replica)) (sym split) ∙ left.covered d));
  live = λ d.
      ap (λ (y : DotRows). cond (any_of p es d.replica) None (map.get y.live d)) is
      ∙ (keeps_next (p x) d
      ∙ (ap (λ l. cond (any_of p l d.replica) None (map.get u.live d)) (sym split) ∙ left.live d));
}
  where
    never : (b : Bool) → (b && false) ≡ false
    never true = refl
    never false = refl

    both : (c a b : Bool) → ((c && not a) && not b) ≡ (c && not (a || b))
    both false a b = refl
    both true true b = refl
    both true false b = refl

    either : (a b : Bool) (o : Option Row) → cond b None (cond a None o) ≡ cond (a || b) None o
    either true true o = refl
    either true false o = refl
    either false b o = refl

    covers_next : (b : Bool) (d : Dot) → (set.contains (cond b (without_replica u r) u).covered d && not (any_of p es d.replica)) ≡ (set.contains u.covered d && not ((same_replica d.replica r && b) || any_of p es d.replica))
    covers_next true d =
        ap (λ c. c && not (any_of p es d.replica)) (contains-without u.covered r d)
        ∙ (both (set.contains u.covered d) (same_replica d.replica r) (any_of p es d.replica)
        ∙ ap (λ c. set.contains u.covered d && not (c || any_of p es d.replica)) (sym (and_true (same_replica d.replica r))))
    covers_next false d = ap (λ c. set.contains u.covered d && not (c || any_of p es d.replica)) (sym (never (same_replica d.replica r)))

    keeps_next : (b : Bool) (d : Dot) → cond (any_of p es d.replica) None (map.get (cond b (without_replica u r) u).live d) ≡ cond ((same_replica d.replica r && b) || any_of p es d.replica) None (map.get u.live d)
    keeps_next true d =
        ap (λ o. cond (any_of p es d.replica) None o) (get_without u r d)
        ∙ (either (same_replica d.replica r) (any_of p es d.replica) (map.get u.live d)
        ∙ ap (λ c. cond (c || any_of p es d.replica) None (map.get u.live d)) (sym (and_true (same_replica d.replica r))))
    keeps_next false d = ap (λ c. cond (c || any_of p es d.replica) None (map.get u.live d)) (sym (never (same_replica d.replica r)))
