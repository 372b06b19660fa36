-- The standings that are kept, entry by entry.
use Rattle.std.proofs.Common.{◌≡◌, ℕ, Bool, true, false, cond, not, ◌&&◌, [], refl, sym, ◌∙◌, ap, arith}
use Rattle.std.specs.Prelude.{max}
use Rattle.presence_base.specs.declared.dots.Replica.{Replica}
use Rattle.presence_base.specs.Order.{same_replica}
use Rattle.replica_status.specs.declared.standing.Standing.{Standing}
use Rattle.replica_status.specs.declared.standing.Standing.TheVariants.{Unheard, Up, Down, Gone}
use Rattle.replica_status.specs.declared.status.Status.TheVariants as status_is
use Rattle.replica_status.specs.Boards.{standing_in}
use Rattle.replica_status.specs.Table.{status_of, heard_at, ticked_at, put_down}
use Rattle.presence_journal_lists.specs.Standings.{Puts, AllStay, Ticks}
use Rattle.presence_journal.specs.declared.step.Step.TheVariants as steps_are
use Rattle.presence_journal.specs.declared.step.Step.{Step}
use Rattle.presence_journal.specs.declared.entry.Entry.{Entry}
use Rattle.presence_journal.specs.History.{History, Then, begun, own, reborn, time, time_of, standing, standing_after, status, is_gone, hears}
use Rattle.presence_journal.specs.Laws.{is_callers}
use Rattle.orswot_core.specs.Telling.{ToldValue}
use Rattle.presence_journal.proofs.Same.{same_replica-true, same_replica-refl}
use Rattle.presence_journal.specs.Walk.{is_rebirth}
use Rattle.presence_journal.specs.Table.{is_unheard}
use Rattle.presence_journal.proofs.Reborn.{IsAgain, again_of}
use Rattle.presence_journal.proofs.HistoryLemmas.{own-then, own_again, callers_plain}
use Rattle.tracker_known.specs.declared.others.Others.{Others}
use Rattle.tracker_known.specs.Standings.{status_at, hears_at, AreOthersOf, OthersFollow, OthersStay, OthersReborn}

-- statuses

pub status_kept : (h : History) (o : Others) (r : Replica) → AreOthersOf h o → status_at o r ≡ status h r
unfolding status
status_kept h o r a = ap (λ x. cond (same_replica r x) status_is.Up (status_of (standing_in o.standings r))) a.own ∙ go (same_replica r (own h)) refl
  where
    go : (b : Bool) → same_replica r (own h) ≡ b → cond b status_is.Up (status_of (standing_in o.standings r)) ≡ cond b status_is.Up (status_of (standing h r))
    go true e = refl
    go false e = ap status_of (a.standing r e)

pub hears_is : (h : History) (o : Others) (r : Replica) → AreOthersOf h o → hears_at o r ≡ hears h r
unfolding hears
hears_is h o r a = λ i. not (same_replica r (a.own i)) && not (is_gone (status_kept h o r a i))

-- what an entry makes of the time and of one standing

time-then : (h : History) (e : Entry) → time (Then h e) ≡ max (time h) (time_of e.step)
unfolding time
time-then h e = refl

standing-then : (h : History) (e : Entry) (r : Replica) → standing (Then h e) r ≡ standing_after (own h) e.step (max (time h) (time_of e.step)) r (standing h r)
unfolding standing
standing-then h e r = refl

-- the standing of one replica is changed, which is not the own one

same_flip : (r q : Replica) → same_replica r q ≡ same_replica q r
same_flip r q = by (same_replica r q) (same_replica q r) (λ f. ap (λ x. same_replica q x) (same_replica-true r q f) ∙ same_replica-refl q) (λ f. ap (λ x. same_replica r x) (same_replica-true q r f) ∙ same_replica-refl r)
  where
    by : (a b : Bool) → (a ≡ true → b ≡ true) → (b ≡ true → a ≡ true) → a ≡ b
    by true b f g = sym (f refl)
    by false true f g = g refl
    by false false f g = refl

-- after a step that makes f of the standing of a replica that is not the own one
pub others_put : (h : History) (e : Entry) (f : Standing → Standing) (r : Replica) (o p : Others) → is_rebirth e.step ≡ false → same_replica r o.own ≡ false → p.own ≡ o.own → p.time ≡ max o.time (time_of e.step) → Puts o.standings p.standings r (f (standing_in o.standings r))
    → ((q : Replica) → standing (Then h e) q ≡ cond (same_replica q r) (f (standing h q)) (standing h q)) → AreOthersOf h o → AreOthersOf (Then h e) p
others_put h e f r o p n other mine later puts step a = record {
  own = mine ∙ (a.own ∙ sym (own-then h e n));
  time = later ∙ (ap (λ n. max n (time_of e.step)) a.time ∙ sym (time-then h e));
  standing = λ q none.
      puts q
      ∙ (ap (λ b. cond b (f (standing_in o.standings r)) (standing_in o.standings q)) (same_flip r q)
      ∙ (at q (same_replica q r) refl
      ∙ ((λ i. cond (same_replica q r) (f (a.standing q (ap (same_replica q) (sym (own-then h e n)) ∙ none) i)) (a.standing q (ap (same_replica q) (sym (own-then h e n)) ∙ none) i))
      ∙ sym (step q))));
  none_own = λ q same.
      puts q
      ∙ (ap (λ b. cond b (f (standing_in o.standings r)) (standing_in o.standings q)) (apart q (ap (same_replica q) (sym (own-then h e n)) ∙ same) (same_replica r q) refl)
      ∙ a.none_own q (ap (same_replica q) (sym (own-then h e n)) ∙ same));
}
  where
    at : (q : Replica) (b : Bool) → same_replica q r ≡ b → cond b (f (standing_in o.standings r)) (standing_in o.standings q) ≡ cond b (f (standing_in o.standings q)) (standing_in o.standings q)
    at q true same = ap (λ x. f (standing_in o.standings x)) (sym (same_replica-true q r same))
    at q false same = refl

    apart : (q : Replica) → same_replica q (own h) ≡ true → (b : Bool) → same_replica r q ≡ b → b ≡ false
    apart q own_is false same = refl
    apart q own_is true same =
        let w : true ≡ false = sym own_is ∙ ((λ i. same_replica (sym (same_replica-true r q same) i) (sym a.own i)) ∙ other) in
        absurd (cc)

-- after a step that leaves the standings of the others
pub others_pass : (h : History) (e : Entry) (o p : Others) → is_rebirth e.step ≡ false → p.own ≡ o.own → p.time ≡ max o.time (time_of e.step) → AllStay o.standings p.standings
    → ((q : Replica) → same_replica q (own h) ≡ false → standing (Then h e) q ≡ standing h q) → AreOthersOf h o → AreOthersOf (Then h e) p
others_pass h e o p n mine later same step a = record {
  own = mine ∙ (a.own ∙ sym (own-then h e n));
  time = later ∙ (ap (λ n. max n (time_of e.step)) a.time ∙ sym (time-then h e));
  standing = λ q none. let other = ap (same_replica q) (sym (own-then h e n)) ∙ none in same q ∙ (a.standing q other ∙ sym (step q other));
  none_own = λ q own_is. same q ∙ a.none_own q (ap (same_replica q) (sym (own-then h e n)) ∙ own_is);
}

-- one replica is the own one, and another is not
apart_from_own : (h : History) (r q : Replica) → same_replica r (own h) ≡ true → same_replica q (own h) ≡ false → (b : Bool) → same_replica q r ≡ b → b ≡ false
apart_from_own h r q own_is other false same = refl
apart_from_own h r q own_is other true same =
    let w : true ≡ false = sym own_is ∙ (ap (λ x. same_replica x (own h)) (sym (same_replica-true q r same)) ∙ other) in
    absurd (cc)

-- hearing

heard-step : (h : History) (e : Entry) (r : Replica) (now : ℕ) (q : Replica) → e.step ≡ steps_are.Heard r now → standing (Then h e) q ≡ cond (same_replica q r) (heard_at (max (time h) now) (standing h q)) (standing h q)
heard-step h e r now q is = standing-then h e q ∙ ap (λ s. standing_after (own h) s (max (time h) (time_of s)) q (standing h q)) is

pub heard_other : (r : Replica) (now : ℕ) (o p : Others) → same_replica r o.own ≡ false → p.own ≡ o.own → p.time ≡ max o.time now → Puts o.standings p.standings r (heard_at (max o.time now) (standing_in o.standings r)) → OthersFollow o (steps_are.Heard r now) p
heard_other r now o p other mine later puts h e is a =
    others_put h e (heard_at (max o.time now)) r o p (ap is_rebirth is) other mine (later ∙ ap (λ s. max o.time (time_of s)) (sym is)) puts
    (λ q. heard-step h e r now q is ∙ ap (λ n. cond (same_replica q r) (heard_at (max n now) (standing h q)) (standing h q)) (sym a.time)) a

pub heard_own : (r : Replica) (now : ℕ) (o p : Others) → same_replica r o.own ≡ true → p.own ≡ o.own → p.time ≡ max o.time now → p.standings ≡ o.standings → OthersFollow o (steps_are.Heard r now) p
heard_own r now o p own_is mine later same h e is a =
    others_pass h e o p (ap is_rebirth is) mine (later ∙ ap (λ s. max o.time (time_of s)) (sym is)) (λ q. ap (λ m. standing_in m q) same)
    (λ q other. heard-step h e r now q is ∙ ap (λ b. cond b (heard_at (max (time h) now) (standing h q)) (standing h q)) (apart_from_own h r q (ap (same_replica r) (sym a.own) ∙ own_is) other (same_replica q r) refl)) a

-- putting down

down-step : (h : History) (e : Entry) (r q : Replica) → e.step ≡ steps_are.PermDown r → standing (Then h e) q ≡ cond (same_replica q r) (put_down (standing h q)) (standing h q)
down-step h e r q is = standing-then h e q ∙ ap (λ s. standing_after (own h) s (max (time h) (time_of s)) q (standing h q)) is

none_later : (n : ℕ) → max n 0 ≡ n
none_later n = omega arith

put_down-is : (x : Standing) → put_down x ≡ Gone
put_down-is Unheard = refl
put_down-is (Up t) = refl
put_down-is (Down t) = refl
put_down-is Gone = refl

pub down_other : (r : Replica) (o p : Others) → same_replica r o.own ≡ false → p.own ≡ o.own → p.time ≡ o.time → Puts o.standings p.standings r Gone → OthersFollow o (steps_are.PermDown r) p
down_other r o p other mine same puts h e is a =
    others_put h e put_down r o p (ap is_rebirth is) other mine (same ∙ (sym (none_later o.time) ∙ ap (λ s. max o.time (time_of s)) (sym is)))
    (λ q. puts q ∙ ap (λ x. cond (same_replica r q) x (standing_in o.standings q)) (sym (put_down-is (standing_in o.standings r))))
    (λ q. down-step h e r q is) a

pub down_own : (r : Replica) (o : Others) → same_replica r o.own ≡ true → OthersFollow o (steps_are.PermDown r) o
down_own r o own_is h e is a =
    others_pass h e o o (ap is_rebirth is) refl (sym (none_later o.time) ∙ ap (λ s. max o.time (time_of s)) (sym is)) (λ q. refl)
    (λ q other. down-step h e r q is ∙ ap (λ b. cond b (put_down (standing h q)) (standing h q)) (apart_from_own h r q (ap (same_replica r) (sym a.own) ∙ own_is) other (same_replica q r) refl)) a

-- time

tick-step : (h : History) (e : Entry) (now : ℕ) (q : Replica) → e.step ≡ steps_are.Tick now → standing (Then h e) q ≡ ticked_at (max (time h) now) (standing h q)
tick-step h e now q is = standing-then h e q ∙ ap (λ s. standing_after (own h) s (max (time h) (time_of s)) q (standing h q)) is

pub ticked : (now : ℕ) (o p : Others) → p.own ≡ o.own → p.time ≡ max o.time now → Ticks (max o.time now) o.standings p.standings → OthersFollow o (steps_are.Tick now) p
ticked now o p mine later is h e step a = record {
  own = mine ∙ (a.own ∙ sym (own-then h e (ap is_rebirth step)));
  time = later ∙ ((λ i. max (a.time i) (time_of (sym step i))) ∙ sym (time-then h e));
  standing = λ q none.
      is q
      ∙ ((λ i. ticked_at (max (a.time i) now) (a.standing q (ap (same_replica q) (sym (own-then h e (ap is_rebirth step))) ∙ none) i))
      ∙ sym (tick-step h e now q step));
  none_own = λ q same. is q ∙ ap (ticked_at (max o.time now)) (a.none_own q (ap (same_replica q) (sym (own-then h e (ap is_rebirth step))) ∙ same));
}

-- the others of a new shard
pub none_yet : (r : Replica) (o : Others) → o.own ≡ r → o.time ≡ 0 → o.standings ≡ [] → AreOthersOf (begun r) o
unfolding own time standing
none_yet r o mine zero_is none = record {
  own = mine;
  time = zero_is;
  standing = λ q other. ap (λ xs. standing_in xs q) none;
  none_own = λ q same. ap (λ xs. standing_in xs q) none;
}

pub others_same : (o p : Others) → p.own ≡ o.own → p.time ≡ o.time → AllStay o.standings p.standings → OthersStay o p
others_same o p mine later same h a = record {
  own = mine ∙ a.own;
  time = later ∙ a.time;
  standing = λ q other. same q ∙ a.standing q other;
  none_own = λ q own_is. same q ∙ a.none_own q own_is;
}

-- an entry that neither hears a replica, nor puts one down, nor hands in a time

callers_quiet : (o : Replica) (s : Step) (t : ℕ) (r : Replica) (x : Standing) → is_callers s ≡ true → (time_of s ≡ 0) × (standing_after o s t r x ≡ x)
callers_quiet o (steps_are.Heard replica now) t r x c = absurd (cc)
callers_quiet o (steps_are.Tick now) t r x c = absurd (cc)
callers_quiet o (steps_are.PermDown replica) t r x c = absurd (cc)
callers_quiet o (steps_are.Rebirth i) t r x c = absurd (cc)
callers_quiet o _ t r x c = (refl, refl)

pub others_quiet : (h : History) (e : Entry) (o : Others) → is_rebirth e.step ≡ false → ((t : ℕ) (r : Replica) (x : Standing) → (time_of e.step ≡ 0) × (standing_after (own h) e.step t r x ≡ x)) → AreOthersOf h o → AreOthersOf (Then h e) o
others_quiet h e o n quiet a =
    others_pass h e o o n refl (sym (none_later o.time) ∙ ap (λ n. max o.time n) (sym (quiet 0 (own h) Unheard).0)) (λ q. refl)
    (λ q other. standing-then h e q ∙ (quiet (max (time h) (time_of e.step)) q (standing h q)).1) a

pub others_callers : (h : History) (e : Entry) (o : Others) → is_callers e.step ≡ true → AreOthersOf h o → AreOthersOf (Then h e) o
others_callers h e o c a = others_quiet h e o (callers_plain e.step c) (λ t r x. callers_quiet (own h) e.step t r x c) a

pub others_merge : (h : History) (e : Entry) (t : ToldValue) (o : Others) → e.step ≡ steps_are.Merge t → AreOthersOf h o → AreOthersOf (Then h e) o
others_merge h e t o is a = others_quiet h e o (ap is_rebirth is) (λ n r x. (ap time_of is, ap (λ s. standing_after (own h) s n r x) is)) a

abbrev incarnation_of : Step → ℕ
incarnation_of (steps_are.Rebirth i) = i
incarnation_of _ = 0

-- a rebirth: the old one is put down, and the new one, which was never heard, is the own one

status_is_of : (h : History) (q : Replica) → same_replica q (own h) ≡ false → status h q ≡ status_of (standing h q)
unfolding status
status_is_of h q f = ap (λ b. cond b status_is.Up (status_of (standing h q))) f

only_unheard : (x : Standing) → is_unheard (status_of x) ≡ true → x ≡ Unheard
only_unheard Unheard e = refl
only_unheard (Up t) e = absurd (cc)
only_unheard (Down t) e = absurd (cc)
only_unheard Gone e = absurd (cc)

pub others_reborn : (i : ℕ) (o p : Others) → p.own ≡ reborn o.own i → p.time ≡ o.time → Puts o.standings p.standings o.own Gone → OthersReborn o i p
others_reborn i o p mine later puts h e l is a = record {
  own = mine ∙ ((λ j. reborn (a.own j) i) ∙ sym (own_again h e w ∙ ap (reborn (own h)) same));
  time = later ∙ (a.time ∙ (sym (none_later (time h)) ∙ (ap (λ s. max (time h) (time_of s)) (sym is) ∙ sym (time-then h e))));
  standing = λ q none.
      puts q
      ∙ (ap (λ b. cond b Gone (standing_in o.standings q)) (same_flip o.own q ∙ ap (same_replica q) a.own)
      ∙ (at q (same_replica q (own h)) refl
      ∙ sym (standing-then h e q ∙ ap (λ s. standing_after (own h) s (max (time h) (time_of s)) q (standing h q)) is)));
  none_own = λ q own_is.
      let new : q ≡ reborn (own h) w.incarnation = same_replica-true q (own (Then h e)) own_is ∙ own_again h e w in
      puts q
      ∙ (ap (λ b. cond b Gone (standing_in o.standings q)) (same_flip o.own q ∙ ap (same_replica q) a.own)
      ∙ fresh q new (same_replica q (own h)) refl);
}
  where
    w : IsAgain h e.step e.outcome
    w = again_of h e.step e.outcome (ap is_rebirth is) l.1

    same : w.incarnation ≡ i
    same = ap incarnation_of (sym w.step ∙ is)

    at : (q : Replica) (b : Bool) → same_replica q (own h) ≡ b → cond b Gone (standing_in o.standings q) ≡ cond b (put_down (standing h q)) (standing h q)
    at q true f = sym (put_down-is (standing h q))
    at q false f = a.standing q f

    fresh : (q : Replica) → q ≡ reborn (own h) w.incarnation → (b : Bool) → same_replica q (own h) ≡ b → cond b Gone (standing_in o.standings q) ≡ Unheard
    fresh q new true f =
        let n : (own h).incarnation ≡ w.incarnation = ap (λ (x : Replica). x.incarnation) (sym (same_replica-true q (own h) f) ∙ new) in
        absurd (omega (arith, n, w.above))
    fresh q new false f =
        only_unheard (standing_in o.standings q)
        (ap (λ x. is_unheard (status_of x)) (a.standing q f)
        ∙ (ap is_unheard (sym (status_is_of h q f)) ∙ (ap (λ x. is_unheard (status h x)) new ∙ w.unheard)))
