-- What is shown of a dot of another replica is what was told of it.
use Rattle.std.proofs.Common.{◌≡◌, ℕ, Bool, true, false, cond, not, ◌&&◌, ◌||◌, List, [], ◌∷◌, Option, Some, None, is_some, refl, sym, ◌∙◌, ap, inl, inr}
use Rattle.std.specs.Prelude.{◌⊎◌, max}
use Rattle.std.specs.List.{AllByRecursion}
use Rattle.std.proofs.lemmas.Bool.{or_cases}
use Rattle.std.specs.Map.{lookup}
use Rattle.replica_status.specs.declared.standing.Standing.{Standing}
use Rattle.replica_status.specs.declared.standing.Standing.TheVariants.{Unheard, Up, Down, Gone}
use Rattle.replica_status.specs.declared.status.Status.{Status}
use Rattle.replica_status.specs.declared.status.Status.TheVariants as status_is
use Rattle.replica_status.specs.Table.{status_of, put_down}
use Rattle.presence_base.specs.declared.dots.Replica.{Replica}
use Rattle.presence_base.specs.declared.dots.Dot.{Dot}
use Rattle.presence_base.specs.declared.row.Row.{Row}
use Rattle.presence_base.specs.Order.{same_replica, same_dot, same_text}
use Rattle.orswot_core.specs.Telling.{live_row}
use Rattle.presence_journal.specs.declared.step.Step.TheVariants as steps_are
use Rattle.presence_journal.specs.declared.entry.Outcome.TheVariants as outcomes_are
use Rattle.presence_journal.specs.declared.step.Step.{Step}
use Rattle.presence_journal.specs.declared.entry.Outcome.{Outcome}
use Rattle.presence_journal.specs.declared.entry.Entry.{Entry}
use Rattle.presence_journal.specs.History.{History, Begin, Then, own, reborn, next_dot, has_dot, first_some, row_added, row_brought, row_again, dot_removed, told_row, told_removed, time, time_of, standing, standing_after, is_up, is_gone, status, known, removed, row, live, shown}
use Rattle.presence_journal.specs.Present.{of_topic}
use Rattle.presence_journal.specs.Table.{IsLegal, own_dots, reborn_from}
use Rattle.presence_journal.specs.Walk.{shown_of, is_rebirth, is_reborn}
use Rattle.presence_journal.proofs.Same.{same_dot-true, same_replica-true}
use Rattle.presence_journal.proofs.ToldLemmas.{live_row_covered, row_told_covers}
use Rattle.presence_journal.proofs.Reborn.{IsAgain, again_of, again_parts}
use Rattle.presence_journal.proofs.HistoryLemmas.{Kind, Adds, Replaces, Removes, Quiet, IsOwnShown, kind_of, one_added, quiet_removed, is_own, added_plain, brought_told, own-then, own_again, again_unknown, known_then, told_known}
use Rattle.presence_journal_known.proofs.OwnLemmas.{plain_step, reborn_step}
use Rattle.presence_journal_known.proofs.KnownLemmas.{known-begin}
use Rattle.presence_journal_known.proofs.StatusLemmas.{hears_not_own, own-begin}
use Rattle.presence_journal_walks.specs.Changes.{topic_in, is_topic, first_told, was_told_removed, shows_told}

-- the entries of the own replica add and remove own dots alone

other_is : (h : History) (d : Dot) → same_replica d.replica (own h) ≡ false → d.replica ≡ own h → ⊥
other_is h d f o = let w : false ≡ true = sym f ∙ is_own h d o in absurd (cc)

other_added : (h : History) (e : Entry) (d : Dot) → IsLegal (Then h e) → same_replica d.replica (own h) ≡ false → row_added e.step e.outcome d ≡ None
other_added h e d l f = go (row_added e.step e.outcome d) refl
  where
    go : (o : Option Row) → row_added e.step e.outcome d ≡ o → o ≡ None
    go None g = refl
    go (Some r) g = absurd (other_is h d f (ap (λ (x : Dot). x.replica) (one_added h e d r (kind_of h e.step e.outcome (added_plain e.step e.outcome d r g) l.1) g).0))

own_among : (h : History) (ds : List Dot) (d : Dot) → AllByRecursion (IsOwnShown h) ds → has_dot ds d ≡ true → d.replica ≡ own h
own_among h [] d a f = absurd (cc)
own_among h (x ∷ xs) d a f = go (or_cases (same_dot d x) (has_dot xs d) f) (own_among h xs d a.1)
  where
    go : (same_dot d x ≡ true) ⊎ (has_dot xs d ≡ true) → (has_dot xs d ≡ true → d.replica ≡ own h) → d.replica ≡ own h
    go (inl g) ih = ap (λ (y : Dot). y.replica) (same_dot-true d x g) ∙ a.0.own
    go (inr g) ih = ih g

removed_own : (h : History) (s : Step) (o : Outcome) (d : Dot) → Kind h s o → dot_removed o (next_dot h) d ≡ true → d.replica ≡ own h
removed_own h s o d (Adds r m is l) g = let f : false ≡ true = sym (ap (λ y. dot_removed y (next_dot h) d) is) ∙ g in absurd (cc)
removed_own h s o d (Replaces r old m is l w) g =
    let f : same_dot d old ≡ true = sym (ap (λ y. dot_removed y (next_dot h) d) is) ∙ g in
    ap (λ (y : Dot). y.replica) (same_dot-true d old f) ∙ w.own
removed_own h s o d (Removes y ys is l a q) g = go (or_cases (same_dot d (next_dot h)) (has_dot (y ∷ ys) d) (sym (ap (λ z. dot_removed z (next_dot h) d) is) ∙ g))
  where
    go : (same_dot d (next_dot h) ≡ true) ⊎ (has_dot (y ∷ ys) d ≡ true) → d.replica ≡ own h
    go (inl f) = ap (λ (z : Dot). z.replica) (same_dot-true d (next_dot h) f)
    go (inr f) = own_among h (y ∷ ys) d a f
removed_own h s o d (Quiet q) g = let f : false ≡ true = sym (quiet_removed o (next_dot h) d q) ∙ g in absurd (cc)

removed_plain : (o : Outcome) (n d : Dot) → dot_removed o n d ≡ true → is_reborn o ≡ false
removed_plain (outcomes_are.Reborn ps) n d e = absurd (cc)
removed_plain _ n d e = refl

other_removed : (h : History) (e : Entry) (d : Dot) → IsLegal (Then h e) → same_replica d.replica (own h) ≡ false → dot_removed e.outcome (next_dot h) d ≡ false
other_removed h e d l f = go (dot_removed e.outcome (next_dot h) d) refl
  where
    go : (b : Bool) → dot_removed e.outcome (next_dot h) d ≡ b → b ≡ false
    go false g = refl
    go true g = absurd (other_is h d f (removed_own h e.step e.outcome d (kind_of h e.step e.outcome (plain_step h e l (removed_plain e.outcome (next_dot h) d g)) l.1) g))

-- so its row is the one that was told first, and it is removed where that was told

-- a replica that is gone stays so, and so does one that was the own one

stays_gone : (o : Replica) (s : Step) (t : ℕ) (r : Replica) (x : Standing) → is_gone (status_of x) ≡ true → is_gone (status_of (standing_after o s t r x)) ≡ true
stays_gone o s t r Unheard g = absurd (cc)
stays_gone o s t r (Up heard) g = absurd (cc)
stays_gone o s t r (Down heard) g = absurd (cc)
stays_gone o (steps_are.Heard replica now) t r Gone g = either (same_replica r replica)
  where
    either : (b : Bool) → is_gone (status_of (cond b Gone Gone)) ≡ true
    either true = refl
    either false = refl
stays_gone o (steps_are.Tick now) t r Gone g = refl
stays_gone o (steps_are.PermDown replica) t r Gone g = either (same_replica r replica)
  where
    either : (b : Bool) → is_gone (status_of (cond b Gone Gone)) ≡ true
    either true = refl
    either false = refl
stays_gone o (steps_are.Rebirth i) t r Gone g = either (same_replica r o)
  where
    either : (b : Bool) → is_gone (status_of (cond b Gone Gone)) ≡ true
    either true = refl
    either false = refl
stays_gone o _ t r Gone g = refl

down_is_gone : (x : Standing) → is_gone (status_of (put_down x)) ≡ true
down_is_gone Unheard = refl
down_is_gone (Up heard) = refl
down_is_gone (Down heard) = refl
down_is_gone Gone = refl

pub own_goes : (o : Replica) (s : Step) (t : ℕ) (r : Replica) (x : Standing) → is_rebirth s ≡ true → same_replica r o ≡ true → is_gone (status_of (standing_after o s t r x)) ≡ true
own_goes o (steps_are.Rebirth i) t r x n e = ap (λ b. is_gone (status_of (cond b (put_down x) x))) e ∙ down_is_gone x
own_goes o _ t r x n e = absurd (cc)

-- the status of another one
pub status-other : (h : History) (r : Replica) → same_replica r (own h) ≡ false → status h r ≡ status_of (standing h r)
unfolding status
status-other h r f = ap (λ b. cond b status_is.Up (status_of (standing h r))) f

pub standing-then : (h : History) (e : Entry) (r : Replica) → standing (Then h e) r ≡ standing_after (own h) e.step (max (time h) (time_of e.step)) r (standing h r)
unfolding standing
standing-then h e r = refl

not_both : (b c : Bool) → b ≡ c → b ≡ true → c ≡ false → ⊥
not_both b c e t f = let g : true ≡ false = sym t ∙ (e ∙ f) in absurd (cc)

pub not_gone_before : (h : History) (e : Entry) (r : Replica) → same_replica r (own (Then h e)) ≡ false → is_gone (status (Then h e) r) ≡ false → (same_replica r (own h) ≡ false) × (is_gone (status h r) ≡ false)
not_gone_before h e r f g = (other, still)
  where
    now : is_gone (status_of (standing_after (own h) e.step (max (time h) (time_of e.step)) r (standing h r))) ≡ false
    now = sym (ap (λ x. is_gone x) (status-other (Then h e) r f) ∙ ap (λ x. is_gone (status_of x)) (standing-then h e r)) ∙ g

    go : (b c : Bool) → same_replica r (own h) ≡ b → is_rebirth e.step ≡ c → b ≡ false
    go false c p n = refl
    go true true p n = absurd (not_both _ _ refl (own_goes (own h) e.step (max (time h) (time_of e.step)) r (standing h r) n p) now)
    go true false p n = absurd (not_both _ _ refl (ap (same_replica r) (own-then h e n) ∙ p) f)

    other : same_replica r (own h) ≡ false
    other = go (same_replica r (own h)) (is_rebirth e.step) refl refl

    so : (b : Bool) → is_gone (status_of (standing h r)) ≡ b → b ≡ false
    so false p = refl
    so true p = absurd (not_both _ _ refl (stays_gone (own h) e.step (max (time h) (time_of e.step)) r (standing h r) p) now)

    still : is_gone (status h r) ≡ false
    still = ap is_gone (status-other h r other) ∙ so (is_gone (status_of (standing h r))) refl

brought_other : (h : History) (e : Entry) (d : Dot) → IsLegal (Then h e) → same_replica d.replica (own (Then h e)) ≡ false → row_brought e.outcome (row h) (told_row h e.step d) d ≡ told_row h e.step d
brought_other h e d l f = go (is_reborn e.outcome) refl
  where
    none : (w : IsAgain h e.step e.outcome) (o : Option Dot) → lookup (same_dot d) (reborn_from (reborn (own h) w.incarnation) 0 (own_dots h)) ≡ o → row_again (row h) o ≡ None
    none w None g = refl
    none w (Some old) g = absurd (other_is (Then h e) d f ((again_parts (reborn (own h) w.incarnation) 0 (own_dots h) d old g).0 ∙ sym (own_again h e w)))

    go : (b : Bool) → is_reborn e.outcome ≡ b → row_brought e.outcome (row h) (told_row h e.step d) d ≡ told_row h e.step d
    go false a = brought_told e.outcome (row h) (told_row h e.step d) d a
    go true a =
        let w = again_of h e.step e.outcome (reborn_step h e l a) l.1 in
        ap (λ o. row_brought o (row h) (told_row h e.step d) d) w.outcome
        ∙ (none w (lookup (same_dot d) (reborn_from (reborn (own h) w.incarnation) 0 (own_dots h))) refl
        ∙ sym (ap (λ s. told_row h s d) w.step))

pub row_of_other : (h : History) (d : Dot) → IsLegal h → same_replica d.replica (own h) ≡ false → is_gone (status h d.replica) ≡ false → row h d ≡ first_told h d
unfolding row first_told
row_of_other (Begin s) d l f g = ap (λ b. cond b None (live_row s.content d)) (sym (ap (same_replica d.replica) (sym (own-begin s)) ∙ f))
row_of_other (Then h e) d l f g =
    let b = not_gone_before h e d.replica f g in
    λ i. first_some (row_of_other h d l.0 b.0 b.1 i) (first_some (other_added h e d l b.0 i) (brought_other h e d l f i))

removed_of_other : (h : History) (d : Dot) → IsLegal h → same_replica d.replica (own h) ≡ false → is_gone (status h d.replica) ≡ false → removed h d ≡ was_told_removed h d
unfolding removed was_told_removed
removed_of_other (Begin s) d l f g = refl
removed_of_other (Then h e) d l f g =
    let b = not_gone_before h e d.replica f g in
    λ i. removed_of_other h d l.0 b.0 b.1 i || (other_removed h e d l b.0 i || told_removed h e.step d)

shape : (t : List ℕ) (o : Option Row) (b u : Bool) → (is_topic t (topic_in o) && (u && not b)) ≡ is_some (of_topic t (cond u (cond b None o) None))
shape t None b true = sym (hidden b)
  where
    hidden : (b : Bool) → is_some (of_topic t (cond b None None)) ≡ false
    hidden true = refl
    hidden false = refl
shape t None b false = refl
shape t (Some r) true true = and_none (same_text r.topic t)
  where
    and_none : (a : Bool) → (a && false) ≡ false
    and_none true = refl
    and_none false = refl
shape t (Some r) false true = and_all (same_text r.topic t)
  where
    and_all : (a : Bool) → (a && true) ≡ is_some (cond a (Some r) None)
    and_all true = refl
    and_all false = refl
shape t (Some r) b false = and_none (same_text r.topic t)
  where
    and_none : (a : Bool) → (a && false) ≡ false
    and_none true = refl
    and_none false = refl

pub shows_other : (h : History) (t : List ℕ) (d : Dot) → IsLegal h → same_replica d.replica (own h) ≡ false → shows_told h t d ≡ is_some (shown_of h t d)
unfolding shown live
shows_other h t d l f = go (is_gone (status h d.replica)) refl
  where
    hidden : (a : Bool) → (a && false) ≡ false
    hidden true = refl
    hidden false = refl

    down : (x : Status) → is_gone x ≡ true → is_up x ≡ false
    down status_is.Unheard g = refl
    down status_is.Up g = absurd (cc)
    down status_is.Down g = refl
    down status_is.Gone g = refl

    go : (b : Bool) → is_gone (status h d.replica) ≡ b → shows_told h t d ≡ is_some (of_topic t (cond (is_up (status h d.replica)) (cond (removed h d) None (row h d)) None))
    go false g =
        shape t (first_told h d) (was_told_removed h d) (is_up (status h d.replica))
        ∙ (λ i. is_some (of_topic t (cond (is_up (status h d.replica)) (cond (sym (removed_of_other h d l f g) i) None (sym (row_of_other h d l f g) i)) None)))
    go true g =
        let u = down (status h d.replica) g in
        (λ i. is_topic t (topic_in (first_told h d)) && (u i && not (was_told_removed h d)))
        ∙ (hidden (is_topic t (topic_in (first_told h d)))
        ∙ (λ i. is_some (of_topic t (cond (sym u i) (cond (removed h d) None (row h d)) None))))

-- of an own dot nothing is told

pub own_told : (h : History) (s : Step) (d : Dot) → same_replica d.replica (own h) ≡ true → told_row h s d ≡ None
own_told h (steps_are.Merge t) d o = ap (λ b. cond b (live_row t d) None) (sym (hears_not_own h d.replica o))
own_told h _ d o = refl

-- what was told first is known
first_known : (h : History) (d : Dot) (r : Row) → IsLegal h → first_told h d ≡ Some r → known h d ≡ true
unfolding first_told
first_known (Begin s) d r l e = kept (same_replica d.replica s.own) e
  where
    kept : (b : Bool) → cond b None (live_row s.content d) ≡ Some r → known (Begin s) d ≡ true
    kept true f = absurd (cc)
    kept false f = sym (known-begin s d) ∙ live_row_covered s.content d r l.content f
first_known (Then h e) d r l f = go (first_told h d) refl f (first_known h d)
  where
    go : (o : Option Row) → first_told h d ≡ o → first_some o (told_row h e.step d) ≡ Some r → ((q : Row) → IsLegal h → first_told h d ≡ Some q → known h d ≡ true) → known (Then h e) d ≡ true
    go (Some q) is g ih = known_then h e d (ih q l.0 is)
    go None is g ih = told_known h e d (row_told_covers h e.step d r l.4 g)

own_first : (h : History) (d : Dot) → IsLegal h → same_replica d.replica (own h) ≡ true → first_told h d ≡ None
unfolding first_told
own_first (Begin s) d l o = ap (λ b. cond b None (live_row s.content d)) (ap (same_replica d.replica) (sym (own-begin s)) ∙ o)
own_first (Then h e) d l o = go (is_rebirth e.step) refl (own_first h d l.0)
  where
    new : (w : IsAgain h e.step e.outcome) (x : Option Row) → first_told h d ≡ x → first_some x (told_row h e.step d) ≡ None
    new w None is = ap (λ s. told_row h s d) w.step
    new w (Some r) is = absurd (again_unknown h d w.incarnation w.fresh (same_replica-true d.replica (own (Then h e)) o ∙ own_again h e w) (first_known h d r l.0 is))

    go : (b : Bool) → is_rebirth e.step ≡ b → (same_replica d.replica (own h) ≡ true → first_told h d ≡ None) → first_some (first_told h d) (told_row h e.step d) ≡ None
    go false n ih =
        let mine : same_replica d.replica (own h) ≡ true = ap (same_replica d.replica) (sym (own-then h e n)) ∙ o in
        λ i. first_some (ih mine i) (own_told h e.step d mine i)
    go true n ih = new (again_of h e.step e.outcome n l.1) (first_told h d) refl

pub shows_own : (h : History) (t : List ℕ) (d : Dot) → IsLegal h → same_replica d.replica (own h) ≡ true → shows_told h t d ≡ false
shows_own h t d l o = ap (λ x. is_topic t (topic_in x) && (is_up (status h d.replica) && not (was_told_removed h d))) (own_first h d l o)
