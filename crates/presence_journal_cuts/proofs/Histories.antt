-- The last cut, the rows above it, and what every delta keeps of them.
use Rattle.std.proofs.Common.{◌≡◌, ℕ, ◌+◌, ◌<◌, ◌≤◌, ◌^◌, length, get_or, take, Bool, true, false, cond, ◌&&◌, nat_lt, nat_le, List, [], ◌∷◌, Option, Some, None, refl, sym, ◌∙◌, ap, subst, arith}
use Rattle.std.specs.Prelude.{is_none}
use Rattle.std.proofs.lemmas.Bool.{and_parts}
use Rattle.std.proofs.lemmas.Bool.Decides.{nat_tests}
use Rattle.std.proofs.lemmas.Option.{cond_some, same_Some}
use Rattle.presence_base.specs.declared.dots.Dot.{Dot}
use Rattle.presence_base.specs.declared.row.Row.{Row}
use Rattle.presence_base.specs.Order.{same_replica, same_dot}
use Rattle.dot_context.specs.Sets.{in_range}
use Rattle.orswot_core.specs.Telling.{covers, live_row}
use Rattle.presence_journal.specs.declared.step.Step.TheVariants as steps_are
use Rattle.presence_journal.specs.declared.entry.Outcome.TheVariants as outcomes_are
use Rattle.presence_journal.specs.declared.step.Step.{Step}
use Rattle.presence_journal.specs.declared.entry.Outcome.{Outcome}
use Rattle.presence_journal.specs.declared.entry.Entry.{Entry}
use Rattle.presence_journal.specs.declared.entry.Start.{Start}
use Rattle.presence_journal.specs.History.{History, Begin, Then, onto, own, count, counts_used, count_after, last_cut, cut_after, next_dot, has_dot, first_some, row_made, row_added, removed, row, live, shown}
use Rattle.presence_journal.specs.Present.{dots_taken}
use Rattle.presence_journal.specs.Queue.{Waiting, Behind, Queued, queue, topic_of}
use Rattle.presence_journal.specs.Table.{IsLegal, rows_of_key, counting, tracked, updated, untracked, take_outcome, for_present, outcome_of}
use Rattle.presence_journal.specs.Walk.{without_dots, tells, is_reborn}
use Rattle.presence_journal.proofs.Reborn.{IsAgain, again_of}
use Rattle.presence_journal_known.proofs.OwnLemmas.{plain_step, reborn_step}
use Rattle.presence_journal_known.proofs.FrontLemmas.{front_next}
use Rattle.presence_journal_cuts.specs.Chains.{AreNextRecent, unless_cut, recent_after, is_recent, rows_recent}
use Rattle.presence_journal_cuts.specs.Reborn.{own_live as live_of_own}
use Rattle.presence_journal.specs.Merges.{is_of_rows}
use Rattle.presence_journal.proofs.PresentLemmas.{shown-row}
use Rattle.presence_journal.proofs.Same.{same_replica-refl, same_replica-true, same_dot-true}
use Rattle.presence_journal.proofs.HistoryLemmas.{KnowsItsDots, Kind, Adds, Replaces, Removes, Quiet, kind_of, legal_knows, counted_from, own-then, count-then, is_quiet, quiet_taken, tells_quiet, live_by, shown-live}
use Rattle.presence_journal.proofs.Merges.{own_steps_alone}
use Rattle.presence_journal_cuts.specs.Cuts.{recent}
use Rattle.presence_journal_cuts.proofs.Starts.{recent_found}

-- ---- the last cut

-- a cut is one up to the count, from the last one
abbrev pub CutsHere : History → Outcome → Type 0
CutsHere h (outcomes_are.CutAt from to) = (from ≡ last_cut h) × (to ≡ count h)
CutsHere h _ = Unit {0}

counted : (h : History) (o a : Outcome) → counting h o ≡ Some a → o ≡ a
counted h o a e = (cond_some (nat_lt (count h) (2 ^ 62)) o a e).1

cuts_tracked : (h : History) (xs : List (Dot × Row)) (o : Outcome) → tracked h xs ≡ Some o → CutsHere h o
cuts_tracked h [] o e = subst (CutsHere h) (counted h _ o e) tt
cuts_tracked h (x ∷ xs) o e = subst (CutsHere h) (same_Some _ _ e) tt

cuts_updated : (h : History) (xs : List (Dot × Row)) (o : Outcome) → updated h xs ≡ Some o → CutsHere h o
cuts_updated h [] o e = subst (CutsHere h) (same_Some _ _ e) tt
cuts_updated h (x ∷ xs) o e = subst (CutsHere h) (counted h _ o e) tt

cuts_untracked : (h : History) (ds : List Dot) (o : Outcome) → untracked h ds ≡ Some o → CutsHere h o
cuts_untracked h [] o e = subst (CutsHere h) (same_Some _ _ e) tt
cuts_untracked h (x ∷ xs) o e = subst (CutsHere h) (counted h _ o e) tt

cuts_present : (h : History) (t : Option (List ℕ)) (a o : Outcome) → CutsHere h a → for_present t a ≡ Some o → CutsHere h o
cuts_present h None a o k e = absurd (cc)
cuts_present h (Some t) a o k e = subst (CutsHere h) (same_Some _ _ e) k

cuts_taken : (h : History) (max : ℕ) (w : Waiting) → CutsHere h (take_outcome max w)
cuts_taken h max Behind = tt
cuts_taken h max (Queued q) = tt

pub cuts_here : (h : History) (s : Step) (o : Outcome) → outcome_of h s ≡ Some o → CutsHere h o
unfolding outcome_of
cuts_here h (steps_are.Track pid topic key meta) o e = cuts_tracked h (rows_of_key h pid topic key) o e
cuts_here h (steps_are.Update pid topic key meta) o e = cuts_updated h (rows_of_key h pid topic key) o e
cuts_here h (steps_are.Untrack pid topic key) o e = cuts_untracked h _ o e
cuts_here h (steps_are.UntrackAll pid topic) o e = cuts_untracked h _ o e
cuts_here h (steps_are.Take n max) o e = cuts_present h (topic_of h n) _ o (cuts_taken h max (queue h n)) e
cuts_here h (steps_are.Unsubscribe n) o e = cuts_present h (topic_of h n) _ o tt e
cuts_here h (steps_are.Rebirth i) o e = subst (CutsHere h) (sym (again_of h (steps_are.Rebirth i) o refl e).outcome) tt
cuts_here h steps_are.Cut o e = subst (CutsHere h) (same_Some _ _ e) (refl, refl)
cuts_here h _ o e = subst (CutsHere h) (same_Some _ _ e) tt

last_cut-then : (h : History) (e : Entry) → last_cut (Then h e) ≡ cut_after e.outcome (last_cut h)
unfolding last_cut
last_cut-then h e = refl

pub last_cut-begin : (s : Start) → last_cut (Begin s) ≡ s.last_cut
unfolding last_cut
last_cut-begin s = refl

pub last_more : (n m : ℕ) (h : History) (e : Entry) → m ≡ cut_after e.outcome n → n ≡ last_cut h → m ≡ last_cut (Then h e)
last_more n m h e next is = next ∙ (ap (cut_after e.outcome) is ∙ sym (last_cut-then h e))

pub last_cut-low : (h : History) → IsLegal h → last_cut h ≤ count h
unfolding last_cut count
last_cut-low (Begin s) l = l.cut
last_cut-low (Then h e) l = go e.outcome (cuts_here h e.step e.outcome l.1) (last_cut-low h l.0)
  where
    go : (o : Outcome) → CutsHere h o → last_cut h ≤ count h → cut_after o (last_cut h) ≤ count_after o (count h)
    go (outcomes_are.CutAt from to) c ih = omega (arith, c.1)
    go (outcomes_are.Reborn ps) c ih = omega arith
    go _ c ih = omega (arith, ih)

-- ---- the rows above it

recent_is : (h : History) (d : Dot) → recent h d ≡ cond (in_range (own h) (last_cut h) (count h) d) (shown h d) None
unfolding recent
recent_is h d = refl

none_above : (same : Bool) (c n : ℕ) → (same && (nat_lt c n && nat_le n (c + 0))) ≡ false
none_above true c n = grind (arith, nat_tests)
none_above false c n = refl

new_in_range : (last c : ℕ) → last ≤ c → (nat_lt last (c + 1) && nat_le (c + 1) (c + 1)) ≡ true
new_in_range last c l = grind (arith, nat_tests)

as_before : (last n c used : ℕ) → n ≤ c → (nat_lt last n && nat_le n (c + used)) ≡ (nat_lt last n && nat_le n c)
as_before last n c used l = grind (arith, nat_tests)

shape : (g t : Bool) (o : Option Row) → cond g (cond t None o) None ≡ cond t None (cond g o None)
shape true true o = refl
shape true false o = refl
shape false true o = refl
shape false false o = refl

hidden : (g g' t : Bool) → cond {A = Option Row} g (cond t None None) None ≡ cond t None (cond g' None None)
hidden true true true = refl
hidden true true false = refl
hidden true false true = refl
hidden true false false = refl
hidden false true true = refl
hidden false true false = refl
hidden false false true = refl
hidden false false false = refl

-- a quiet entry adds none
pub quiet_none : (s : Step) (o : Outcome) (d : Dot) → is_quiet o ≡ true → row_added s o d ≡ None
quiet_none s (outcomes_are.Added a) d q = absurd (cc)
quiet_none s (outcomes_are.Replaced a b) d q = absurd (cc)
quiet_none s _ d q = refl

-- an added row stands under the next dot
added_next : (h : History) (e : Entry) (d : Dot) (r : Row) → Kind h e.step e.outcome → row_added e.step e.outcome d ≡ Some r → (d ≡ next_dot h) × (counts_used e.outcome ≡ 1)
added_next h e d r (Adds x m o l) g = (here (same_dot d (next_dot h)) refl (sym (ap (λ y. row_added e.step y d) o) ∙ g), ap counts_used o)
  where
    here : (b : Bool) → same_dot d (next_dot h) ≡ b → cond b (row_made e.step None) None ≡ Some r → d ≡ next_dot h
    here true p f = same_dot-true d (next_dot h) p
    here false p f = absurd (cc)
added_next h e d r (Replaces x old m o l w) g = (here (same_dot d (next_dot h)) refl (sym (ap (λ y. row_added e.step y d) o) ∙ g), ap counts_used o)
  where
    here : (b : Bool) → same_dot d (next_dot h) ≡ b → cond b (row_made e.step (Some old)) None ≡ Some r → d ≡ next_dot h
    here true p f = same_dot-true d (next_dot h) p
    here false p f = absurd (cc)
added_next h e d r (Removes y ys o l a q) g = let f : None ≡ Some r = sym (ap (λ z. row_added e.step z d) o) ∙ g in absurd (cc)
added_next h e d r (Quiet q) g = let f : None ≡ Some r = sym (quiet_none e.step e.outcome d q) ∙ g in absurd (cc)

-- an entry that is told changes no own row
tells_of_none : (s : Step) → tells s ≡ true → is_of_rows s ≡ false
tells_of_none (steps_are.Merge t) e = refl
tells_of_none _ e = absurd (cc)

pub after_quiet : (s : Step) (o : Outcome) (d : Dot) (x : Option Row) → is_quiet o ≡ true → first_some (row_added s o d) (cond (has_dot (dots_taken o) d) None x) ≡ x
after_quiet s o d x q = λ i. first_some (quiet_none s o d q i) (cond (has_dot (quiet_taken o q i) d) None x)

-- an own row after an entry
pub own_live : (h : History) (e : Entry) (d : Dot) → IsLegal (Then h e) → is_reborn e.outcome ≡ false → d.replica ≡ own h → live (Then h e) d ≡ first_some (row_added e.step e.outcome d) (cond (has_dot (dots_taken e.outcome) d) None (live h d))
own_live h e d l a o = go (tells e.step) refl
  where
    kind : Kind h e.step e.outcome
    kind = kind_of h e.step e.outcome (plain_step h e l a) l.1

    go : (b : Bool) → tells e.step ≡ b → live (Then h e) d ≡ first_some (row_added e.step e.outcome d) (cond (has_dot (dots_taken e.outcome) d) None (live h d))
    go false t = live_by h e d (legal_knows h l.0) kind t
    go true t = ((own_steps_alone h e l (tells_of_none e.step t)).1 d o).live ∙ sym (after_quiet e.step e.outcome d (live h d) (tells_quiet h e.step e.outcome kind t))

pub own_shown : (h : History) (e : Entry) (d : Dot) → IsLegal (Then h e) → is_reborn e.outcome ≡ false → d.replica ≡ own h → shown (Then h e) d ≡ first_some (row_added e.step e.outcome d) (cond (has_dot (dots_taken e.outcome) d) None (shown h d))
own_shown h e d l a o =
    shown-live (Then h e) d (o ∙ sym (own-then h e (plain_step h e l a)))
    ∙ (own_live h e d l a o ∙ ap (λ x. first_some (row_added e.step e.outcome d) (cond (has_dot (dots_taken e.outcome) d) None x)) (sym (shown-live h d o)))

-- a row of another replica is not among them
others_none : (h : History) (d : Dot) → same_replica d.replica (own h) ≡ false → recent h d ≡ None
others_none h d p = recent_is h d ∙ ap (λ b. cond (b && (nat_lt (last_cut h) d.count && nat_le d.count (count h))) (shown h d) None) p

others_added : (h : History) (e : Entry) (d : Dot) → Kind h e.step e.outcome → same_replica d.replica (own h) ≡ false → row_added e.step e.outcome d ≡ None
others_added h e d kind p = go (row_added e.step e.outcome d) refl
  where
    go : (o : Option Row) → row_added e.step e.outcome d ≡ o → o ≡ None
    go None f = refl
    go (Some r) f =
        let new = (added_next h e d r kind f).0 in
        let same : false ≡ true = sym p ∙ (ap (λ (x : Dot). same_replica x.replica (own h)) new ∙ same_replica-refl (own h)) in
        absurd (cc)

neither : (b : Bool) → cond {A = Option Row} b None None ≡ None
neither true = refl
neither false = refl

-- an entry that is no cut
recent_same : (h : History) (e : Entry) (d : Dot) → IsLegal (Then h e) → is_reborn e.outcome ≡ false → cut_after e.outcome (last_cut h) ≡ last_cut h → recent (Then h e) d ≡ first_some (row_added e.step e.outcome d) (without_dots (dots_taken e.outcome) (recent h) d)
recent_same h e d l a same = by_own (same_replica d.replica (own h)) refl
  where
    knows : KnowsItsDots h
    knows = legal_knows h l.0

    kind : Kind h e.step e.outcome
    kind = kind_of h e.step e.outcome (plain_step h e l a) l.1

    gone : Bool
    gone = has_dot (dots_taken e.outcome) d

    range : ℕ → Bool
    range to = in_range (own h) (last_cut h) to d

    at_row : d.replica ≡ own h → (o : Option Row) → shown h d ≡ o → cond (range (count h + counts_used e.outcome)) (cond gone None o) None ≡ cond gone None (cond (range (count h)) o None)
    at_row w None p = hidden (range (count h + counts_used e.outcome)) (range (count h)) gone
    at_row w (Some r) p =
        let parts = knows.of_own d w (knows.of_row d r (shown-row h d r p).0) in
        ap (λ b. cond (same_replica d.replica (own h) && b) (cond gone None (Some r)) None) (as_before (last_cut h) d.count (count h) (counts_used e.outcome) parts.1)
        ∙ shape (range (count h)) gone (Some r)

    go : d.replica ≡ own h → (a : Option Row) → row_added e.step e.outcome d ≡ a → cond (range (count h + counts_used e.outcome)) (first_some a (cond gone None (shown h d))) None ≡ first_some a (cond gone None (cond (range (count h)) (shown h d) None))
    go w None p = at_row w (shown h d) refl
    go w (Some r) p =
        let new = added_next h e d r kind p in
        ap (λ n. cond (in_range (own h) (last_cut h) (count h + n) d) (Some r) None) new.1
        ∙ ap (λ b. cond b (Some r) None)
        (ap (λ (x : Dot). in_range (own h) (last_cut h) (count h + 1) x) new.0
        ∙ ((λ i. same_replica-refl (own h) i && (nat_lt (last_cut h) (count h + 1) && nat_le (count h + 1) (count h + 1))) ∙ new_in_range (last_cut h) (count h) (last_cut-low h l.0)))

    by_own : (b : Bool) → same_replica d.replica (own h) ≡ b → recent (Then h e) d ≡ first_some (row_added e.step e.outcome d) (without_dots (dots_taken e.outcome) (recent h) d)
    by_own true p =
        let w = same_replica-true d.replica (own h) p in
        recent_is (Then h e) d
        ∙ ((λ i. cond (in_range (own-then h e (plain_step h e l a) i) ((last_cut-then h e ∙ same) i) (count-then h e a i) d) (own_shown h e d l a w i) None)
        ∙ (go w (row_added e.step e.outcome d) refl
        ∙ ap (λ o. first_some (row_added e.step e.outcome d) (cond gone None o)) (sym (recent_is h d))))
    by_own false p =
        others_none (Then h e) d (ap (same_replica d.replica) (own-then h e (plain_step h e l a)) ∙ p)
        ∙ sym ((λ i. first_some (others_added h e d kind p i) (cond gone None (others_none h d p i))) ∙ neither gone)

pub recent-then : (h : History) (e : Entry) (d : Dot) → IsLegal (Then h e) → is_reborn e.outcome ≡ false → recent (Then h e) d ≡ recent_after e (recent h) d
recent-then h e d l a = go e.outcome refl (cuts_here h e.step e.outcome l.1)
  where
    go : (o : Outcome) → e.outcome ≡ o → CutsHere h o → recent (Then h e) d ≡ unless_cut o (first_some (row_added e.step e.outcome d) (without_dots (dots_taken e.outcome) (recent h) d))
    go (outcomes_are.CutAt from to) p c =
        recent_is (Then h e) d
        ∙ ((λ i. cond (in_range (own (Then h e)) ((last_cut-then h e ∙ (ap (λ o. cut_after o (last_cut h)) p ∙ c.1)) i) ((count-then h e a ∙ ap (λ o. count h + counts_used o) p) i) d) (shown (Then h e) d) None)
        ∙ ap (λ b. cond b (shown (Then h e) d) None) (none_above (same_replica d.replica (own (Then h e))) (count h) d.count))
    go (outcomes_are.Reborn ps) p c = let f : true ≡ false = sym (ap is_reborn p) ∙ a in absurd (cc)
    go _ p c = recent_same h e d l a (ap (λ o. cut_after o (last_cut h)) p)

live-begin : (s : Start) (d : Dot) → live (Begin s) d ≡ live_row s.content d
unfolding live removed row
live-begin s d = go (covers s.content d) (live_row s.content d)
  where
    go : (b : Bool) (o : Option Row) → cond (b && is_none o) None o ≡ o
    go true None = refl
    go true (Some r) = refl
    go false o = refl

recent_at-begin : (s : Start) (d : Dot) → recent (Begin s) d ≡ cond (is_recent s d) (shown (Begin s) d) None
unfolding recent own last_cut count
recent_at-begin s d = refl

recent_own : (s : Start) (d : Dot) → is_recent s d ≡ true → d.replica ≡ own (Begin s)
unfolding own
recent_own s d e = same_replica-true d.replica s.own (and_parts (same_replica d.replica s.own) (nat_lt s.last_cut d.count && nat_le d.count s.count) e).0

pub recent-begin : (s : Start) (d : Dot) → recent (Begin s) d ≡ rows_recent s s.content.live d
recent-begin s d = recent_at-begin s d ∙ (go (is_recent s d) refl ∙ sym (recent_found s s.content.live d))
  where
    go : (b : Bool) → is_recent s d ≡ b → cond b (shown (Begin s) d) None ≡ cond b (live_row s.content d) None
    go true e = shown-live (Begin s) d (recent_own s d e) ∙ live-begin s d
    go false e = refl

-- one entry more
pub recent-more : (f g : Dot → Option Row) (h : History) (e : Entry) → IsLegal (Then h e) → is_reborn e.outcome ≡ false → ((d : Dot) → g d ≡ recent_after e f d) → ((d : Dot) → f d ≡ recent h d) → (d : Dot) → g d ≡ recent (Then h e) d
recent-more f g h e l a after before d =
    after d
    ∙ (ap (λ o. unless_cut e.outcome (first_some (row_added e.step e.outcome d) (cond (has_dot (dots_taken e.outcome) d) None o))) (before d)
    ∙ sym (recent-then h e d l a))

-- after a rebirth they are all own rows

none_live : (h : History) (d : Dot) → KnowsItsDots h → d.replica ≡ own h → (b : Bool) → in_range (own h) 0 (count h) d ≡ b → cond b (live h d) None ≡ live h d
unfolding live
none_live h d k o b e = go b e (row h d) refl (removed h d)
  where
    go : (b : Bool) → in_range (own h) 0 (count h) d ≡ b → (x : Option Row) → row h d ≡ x → (g : Bool) → cond b (cond g None x) None ≡ cond g None x
    go true e x is g = refl
    go false e None is true = refl
    go false e None is false = refl
    go false e (Some r) is g =
        let p = k.of_own d o (k.of_row d r is) in
        let f : false ≡ true = sym e ∙ counted_from (own h) (count h) d o p.0 p.1 in
        absurd (cc)

pub recent_again : (h : History) (e : Entry) (d : Dot) → IsLegal (Then h e) → is_reborn e.outcome ≡ true → live_of_own (Then h e) d ≡ recent (Then h e) d
recent_again h e d l a = by_own (same_replica d.replica (own (Then h e))) refl
  where
    w : IsAgain h e.step e.outcome
    w = again_of h e.step e.outcome (reborn_step h e l a) l.1

    zero_cut : last_cut (Then h e) ≡ 0
    zero_cut = last_cut-then h e ∙ ap (λ o. cut_after o (last_cut h)) w.outcome

    by_own : (b : Bool) → same_replica d.replica (own (Then h e)) ≡ b → cond b (live (Then h e) d) None ≡ recent (Then h e) d
    by_own true p =
        let o = same_replica-true d.replica (own (Then h e)) p in
        sym (none_live (Then h e) d (legal_knows (Then h e) l) o (in_range (own (Then h e)) 0 (count (Then h e)) d) refl)
        ∙ ((λ i. cond (in_range (own (Then h e)) (sym zero_cut i) (count (Then h e)) d) (sym (shown-live (Then h e) d o) i) None)
        ∙ sym (recent_is (Then h e) d))
    by_own false p = sym (others_none (Then h e) d p)

pub next_again : (e : Entry) (h : History) (f g : Dot → Option Row) → IsLegal h → is_reborn e.outcome ≡ true → ((d : Dot) → g d ≡ live_of_own h d) → AreNextRecent e h f g
next_again e h f g l a is before eq same d = is d ∙ (ap (λ k. live_of_own k d) eq ∙ (recent_again before e d (subst IsLegal eq l) a ∙ ap (λ k. recent k d) (sym eq)))

pub next_plain : (e : Entry) (h : History) (f g : Dot → Option Row) → IsLegal h → is_reborn e.outcome ≡ false → ((d : Dot) → g d ≡ recent_after e f d) → AreNextRecent e h f g
next_plain e h f g l a after before eq same d = recent-more f g before e (subst IsLegal eq l) a after same d ∙ ap (λ k. recent k d) (sym eq)

pub rest_is_plain : (o : Outcome) → ((ps : List (Dot × Dot)) → o ≡ outcomes_are.Reborn ps → ⊥) → is_reborn o ≡ false
rest_is_plain (outcomes_are.Reborn ps) f = absurd (f ps refl)
rest_is_plain _ f = refl

-- one entry more, by what came before it

pub recent_on : (s : Start) (es : List Entry) (i : ℕ) (e : Entry) (f g : Dot → Option Row) → i < length es → e ≡ get_or es i e → AreNextRecent e (onto (Begin s) (take (i + 1) es)) f g → ((d : Dot) → f d ≡ recent (onto (Begin s) (take i es)) d) → (d : Dot) → g d ≡ recent (onto (Begin s) (take (i + 1) es)) d
recent_on s es i e f g lt is next before = next (onto (Begin s) (take i es)) (front_next (Begin s) es i e lt is) before
