-- Going over the entries of a journal from the front.
use Rattle.std.proofs.Common.{◌≡◌, ℕ, ◌+◌, ◌<◌, ◌≤◌, ◌^◌, List, [], ◌∷◌, Some, refl, sym, ◌∙◌, ap, subst, arith, true, length, get_or, drop, drop-cons, add-one, drop_of_length-le, Bool, false, cond, Option, None}
use Rattle.presence_base.specs.declared.dots.Dot.{Dot}
use Rattle.presence_base.specs.declared.row.Row.{Row}
use Rattle.presence_base.specs.Order.{same_text}
use Rattle.presence_journal.specs.declared.entry.Outcome.TheVariants as outcomes_are
use Rattle.presence_journal.specs.Steps.{Step, Outcome, Entry, Start}
use Rattle.presence_journal.specs.History.{History, Begin, Then, onto, count, counts_used, first_some, has_dot, row_added, shown, own, own_after, count_after}
use Rattle.presence_base.specs.declared.dots.Replica.{Replica}
use Rattle.presence_journal.specs.Present.{of_topic, dots_taken}
use Rattle.presence_journal.specs.Walk.{joined, rows_after, shown_of, is_rebirth}
use Rattle.presence_journal.specs.Laws.{is_callers}
use Rattle.presence_journal.specs.Table.{after, IsLegal}
use Rattle.presence_journal.proofs.HistoryLemmas.{legal_before, Kind, Adds, Replaces, Removes, Quiet, is_quiet, kind_of, kind_plain, callers_plain, legal_knows, again_most, count-then, shown_by, added_fresh}
use Rattle.presence_journal.proofs.Reborn.{again_of}

-- after i entries of `whole`, P holds of the history that they make
pub record Reached (whole : History) (es : List Entry) (i : ℕ) (P : History → Type 0) : Type 0 where
  pub front : History
  pub rest : onto front (drop i es) ≡ whole
  pub here : P front

pub reached_none : (s : Start) (whole : History) (es : List Entry) (P : History → Type 0) → onto (Begin s) es ≡ whole → P (Begin s) → Reached whole es 0 P
reached_none s whole es P e p = record { front = Begin s; rest = e; here = p }

pub drop_next : {A : Type 0} (es : List A) (i : ℕ) (e : A) → i < length es → e ≡ get_or es i e → drop i es ≡ e ∷ drop (i + 1) es
drop_next es i e l is = drop-cons es i e l ∙ (λ j. sym is j ∷ drop (sym (add-one i) j) es)

-- one entry more, by what is left after it
pub reached_on : (whole : History) (es : List Entry) (i : ℕ) (e : Entry) (P Q : History → Type 0) → IsLegal whole → i < length es → e ≡ get_or es i e → ((h : History) → IsLegal (Then h e) → onto (Then h e) (drop (i + 1) es) ≡ whole → P h → Q (Then h e)) → Reached whole es i P → Reached whole es (i + 1) Q
reached_on whole es i e P Q l lt is step r =
    let on : onto (Then r.front e) (drop (i + 1) es) ≡ whole = ap (onto r.front) (sym (drop_next es i e lt is)) ∙ r.rest in
    record { front = Then r.front e; rest = on; here = step r.front (legal_before (Then r.front e) (drop (i + 1) es) (subst IsLegal (sym on) l)) on r.here }

pub reached_more : (whole : History) (es : List Entry) (i : ℕ) (e : Entry) (P Q : History → Type 0) → IsLegal whole → i < length es → e ≡ get_or es i e → ((h : History) → IsLegal (Then h e) → P h → Q (Then h e)) → Reached whole es i P → Reached whole es (i + 1) Q
reached_more whole es i e P Q l lt is step r = reached_on whole es i e P Q l lt is (λ h k on p. step h k p) r

-- the same where it needs no legality
pub reached_plain : (whole : History) (es : List Entry) (i : ℕ) (e : Entry) (P Q : History → Type 0) → i < length es → e ≡ get_or es i e → ((h : History) → P h → Q (Then h e)) → Reached whole es i P → Reached whole es (i + 1) Q
reached_plain whole es i e P Q lt is step r = record { front = Then r.front e; rest = ap (onto r.front) (sym (drop_next es i e lt is)) ∙ r.rest; here = step r.front r.here }

pub reached_all : (whole : History) (es : List Entry) (i : ℕ) (P : History → Type 0) → length es ≤ i → Reached whole es i P → P whole
reached_all whole es i P l r = subst P (ap (onto r.front) (sym (drop_of_length-le es l)) ∙ r.rest) r.here

-- the own replica

pub own_begin : (s : Start) → s.own ≡ own (Begin s)
unfolding own
own_begin s = refl

pub own_more : (r : Replica) (h : History) (e : Entry) → r ≡ own h → own_after e.step r ≡ own (Then h e)
unfolding own
own_more r h e is = ap (own_after e.step) is

-- counting

abbrev pub IsCounted : ℕ → History → Type 0
IsCounted n h = (n ≡ count h) × (n ≤ 2 ^ 62)

pub quiet_uses_none : (o : Outcome) → is_quiet o ≡ true → counts_used o ≡ 0
quiet_uses_none (outcomes_are.Added d) q = cc
quiet_uses_none (outcomes_are.Replaced d old) q = cc
quiet_uses_none (outcomes_are.Removed (d ∷ ds)) q = cc
quiet_uses_none (outcomes_are.Removed []) q = refl
quiet_uses_none _ q = refl

pub used_when_counted : (h : History) (s : Step) (o : Outcome) → Kind h s o → count h ≤ 2 ^ 62 → count h + counts_used o ≤ 2 ^ 62
used_when_counted h s o (Adds r m p l) k = omega (arith, ap counts_used p)
used_when_counted h s o (Replaces r old m p l w) k = omega (arith, ap counts_used p)
used_when_counted h s o (Removes y ys p l a q) k = omega (arith, ap counts_used p)
used_when_counted h s o (Quiet q) k = omega (arith, quiet_uses_none o q)

first_count : (s : Start) → IsLegal (Begin s) → count (Begin s) ≤ 2 ^ 62
unfolding count
first_count s l = l.count

pub count-limit : (h : History) → IsLegal h → count h ≤ 2 ^ 62
count-limit (Begin s) l = first_count s l
count-limit (Then h e) l = go (is_rebirth e.step) refl (count-limit h l.0)
  where
    go : (b : Bool) → is_rebirth e.step ≡ b → count h ≤ 2 ^ 62 → count (Then h e) ≤ 2 ^ 62
    go false f ih =
        let kind = kind_of h e.step e.outcome f l.1 in
        omega (arith, used_when_counted h e.step e.outcome kind ih, count-then h e (kind_plain h e.step e.outcome kind))
    go true f ih = omega (arith, ih, again_most h e (legal_knows h l.0) (again_of h e.step e.outcome f l.1))

-- the rows of a topic

-- f gives the rows of the topic that are shown
abbrev pub ShowsAlike : (Dot → Option Row) → List ℕ → History → Type 0
ShowsAlike f t h = (d : Dot) → f d ≡ shown_of h t d

topic_first : (t : List ℕ) (o p : Option Row) (c : Bool) → ((r : Row) → o ≡ Some r → p ≡ None) → of_topic t (first_some o (cond c None p)) ≡ first_some (of_topic t o) (cond c None (of_topic t p))
topic_first t None p true f = refl
topic_first t None p false f = refl
topic_first t (Some r) p c f = rw (f r refl) (go (same_text r.topic t) c)
  where
    go : (b c : Bool) → cond b (Some r) None ≡ first_some (cond b (Some r) None) (cond c None None)
    go true c = refl
    go false true = refl
    go false false = refl

-- after one more entry that changes no status
pub shows_more : (f g : Dot → Option Row) (t : List ℕ) (h : History) (e : Entry) → IsLegal (Then h e) → is_callers e.step ≡ true → ((d : Dot) → g d ≡ rows_after e t f d) → ShowsAlike f t h → ShowsAlike g t (Then h e)
shows_more f g t h e l c after before d =
    let knows = legal_knows h l.0 in
    let kind = kind_of h e.step e.outcome (callers_plain e.step c) l.1 in
    after d
    ∙ (ap (λ o. first_some (joined e t d) (cond (has_dot (dots_taken e.outcome) d) None o)) (before d)
    ∙ (sym (topic_first t (row_added e.step e.outcome d) (shown h d) (has_dot (dots_taken e.outcome) d) (λ r. added_fresh h e d r knows kind))
    ∙ ap (of_topic t) (sym (shown_by h e d knows kind c))))

pub counted_start : (s : Start) → IsLegal (Begin s) → IsCounted s.count (Begin s)
unfolding count
counted_start s l = (refl, l.count)

counted_next : (n : ℕ) (h : History) (e : Entry) → n ≡ count h → count_after e.outcome n ≡ count (Then h e)
unfolding count
counted_next n h e c = ap (count_after e.outcome) c

pub counted_more : (n : ℕ) (h : History) (e : Entry) → IsLegal (Then h e) → IsCounted n h → IsCounted (count_after e.outcome n) (Then h e)
counted_more n h e l c =
    let is : count_after e.outcome n ≡ count (Then h e) = counted_next n h e c.0 in
    (is, omega (arith, is, count-limit (Then h e) l))
