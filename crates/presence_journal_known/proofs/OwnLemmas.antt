-- What an entry of the own replica makes of a set that holds a history.
use Rattle.std.proofs.Common.{◌≡◌, ℕ, ◌+◌, ◌<◌, ◌≤◌, ◌^◌, length, subst, nat_le, nat_eq, Bool, true, false, cond, ◌||◌, List, [], ◌∷◌, Option, Some, None, refl, sym, ◌∙◌, ap, arith, inl, inr}
use Rattle.std.specs.Prelude.{◌⊎◌}
use Rattle.std.specs.List.{list_all, AllByRecursion}
use Rattle.std.specs.FinSet as set
use Rattle.std.specs.FinMap as map
use Rattle.std.proofs.lemmas.Bool.{and_from, eqb-true, le-leb, or_cases, leb-true, leb-false}
use Rattle.presence_base.specs.declared.dots.Dot.{Dot}
use Rattle.presence_base.specs.declared.row.Row.{Row}
use Rattle.presence_base.specs.Order.{same_dot}
use Rattle.presence_base.specs.declared.dots.Replica.{Replica}
use Rattle.presence_base.specs.declared.dots.TheConstants.{MAX_COUNT}
use Rattle.orswot_core.specs.Limits.{is_count, is_dot, is_row, is_prev}
use Rattle.presence_journal.proofs.PresentLemmas.{shown-row}
use Rattle.presence_journal.proofs.Walking.{count-limit, quiet_uses_none}
use Rattle.orswot_core.proofs.OrderFacts.{dot_total}
use Rattle.orswot_core.specs.Sets.{DotRows, with_dot, removed as taken_out}
use Rattle.orswot_core.proofs.SoundFacts.{without_rows_at}
use Rattle.std.proofs.lemmas.Option.{same_Some}
use Rattle.presence_journal.specs.declared.step.Step.TheVariants as steps_are
use Rattle.presence_journal.specs.declared.entry.Outcome.TheVariants as outcomes_are
use Rattle.presence_journal.specs.declared.step.Step.{Step}
use Rattle.presence_journal.specs.declared.entry.Outcome.{Outcome}
use Rattle.presence_journal.specs.declared.entry.Entry.{Entry}
use Rattle.presence_journal.specs.History.{History, Then, own, count, counts_used, is_counted, told_covers, known, next_dot, has_dot, first_some, row_made, row_added, live}
use Rattle.presence_journal.specs.Present.{dots_taken}
use Rattle.presence_journal.specs.Walk.{tells, is_rebirth, is_reborn}
use Rattle.presence_journal.proofs.Reborn.{again_of}
use Rattle.presence_journal.proofs.Fresh.{own_is}
use Rattle.presence_journal.specs.Table.{IsLegal, is_step}
use Rattle.presence_journal.proofs.Same.{same_dot-refl, same_dot-true}
use Rattle.presence_journal.proofs.ToldLemmas.{none_told_covers}
use Rattle.presence_journal.proofs.HistoryLemmas.{Kind, Adds, Replaces, Removes, Quiet, IsOwnShown, known_parts, next_unknown, quiet_row, quiet_taken, is_quiet, tells_quiet, kind_of, kind_plain, quiet_plain, used_plain, own-then, legal_knows, counted_parts, known_cases, known_from, known_quiet, known_then, next_known, no_more, count-then, live_by}
use Rattle.presence_journal_known.specs.Walked.{Holds, with_made, IsMadeWithin}

pub both : (a b k : Bool) → (b ≡ true → a ≡ true) → (k ≡ true → a ≡ true) → (a ≡ true → (b ≡ true) ⊎ (k ≡ true)) → a ≡ (b || k)
both true true k f g h = refl
both false true k f g h = f refl
both a false true f g h = g refl
both true false false f g h = none (h refl)
  where
    none : (false ≡ true) ⊎ (false ≡ true) → true ≡ false
    none (inl e) = sym e
    none (inr e) = sym e
both false false false f g h = refl

same_next : (h : History) (d : Dot) → d.replica ≡ own h → d.count ≡ count h + 1 → same_dot d (next_dot h) ≡ true
same_next h d p q =
    let is : d ≡ next_dot h = λ i. record { replica = p i; count = q i } in
    ap (λ x. same_dot x (next_dot h)) is ∙ same_dot-refl (next_dot h)

-- a step whose outcome is no rebirth's is none
pub plain_step : (h : History) (e : Entry) → IsLegal (Then h e) → is_reborn e.outcome ≡ false → is_rebirth e.step ≡ false
plain_step h e l a = go (is_rebirth e.step) refl
  where
    go : (b : Bool) → is_rebirth e.step ≡ b → b ≡ false
    go false f = refl
    go true f = let w = again_of h e.step e.outcome f l.1 in let g : true ≡ false = sym (ap is_reborn w.outcome) ∙ a in absurd (cc)

pub reborn_step : (h : History) (e : Entry) → IsLegal (Then h e) → is_reborn e.outcome ≡ true → is_rebirth e.step ≡ true
reborn_step h e l a = go (is_rebirth e.step) refl
  where
    go : (b : Bool) → is_rebirth e.step ≡ b → b ≡ true
    go true f = refl
    go false f = let g : false ≡ true = sym (kind_plain h e.step e.outcome (kind_of h e.step e.outcome f l.1)) ∙ a in absurd (cc)

-- the next dot is known beside the known ones
pub known_used : (h : History) (e : Entry) (d : Dot) → IsLegal h → is_rebirth e.step ≡ false → counts_used e.outcome ≡ 1 → tells e.step ≡ false → known (Then h e) d ≡ (same_dot d (next_dot h) || known h d)
known_used h e d legal n u t = both (known (Then h e) d) (same_dot d (next_dot h)) (known h d) (λ s. next_known h e d n (same_dot-true d (next_dot h) s) u) (known_then h e d) (λ k. go (known_cases h e d k))
  where
    at : d.replica ≡ own h → 0 < d.count → d.count ≤ count h + 1 → (b : Bool) → nat_le d.count (count h) ≡ b → (same_dot d (next_dot h) ≡ true) ⊎ (known h d ≡ true)
    at p l m true f = inr (known_from h legal d p l (leb-true d.count (count h) f))
    at p l m false f = let over = leb-false d.count (count h) f in inl (same_next h d p (omega (arith, over, m)))

    go : (known h d ≡ true) ⊎ ((is_counted (own (Then h e)) (count (Then h e)) d ≡ true) ⊎ (told_covers h e.step d ≡ true)) → (same_dot d (next_dot h) ≡ true) ⊎ (known h d ≡ true)
    go (inl f) = inr f
    go (inr (inl f)) = let p = counted_parts (own (Then h e)) (count (Then h e)) d f in at (p.0 ∙ own-then h e n) p.1 (omega (arith, p.2, u, count-then h e (used_plain e.outcome u))) (nat_le d.count (count h)) refl
    go (inr (inr f)) = let w : false ≡ true = sym (none_told_covers h e.step d t) ∙ f in absurd (cc)

-- a row is added
pub added : (h : History) (e : Entry) (new : Dot) (r : Row) (s : DotRows) → IsLegal (Then h e) → Holds h s → e.outcome ≡ outcomes_are.Added new → new ≡ next_dot h → row_made e.step None ≡ Some r → tells e.step ≡ false → Holds (Then h e) (with_dot s new r)
added h e new r s legal holds is next made t = record {
  known = λ d.
      set.contains-insert dot_total s.covered new d
      ∙ ((λ i. same_dot d (next i) || holds.known d i)
      ∙ sym (known_used h e d legal.0 (plain_step h e legal (ap is_reborn is)) (ap counts_used is) t));
  live = λ d.
      map.get-insert dot_total s.live new r d
      ∙ (ap (λ o. cond (same_dot d new) (Some r) o) (holds.live d)
      ∙ (shape (same_dot d new) (live h d)
      ∙ ((λ i. first_some (cond (same_dot d new) (sym made i) None) (cond false None (live h d)))
      ∙ ((λ i. first_some (row_added e.step (sym is i) d) (cond (has_dot (dots_taken (sym is i)) d) None (live h d)))
      ∙ sym (live_by h e d (legal_knows h legal.0) (kind_of h e.step e.outcome (plain_step h e legal (ap is_reborn is)) legal.1) t)))));
}
  where
    shape : (b : Bool) (o : Option Row) → cond b (Some r) o ≡ first_some (cond b (Some r) None) (cond false None o)
    shape true o = refl
    shape false o = refl

-- rows are taken out
pub taken : (h : History) (e : Entry) (x : Dot) (xs : List Dot) (s : DotRows) → IsLegal (Then h e) → Holds h s → e.outcome ≡ outcomes_are.Removed (x ∷ xs) → ((d : Dot) → has_dot (x ∷ xs) d ≡ true → known h d ≡ true) → tells e.step ≡ false → Holds (Then h e) (taken_out s (x ∷ xs) (next_dot h))
taken h e x xs s legal holds is knows t = record {
  known = λ d.
      set.contains-insert dot_total (set.union s.covered (set.from_list (x ∷ xs))) (next_dot h) d
      ∙ (ap (λ b. same_dot d (next_dot h) || b) (set.contains-union dot_total s.covered (set.from_list (x ∷ xs)) d
      ∙ ((λ i. holds.known d i || set.contains-from_list dot_total (x ∷ xs) d i)
      ∙ within (known h d) (has_dot (x ∷ xs) d) (knows d)))
      ∙ sym (known_used h e d legal.0 (plain_step h e legal (ap is_reborn is)) (ap counts_used is) t));
  live = λ d.
      without_rows_at s.live (x ∷ xs) d
      ∙ (ap (λ o. cond (has_dot (x ∷ xs) d) None o) (holds.live d)
      ∙ ((λ i. first_some (row_added e.step (sym is i) d) (cond (has_dot (dots_taken (sym is i)) d) None (live h d)))
      ∙ sym (live_by h e d (legal_knows h legal.0) (kind_of h e.step e.outcome (plain_step h e legal (ap is_reborn is)) legal.1) t)));
}
  where
    within : (k b : Bool) → (b ≡ true → k ≡ true) → (k || b) ≡ k
    within true b f = refl
    within false true f = sym (f refl)
    within false false f = refl

-- own dots are within the limits of dots

counts : (n : ℕ) → 1 ≤ n → n ≤ MAX_COUNT → is_count n ≡ true
counts n l m = and_from (nat_le 1 n) (nat_le n MAX_COUNT) (le-leb 1 n l) (le-leb n MAX_COUNT m)

pub own_dot : (h : History) → IsLegal h → (d : Dot) → d.replica ≡ own h → 1 ≤ d.count → d.count ≤ MAX_COUNT → is_dot d ≡ true
own_dot h l d p low high =
    let i = (own_is h l).incarnation in
    and_from (is_count d.replica.incarnation) (is_count d.count) (ap (λ (r : Replica). is_count r.incarnation) p ∙ counts (own h).incarnation i.0 i.1) (counts d.count low high)

pub next_dot_limits : (h : History) → IsLegal h → count h < 2 ^ 62 → is_dot (next_dot h) ≡ true
next_dot_limits h l c = own_dot h l (next_dot h) refl (omega arith) (omega (arith, c))

pub known_dot : (h : History) → IsLegal h → (d : Dot) → d.replica ≡ own h → known h d ≡ true → is_dot d ≡ true
known_dot h l d p k = let b = known_parts h l d p k in let c = count-limit h l in own_dot h l d p (omega (arith, b.0)) (omega (arith, b.1, c))

own_known : (h : History) → IsLegal h → (d : Dot) → IsOwnShown h d → known h d ≡ true
own_known h l d w = (legal_knows h l).of_row d w.row (shown-row h d w.row w.shown).0

all_dots : (h : History) → IsLegal h → (ds : List Dot) → AllByRecursion (IsOwnShown h) ds → list_all is_dot ds ≡ true
all_dots h l [] a = refl
all_dots h l (d ∷ ds) a = and_from (is_dot d) (list_all is_dot ds) (known_dot h l d a.0.own (own_known h l d a.0)) (all_dots h l ds a.1)

all_known : (h : History) → IsLegal h → (ds : List Dot) → AllByRecursion (IsOwnShown h) ds → (d : Dot) → has_dot ds d ≡ true → known h d ≡ true
all_known h l [] a d f = absurd (cc)
all_known h l (x ∷ xs) a d f = go (or_cases (same_dot d x) (has_dot xs d) f) (all_known h l xs a.1 d)
  where
    go : (same_dot d x ≡ true) ⊎ (has_dot xs d ≡ true) → (has_dot xs d ≡ true → known h d ≡ true) → known h d ≡ true
    go (inl g) rest = ap (known h) (same_dot-true d x g) ∙ own_known h l x a.0
    go (inr g) rest = rest g

-- what an untrack gives: its dots are own shown ones, and it has room for its count
pub record AreOut (h : History) (e : Entry) (ds : List Dot) : Type 0 where
  pub shown : AllByRecursion (IsOwnShown h) ds
  pub room : count h < 2 ^ 62
  pub alone : tells e.step ≡ false

not_telling : (h : History) (e : Entry) → Kind h e.step e.outcome → is_quiet e.outcome ≡ false → tells e.step ≡ false
not_telling h e k q = go (tells e.step) refl
  where
    go : (b : Bool) → tells e.step ≡ b → b ≡ false
    go false f = refl
    go true f = let g : true ≡ false = sym (tells_quiet h e.step e.outcome k f) ∙ q in absurd (cc)

abbrev dots_in : Outcome → List Dot
dots_in (outcomes_are.Removed ds) = ds
dots_in _ = []

out_by : (h : History) (e : Entry) (x : Dot) (xs : List Dot) → Kind h e.step e.outcome → e.outcome ≡ outcomes_are.Removed (x ∷ xs) → AreOut h e (x ∷ xs)
out_by h e x xs (Adds r m p l) is = let f : true ≡ false = ap is_added (sym p ∙ is) in absurd (cc)
  where
    is_added : Outcome → Bool
    is_added (outcomes_are.Added d) = true
    is_added _ = false
out_by h e x xs (Replaces r old m p l w) is = let f : true ≡ false = ap is_replaced (sym p ∙ is) in absurd (cc)
  where
    is_replaced : Outcome → Bool
    is_replaced (outcomes_are.Replaced d o) = true
    is_replaced _ = false
out_by h e x xs (Removes y ys p l a q) is = record { shown = subst (AllByRecursion (IsOwnShown h)) (ap dots_in (sym p ∙ is)) a; room = l; alone = not_telling h e (Removes y ys p l a q) (ap is_quiet p) }
out_by h e x xs (Quiet q) is = let f : true ≡ false = sym q ∙ ap is_quiet is in absurd (cc)

pub out : (h : History) (e : Entry) (ds : List Dot) → IsLegal (Then h e) → 1 ≤ length ds → e.outcome ≡ outcomes_are.Removed ds → AreOut h e ds
out h e [] l some is = absurd (omega (arith, some))
out h e (x ∷ xs) l some is = out_by h e x xs (kind_of h e.step e.outcome (plain_step h e l (ap is_reborn is)) l.1) is

pub out_dots : (h : History) (e : Entry) (ds : List Dot) → IsLegal (Then h e) → AreOut h e ds → list_all is_dot ds ≡ true
out_dots h e ds l o = all_dots h l.0 ds o.shown

pub taken_any : (h : History) (e : Entry) (ds : List Dot) (s : DotRows) → IsLegal (Then h e) → Holds h s → 1 ≤ length ds → e.outcome ≡ outcomes_are.Removed ds → Holds (Then h e) (taken_out s ds (next_dot h))
taken_any h e [] s l holds some is = absurd (omega (arith, some))
taken_any h e (x ∷ xs) s l holds some is = let o = out h e (x ∷ xs) l some is in taken h e x xs s l holds is (all_known h l.0 (x ∷ xs) o.shown) o.alone

-- what a track gives: its dot is the next one, and its row is within its limits
pub record IsIn (h : History) (e : Entry) (new : Dot) : Type 0 where
  pub row : Row
  pub made : row_made e.step None ≡ Some row
  pub next : new ≡ next_dot h
  pub room : count h < 2 ^ 62
  pub alone : tells e.step ≡ false

abbrev dot_of : Dot → Outcome → Dot
dot_of d (outcomes_are.Added x) = x
dot_of d _ = d

in_by : (h : History) (e : Entry) (new : Dot) → Kind h e.step e.outcome → e.outcome ≡ outcomes_are.Added new → IsIn h e new
in_by h e new (Adds r m p l) is = record { row = r; made = m; next = ap (dot_of new) (sym is ∙ p); room = l; alone = not_telling h e (Adds r m p l) (ap is_quiet p) }
in_by h e new (Replaces r old m p l w) is = let f : true ≡ false = ap is_replaced (sym p ∙ is) in absurd (cc)
  where
    is_replaced : Outcome → Bool
    is_replaced (outcomes_are.Replaced d o) = true
    is_replaced _ = false
in_by h e new (Removes y ys p l a q) is = let f : true ≡ false = ap is_removed (sym p ∙ is) in absurd (cc)
  where
    is_removed : Outcome → Bool
    is_removed (outcomes_are.Removed ds) = true
    is_removed _ = false
in_by h e new (Quiet q) is = let f : true ≡ false = sym q ∙ ap is_quiet is in absurd (cc)

pub is_in : (h : History) (e : Entry) (new : Dot) → IsLegal (Then h e) → e.outcome ≡ outcomes_are.Added new → IsIn h e new
is_in h e new l is = in_by h e new (kind_of h e.step e.outcome (plain_step h e l (ap is_reborn is)) l.1) is

pub new_uncovered : (h : History) (new : Dot) (s : DotRows) → IsLegal h → Holds h s → new ≡ next_dot h → set.contains s.covered new ≡ false
new_uncovered h new s legal holds p = holds.known new ∙ (ap (known h) p ∙ go (known h (next_dot h)) refl)
  where
    go : (b : Bool) → known h (next_dot h) ≡ b → b ≡ false
    go false f = refl
    go true f = absurd (next_unknown h (legal_knows h legal) f)

-- a row that a legal step makes is within the limits of rows
pub made_within : (s : Step) (prev : Option Dot) → is_step s ≡ true → is_prev prev ≡ true → IsMadeWithin (row_made s prev)
made_within (steps_are.Track pid topic key meta) prev i p r m = ap is_row (same_Some r _ (sym m)) ∙ and_from (nat_le pid MAX_COUNT) (is_prev prev) i p
made_within (steps_are.Update pid topic key meta) prev i p r m = ap is_row (same_Some r _ (sym m)) ∙ and_from (nat_le pid MAX_COUNT) (is_prev prev) i p
made_within _ prev i p r m = absurd (cc)

pub added_any : (h : History) (e : Entry) (new : Dot) (s u : DotRows) → IsLegal (Then h e) → Holds h s → e.outcome ≡ outcomes_are.Added new → u ≡ with_made s (row_made e.step None) new → Holds (Then h e) u
added_any h e new s u l holds is after =
    let i = is_in h e new l is in
    subst (Holds (Then h e)) (sym (after ∙ ap (λ o. with_made s o new) i.made)) (added h e new i.row s l holds is i.next i.made i.alone)

-- what an update gives
pub record IsSwap (h : History) (e : Entry) (new old : Dot) : Type 0 where
  pub row : Row
  pub made : row_made e.step (Some old) ≡ Some row
  pub next : new ≡ next_dot h
  pub room : count h < 2 ^ 62
  pub shown : IsOwnShown h old
  pub alone : tells e.step ≡ false

abbrev new_of : Dot → Outcome → Dot
new_of d (outcomes_are.Replaced x y) = x
new_of d _ = d

abbrev old_of : Dot → Outcome → Dot
old_of d (outcomes_are.Replaced x y) = y
old_of d _ = d

swap_by : (h : History) (e : Entry) (new old : Dot) → Kind h e.step e.outcome → e.outcome ≡ outcomes_are.Replaced new old → IsSwap h e new old
swap_by h e new old (Adds r m p l) is = let f : true ≡ false = ap is_added (sym p ∙ is) in absurd (cc)
  where
    is_added : Outcome → Bool
    is_added (outcomes_are.Added d) = true
    is_added _ = false
swap_by h e new old (Replaces r x m p l w) is =
    let same : x ≡ old = ap (old_of old) (sym p ∙ is) in
    record { row = r; made = subst (λ d. row_made e.step (Some d) ≡ Some r) same m; next = ap (new_of new) (sym is ∙ p); room = l; shown = subst (IsOwnShown h) same w; alone = not_telling h e (Replaces r x m p l w) (ap is_quiet p) }
swap_by h e new old (Removes y ys p l a q) is = let f : true ≡ false = ap is_removed (sym p ∙ is) in absurd (cc)
  where
    is_removed : Outcome → Bool
    is_removed (outcomes_are.Removed ds) = true
    is_removed _ = false
swap_by h e new old (Quiet q) is = let f : true ≡ false = sym q ∙ ap is_quiet is in absurd (cc)

pub is_swap : (h : History) (e : Entry) (new old : Dot) → IsLegal (Then h e) → e.outcome ≡ outcomes_are.Replaced new old → IsSwap h e new old
is_swap h e new old l is = swap_by h e new old (kind_of h e.step e.outcome (plain_step h e l (ap is_reborn is)) l.1) is

pub old_dot : (h : History) (old : Dot) → IsLegal h → IsOwnShown h old → is_dot old ≡ true
old_dot h old l w = known_dot h l old w.own (own_known h l old w)

swapped : (h : History) (e : Entry) (new old : Dot) (s : DotRows) → IsLegal (Then h e) → Holds h s → e.outcome ≡ outcomes_are.Replaced new old → (i : IsSwap h e new old) → Holds (Then h e) (taken_out (with_dot s new i.row) (old ∷ []) new)
swapped h e new old s legal holds is i = record {
  known = λ d.
      set.contains-insert dot_total (set.union (set.insert s.covered new) (set.from_list (old ∷ []))) new d
      ∙ (ap (λ b. same_dot d new || b) (set.contains-union dot_total (set.insert s.covered new) (set.from_list (old ∷ [])) d
      ∙ ((λ j. set.contains-insert dot_total s.covered new d j || set.contains-from_list dot_total (old ∷ []) d j)
      ∙ ap (λ k. (same_dot d new || k) || has_dot (old ∷ []) d) (holds.known d)))
      ∙ (within (same_dot d new) (known h d) (has_dot (old ∷ []) d) (all_known h legal.0 (old ∷ []) (i.shown, tt) d)
      ∙ (ap (λ x. same_dot d x || known h d) i.next
      ∙ sym (known_used h e d legal.0 (plain_step h e legal (ap is_reborn is)) (ap counts_used is) i.alone))));
  live = λ d.
      without_rows_at (map.insert s.live new i.row) (old ∷ []) d
      ∙ (ap (λ o. cond (has_dot (old ∷ []) d) None o) (map.get-insert dot_total s.live new i.row d ∙ ap (λ o. cond (same_dot d new) (Some i.row) o) (holds.live d))
      ∙ (shape (same_dot d new) (has_dot (old ∷ []) d) i.row (live h d) (apart d)
      ∙ ((λ j. first_some (cond (same_dot d new) (sym i.made j) None) (cond (has_dot (old ∷ []) d) None (live h d)))
      ∙ ((λ j. first_some (row_added e.step (sym is j) d) (cond (has_dot (dots_taken (sym is j)) d) None (live h d)))
      ∙ sym (live_by h e d (legal_knows h legal.0) (kind_of h e.step e.outcome (plain_step h e legal (ap is_reborn is)) legal.1) i.alone)))));
}
  where
    within : (a k b : Bool) → (b ≡ true → k ≡ true) → (a || ((a || k) || b)) ≡ (a || k)
    within true k b f = refl
    within false true b f = refl
    within false false true f = sym (f refl)
    within false false false f = refl

    shape : (a b : Bool) (r : Row) (o : Option Row) → (a ≡ true → b ≡ false) → cond b None (cond a (Some r) o) ≡ first_some (cond a (Some r) None) (cond b None o)
    shape true true r o f = let g : true ≡ false = f refl in absurd (cc)
    shape true false r o f = refl
    shape false true r o f = refl
    shape false false r o f = refl

    apart_by : (d : Dot) → same_dot d new ≡ true → (b : Bool) → has_dot (old ∷ []) d ≡ b → b ≡ false
    apart_by d p false q = refl
    apart_by d p true q = absurd (next_unknown h (legal_knows h legal.0) (ap (known h) (sym (same_dot-true d new p ∙ i.next)) ∙ all_known h legal.0 (old ∷ []) (i.shown, tt) d q))

    apart : (d : Dot) → same_dot d new ≡ true → has_dot (old ∷ []) d ≡ false
    apart d p = apart_by d p (has_dot (old ∷ []) d) refl

pub swapped_any : (h : History) (e : Entry) (new old : Dot) (s u v : DotRows) → IsLegal (Then h e) → Holds h s → e.outcome ≡ outcomes_are.Replaced new old → u ≡ with_made s (row_made e.step (Some old)) new → v ≡ taken_out u (old ∷ []) new → Holds (Then h e) v
swapped_any h e new old s u v l holds is after last =
    let i = is_swap h e new old l is in
    subst (Holds (Then h e)) (sym (last ∙ ap (λ x. taken_out x (old ∷ []) new) (after ∙ ap (λ o. with_made s o new) i.made))) (swapped h e new old s l holds is i)

-- an entry that changes no own row and tells nothing
pub quiet_holds : (h : History) (e : Entry) (s : DotRows) → IsLegal (Then h e) → is_quiet e.outcome ≡ true → tells e.step ≡ false → Holds h s → Holds (Then h e) s
quiet_holds h e s legal q t holds = record {
  known = λ d.
      holds.known d
      ∙ sym (known_quiet h e d legal.0 (plain_step h e legal (quiet_plain e.outcome q)) (quiet_plain e.outcome q) (quiet_uses_none e.outcome q) ∙ (ap (λ b. known h d || b) (none_told_covers h e.step d t) ∙ no_more (known h d)));
  live = λ d.
      holds.live d
      ∙ ((λ j. first_some (sym (quiet_row e.step e.outcome d q) j) (cond (has_dot (sym (quiet_taken e.outcome q) j) d) None (live h d)))
      ∙ sym (live_by h e d (legal_knows h legal.0) (kind_of h e.step e.outcome (plain_step h e legal (quiet_plain e.outcome q)) legal.1) t));
}

-- an untrack that found nothing
pub untracked_none : (h : History) (e : Entry) (ds : List Dot) (s : DotRows) → IsLegal (Then h e) → Holds h s → tells e.step ≡ false → e.outcome ≡ outcomes_are.Removed ds → nat_eq (length ds) 0 ≡ true → Holds (Then h e) s
untracked_none h e [] s legal holds t is none = quiet_holds h e s legal (ap is_quiet is) t holds
untracked_none h e (d ∷ ds) s legal holds t is none = absurd (omega (arith, eqb-true (length (d ∷ ds)) 0 none))

-- an outcome that changes no own row
pub rest_is_quiet : (o : Outcome) → ((x : Dot) → o ≡ outcomes_are.Added x → ⊥) → ((x y : Dot) → o ≡ outcomes_are.Replaced x y → ⊥) → ((ds : List Dot) → o ≡ outcomes_are.Removed ds → ⊥) → ((ps : List (Dot × Dot)) → o ≡ outcomes_are.Reborn ps → ⊥) → is_quiet o ≡ true
rest_is_quiet (outcomes_are.Added x) f g k m = absurd (f x refl)
rest_is_quiet (outcomes_are.Replaced x y) f g k m = absurd (g x y refl)
rest_is_quiet (outcomes_are.Removed ds) f g k m = absurd (k ds refl)
rest_is_quiet (outcomes_are.Reborn ps) f g k m = absurd (m ps refl)
rest_is_quiet _ f g k m = refl
