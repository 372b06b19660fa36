-- What a rebirth makes of a set that holds a history.
use Rattle.std.proofs.Common.{◌≡◌, ℕ, suc, ◌+◌, ◌<◌, ◌≤◌, nat_le, Bool, true, false, cond, ◌||◌, List, [], ◌∷◌, length, get_or, drop, drop_of_length-le, Option, Some, None, refl, sym, ◌∙◌, ap, subst, arith, inl, inr}
use Rattle.std.specs.Prelude.{◌⊎◌}
use Rattle.std.specs.List.{AllByRecursion}
use Rattle.std.specs.Map.{lookup}
use Rattle.std.specs.FinSet as set
use Rattle.std.specs.FinMap as map
use Rattle.std.proofs.lemmas.Bool.{and_parts, and_from, or_left, or_right, or_parts, leb-true, leb-false}
use Rattle.std.proofs.lemmas.Option.{same_Some}
use Rattle.presence_base.specs.declared.dots.Replica.{Replica}
use Rattle.presence_base.specs.declared.dots.Dot.{Dot}
use Rattle.presence_base.specs.declared.dots.TheConstants.{MAX_COUNT}
use Rattle.presence_base.specs.declared.row.Row.{Row}
use Rattle.presence_base.specs.Order.{same_dot, same_replica}
use Rattle.orswot_core.specs.Limits.{is_dot, is_row, is_prev}
use Rattle.orswot_core.specs.Telling.{live_row}
use Rattle.orswot_core.proofs.OrderFacts.{dot_total}
use Rattle.orswot_core.specs.Sets.{DotRows, with_dot}
use Rattle.presence_journal.specs.declared.step.Step.TheVariants as steps_are
use Rattle.presence_journal.specs.declared.entry.Outcome.TheVariants as outcomes_are
use Rattle.presence_journal.specs.declared.step.Step.{Step}
use Rattle.presence_journal.specs.declared.entry.Outcome.{Outcome}
use Rattle.presence_journal.specs.declared.entry.Entry.{Entry}
use Rattle.presence_journal.specs.History.{History, Begin, Then, own, reborn, has_dots, count, is_counted, hears, told_covers, told_row, known, has_dot, with_prev, row_again, row_brought, row_added, row_made, next_dot, first_some, row, removed, live}
use Rattle.presence_journal.specs.Table.{IsLegal, is_step, own_dots, reborn_from}
use Rattle.presence_journal.specs.Walk.{is_rebirth}
use Rattle.presence_journal.proofs.Same.{same_dot-true, same_dot-refl, same_replica-true, same_replica-refl}
use Rattle.presence_journal.proofs.PresentLemmas.{shown-row}
use Rattle.presence_journal.proofs.ToldLemmas.{live_row_limits}
use Rattle.presence_journal.proofs.Walking.{drop_next, count-limit}
use Rattle.presence_journal.proofs.Reborn.{IsAgain, again_of, GoesOn, own_dot as goes_on_dot, new_dot, again_parts, length_reborn}
use Rattle.presence_journal.proofs.HistoryLemmas.{Kind, Adds, Replaces, Removes, Quiet, kind_of, kind_plain, quiet_row, added_plain, brought_told, legal_knows, known-then, counted_parts, counted_from, own_again, count_again, again_unknown, removed_again, row_again-is}
use Rattle.presence_journal_known.specs.Walked.{Holds, IsMadeWithin, with_made, with_again}
use Rattle.presence_journal_known.proofs.OwnLemmas.{both, own_dot, known_dot, made_within, old_dot}

-- the rows of a history are within the limits of rows

told_limits : (h : History) (s : Step) (d : Dot) (r : Row) → is_step s ≡ true → told_row h s d ≡ Some r → is_row r ≡ true
told_limits h (steps_are.Merge t) d r i e = go (hears h d.replica) e
  where
    go : (b : Bool) → cond b (live_row t d) None ≡ Some r → is_row r ≡ true
    go true f = live_row_limits t d r i f
    go false f = absurd (cc)
told_limits h _ d r i e = absurd (cc)

pub again_limits : (o : Option Row) (old : Dot) (r : Row) → ((x : Row) → o ≡ Some x → is_row x ≡ true) → is_dot old ≡ true → with_prev old o ≡ Some r → is_row r ≡ true
again_limits None old r f d e = absurd (cc)
again_limits (Some x) old r f d e = ap is_row (sym (same_Some _ r e)) ∙ and_from (nat_le x.pid MAX_COUNT) (is_dot old) (and_parts (nat_le x.pid MAX_COUNT) (is_prev x.prev) (f x refl)).0 d

made_limits : (h : History) (e : Entry) (d : Dot) (q : Row) → IsLegal (Then h e) → row_added e.step e.outcome d ≡ Some q → is_row q ≡ true
made_limits h e d q l g = go (kind_of h e.step e.outcome (added_plain e.step e.outcome d q g) l.1)
  where
    pick : (b : Bool) (prev : Option Dot) → IsMadeWithin (row_made e.step prev) → cond b (row_made e.step prev) None ≡ Some q → is_row q ≡ true
    pick true prev w f = w q f
    pick false prev w f = absurd (cc)

    go : Kind h e.step e.outcome → is_row q ≡ true
    go (Adds r m p c) = pick (same_dot d (next_dot h)) None (made_within e.step None l.4 refl) (sym (ap (λ o. row_added e.step o d) p) ∙ g)
    go (Replaces r old m p c w) = pick (same_dot d (next_dot h)) (Some old) (made_within e.step (Some old) l.4 (old_dot h old l.0 w)) (sym (ap (λ o. row_added e.step o d) p) ∙ g)
    go (Removes y ys p c a k) = let f : None ≡ Some q = sym (ap (λ o. row_added e.step o d) p) ∙ g in absurd (cc)
    go (Quiet k) = let f : None ≡ Some q = sym (quiet_row e.step e.outcome d k) ∙ g in absurd (cc)

pub goes_on_is_dot : (h : History) (d : Dot) → IsLegal h → GoesOn h d → is_dot d ≡ true
goes_on_is_dot h d l g = known_dot h l d g.own ((legal_knows h l).of_row d g.row (shown-row h d g.row g.shown).0)

pub row_limits : (h : History) → IsLegal h → (d : Dot) (r : Row) → row h d ≡ Some r → is_row r ≡ true
unfolding row
row_limits (Begin s) l d r e = live_row_limits s.content d r l.content e
row_limits (Then h e) l d r f = go (row h d) (row_added e.step e.outcome d) refl refl f (row_limits h l.0)
  where
    again : (w : IsAgain h e.step e.outcome) (o : Option Dot) → lookup (same_dot d) (reborn_from (reborn (own h) w.incarnation) 0 (own_dots h)) ≡ o → row_again (row h) o ≡ Some r → ((x : Dot) (q : Row) → row h x ≡ Some q → is_row q ≡ true) → is_row r ≡ true
    again w None found g ih = absurd (cc)
    again w (Some old) found g ih = again_limits (row h old) old r (ih old) (goes_on_is_dot h old l.0 (goes_on_dot h old (again_parts (reborn (own h) w.incarnation) 0 (own_dots h) d old found).3)) g

    brought : (b : Bool) → is_rebirth e.step ≡ b → row_brought e.outcome (row h) (told_row h e.step d) d ≡ Some r → ((x : Dot) (q : Row) → row h x ≡ Some q → is_row q ≡ true) → is_row r ≡ true
    brought false n g ih = told_limits h e.step d r l.4 (sym (brought_told e.outcome (row h) (told_row h e.step d) d (kind_plain h e.step e.outcome (kind_of h e.step e.outcome n l.1))) ∙ g)
    brought true n g ih = let w = again_of h e.step e.outcome n l.1 in again w _ refl (sym (ap (λ o. row_brought o (row h) (told_row h e.step d) d) w.outcome) ∙ g) ih

    go : (o p : Option Row) → row h d ≡ o → row_added e.step e.outcome d ≡ p → first_some o (first_some p (row_brought e.outcome (row h) (told_row h e.step d) d)) ≡ Some r → ((x : Dot) (q : Row) → row h x ≡ Some q → is_row q ≡ true) → is_row r ≡ true
    go (Some q) p is added g ih = ap is_row (sym (same_Some q r g)) ∙ ih d q is
    go None (Some q) is added g ih = ap is_row (sym (same_Some q r g)) ∙ made_limits h e d q l added
    go None None is added g ih = brought (is_rebirth e.step) refl g ih

-- the set once so many of the pairs are taken in, and these old dots are left

pub record AgainTo (h : History) (r : Replica) (ps : List (Dot × Dot)) (n : ℕ) (ds : List Dot) (s : DotRows) : Type 0 where
  pub known : (d : Dot) → set.contains s.covered d ≡ (known h d || is_counted r n d)
  pub sound : (d : Dot) → set.contains s.covered d ≡ false → map.get s.live d ≡ None
  pub olds : (d : Dot) → same_replica d.replica r ≡ false → map.get s.live d ≡ live h d
  pub live : (d : Dot) → first_some (map.get s.live d) (row_again (row h) (lookup (same_dot d) (reborn_from r n ds))) ≡ first_some (live h d) (row_again (row h) (lookup (same_dot d) ps))

pub record AgainAt (h : History) (e : Entry) (ps : List (Dot × Dot)) (i : ℕ) (s : DotRows) : Type 0 where
  pub again : IsAgain h e.step e.outcome
  pub left : List Dot
  pub rest : drop i ps ≡ reborn_from (reborn (own h) again.incarnation) i left
  pub goes : AllByRecursion (GoesOn h) left
  pub many : i + length left ≡ length (own_dots h)
  pub done : AgainTo h (reborn (own h) again.incarnation) ps i left s

abbrev pairs_in : Outcome → List (Dot × Dot)
pairs_in (outcomes_are.Reborn ps) = ps
pairs_in _ = []

all_goes : (h : History) (ds : List Dot) → ((d : Dot) → has_dot ds d ≡ true → GoesOn h d) → AllByRecursion (GoesOn h) ds
all_goes h [] f = tt
all_goes h (x ∷ xs) f = (f x (or_left (same_dot x x) (has_dot xs x) (same_dot-refl x)), all_goes h xs (λ d k. f d (or_right (same_dot d x) (has_dot xs d) k)))

none_counted : (r : Replica) (d : Dot) → is_counted r 0 d ≡ false
none_counted r d = go (is_counted r 0 d) refl
  where
    go : (b : Bool) → is_counted r 0 d ≡ b → b ≡ false
    go false e = refl
    go true e = let p = counted_parts r 0 d e in absurd (omega (arith, p.1, p.2))

no_more : (b : Bool) → b ≡ (b || false)
no_more true = refl
no_more false = refl

unknown_is_not_live : (h : History) → IsLegal h → (d : Dot) → known h d ≡ false → live h d ≡ None
unfolding live
unknown_is_not_live h l d f = go (row h d) refl (removed h d)
  where
    go : (o : Option Row) → row h d ≡ o → (b : Bool) → cond b None o ≡ None
    go None e true = refl
    go None e false = refl
    go (Some r) e b = let g : false ≡ true = sym f ∙ (legal_knows h l).of_row d r e in absurd (cc)

pub again_none : (h : History) (e : Entry) (ps : List (Dot × Dot)) (s : DotRows) → IsLegal (Then h e) → e.outcome ≡ outcomes_are.Reborn ps → is_rebirth e.step ≡ true → Holds h s → AgainAt h e ps 0 s
again_none h e ps s l is n holds =
    let w = again_of h e.step e.outcome n l.1 in
    let same : ps ≡ reborn_from (reborn (own h) w.incarnation) 0 (own_dots h) = ap pairs_in (sym is ∙ w.outcome) in
    record {
      again = w;
      left = own_dots h;
      rest = same;
      goes = all_goes h (own_dots h) (goes_on_dot h);
      many = omega arith;
      done = record {
        known = λ d. holds.known d ∙ (no_more (known h d) ∙ ap (λ b. known h d || b) (sym (none_counted (reborn (own h) w.incarnation) d)));
        sound = λ d f. holds.live d ∙ unknown_is_not_live h l.0 d (sym (holds.known d) ∙ f);
        olds = λ d f. holds.live d;
        live = λ d. λ i. first_some (holds.live d i) (row_again (row h) (lookup (same_dot d) (sym same i)));
      };
    }

-- the pair that comes next

pub record PairAt (h : History) (e : Entry) (ps : List (Dot × Dot)) (i : ℕ) (s : DotRows) (p : Dot × Dot) : Type 0 where
  pub again : IsAgain h e.step e.outcome
  pub new : p.0 ≡ new_dot (reborn (own h) again.incarnation) i
  pub old : GoesOn h p.1
  pub later : List Dot
  pub rest : drop (i + 1) ps ≡ reborn_from (reborn (own h) again.incarnation) (i + 1) later
  pub goes : AllByRecursion (GoesOn h) later
  pub many : (i + 1) + length later ≡ length (own_dots h)
  pub done : AgainTo h (reborn (own h) again.incarnation) ps i (p.1 ∷ later) s

abbrev head_or : {A : Type 0} → A → List A → A
head_or x [] = x
head_or x (y ∷ ys) = y

abbrev tail_of : {A : Type 0} → List A → List A
tail_of [] = []
tail_of (y ∷ ys) = ys

pub pair_at : (h : History) (e : Entry) (ps : List (Dot × Dot)) (i : ℕ) (s : DotRows) (p : Dot × Dot) → i < length ps → p ≡ get_or ps i p → AgainAt h e ps i s → PairAt h e ps i s p
pair_at h e ps i s p lt is a = go a.left (sym (drop_next ps i p lt is) ∙ a.rest) a.goes a.many a.done
  where
    go : (ds : List Dot) → p ∷ drop (i + 1) ps ≡ reborn_from (reborn (own h) a.again.incarnation) i ds → AllByRecursion (GoesOn h) ds → i + length ds ≡ length (own_dots h) → AgainTo h (reborn (own h) a.again.incarnation) ps i ds s → PairAt h e ps i s p
    go [] eq g many done = let f : suc (length (drop (i + 1) ps)) ≡ 0 = ap length eq in absurd (omega (arith, f))
    go (x ∷ xs) eq g many done =
        let head : p ≡ (new_dot (reborn (own h) a.again.incarnation) i, x) = ap (head_or p) eq in
        let old : p.1 ≡ x = ap (λ (q : Dot × Dot). q.1) head in
        record {
          again = a.again;
          new = ap (λ (q : Dot × Dot). q.0) head;
          old = subst (GoesOn h) (sym old) g.0;
          later = xs;
          rest = ap tail_of eq;
          goes = g.1;
          many = omega (arith, many);
          done = subst (λ y. AgainTo h (reborn (own h) a.again.incarnation) ps i (y ∷ xs) s) (sym old) done;
        }

-- what taking it in asks for

counted_above : (r : Replica) (n : ℕ) → is_counted r n (new_dot r n) ≡ false
counted_above r n = go (is_counted r n (new_dot r n)) refl
  where
    go : (b : Bool) → is_counted r n (new_dot r n) ≡ b → b ≡ false
    go false e = refl
    go true e = let p = counted_parts r n (new_dot r n) e in absurd (omega (arith, p.2))

new_unknown : (h : History) (d : Dot) (i : ℕ) → has_dots h (reborn (own h) i) ≡ false → d.replica ≡ reborn (own h) i → known h d ≡ false
new_unknown h d i f o = go (known h d) refl
  where
    go : (b : Bool) → known h d ≡ b → b ≡ false
    go false k = refl
    go true k = absurd (again_unknown h d i f o k)

pub pair_free : (h : History) (e : Entry) (ps : List (Dot × Dot)) (i : ℕ) (s : DotRows) (p : Dot × Dot) → PairAt h e ps i s p → set.contains s.covered p.0 ≡ false
pair_free h e ps i s p a =
    ap (set.contains s.covered) a.new
    ∙ (a.done.known (new_dot (reborn (own h) a.again.incarnation) i)
    ∙ (λ j. new_unknown h (new_dot (reborn (own h) a.again.incarnation) i) a.again.incarnation a.again.fresh refl j || counted_above (reborn (own h) a.again.incarnation) i j))

pub pair_dot : (h : History) (e : Entry) (ps : List (Dot × Dot)) (i : ℕ) (s : DotRows) (p : Dot × Dot) → IsLegal (Then h e) → PairAt h e ps i s p → is_dot p.0 ≡ true
pair_dot h e ps i s p l a =
    ap is_dot a.new
    ∙ own_dot (Then h e) l (new_dot (reborn (own h) a.again.incarnation) i) (sym (own_again h e a.again)) (omega arith)
    (omega (arith, a.many, count_again h e a.again, count-limit (Then h e) l))

-- the old dot is of another replica, and its row is live

own_apart : (h : History) (i : ℕ) (d : Dot) → (own h).incarnation < i → d.replica ≡ own h → same_replica d.replica (reborn (own h) i) ≡ false
own_apart h i d l o = go (same_replica d.replica (reborn (own h) i)) refl
  where
    go : (b : Bool) → same_replica d.replica (reborn (own h) i) ≡ b → b ≡ false
    go false e = refl
    go true e =
        let q : own h ≡ reborn (own h) i = sym o ∙ same_replica-true d.replica (reborn (own h) i) e in
        let n : (own h).incarnation ≡ i = ap (λ (r : Replica). r.incarnation) q in
        absurd (omega (arith, n, l))

live_goes : (h : History) (d : Dot) (g : GoesOn h d) → live h d ≡ Some g.row
unfolding live
live_goes h d g = let p = shown-row h d g.row g.shown in λ i. cond (p.1 i) None (p.0 i)

old_live : (h : History) (e : Entry) (ps : List (Dot × Dot)) (i : ℕ) (s : DotRows) (p : Dot × Dot) (a : PairAt h e ps i s p) → map.get s.live p.1 ≡ Some a.old.row
old_live h e ps i s p a = a.done.olds p.1 (own_apart h a.again.incarnation p.1 a.again.above a.old.own) ∙ live_goes h p.1 a.old

pub pair_row : (h : History) (e : Entry) (ps : List (Dot × Dot)) (i : ℕ) (s : DotRows) (p : Dot × Dot) → IsLegal (Then h e) → PairAt h e ps i s p → IsMadeWithin (with_prev p.1 (map.get s.live p.1))
pair_row h e ps i s p l a r m =
    again_limits (map.get s.live p.1) p.1 r (λ x f. row_limits h l.0 p.1 x ((shown-row h p.1 a.old.row a.old.shown).0 ∙ (sym (old_live h e ps i s p a) ∙ f))) (goes_on_is_dot h p.1 l.0 a.old) m

-- one pair more

abbrev again_row : Dot → Row → Row
again_row old r = record { topic = r.topic; key = r.key; pid = r.pid; meta = r.meta; prev = Some old }

counted_more : (r : Replica) (n : ℕ) (d : Dot) → is_counted r (n + 1) d ≡ (same_dot d (new_dot r n) || is_counted r n d)
counted_more r n d =
    both (is_counted r (n + 1) d) (same_dot d (new_dot r n)) (is_counted r n d)
    (λ e. let z = same_dot-true d (new_dot r n) e in let c : d.count ≡ n + 1 = ap (λ (y : Dot). y.count) z in counted_from r (n + 1) d (ap (λ (y : Dot). y.replica) z) (omega (arith, c)) (omega (arith, c)))
    (λ e. let p = counted_parts r n d e in counted_from r (n + 1) d p.0 p.1 (omega (arith, p.2)))
    (λ e. let p = counted_parts r (n + 1) d e in go p.0 p.1 p.2 (nat_le d.count n) refl)
  where
    go : d.replica ≡ r → 0 < d.count → d.count ≤ n + 1 → (b : Bool) → nat_le d.count n ≡ b → (same_dot d (new_dot r n) ≡ true) ⊎ (is_counted r n d ≡ true)
    go o low high true f = inr (counted_from r n d o low (leb-true d.count n f))
    go o low high false f =
        let c : d.count ≡ n + 1 = omega (arith, high, leb-false d.count n f) in
        let z : d ≡ new_dot r n = λ i. record { replica = o i; count = c i } in
        inl (ap (λ y. same_dot y (new_dot r n)) z ∙ same_dot-refl (new_dot r n))

shuffle : (a k c : Bool) → (a || (k || c)) ≡ (k || (a || c))
shuffle true true c = refl
shuffle true false c = refl
shuffle false k c = refl

not_new : (r : Replica) (n : ℕ) (d : Dot) → same_replica d.replica r ≡ false → same_dot d (new_dot r n) ≡ false
not_new r n d f = go (same_dot d (new_dot r n)) refl
  where
    go : (b : Bool) → same_dot d (new_dot r n) ≡ b → b ≡ false
    go false e = refl
    go true e =
        let g : true ≡ false = sym (ap (λ (q : Replica). same_replica q r) (ap (λ (y : Dot). y.replica) (same_dot-true d (new_dot r n) e)) ∙ same_replica-refl r) ∙ f in
        absurd (cc)

to_next : (h : History) (r : Replica) (ps : List (Dot × Dot)) (n : ℕ) (x : Dot) (xs : List Dot) (s : DotRows) (row_of : Row) → set.contains s.covered (new_dot r n) ≡ false → row h x ≡ Some row_of → AgainTo h r ps n (x ∷ xs) s → AgainTo h r ps (n + 1) xs (with_dot s (new_dot r n) (again_row x row_of))
to_next h r ps n x xs s q free is a = record {
  known = λ d.
      set.contains-insert dot_total s.covered (new_dot r n) d
      ∙ (ap (λ b. same_dot d (new_dot r n) || b) (a.known d)
      ∙ (shuffle (same_dot d (new_dot r n)) (known h d) (is_counted r n d)
      ∙ ap (λ b. known h d || b) (sym (counted_more r n d))));
  sound = λ d f.
      let p = or_parts (same_dot d (new_dot r n)) (set.contains s.covered d) (sym (set.contains-insert dot_total s.covered (new_dot r n) d) ∙ f) in
      map.get-insert dot_total s.live (new_dot r n) (again_row x q) d ∙ (λ i. cond (p.0 i) (Some (again_row x q)) (a.sound d p.1 i));
  olds = λ d f.
      map.get-insert dot_total s.live (new_dot r n) (again_row x q) d ∙ (λ i. cond (not_new r n d f i) (Some (again_row x q)) (a.olds d f i));
  live = λ d.
      ap (λ o. first_some o (row_again (row h) (lookup (same_dot d) (reborn_from r (n + 1) xs)))) (map.get-insert dot_total s.live (new_dot r n) (again_row x q) d)
      ∙ (go d (same_dot d (new_dot r n)) refl (lookup (same_dot d) (reborn_from r (n + 1) xs)) ∙ a.live d);
}
  where
    go : (d : Dot) (b : Bool) → same_dot d (new_dot r n) ≡ b → (o : Option Dot) → first_some (cond b (Some (again_row x q)) (map.get s.live d)) (row_again (row h) o) ≡ first_some (map.get s.live d) (row_again (row h) (cond b (Some x) o))
    go d false e o = refl
    go d true e o =
        let none : map.get s.live d ≡ None = a.sound d (ap (set.contains s.covered) (same_dot-true d (new_dot r n) e) ∙ free) in
        sym ((λ i. first_some (none i) (with_prev x (is i))))

pub again_next : (h : History) (e : Entry) (ps : List (Dot × Dot)) (i : ℕ) (s u : DotRows) (p : Dot × Dot) → u ≡ with_again s p → PairAt h e ps i s p → AgainAt h e ps (i + 1) u
again_next h e ps i s u p is a =
    let r = reborn (own h) a.again.incarnation in
    let after : u ≡ with_dot s (new_dot r i) (again_row p.1 a.old.row) = is ∙ (λ j. with_made s (with_prev p.1 (old_live h e ps i s p a j)) (a.new j)) in
    record {
      again = a.again;
      left = a.later;
      rest = a.rest;
      goes = a.goes;
      many = a.many;
      done = subst (AgainTo h r ps (i + 1) a.later) (sym after) (to_next h r ps i p.1 a.later s a.old.row (ap (set.contains s.covered) (sym a.new) ∙ pair_free h e ps i s p a) (shown-row h p.1 a.old.row a.old.shown).0 a.done);
    }

-- all pairs

nothing_left : (ds : List Dot) → length ds ≡ 0 → ds ≡ []
nothing_left [] e = refl
nothing_left (x ∷ xs) e = absurd (omega (arith, e))

none_after : (o : Option Row) → o ≡ first_some o None
none_after None = refl
none_after (Some r) = refl

pub again_holds : (h : History) (e : Entry) (ps : List (Dot × Dot)) (i : ℕ) (s : DotRows) → IsLegal (Then h e) → e.outcome ≡ outcomes_are.Reborn ps → length ps ≤ i → AgainAt h e ps i s → Holds (Then h e) s
unfolding live
again_holds h e ps i s l is far a = record { known = at_known; live = at_live }
  where
    r : Replica
    r = reborn (own h) a.again.incarnation

    none : a.left ≡ []
    none = nothing_left a.left (sym (length_reborn r i a.left) ∙ (ap length (sym a.rest) ∙ ap length (drop_of_length-le ps far)))

    all : i ≡ count (Then h e)
    all = omega (arith, a.many, ap length none, count_again h e a.again)

    told : (d : Dot) → told_covers h e.step d ≡ false
    told d = ap (λ q. told_covers h q d) a.again.step

    same : ps ≡ reborn_from r 0 (own_dots h)
    same = ap pairs_in (sym is ∙ a.again.outcome)

    at_known : (d : Dot) → set.contains s.covered d ≡ known (Then h e) d
    at_known d =
        a.done.known d
        ∙ (ap (λ b. known h d || b) (no_more (is_counted r i d) ∙ (λ j. is_counted (sym (own_again h e a.again) j) (all j) d || sym (told d) j))
        ∙ sym (known-then h e d))

    gone : (d : Dot) (o : Option Dot) → lookup (same_dot d) (reborn_from r 0 (own_dots h)) ≡ o → known h d ≡ true → row_again (row h) o ≡ None
    gone d None f k = refl
    gone d (Some old) f k = absurd (again_unknown h d a.again.incarnation a.again.fresh (again_parts r 0 (own_dots h) d old f).0 k)

    shape : (d : Dot) (b : Bool) → removed h d ≡ b → first_some (cond b None (row h d)) (row_again (row h) (lookup (same_dot d) (reborn_from r 0 (own_dots h)))) ≡ cond b None (first_some (row h d) (row_again (row h) (lookup (same_dot d) (reborn_from r 0 (own_dots h)))))
    shape d false f = refl
    shape d true f = gone d (lookup (same_dot d) (reborn_from r 0 (own_dots h))) refl ((legal_knows h l.0).of_removed d f)

    at_live : (d : Dot) → map.get s.live d ≡ cond (removed (Then h e) d) None (row (Then h e) d)
    at_live d =
        none_after (map.get s.live d)
        ∙ (ap (λ ds. first_some (map.get s.live d) (row_again (row h) (lookup (same_dot d) (reborn_from r i ds)))) (sym none)
        ∙ (a.done.live d
        ∙ (ap (λ qs. first_some (cond (removed h d) None (row h d)) (row_again (row h) (lookup (same_dot d) qs))) same
        ∙ (shape d (removed h d) refl
        ∙ (λ j. cond (sym (removed_again h e d a.again) j) None (sym (row_again-is h e d a.again) j))))))
