-- How what is kept goes from one history to the next.
use Rattle.std.proofs.Common.{◌≡◌, ℕ, ◌+◌, Bool, true, false, cond, ◌&&◌, List, [], ◌∷◌, drop, Option, Some, None, refl, sym, ◌∙◌, ap, subst, nat_eq, inl, inr}
use Rattle.std.specs.Prelude.{◌⊎◌, Result, Ok, Err, OnErr}
use Rattle.std.specs.List.{AllByRecursion, IsDistinct}
use Rattle.std.specs.Map.{lookup, keys_of}
use Rattle.std.specs.Cmp.{eq_by_cmp_equiv}
use Rattle.std.proofs.lemmas.Bool.{and_parts}
use Rattle.std.proofs.lemmas.Option.{same_Some}
use Rattle.std.proofs.lemmas.Map.{lookup-none}
use Rattle.std.proofs.lemmas.Map.Entries.{none_past_head}
use Rattle.std.proofs.lemmas.Map.Keys.{IsDistinct-head, IsDistinct-tail}
use Rattle.presence_base.specs.declared.dots.Replica.{Replica}
use Rattle.presence_base.specs.declared.dots.Dot.{Dot}
use Rattle.presence_base.specs.declared.row.Row.{Row}
use Rattle.presence_base.specs.Order.{same_text, same_dot, same_replica}
use Rattle.presence_journal.specs.declared.rows.Place.{Place}
use Rattle.presence_journal.specs.declared.entry.Entry.{Entry}
use Rattle.presence_journal.specs.History.{History, Then, own, shown}
use Rattle.presence_journal.specs.Present.{of_topic}
use Rattle.presence_journal.specs.Walk.{keyed, is_rebirth}
use Rattle.presence_journal.proofs.Same.{dot_total, same_dot-true, same_dot-refl, same_dot-sym}
use Rattle.presence_journal.proofs.HistoryLemmas.{own-then}
use Rattle.presence_journal.proofs.PresentLemmas.{get-present, shown-row, row-stays, all_weaker}
use Rattle.tracker_shown.specs.declared.stand.Holder.{Holder}
use Rattle.tracker_shown.specs.declared.stand.Holder.TheVariants.{Room, Session}
use Rattle.tracker_shown.specs.declared.shown.Shown.{Shown}
use Rattle.tracker_shown.specs.declared.turn.Turn.{Turn}
use Rattle.tracker_shown.specs.Turns.{came, IsListOf, IsTurn}
use Rattle.tracker_shown.proofs.Once.{distinct}
use Rattle.tracker_shown.specs.Kept.{Kept, kept_at, is_for, held_by, held, belongs, IsNothing, IsSet, IsPartlySet, AreBetween, IsBetween, IsBrought, IsShownOf}
use Rattle.tracker_shown.specs.ShownTurns.{Joins, Leaves, set_all, PutsAll, TakesAll, KeepsBetween, BringsUp, StaysBetween}
use Rattle.tracker_shown.proofs.StandLemmas.{same_text-sym}
use Rattle.presence_journal.specs.Table.{IsLegal}
use Rattle.presence_journal.proofs.Reborn.{IsAgain, again_of}
use Rattle.presence_journal.proofs.AfterRebirth.{shown_of_old, none_of_new}

-- the row belongs to the holder, the topic and the key
abbrev fits : Replica → Holder → List ℕ → Place → Row → Bool
fits o w t p r = is_for o w p.dot r && (same_text r.topic t && same_text r.key p.key)

abbrev fitting : Replica → Holder → List ℕ → Place → Option Row → Option Row
fitting o w t p None = None
fitting o w t p (Some r) = cond (fits o w t p r) (Some r) None

none_fits : (a : Bool) (r : Row) → None ≡ cond (a && false) (Some r) None
none_fits true r = refl
none_fits false r = refl

and_true : (a : Bool) → (a && true) ≡ a
and_true true = refl
and_true false = refl

-- what is held at a place, by the row that is shown under its dot
held_is : (g : History) (w : Holder) (t : List ℕ) (p : Place) → held g w t p ≡ fitting (own g) w t p (shown g p.dot)
held_is g w t p = ap (held_by (own g) w p.dot) (get-present g t p) ∙ go (shown g p.dot)
  where
    three : (r : Row) (b : Bool) → held_by (own g) w p.dot (cond b (Some r) None) ≡ cond (is_for (own g) w p.dot r && b) (Some r) None
    three r true = ap (λ a. cond a (Some r) None) (sym (and_true (is_for (own g) w p.dot r)))
    three r false = none_fits (is_for (own g) w p.dot r) r

    two : (r : Row) (b : Bool) → held_by (own g) w p.dot (keyed p.key (cond b (Some r) None)) ≡ cond (is_for (own g) w p.dot r && (b && same_text r.key p.key)) (Some r) None
    two r true = (λ i. held_by (own g) w p.dot (cond (same_text-sym p.key r.key i) (Some r) None)) ∙ three r (same_text r.key p.key)
    two r false = none_fits (is_for (own g) w p.dot r) r

    go : (o : Option Row) → held_by (own g) w p.dot (keyed p.key (of_topic t o)) ≡ fitting (own g) w t p o
    go None = refl
    go (Some r) = two r (same_text r.topic t)

belongs_here : (o : Replica) (r : Row) (w : Holder) (t : List ℕ) (p : Place) → belongs o p.dot r w t p ≡ fits o w t p r
belongs_here o r w t p =
    ap (λ b. is_for o w p.dot r && (same_text r.topic t && (same_text r.key p.key && b))) (same_dot-refl p.dot)
    ∙ ap (λ b. is_for o w p.dot r && (same_text r.topic t && b)) (and_true (same_text r.key p.key))

last_false : (a b c : Bool) → (a && (b && (c && false))) ≡ false
last_false true true true = refl
last_false true true false = refl
last_false true false c = refl
last_false false b c = refl

belongs_elsewhere : (o : Replica) (d : Dot) (r : Row) (w : Holder) (t : List ℕ) (p : Place) → same_dot d p.dot ≡ false → belongs o d r w t p ≡ false
belongs_elsewhere o d r w t p e =
    ap (λ b. is_for o w d r && (same_text r.topic t && (same_text r.key p.key && b))) e
    ∙ last_false (is_for o w d r) (same_text r.topic t) (same_text r.key p.key)

belongs_dot : (o : Replica) (d : Dot) (r : Row) (w : Holder) (t : List ℕ) (p : Place) → belongs o d r w t p ≡ true → d ≡ p.dot
belongs_dot o d r w t p e =
    let one = and_parts (is_for o w d r) (same_text r.topic t && (same_text r.key p.key && same_dot d p.dot)) e in
    let two = and_parts (same_text r.topic t) (same_text r.key p.key && same_dot d p.dot) one.1 in
    let three = and_parts (same_text r.key p.key) (same_dot d p.dot) two.1 in
    same_dot-true d p.dot three.1

-- one row set

-- where the row under a dot is set as it is shown after the entry, each place stays between
between_set : (g : History) (e : Entry) (o : Replica) (d : Dot) (r : Row) (v : Option Row) (m n : Kept) → ((w : Holder) (t : List ℕ) (p : Place) → belongs o d r w t p ≡ true → held (Then g e) w t p ≡ v) → IsPartlySet o d r v m n → AreBetween g e m → AreBetween g e n
between_set g e o d r v m n is set before w t p = go (set w t p) (before w t p)
  where
    same : kept_at n w t p ≡ kept_at m w t p → (kept_at m w t p ≡ held g w t p) ⊎ (kept_at m w t p ≡ held (Then g e) w t p) → (kept_at n w t p ≡ held g w t p) ⊎ (kept_at n w t p ≡ held (Then g e) w t p)
    same x (inl y) = inl (x ∙ y)
    same x (inr y) = inr (x ∙ y)

    by : (b : Bool) → belongs o d r w t p ≡ b → kept_at n w t p ≡ cond b v (kept_at m w t p) → (kept_at m w t p ≡ held g w t p) ⊎ (kept_at m w t p ≡ held (Then g e) w t p) → (kept_at n w t p ≡ held g w t p) ⊎ (kept_at n w t p ≡ held (Then g e) w t p)
    by true h x y = inr (x ∙ sym (is w t p h))
    by false h x y = same x y

    go : (kept_at n w t p ≡ kept_at m w t p) ⊎ (kept_at n w t p ≡ cond (belongs o d r w t p) v (kept_at m w t p)) → (kept_at m w t p ≡ held g w t p) ⊎ (kept_at m w t p ≡ held (Then g e) w t p) → (kept_at n w t p ≡ held g w t p) ⊎ (kept_at n w t p ≡ held (Then g e) w t p)
    go (inl x) y = same x y
    go (inr x) y = by (belongs o d r w t p) refl x y

-- what is held after the entry where a row belongs that joins
joins_held : (g : History) (e : Entry) (o : Replica) (d : Dot) (r : Row) → Joins o g e (d, r) → (w : Holder) (t : List ℕ) (p : Place) → belongs o d r w t p ≡ true → held (Then g e) w t p ≡ Some r
joins_held g e o d r joins w t p b =
    held_is (Then g e) w t p
    ∙ ((λ i. fitting (sym joins.0 i) w t p (shown (Then g e) (sym (belongs_dot o d r w t p b) i)))
    ∙ (ap (fitting o w t p) joins.1
    ∙ ap (λ k. cond k (Some r) None) (sym (belongs_here o r w t p) ∙ (ap (λ k. belongs o k r w t p) (sym (belongs_dot o d r w t p b)) ∙ b))))

leaves_held : (g : History) (e : Entry) (o : Replica) (d : Dot) (r : Row) → Leaves g e (d, r) → (w : Holder) (t : List ℕ) (p : Place) → belongs o d r w t p ≡ true → held (Then g e) w t p ≡ None
leaves_held g e o d r gone w t p b =
    held_is (Then g e) w t p
    ∙ ap (fitting (own (Then g e)) w t p) (ap (shown (Then g e)) (sym (belongs_dot o d r w t p b)) ∙ gone)

-- rows set one after another

-- what is kept once the first i rows are set, and what is left to set
abbrev pub SetTo : (Row → Option Row) → Replica → List (Dot × Row) → ℕ → Kept → Kept → Type 0
SetTo v o xs i m n = (w : Holder) (t : List ℕ) (p : Place) → set_all v o (drop i xs) w t p (kept_at n w t p) ≡ set_all v o xs w t p (kept_at m w t p)

-- each place is still between, and what is left is of the entry
abbrev pub BetweenTo : (History → Entry → Dot × Row → Type 0) → List (Dot × Row) → ℕ → Kept → Kept → Type 0
BetweenTo P xs i m n = (g : History) (e : Entry) → AllByRecursion (P g e) xs → AreBetween g e m → AreBetween g e n × AllByRecursion (P g e) (drop i xs)

pub set_more : (v : Row → Option Row) (o : Replica) (xs : List (Dot × Row)) (i : ℕ) (x : Dot × Row) (m k n : Kept) → drop i xs ≡ x ∷ drop (i + 1) xs → IsSet o x.0 x.1 (v x.1) k n → SetTo v o xs i m k → SetTo v o xs (i + 1) m n
set_more v o xs i x m k n e set told w t p =
    ap (set_all v o (drop (i + 1) xs) w t p) (set w t p)
    ∙ (ap (λ ys. set_all v o ys w t p (kept_at k w t p)) (sym e) ∙ told w t p)

pub wholly : (o : Replica) (d : Dot) (r : Row) (v : Option Row) (m n : Kept) → IsSet o d r v m n → IsPartlySet o d r v m n
wholly o d r v m n set w t p = inr (set w t p)

pub joins_more : (o : Replica) (xs : List (Dot × Row)) (i : ℕ) (x : Dot × Row) (m k n : Kept) → drop i xs ≡ x ∷ drop (i + 1) xs → IsPartlySet o x.0 x.1 (Some x.1) k n → BetweenTo (Joins o) xs i m k → BetweenTo (Joins o) xs (i + 1) m n
joins_more o xs i x m k n at set told g e all before =
    let so_far = told g e all before in
    let rest = subst (AllByRecursion (Joins o g e)) at so_far.1 in
    (between_set g e o x.0 x.1 (Some x.1) k n (joins_held g e o x.0 x.1 rest.0) set so_far.0, rest.1)

pub leaves_more : (o : Replica) (xs : List (Dot × Row)) (i : ℕ) (x : Dot × Row) (m k n : Kept) → drop i xs ≡ x ∷ drop (i + 1) xs → IsPartlySet o x.0 x.1 None k n → BetweenTo Leaves xs i m k → BetweenTo Leaves xs (i + 1) m n
leaves_more o xs i x m k n at set told g e all before =
    let so_far = told g e all before in
    let rest = subst (AllByRecursion (Leaves g e)) at so_far.1 in
    (between_set g e o x.0 x.1 None k n (leaves_held g e o x.0 x.1 rest.0) set so_far.0, rest.1)

-- all rows are set once none is left

pub set_end : (v : Row → Option Row) (o : Replica) (xs : List (Dot × Row)) (i : ℕ) (m n : Kept) → drop i xs ≡ [] → SetTo v o xs i m n → (w : Holder) (t : List ℕ) (p : Place) → kept_at n w t p ≡ set_all v o xs w t p (kept_at m w t p)
set_end v o xs i m n e told w t p = ap (λ ys. set_all v o ys w t p (kept_at n w t p)) (sym e) ∙ told w t p

pub between_end : (P : History → Entry → Dot × Row → Type 0) (xs : List (Dot × Row)) (i : ℕ) (m n : Kept) → BetweenTo P xs i m n → KeepsBetween P xs m n
between_end P xs i m n told g e all before = (told g e all before).0

-- a whole turn

set_none : (v : Row → Option Row) (o : Replica) (xs : List (Dot × Row)) (w : Holder) (t : List ℕ) (p : Place) (now : Option Row) → lookup (same_dot p.dot) xs ≡ None → set_all v o xs w t p now ≡ now
set_none v o [] w t p now e = refl
set_none v o (x ∷ xs) w t p now e = go (same_dot p.dot x.0) refl e (set_none v o xs w t p now)
  where
    go : (b : Bool) → same_dot p.dot x.0 ≡ b → cond b (Some x.1) (lookup (same_dot p.dot) xs) ≡ None → (lookup (same_dot p.dot) xs ≡ None → set_all v o xs w t p now ≡ now) → set_all v o xs w t p (cond (belongs o x.0 x.1 w t p) (v x.1) now) ≡ now
    go true h f ih = absurd (cc)
    go false h f ih = ap (λ b. set_all v o xs w t p (cond b (v x.1) now)) (belongs_elsewhere o x.0 x.1 w t p (same_dot-sym x.0 p.dot ∙ h)) ∙ ih f

set_some : (v : Row → Option Row) (o : Replica) (xs : List (Dot × Row)) (w : Holder) (t : List ℕ) (p : Place) (now : Option Row) (r : Row) → IsDistinct same_dot (keys_of xs) → lookup (same_dot p.dot) xs ≡ Some r → set_all v o xs w t p now ≡ cond (fits o w t p r) (v r) now
set_some v o [] w t p now r once e = absurd (cc)
set_some v o (x ∷ xs) w t p now r once e = go (same_dot p.dot x.0) refl e (set_some v o xs w t p now r (IsDistinct-tail same_dot x.0 (keys_of xs) once))
  where
    go : (b : Bool) → same_dot p.dot x.0 ≡ b → cond b (Some x.1) (lookup (same_dot p.dot) xs) ≡ Some r → (lookup (same_dot p.dot) xs ≡ Some r → set_all v o xs w t p now ≡ cond (fits o w t p r) (v r) now) → set_all v o xs w t p (cond (belongs o x.0 x.1 w t p) (v x.1) now) ≡ cond (fits o w t p r) (v r) now
    go true h f ih =
        let none : lookup (same_dot p.dot) xs ≡ None = lookup-none (same_dot p.dot) xs (none_past_head (eq_by_cmp_equiv dot_total) p.dot x xs once h) in
        let dots : x.0 ≡ p.dot = sym (same_dot-true p.dot x.0 h) in
        let rows : x.1 ≡ r = same_Some x.1 r f in
        set_none v o xs w t p (cond (belongs o x.0 x.1 w t p) (v x.1) now) none
        ∙ ((λ i. cond (belongs o (dots i) (rows i) w t p) (v (rows i)) now) ∙ ap (λ b. cond b (v r) now) (belongs_here o r w t p))
    go false h f ih = ap (λ b. set_all v o xs w t p (cond b (v x.1) now)) (belongs_elsewhere o x.0 x.1 w t p (same_dot-sym x.0 p.dot ∙ h)) ∙ ih f

put_twice : (b : Bool) (r : Row) → cond b (Some r) (cond b (Some r) None) ≡ cond b (Some r) None
put_twice true r = refl
put_twice false r = refl

taken_out : (b : Bool) (r : Row) → cond b None (cond b (Some r) None) ≡ None
taken_out true r = refl
taken_out false r = refl

cond_none : (b : Bool) → cond {A = Option Row} b None None ≡ None
cond_none true = refl
cond_none false = refl

module _ (o n : Replica) (js ls : List (Dot × Row)) (once : IsDistinct same_dot (keys_of js)) (gone : IsDistinct same_dot (keys_of ls)) (w : Holder) (t : List ℕ) (p : Place) where
  -- what the leaves and then the joins make of a place that is as before or as after
  turned : (a b x : Option Row) → lookup (same_dot p.dot) js ≡ came a b → lookup (same_dot p.dot) ls ≡ came b a → ((r s : Row) → a ≡ Some r → b ≡ Some s → (r ≡ s) × (fits o w t p s ≡ fits n w t p s)) → (x ≡ fitting o w t p a) ⊎ (x ≡ fitting n w t p b) → set_all (λ r. Some r) n js w t p (set_all (λ r. None) o ls w t p x) ≡ fitting n w t p b
  turned None None x j l agree is = set_none (λ r. Some r) n js w t p (set_all (λ r. None) o ls w t p x) j ∙ (set_none (λ r. None) o ls w t p x l ∙ go is)
    where
      go : (x ≡ None) ⊎ (x ≡ None) → x ≡ None
      go (inl e) = e
      go (inr e) = e
  turned None (Some s) x j l agree is =
      set_some (λ r. Some r) n js w t p (set_all (λ r. None) o ls w t p x) s once j
      ∙ (ap (cond (fits n w t p s) (Some s)) (set_none (λ r. None) o ls w t p x l) ∙ go is)
    where
      go : (x ≡ None) ⊎ (x ≡ cond (fits n w t p s) (Some s) None) → cond (fits n w t p s) (Some s) x ≡ cond (fits n w t p s) (Some s) None
      go (inl e) = ap (cond (fits n w t p s) (Some s)) e
      go (inr e) = ap (cond (fits n w t p s) (Some s)) e ∙ put_twice (fits n w t p s) s
  turned (Some r) None x j l agree is =
      set_none (λ r. Some r) n js w t p (set_all (λ r. None) o ls w t p x) j
      ∙ (set_some (λ r. None) o ls w t p x r gone l ∙ go is)
    where
      go : (x ≡ cond (fits o w t p r) (Some r) None) ⊎ (x ≡ None) → cond (fits o w t p r) None x ≡ None
      go (inl e) = ap (cond (fits o w t p r) None) e ∙ taken_out (fits o w t p r) r
      go (inr e) = ap (cond (fits o w t p r) None) e ∙ cond_none (fits o w t p r)
  turned (Some r) (Some s) x j l agree is = set_none (λ r. Some r) n js w t p (set_all (λ r. None) o ls w t p x) j ∙ (set_none (λ r. None) o ls w t p x l ∙ go is)
    where
      go : (x ≡ fitting o w t p (Some r)) ⊎ (x ≡ fitting n w t p (Some s)) → x ≡ fitting n w t p (Some s)
      go (inl e) = let same = agree r s refl refl in e ∙ (ap (λ y. fitting o w t p (Some y)) same.0 ∙ ap (λ c. cond c (Some s) None) same.1)
      go (inr e) = e

-- a dot has one row, whenever it is shown
shown_agrees : (g : History) (e : Entry) (d : Dot) (r s : Row) → shown g d ≡ Some r → shown (Then g e) d ≡ Some s → r ≡ s
shown_agrees g e d r s f h = same_Some r s (sym (row-stays g e d r (shown-row g d r f).0) ∙ (shown-row (Then g e) d s h).0)

-- an own row that is shown before an entry and after it is held by the same sessions
same_holders : (g : History) (e : Entry) → IsLegal (Then g e) → (d : Dot) (r s : Row) → shown g d ≡ Some r → shown (Then g e) d ≡ Some s → (w : Holder) (y : Row) → is_for (own g) w d y ≡ is_for (own (Then g e)) w d y
same_holders g e l d r s f h Room y = refl
same_holders g e l d r s f h (Session pid) y = go (is_rebirth e.step) refl
  where
    go : (b : Bool) → is_rebirth e.step ≡ b → (same_replica d.replica (own g) && nat_eq y.pid pid) ≡ (same_replica d.replica (own (Then g e)) && nat_eq y.pid pid)
    go false n = ap (λ o. same_replica d.replica o && nat_eq y.pid pid) (sym (own-then g e n))
    go true n = ap (λ b. b && nat_eq y.pid pid) (old (same_replica d.replica (own g)) refl ∙ sym (new (same_replica d.replica (own (Then g e))) refl))
      where
        again : IsAgain g e.step e.outcome
        again = again_of g e.step e.outcome n l.1

        old : (b : Bool) → same_replica d.replica (own g) ≡ b → b ≡ false
        old false p = refl
        old true p = let x : None ≡ Some s = sym (shown_of_old g e d again p) ∙ h in absurd (cc)

        new : (b : Bool) → same_replica d.replica (own (Then g e)) ≡ b → b ≡ false
        new false p = refl
        new true p = let x : None ≡ Some r = sym (none_of_new g e d l.0 again p) ∙ f in absurd (cc)

-- from what lies between a history and the next one to the next one
pub brought : (g : History) (e : Entry) (o : Replica) (turn : Turn) (x y : Shown) (k : Kept) → IsLegal (Then g e) → o ≡ own (Then g e) → y.own ≡ x.own → IsTurn g e turn → IsBetween g e x → TakesAll x.own turn.leaves.items x.rows k → PutsAll o turn.joins.items k y.rows → IsBrought g e y
brought g e o turn x y k l mine kept is before takes puts =
    record {
      own = kept ∙ before.own;
      rows = λ w t p.
          puts w t p
          ∙ (ap (set_all (λ r. Some r) o turn.joins.items w t p) (takes w t p)
          ∙ (turned x.own o turn.joins.items turn.leaves.items (distinct same_dot (keys_of turn.joins.items) is.joins.once) (distinct same_dot (keys_of turn.leaves.items) is.leaves.once) w t p (shown g p.dot) (shown (Then g e) p.dot) (kept_at x.rows w t p)
          (is.joins.found p.dot) (is.leaves.found p.dot) (λ r s f h. (shown_agrees g e p.dot r s f h, same_fits w t p r s f h)) (either w t p (before.rows w t p))
          ∙ sym (later w t p)));
    }
  where
    same_fits : (w : Holder) (t : List ℕ) (p : Place) (r s : Row) → shown g p.dot ≡ Some r → shown (Then g e) p.dot ≡ Some s → fits x.own w t p s ≡ fits o w t p s
    same_fits w t p r s f h =
        ap (λ q. fits q w t p s) before.own
        ∙ (ap (λ b. b && (same_text s.topic t && same_text s.key p.key)) (same_holders g e l p.dot r s f h w s)
        ∙ ap (λ q. fits q w t p s) (sym mine))

    earlier : (w : Holder) (t : List ℕ) (p : Place) → held g w t p ≡ fitting x.own w t p (shown g p.dot)
    earlier w t p = held_is g w t p ∙ ap (λ q. fitting q w t p (shown g p.dot)) (sym before.own)

    later : (w : Holder) (t : List ℕ) (p : Place) → held (Then g e) w t p ≡ fitting o w t p (shown (Then g e) p.dot)
    later w t p = held_is (Then g e) w t p ∙ ap (λ q. fitting q w t p (shown (Then g e) p.dot)) (sym mine)

    either : (w : Holder) (t : List ℕ) (p : Place) → (kept_at x.rows w t p ≡ held g w t p) ⊎ (kept_at x.rows w t p ≡ held (Then g e) w t p) → (kept_at x.rows w t p ≡ fitting x.own w t p (shown g p.dot)) ⊎ (kept_at x.rows w t p ≡ fitting o w t p (shown (Then g e) p.dot))
    either w t p (inl f) = inl (f ∙ earlier w t p)
    either w t p (inr f) = inr (f ∙ later w t p)

-- from nothing to the rows of a history

come_nothing : (b : Option Row) → came b None ≡ None
come_nothing None = refl
come_nothing (Some r) = refl

none_agrees : (o : Replica) (w : Holder) (t : List ℕ) (p : Place) (b : Option Row) (r s : Row) → None ≡ Some r → b ≡ Some s → (r ≡ s) × (fits o w t p s ≡ fits o w t p s)
none_agrees o w t p b r s f h = absurd (cc)

none_twice : IsDistinct same_dot (keys_of {K = Dot} {X = Row} [])
unfolding IsDistinct
none_twice = tt

pub shown_from : (g : History) (x : Shown) (m : Kept) (xs : List (Dot × Row)) → IsNothing m → PutsAll x.own xs m x.rows → x.own ≡ own g → IsListOf (shown g) xs → IsShownOf g x
shown_from g x m xs nothing puts mine is =
    record {
      own = mine;
      rows = λ w t p.
          puts w t p
          ∙ (ap (set_all (λ r. Some r) x.own xs w t p) (nothing w t p)
          ∙ (turned x.own x.own xs [] (distinct same_dot (keys_of xs) is.once) none_twice w t p None (shown g p.dot) None (is.found p.dot) (sym (come_nothing (shown g p.dot))) (none_agrees x.own w t p (shown g p.dot)) (inl refl)
          ∙ sym (held_is g w t p ∙ ap (λ o. fitting o w t p (shown g p.dot)) (sym mine))));
    }

-- from nothing to rows of any kind, each at its place

fits_room : (o : Replica) (t : List ℕ) (p : Place) (y : Option Row) → fitting o Room t p y ≡ keyed p.key (of_topic t y)
fits_room o t p None = refl
fits_room o t p (Some r) = go (same_text r.topic t)
  where
    go : (b : Bool) → cond (b && same_text r.key p.key) (Some r) None ≡ keyed p.key (cond b (Some r) None)
    go true = ap (λ b. cond b (Some r) None) (same_text-sym r.key p.key)
    go false = refl

pub placed_from : (o : Replica) (f : Dot → Option Row) (xs : List (Dot × Row)) → IsListOf f xs → (t : List ℕ) (p : Place) → set_all (λ r. Some r) o xs Room t p None ≡ keyed p.key (of_topic t (f p.dot))
placed_from o f xs is t p =
    turned o o xs [] (distinct same_dot (keys_of xs) is.once) none_twice Room t p None (f p.dot) None (is.found p.dot) (sym (come_nothing (f p.dot))) (none_agrees o Room t p (f p.dot)) (inl refl)
    ∙ fits_room o t p (f p.dot)

-- the rows of the next history, under its own replica
pub goes_on : (g : History) (e : Entry) (o : Replica) (x y : Shown) → o ≡ own (Then g e) → y.own ≡ o → y.rows ≡ x.rows → IsBrought g e x → IsShownOf (Then g e) y
goes_on g e o x y mine own_is same b = record {
  own = own_is ∙ mine;
  rows = λ w t p. ap (λ m. kept_at m w t p) same ∙ b.rows w t p;
}

-- the rows of the next history lie between it and the one before
pub at_last : (g : History) (e : Entry) (x : Shown) → IsBrought g e x → IsBetween g e x
at_last g e x b = record { own = b.own; rows = λ w t p. inr (b.rows w t p) }

-- before an entry is between it and the next history
pub at_first : (g : History) (e : Entry) (x : Shown) → IsShownOf g x → IsBetween g e x
at_first g e x s = record { own = s.own; rows = λ w t p. inl (s.rows w t p) }

-- each row of a turn

found_later : (x : Dot × Row) (all ys : List (Dot × Row)) → AllByRecursion (λ k. same_dot x.0 k ≡ false) (keys_of ys) → AllByRecursion (λ (y : Dot × Row). lookup (same_dot y.0) all ≡ Some y.1) ys → AllByRecursion (λ (y : Dot × Row). cond (same_dot y.0 x.0) (Some x.1) (lookup (same_dot y.0) all) ≡ Some y.1) ys
found_later x all [] a f = tt
found_later x all (y ∷ ys) a f = (ap (λ b. cond b (Some x.1) (lookup (same_dot y.0) all)) (same_dot-sym y.0 x.0 ∙ a.0) ∙ f.0, found_later x all ys a.1 f.1)

found_all : (xs : List (Dot × Row)) → IsDistinct same_dot (keys_of xs) → AllByRecursion (λ (x : Dot × Row). lookup (same_dot x.0) xs ≡ Some x.1) xs
found_all [] h = tt
found_all (x ∷ xs) h = (ap (λ b. cond b (Some x.1) (lookup (same_dot x.0) xs)) (same_dot-refl x.0), found_later x xs xs (IsDistinct-head same_dot x.0 (keys_of xs) h) (found_all xs (IsDistinct-tail same_dot x.0 (keys_of xs) h)))

come_now : (a b : Option Row) (r : Row) → came a b ≡ Some r → b ≡ Some r
come_now None b r e = e
come_now (Some x) b r e = absurd (cc)

come_new : (a b : Option Row) (r : Row) → came a b ≡ Some r → a ≡ None
come_new None b r e = refl
come_new (Some x) b r e = absurd (cc)

pub joins_all : (g : History) (e : Entry) (o : Replica) (x : Turn) → o ≡ own (Then g e) → IsTurn g e x → AllByRecursion (Joins o g e) x.joins.items
joins_all g e o x mine is = all_weaker (λ (y : Dot × Row). lookup (same_dot y.0) x.joins.items ≡ Some y.1) (Joins o g e) (λ y f. (mine, come_now (shown g y.0) (shown (Then g e) y.0) y.1 (sym (is.joins.found y.0) ∙ f))) x.joins.items (found_all x.joins.items (distinct same_dot (keys_of x.joins.items) is.joins.once))

pub leaves_all : (g : History) (e : Entry) (x : Turn) → IsTurn g e x → AllByRecursion (Leaves g e) x.leaves.items
leaves_all g e x is = all_weaker (λ (y : Dot × Row). lookup (same_dot y.0) x.leaves.items ≡ Some y.1) (Leaves g e) (λ y f. come_new (shown (Then g e) y.0) (shown g y.0) y.1 (sym (is.leaves.found y.0) ∙ f)) x.leaves.items (found_all x.leaves.items (distinct same_dot (keys_of x.leaves.items) is.leaves.once))

-- the two parts of a bring-up

pub to_the_end : (o : Replica) (turn : Turn) (x y : Shown) (k : Kept) (ls js : List (Dot × Row)) → ls ≡ turn.leaves.items → js ≡ turn.joins.items → y.own ≡ x.own → TakesAll x.own ls x.rows k → PutsAll o js k y.rows → BringsUp o turn x y
to_the_end o turn x y k ls js l j kept takes puts g e legal mine is before =
    brought g e o turn x y k legal mine kept is before (subst (λ xs. TakesAll x.own xs x.rows k) l takes) (subst (λ xs. PutsAll o xs k y.rows) j puts)

pub half_way : (o : Replica) (turn : Turn) (x y : Shown) (ls : List (Dot × Row)) → ls ≡ turn.leaves.items → y.own ≡ x.own → KeepsBetween Leaves ls x.rows y.rows → StaysBetween o turn x y
half_way o turn x y ls l kept stays g e own_is is before =
    record {
      own = kept ∙ before.own;
      rows = stays g e (subst (AllByRecursion (Leaves g e)) (sym l) (leaves_all g e turn is)) before.rows;
    }

pub further : (o : Replica) (turn : Turn) (x y : Shown) (k : Kept) (ls js : List (Dot × Row)) → ls ≡ turn.leaves.items → js ≡ turn.joins.items → y.own ≡ x.own → KeepsBetween Leaves ls x.rows k → KeepsBetween (Joins o) js k y.rows → StaysBetween o turn x y
further o turn x y k ls js l j kept stays more g e own_is is before =
    record {
      own = kept ∙ before.own;
      rows =
          more g e (subst (AllByRecursion (Joins o g e)) (sym j) (joins_all g e o turn own_is is))
          (stays g e (subst (AllByRecursion (Leaves g e)) (sym l) (leaves_all g e turn is)) before.rows);
    }

-- what always holds holds of an error
pub on_err_too : {T E P : Type 0} (r : Result T E) → P → OnErr r P
on_err_too (Ok x) p = tt
on_err_too (Err x) p = p
