-- The rows between two ends, as the rows of a table.
use Rattle.std.proofs.Common.{◌≡◌, ℕ, Bool, true, false, cond, ◌&&◌, List, [], ◌∷◌, Option, Some, None, is_some, refl, sym, ◌∙◌, ap, subst, T, Less, Equal, Greater, is_eq, filter}
use Rattle.std.specs.Prelude.{map as each}
use Rattle.std.specs.BTreeMap.{is_at, IsOrdered}
use Rattle.std.specs.FinMap as map
use Rattle.std.specs.FinMap.Entries.{same_entries, find, is_sorted, below_all, is_sorted-where_key, find-where_key}
use Rattle.std.specs.List.{AllByRecursion}
use Rattle.std.specs.List.Sorted.{IsStrictlySortedBy}
use Rattle.std.specs.Map.{lookup, keys_of}
use Rattle.std.specs.Ordering.{ordering_then, is_gt, is_lt}
use Rattle.std.proofs.lemmas.Map.Entries.{lookup-filter-keys}
use Rattle.std.proofs.lemmas.Map.Keys.{sorted_head, sorted_tail}
use Rattle.presence_base.specs.declared.dots.Dot.{Dot}
use Rattle.presence_base.specs.declared.row.Row.{Row}
use Rattle.presence_base.specs.Order.{text_cmp, same_text}
use Rattle.presence_journal.specs.declared.rows.Place.{Place}
use Rattle.presence_journal.specs.History.{History, own}
use Rattle.presence_journal.specs.Present.{place_cmp, RowMap, in_order, present, listed}
use Rattle.presence_journal.specs.Table.{is_mine, has_key, rows_of_pid, rows_of_key, listed_key}
use Rattle.presence_journal.proofs.Same.{place_total, place_cmp-IsAntisymmetric}
use Rattle.presence_journal.proofs.FoldTables.{AreOf, entries_found}
use Rattle.presence_journal.proofs.FoldPresent.{present_placed}
use Rattle.tracker_shown.specs.declared.stand.Mark.{Mark}
use Rattle.tracker_shown.specs.declared.stand.Mark.TheVariants.{First, At, Last}
use Rattle.tracker_shown.specs.declared.stand.Holder.{Holder}
use Rattle.tracker_shown.specs.declared.stand.Holder.TheVariants.{Room, Session}
use Rattle.tracker_shown.specs.declared.stand.Stand.{Stand}
use Rattle.tracker_shown.specs.declared.stand.Ends.{Ends}
use Rattle.tracker_shown.specs.declared.shown.Shown.{Shown}
use Rattle.tracker_shown.specs.declared.placed.Placed.{Placed as PlacedRows}
use Rattle.tracker_shown.specs.Placing.{ListsPlaced}
use Rattle.tracker_shown.specs.Stands.{stand_cmp, same_stand, stand, is_between, topic_ends, key_ends}
use Rattle.tracker_shown.specs.Kept.{Kept, kept_at, held_by, IsShownOf}
use Rattle.tracker_shown.specs.Listing.{dot_by, with_dot, rows_of, rows_between, Lists, passing, everywhere, at_key}
use Rattle.tracker_shown.proofs.StandLemmas.{holder_cmp, holder_tied, text_tied, same_text-sym, never, not_then, exact_at, IsOf, of_topic_ends, of_key_ends, in_topic, in_key, topic_forward, key_forward}

abbrev Placed : Type 0
Placed = Place × Row

abbrev strips : List Placed → List (Dot × Row)
strips = each (λ (e : Placed). (e.0.dot, e.1))

abbrev place_by : Mark (List ℕ) → Mark Dot → Option Place
place_by (At k) (At d) = Some (record { key = k; dot = d })
place_by (At k) First = None
place_by (At k) Last = None
place_by First d = None
place_by Last d = None

abbrev with_place : Option Place → Row → List Placed → List Placed
with_place None r xs = xs
with_place (Some p) r xs = (p, r) ∷ xs

-- entries by stands as entries by places
abbrev places : List (Stand × Row) → List Placed
places [] = []
places (e ∷ es) = with_place (place_by e.0.key e.0.dot) e.1 (places es)

strips_places : (es : List (Stand × Row)) → strips (places es) ≡ rows_of es
strips_places [] = refl
strips_places (e ∷ es) = go e.0.key e.0.dot (strips_places es)
  where
    go : (a : Mark (List ℕ)) (b : Mark Dot) → strips (places es) ≡ rows_of es → strips (with_place (place_by a b) e.1 (places es)) ≡ with_dot (dot_by a b) e.1 (rows_of es)
    go (At k) (At d) ih = ap (λ xs. (d, e.1) ∷ xs) ih
    go (At k) First ih = ih
    go (At k) Last ih = ih
    go First b ih = ih
    go Last b ih = ih

abbrev AllOf : Holder → List ℕ → List (Stand × Row) → Type 0
AllOf w t = AllByRecursion (λ (e : Stand × Row). IsOf w t e.0)

module _ (w : Holder) (t : List ℕ) where
  abbrev at_stand : (v : Holder) (u : List ℕ) → Mark (List ℕ) → Mark Dot → Stand
  at_stand v u a b = record { holder = v; topic = u; key = a; dot = b }

  -- one entry more, as a look-up finds it
  one_found : (p : Place) (v : Holder) (u : List ℕ) (a : Mark (List ℕ)) (b : Mark Dot) → v ≡ w → u ≡ t → (r : Row) (xs : List Placed) (o : Option Row) → find place_cmp p xs ≡ o → find place_cmp p (with_place (place_by a b) r xs) ≡ cond (same_stand (stand w t p) (at_stand v u a b)) (Some r) o
  one_found p v u a b hv hu r xs o ih = go a b
    where
      tied_holder : holder_cmp w v ≡ Equal
      tied_holder = ap (holder_cmp w) hv ∙ holder_tied w

      tied_topic : text_cmp t u ≡ Equal
      tied_topic = ap (text_cmp t) hu ∙ text_tied t

      other : (c : Mark (List ℕ)) (d : Mark Dot) → same_stand (stand w t p) (at_stand v u c d) ≡ false → find place_cmp p xs ≡ cond (same_stand (stand w t p) (at_stand v u c d)) (Some r) o
      other c d e = ih ∙ ap (λ k. cond k (Some r) o) (sym e)

      go : (c : Mark (List ℕ)) (d : Mark Dot) → find place_cmp p (with_place (place_by c d) r xs) ≡ cond (same_stand (stand w t p) (at_stand v u c d)) (Some r) o
      go (At k) (At d) = λ i. cond (is_eq (ordering_then (sym tied_holder i) (ordering_then (sym tied_topic i) (place_cmp p (record { key = k; dot = d }))))) (Some r) (ih i)
      go (At k) First = other (At k) First (never (holder_cmp w v) (text_cmp t u) (ordering_then (text_cmp p.key k) Greater) (not_then (text_cmp p.key k) Greater refl))
      go (At k) Last = other (At k) Last (never (holder_cmp w v) (text_cmp t u) (ordering_then (text_cmp p.key k) Less) (not_then (text_cmp p.key k) Less refl))
      go First d = other First d (never (holder_cmp w v) (text_cmp t u) Greater refl)
      go Last d = other Last d (never (holder_cmp w v) (text_cmp t u) Less refl)

  found_at : (p : Place) (es : List (Stand × Row)) → AllOf w t es → find place_cmp p (places es) ≡ lookup (is_at (stand_cmp (stand w t p))) es
  found_at p [] a = refl
  found_at p (e ∷ es) a = one_found p e.0.holder e.0.topic e.0.key e.0.dot a.0.0 a.0.1 e.1 (places es) (lookup (is_at (stand_cmp (stand w t p))) es) (found_at p es a.1)

  and_both : (a b : Bool) → T a → T b → T (a && b)
  and_both true b p q = q
  and_both false b p q = p

  less_places : (p q : Place) (v : Holder) (u : List ℕ) → v ≡ w → u ≡ t → stand_cmp (stand w t p) (stand v u q) ≡ Less → place_cmp p q ≡ Less
  less_places p q v u hv hu e = (λ i. ordering_then (sym (ap (holder_cmp w) hv ∙ holder_tied w) i) (ordering_then (sym (ap (text_cmp t) hu ∙ text_tied t) i) (place_cmp p q))) ∙ e

  one_above : (p : Place) (v : Holder) (u : List ℕ) (a : Mark (List ℕ)) (b : Mark Dot) → v ≡ w → u ≡ t → (r : Row) (xs : List Placed) → stand_cmp (stand w t p) (at_stand v u a b) ≡ Less → T (below_all place_cmp p xs) → T (below_all place_cmp p (with_place (place_by a b) r xs))
  one_above p v u (At k) (At d) hv hu r xs e rest = and_both (is_lt (place_cmp p (record { key = k; dot = d }))) (below_all place_cmp p xs) (subst (λ o. T (is_lt o)) (sym (less_places p (record { key = k; dot = d }) v u hv hu e)) tt) rest
  one_above p v u (At k) First hv hu r xs e rest = rest
  one_above p v u (At k) Last hv hu r xs e rest = rest
  one_above p v u First b hv hu r xs e rest = rest
  one_above p v u Last b hv hu r xs e rest = rest

  all_above : (p : Place) (es : List (Stand × Row)) → AllOf w t es → AllByRecursion (λ s. stand_cmp (stand w t p) s ≡ Less) (keys_of es) → T (below_all place_cmp p (places es))
  all_above p [] a l = tt
  all_above p (e ∷ es) a l = one_above p e.0.holder e.0.topic e.0.key e.0.dot a.0.0 a.0.1 e.1 (places es) l.0 (all_above p es a.1 l.1)

  one_sorted : (v : Holder) (u : List ℕ) (a : Mark (List ℕ)) (b : Mark Dot) → v ≡ w → u ≡ t → (r : Row) (es : List (Stand × Row)) → AllOf w t es → AllByRecursion (λ s. stand_cmp (at_stand v u a b) s ≡ Less) (keys_of es) → T (is_sorted place_cmp (places es)) → T (is_sorted place_cmp (with_place (place_by a b) r (places es)))
  one_sorted v u (At k) (At d) hv hu r es a l rest =
      and_both (below_all place_cmp (record { key = k; dot = d }) (places es)) (is_sorted place_cmp (places es))
      (all_above (record { key = k; dot = d }) es a (subst (λ (x : Stand). AllByRecursion (λ s. stand_cmp x s ≡ Less) (keys_of es)) (λ i. at_stand (hv i) (hu i) (At k) (At d)) l)) rest
  one_sorted v u (At k) First hv hu r es a l rest = rest
  one_sorted v u (At k) Last hv hu r es a l rest = rest
  one_sorted v u First b hv hu r es a l rest = rest
  one_sorted v u Last b hv hu r es a l rest = rest

  sorted_places : (es : List (Stand × Row)) → AllOf w t es → IsStrictlySortedBy stand_cmp (keys_of es) → T (is_sorted place_cmp (places es))
  sorted_places [] a s = tt
  sorted_places (e ∷ es) a s =
      one_sorted e.0.holder e.0.topic e.0.key e.0.dot a.0.0 a.0.1 e.1 es a.1 (sorted_head stand_cmp e.0 (keys_of es) s)
      (sorted_places es a.1 (sorted_tail stand_cmp e.0 (keys_of es) s))

-- what passes a test of the stands
abbrev picked : (Stand → Bool) → List (Stand × Row) → List (Stand × Row)
picked test = filter (λ (e : Stand × Row). test e.0)

all_picked : (test : Stand → Bool) (P : Stand → Type 0) → ((s : Stand) → test s ≡ true → P s) → (es : List (Stand × Row)) → AllByRecursion (λ (e : Stand × Row). P e.0) (picked test es)
all_picked test P f [] = tt
all_picked test P f (e ∷ es) = go (test e.0) refl (all_picked test P f es)
  where
    go : (b : Bool) → test e.0 ≡ b → AllByRecursion (λ (x : Stand × Row). P x.0) (picked test es) → AllByRecursion (λ (x : Stand × Row). P x.0) (cond b (e ∷ picked test es) (picked test es))
    go true h ih = (f e.0 h, ih)
    go false h ih = ih

keys_picked : (test : Stand → Bool) (P : Stand → Type 0) (es : List (Stand × Row)) → AllByRecursion P (keys_of es) → AllByRecursion P (keys_of (picked test es))
keys_picked test P [] a = tt
keys_picked test P (e ∷ es) a = go (test e.0) (keys_picked test P es a.1)
  where
    go : (b : Bool) → AllByRecursion P (keys_of (picked test es)) → AllByRecursion P (keys_of (cond b (e ∷ picked test es) (picked test es)))
    go true ih = (a.0, ih)
    go false ih = ih

sorted_cons : (k : Stand) (ks : List Stand) → AllByRecursion (λ y. stand_cmp k y ≡ Less) ks → IsStrictlySortedBy stand_cmp ks → IsStrictlySortedBy stand_cmp (k ∷ ks)
unfolding IsStrictlySortedBy
sorted_cons k ks a s = (a, s)

sorted_none : IsStrictlySortedBy stand_cmp []
unfolding IsStrictlySortedBy
sorted_none = tt

sorted_picked : (test : Stand → Bool) (es : List (Stand × Row)) → IsStrictlySortedBy stand_cmp (keys_of es) → IsStrictlySortedBy stand_cmp (keys_of (picked test es))
sorted_picked test [] s = sorted_none
sorted_picked test (e ∷ es) s = go (test e.0) (sorted_picked test es (sorted_tail stand_cmp e.0 (keys_of es) s))
  where
    go : (b : Bool) → IsStrictlySortedBy stand_cmp (keys_of (picked test es)) → IsStrictlySortedBy stand_cmp (keys_of (cond b (e ∷ picked test es) (picked test es)))
    go true ih = sorted_cons e.0 (keys_of (picked test es)) (keys_picked test (λ k. stand_cmp e.0 k ≡ Less) es (sorted_head stand_cmp e.0 (keys_of es) s)) ih
    go false ih = ih

-- the rows of a table that pass a test

abbrev chosen : (Place → Bool) → List Placed → List Placed
chosen q = filter (λ (e : Placed). q e.0)

chosen_is : (m : RowMap) (q : Place → Bool) (es : List Placed) → T (is_sorted place_cmp es) → ((p : Place) → cond (q p) (map.get m p) None ≡ find place_cmp p es) → chosen q (map.entries m) ≡ es
chosen_is m q es s like =
    same_entries place_cmp place_total place_cmp-IsAntisymmetric (chosen q (map.entries m)) es (is_sorted-where_key place_cmp q (map.entries m) (map.entries_sorted m)) s
    (λ p. find-where_key place_cmp q p (λ x e. ap q (sym (place_cmp-IsAntisymmetric p x e))) (map.entries m) ∙ (ap (λ o. cond (q p) o None) (sym (map.get-entries m p)) ∙ like p))

chosen_rows : (f : Dot × Row → Bool) (q : Place → Bool) (es : List Placed) (g : Place → Option Row) → ((p : Place) (r : Row) → g p ≡ Some r → f (p.dot, r) ≡ q p) → AreOf g es → filter f (strips es) ≡ strips (chosen q es)
chosen_rows f q [] g same a = refl
chosen_rows f q (e ∷ es) g same a =
    (λ i. cond (same e.0 e.1 a.0 i) ((e.0.dot, e.1) ∷ chosen_rows f q es g same a.1 i) (chosen_rows f q es g same a.1 i))
    ∙ out (q e.0)
  where
    out : (b : Bool) → cond b ((e.0.dot, e.1) ∷ strips (chosen q es)) (strips (chosen q es)) ≡ strips (cond b (e ∷ chosen q es) (chosen q es))
    out true = refl
    out false = refl

there : (f : Dot × Row → Bool) (p : Place) (x o : Option Row) → x ≡ passing f p o → cond (is_some x) o None ≡ x
there f p x None e = ap (λ z. cond {A = Option Row} (is_some z) None None) e ∙ sym e
there f p x (Some r) e = go (f (p.dot, r)) e
  where
    go : (b : Bool) → x ≡ cond b (Some r) None → cond (is_some x) (Some r) None ≡ x
    go true h = ap (λ z. cond (is_some z) (Some r) None) h ∙ sym h
    go false h = ap (λ z. cond (is_some z) (Some r) None) h ∙ sym h

is_there : (f : Dot × Row → Bool) (p : Place) (x o : Option Row) (r : Row) → x ≡ passing f p o → o ≡ Some r → f (p.dot, r) ≡ is_some x
is_there f p x o r e h = sym (ap is_some (e ∙ ap (passing f p) h) ∙ go (f (p.dot, r)))
  where
    go : (b : Bool) → is_some (cond b (Some r) None) ≡ b
    go true = refl
    go false = refl

-- entries in order that look up like what passes of a table are what passes
passing_rows : (m : RowMap) (f : Dot × Row → Bool) (es : List Placed) → T (is_sorted place_cmp es) → ((p : Place) → find place_cmp p es ≡ passing f p (map.get m p)) → strips es ≡ filter f (in_order m)
unfolding in_order
passing_rows m f es s like =
    ap strips (sym (chosen_is m (λ p. is_some (find place_cmp p es)) es s (λ p. there f p (find place_cmp p es) (map.get m p) (like p))))
    ∙ sym (chosen_rows f (λ p. is_some (find place_cmp p es)) (map.entries m) (map.get m) (λ p r h. is_there f p (find place_cmp p es) (map.get m p) r (like p) h) (entries_found m))

-- what lies between ends that are of one holder and topic, and pick places by q
lists_between : (x : Ends) (w : Holder) (t : List ℕ) (q : Place → Bool) → ((s : Stand) → is_between x s ≡ true → IsOf w t s) → ((p : Place) → is_between x (stand w t p) ≡ q p) → (m : Kept) → IsOrdered stand_cmp m → Lists m w t q (rows_between x m)
lists_between x w t q of picks m order rows f like =
    sym (strips_places (picked (is_between x) m.entries))
    ∙ passing_rows rows f (places (picked (is_between x) m.entries)) (sorted_places w t (picked (is_between x) m.entries) all (sorted_picked (is_between x) m.entries order)) found
  where
    all : AllOf w t (picked (is_between x) m.entries)
    all = all_picked (is_between x) (IsOf w t) of m.entries

    found : (p : Place) → find place_cmp p (places (picked (is_between x) m.entries)) ≡ passing f p (map.get rows p)
    found p =
        found_at w t p (picked (is_between x) m.entries) all
        ∙ (lookup-filter-keys (is_at (stand_cmp (stand w t p))) (is_between x) (is_between x (stand w t p)) (λ s e. ap (is_between x) (sym (exact_at w t p s e))) m.entries
        ∙ (ap (λ b. cond b (kept_at m w t p) None) (picks p) ∙ sym (like p)))

pub lists_topic : (w : Holder) (t : List ℕ) (m : Kept) → IsOrdered stand_cmp m → Lists m w t everywhere (rows_between (topic_ends w t) m)
lists_topic w t = lists_between (topic_ends w t) w t everywhere (of_topic_ends w t) (in_topic w t)

pub lists_key : (w : Holder) (t k : List ℕ) (m : Kept) → IsOrdered stand_cmp m → Lists m w t (at_key k) (rows_between (key_ends w t k) m)
lists_key w t k = lists_between (key_ends w t k) w t (at_key k) (of_key_ends w t k) (in_key w t k)

-- what the lists come to

passing_all : (xs : List (Dot × Row)) → filter (λ (x : Dot × Row). true) xs ≡ xs
passing_all [] = refl
passing_all (x ∷ xs) = ap (λ ys. x ∷ ys) (passing_all xs)

passing_both : (f g : Dot × Row → Bool) (xs : List (Dot × Row)) → filter g (filter f xs) ≡ filter (λ x. f x && g x) xs
passing_both f g [] = refl
passing_both f g (x ∷ xs) = go (f x) (g x) refl (passing_both f g xs)
  where
    go : (a b : Bool) → g x ≡ b → filter g (filter f xs) ≡ filter (λ y. f y && g y) xs → filter g (cond a (x ∷ filter f xs) (filter f xs)) ≡ cond (a && b) (x ∷ filter (λ y. f y && g y) xs) (filter (λ y. f y && g y) xs)
    go true true e ih = (λ i. cond (e i) (x ∷ ih i) (ih i))
    go true false e ih = (λ i. cond (e i) (x ∷ ih i) (ih i))
    go false b e ih = ih

-- rows of any kind that are placed
pub placed_listed : (x : PlacedRows) (t : List ℕ) (v : List (Dot × Row)) → Lists x.rows Room t everywhere v → ListsPlaced x t v
placed_listed x t v l f m is table = l m (λ y. true) (λ p. go p (map.get m p) ∙ (table p ∙ sym (is t p))) ∙ passing_all (in_order m)
  where
    go : (p : Place) (o : Option Row) → passing (λ y. true) p o ≡ o
    go p None = refl
    go p (Some r) = refl

module _ (g : History) (x : Shown) (s : IsShownOf g x) (t : List ℕ) where
  pub all_listed : (v : List (Dot × Row)) → Lists x.rows Room t everywhere v → v ≡ listed g t
  all_listed v l = l (present g t) (λ y. true) (λ p. go p (map.get (present g t) p) ∙ sym (s.rows Room t p)) ∙ passing_all (listed g t)
    where
      go : (p : Place) (o : Option Row) → passing (λ y. true) p o ≡ held_by (own g) Room p.dot o
      go p None = refl
      go p (Some r) = refl

  -- the row at a place
  pub row_there : (p : Place) (o : Option Row) → o ≡ kept_at x.rows Room t p → o ≡ map.get (present g t) p
  row_there p o e = e ∙ (s.rows Room t p ∙ go (map.get (present g t) p))
    where
      go : (y : Option Row) → held_by (own g) Room p.dot y ≡ y
      go None = refl
      go (Some r) = refl

  pub pid_listed : (pid : ℕ) (v : List (Dot × Row)) → Lists x.rows (Session pid) t everywhere v → v ≡ rows_of_pid g pid t
  unfolding rows_of_pid
  pid_listed pid v l = l (present g t) (is_mine g pid) (λ p. go p (map.get (present g t) p) ∙ sym (s.rows (Session pid) t p))
    where
      go : (p : Place) (o : Option Row) → passing (is_mine g pid) p o ≡ held_by (own g) (Session pid) p.dot o
      go p None = refl
      go p (Some r) = refl

  -- a present row has the key of its place
  at_its_key : (key : List ℕ) (p : Place) (r : Row) → map.get (present g t) p ≡ Some r → has_key key (p.dot, r) ≡ same_text key p.key
  at_its_key key p r e = ap (λ k. same_text k key) (present_placed g t p r e) ∙ same_text-sym p.key key

  pub key_listed : (key : List ℕ) (v : List (Dot × Row)) → Lists x.rows Room t (at_key key) v → v ≡ listed_key g t key
  unfolding listed_key
  key_listed key v l = l (present g t) (has_key key) (λ p. go p (map.get (present g t) p) refl ∙ ap (λ o. cond (same_text key p.key) o None) (sym (s.rows Room t p)))
    where
      go : (p : Place) (o : Option Row) → map.get (present g t) p ≡ o → passing (has_key key) p o ≡ cond (same_text key p.key) (held_by (own g) Room p.dot o) None
      go p None e = none (same_text key p.key)
        where
          none : (b : Bool) → None ≡ cond {A = Option Row} b None None
          none true = refl
          none false = refl
      go p (Some r) e = ap (λ b. cond b (Some r) None) (at_its_key key p r e)

  pub own_listed : (pid : ℕ) (key : List ℕ) (v : List (Dot × Row)) → Lists x.rows (Session pid) t (at_key key) v → v ≡ rows_of_key g pid t key
  unfolding rows_of_key rows_of_pid
  own_listed pid key v l =
      l (present g t) (λ y. is_mine g pid y && has_key key y) (λ p. go p (map.get (present g t) p) refl ∙ ap (λ o. cond (same_text key p.key) o None) (sym (s.rows (Session pid) t p)))
      ∙ sym (passing_both (is_mine g pid) (has_key key) (listed g t))
    where
      both : (a b : Bool) (r : Row) → cond (a && b) (Some r) None ≡ cond b (cond a (Some r) None) None
      both true true r = refl
      both true false r = refl
      both false true r = refl
      both false false r = refl

      none : (b : Bool) → None ≡ cond {A = Option Row} b None None
      none true = refl
      none false = refl

      go : (p : Place) (o : Option Row) → map.get (present g t) p ≡ o → passing (λ y. is_mine g pid y && has_key key y) p o ≡ cond (same_text key p.key) (held_by (own g) (Session pid) p.dot o) None
      go p None e = none (same_text key p.key)
      go p (Some r) e = both (is_mine g pid (p.dot, r)) (has_key key (p.dot, r)) r ∙ ap (λ b. cond b (cond (is_mine g pid (p.dot, r)) (Some r) None) None) (at_its_key key p r e)

-- the same of a list that was read between ends

pub topic_lists : (w : Holder) (t : List ℕ) (m : Kept) (x : Ends) (v : List (Dot × Row)) → x ≡ topic_ends w t → IsOrdered stand_cmp m → v ≡ rows_between x m → Lists m w t everywhere v
topic_lists w t m x v e order is rows f like = is ∙ (ap (λ y. rows_between y m) e ∙ lists_topic w t m order rows f like)

pub key_lists : (w : Holder) (t k : List ℕ) (m : Kept) (x : Ends) (v : List (Dot × Row)) → x ≡ key_ends w t k → IsOrdered stand_cmp m → v ≡ rows_between x m → Lists m w t (at_key k) v
key_lists w t k m x v e order is rows f like = is ∙ (ap (λ y. rows_between y m) e ∙ lists_key w t k m order rows f like)

pub topic_in_order : (w : Holder) (t : List ℕ) (x : Ends) → x ≡ topic_ends w t → is_gt (stand_cmp x.first x.last) ≡ false
topic_in_order w t x e = ap (λ (y : Ends). is_gt (stand_cmp y.first y.last)) e ∙ topic_forward w t

pub key_in_order : (w : Holder) (t k : List ℕ) (x : Ends) → x ≡ key_ends w t k → is_gt (stand_cmp x.first x.last) ≡ false
key_in_order w t k x e = ap (λ (y : Ends). is_gt (stand_cmp y.first y.last)) e ∙ key_forward w t k
