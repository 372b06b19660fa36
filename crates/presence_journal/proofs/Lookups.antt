-- Tables of rows by what is at each place.
use Rattle.std.proofs.Common.{◌≡◌, Bool, true, false, cond, not, ◌&&◌, ◌||◌, List, [], ◌∷◌, Option, Some, None, is_some, refl, sym, ◌∙◌, ap, subst, Ordering, Less, Equal, Greater, length, arith}
use Rattle.std.specs.List.{IsDistinct, AllByRecursion}
use Rattle.std.specs.Map.{lookup, keys_of}
use Rattle.std.specs.BTreeMap.{insert_entry}
use Rattle.std.specs.Ordering.{match_ordering}
use Rattle.std.specs.FinMap.Entries.{by_order}
use Rattle.std.specs.Cmp.{eq_by_cmp_equiv}
use Rattle.std.specs.FinMap as map
use Rattle.std.proofs.lemmas.Map.{lookup-none}
use Rattle.std.proofs.lemmas.Map.Entries.{none_past_head}
use Rattle.std.proofs.lemmas.Map.Keys.{IsDistinct-tail}
use Rattle.presence_base.specs.declared.dots.Dot.{Dot}
use Rattle.presence_base.specs.declared.row.Row.{Row}
use Rattle.presence_base.specs.Order.{same_text, same_dot}
use Rattle.presence_journal.specs.declared.rows.Place.{Place}
use Rattle.presence_journal.specs.History.{first_some, has_dot}
use Rattle.presence_journal.specs.Present.{place_cmp, RowMap, place_of, put, put_all, missing_in}
use Rattle.presence_journal.specs.Queue.{with_rows}
use Rattle.presence_journal.specs.Walk.{keyed, placed, IsTableOf, row_at, without_dots, among}
use Rattle.presence_journal.proofs.Same.{same_dot-true, same_dot-sym, dot_total, place_total, same_place, place_cmp-IsAntisymmetric}

pub cond_none : (b : Bool) → cond {A = Option Row} b None None ≡ None
cond_none true = refl
cond_none false = refl

-- two tables with the same row at each place are one
pub same_rows : (a b : RowMap) → ((p : Place) → map.get a p ≡ map.get b p) → a ≡ b
same_rows a b is = map.same_map place_total place_cmp-IsAntisymmetric a b is

-- what is at a place once a row is inserted
pub get-insert_row : (m : RowMap) (d : Dot) (r : Row) (p : Place) → map.get (map.insert m (place_of d r) r) p ≡ cond (same_text p.key r.key && same_dot p.dot d) (Some r) (map.get m p)
get-insert_row m d r p = map.get-insert place_total m (place_of d r) r p ∙ ap (λ b. cond b (Some r) (map.get m p)) (same_place p (place_of d r))

first_or : (s k : Bool) (r : Row) (o : Option Row) → cond (k && s) (Some r) o ≡ cond s (first_some (cond k (Some r) None) o) o
first_or true true r o = refl
first_or true false r o = refl
first_or false true r o = refl
first_or false false r o = refl

same_both : (b : Bool) (o : Option Row) → o ≡ cond b o o
same_both true o = refl
same_both false o = refl

-- what is at a place once a row is put
pub get-put : (d : Dot) (o : Option Row) (m : RowMap) (p : Place) → map.get (put d o m) p ≡ cond (same_dot p.dot d) (first_some (keyed p.key o) (map.get m p)) (map.get m p)
get-put d None m p = same_both (same_dot p.dot d) (map.get m p)
get-put d (Some r) m p = get-insert_row m d r p ∙ first_or (same_dot p.dot d) (same_text p.key r.key) r (map.get m p)

first_same : (b : Bool) (o : Option Row) → first_some o (cond b o None) ≡ o
first_same true None = refl
first_same false None = refl
first_same b (Some x) = refl

-- what is at a place of all that f says
pub get-put_all : (f : Dot → Option Row) (ds : List Dot) (p : Place) → map.get (put_all f ds) p ≡ cond (has_dot ds p.dot) (keyed p.key (f p.dot)) None
get-put_all f [] p = map.get-empty place_cmp p
get-put_all f (d ∷ ds) p = get-put d (f d) (put_all f ds) p ∙ ap (λ o. cond (same_dot p.dot d) (first_some (keyed p.key (f d)) o) o) (get-put_all f ds p) ∙ go (same_dot p.dot d) refl
  where
    go : (b : Bool) → same_dot p.dot d ≡ b → cond b (first_some (keyed p.key (f d)) (cond (has_dot ds p.dot) (keyed p.key (f p.dot)) None)) (cond (has_dot ds p.dot) (keyed p.key (f p.dot)) None) ≡ cond (b || has_dot ds p.dot) (keyed p.key (f p.dot)) None
    go true e = ap (λ z. first_some (keyed p.key (f z)) (cond (has_dot ds p.dot) (keyed p.key (f p.dot)) None)) (sym (same_dot-true p.dot d e)) ∙ first_same (has_dot ds p.dot) (keyed p.key (f p.dot))
    go false e = refl

pub first_none : (o : Option Row) → first_some o None ≡ o
first_none None = refl
first_none (Some x) = refl

-- what is at a place once rows of different dots are inserted
pub get-with_rows : (m : RowMap) (xs : List (Dot × Row)) (p : Place) → IsDistinct same_dot (keys_of xs) → map.get (with_rows m xs) p ≡ first_some (keyed p.key (lookup (same_dot p.dot) xs)) (map.get m p)
get-with_rows m [] p h = refl
get-with_rows m (x ∷ xs) p h =
    get-with_rows (map.insert m (place_of x.0 x.1) x.1) xs p (IsDistinct-tail same_dot x.0 (keys_of xs) h)
    ∙ (ap (first_some (keyed p.key (lookup (same_dot p.dot) xs))) (get-insert_row m x.0 x.1 p) ∙ go (same_dot p.dot x.0) refl)
  where
    pick : (k : Bool) (o : Option Row) → cond (k && true) (Some x.1) o ≡ first_some (cond k (Some x.1) None) o
    pick true o = refl
    pick false o = refl

    skip : (k : Bool) (o : Option Row) → cond (k && false) (Some x.1) o ≡ o
    skip true o = refl
    skip false o = refl

    go : (b : Bool) → same_dot p.dot x.0 ≡ b → first_some (keyed p.key (lookup (same_dot p.dot) xs)) (cond (same_text p.key x.1.key && b) (Some x.1) (map.get m p)) ≡ first_some (keyed p.key (cond b (Some x.1) (lookup (same_dot p.dot) xs))) (map.get m p)
    go true e =
        let none : lookup (same_dot p.dot) xs ≡ None = lookup-none (same_dot p.dot) xs (none_past_head (eq_by_cmp_equiv dot_total) p.dot x xs h e) in
        ap (λ o. first_some (keyed p.key o) (cond (same_text p.key x.1.key && true) (Some x.1) (map.get m p))) none ∙ pick (same_text p.key x.1.key) (map.get m p)
    go false e = ap (first_some (keyed p.key (lookup (same_dot p.dot) xs))) (skip (same_text p.key x.1.key) (map.get m p))

-- a table of rows of different dots
pub get-of_rows : (xs : List (Dot × Row)) (p : Place) → IsDistinct same_dot (keys_of xs) → map.get (with_rows map.empty xs) p ≡ keyed p.key (lookup (same_dot p.dot) xs)
get-of_rows xs p h = get-with_rows map.empty xs p h ∙ (ap (first_some (keyed p.key (lookup (same_dot p.dot) xs))) (map.get-empty place_cmp p) ∙ first_none (keyed p.key (lookup (same_dot p.dot) xs)))

-- std's two insertions are one
put_is : (k : Place) (r : Row) (es : List (Place × Row)) → map.put place_cmp k r es ≡ insert_entry place_cmp es k r
put_is k r [] = refl
put_is k r (e ∷ es) = go (put_is k r es) (place_cmp k e.0)
  where
    go : map.put place_cmp k r es ≡ insert_entry place_cmp es k r → (o : Ordering) → by_order o ((k, r) ∷ e ∷ es) ((e.0, r) ∷ es) (e ∷ map.put place_cmp k r es) ≡ match_ordering o ((k, r) ∷ e ∷ es) ((e.0, r) ∷ es) (e ∷ insert_entry place_cmp es k r)
    go ih Less = refl
    go ih Equal = refl
    go ih Greater = ap (λ fs. e ∷ fs) ih

pub entries-with_rows : (m : RowMap) (xs : List (Dot × Row)) → map.entries (with_rows m xs) ≡ placed (map.entries m) xs
entries-with_rows m [] = refl
entries-with_rows m (x ∷ xs) =
    entries-with_rows (map.insert m (place_of x.0 x.1) x.1) xs
    ∙ ap (λ es. placed es xs) (map.entries-insert place_total m (place_of x.0 x.1) x.1 ∙ put_is (place_of x.0 x.1) x.1 (map.entries m))

-- a table without the places of another
pub get-missing_in : (others m : RowMap) (p : Place) → map.get (missing_in others m) p ≡ cond (is_some (map.get others p)) None (map.get m p)
get-missing_in others m p =
    map.get-retain_keys m (λ q. not (map.contains_key others q)) p (λ q e. ap (λ o. not (is_some o)) (map.get_tied place_total others p q e))
    ∙ turned (is_some (map.get others p))
  where
    turned : (b : Bool) → cond (not b) (map.get m p) None ≡ cond b None (map.get m p)
    turned true = refl
    turned false = refl

-- what holds of every row that is put

all_put : (P : Place × Row → Type 0) (k : Place) (r : Row) (es : List (Place × Row)) → P (k, r) → AllByRecursion P es → AllByRecursion P (map.put place_cmp k r es)
all_put P k r [] q a = (q, tt)
all_put P k r (e ∷ es) q a = go (all_put P k r es q a.1) (place_cmp k e.0) refl
  where
    go : AllByRecursion P (map.put place_cmp k r es) → (o : Ordering) → place_cmp k e.0 ≡ o → AllByRecursion P (by_order o ((k, r) ∷ e ∷ es) ((e.0, r) ∷ es) (e ∷ map.put place_cmp k r es))
    go ih Less i = (q, a)
    go ih Equal i = (subst (λ (z : Place). P (z, r)) (place_cmp-IsAntisymmetric k e.0 i) q, a.1)
    go ih Greater i = (a.0, ih)

no_entries : (es : List (Place × Row)) → length es ≡ 0 → es ≡ []
no_entries [] e = refl
no_entries (x ∷ es) e = absurd (omega arith)

-- the empty table has no entries
pub entries-empty : map.entries (map.empty {X = Row} {R = place_cmp}) ≡ []
entries-empty = no_entries (map.entries map.empty) (sym (map.len-entries map.empty) ∙ map.len-empty place_cmp Row)

pub all_put_all : (P : Place × Row → Type 0) (f : Dot → Option Row) → ((d : Dot) (r : Row) → f d ≡ Some r → P (place_of d r, r)) → (ds : List Dot) → AllByRecursion P (map.entries (put_all f ds))
all_put_all P f h [] = subst (AllByRecursion P) (sym entries-empty) tt
all_put_all P f h (d ∷ ds) = go (all_put_all P f h ds) (f d) refl
  where
    go : AllByRecursion P (map.entries (put_all f ds)) → (o : Option Row) → f d ≡ o → AllByRecursion P (map.entries (put d o (put_all f ds)))
    go ih None e = ih
    go ih (Some r) e = subst (AllByRecursion P) (sym (map.entries-insert place_total (put_all f ds) (place_of d r) r)) (all_put P (place_of d r) r (map.entries (put_all f ds)) (h d r e) ih)

-- rows of different dots, put to their places, are the table of these rows
pub table_of_placed : (xs : List (Dot × Row)) (m : RowMap) → IsDistinct same_dot (keys_of xs) → IsTableOf (λ d. lookup (same_dot d) xs) m → placed [] xs ≡ map.entries m
table_of_placed xs m h t =
    ap (λ es. placed es xs) (sym entries-empty)
    ∙ (sym (entries-with_rows map.empty xs) ∙ ap map.entries (same_rows (with_rows map.empty xs) m (λ p. get-of_rows xs p h ∙ sym (t p))))

-- tables by dot

-- one row put
pub get_put_at : (f g : Dot → Option Row) (k : Dot) (r : Row) (added : Option (Dot × Row)) → added ≡ Some (k, r) → ((d : Dot) → g d ≡ cond (same_dot k d) (Some r) (f d)) → (d : Dot) → g d ≡ first_some (row_at added d) (f d)
get_put_at f g k r added e h d = h d ∙ (go (same_dot d k) (same_dot-sym k d) ∙ ap (λ a. first_some (row_at a d) (f d)) (sym e))
  where
    go : (b : Bool) → same_dot k d ≡ b → cond (same_dot k d) (Some r) (f d) ≡ first_some (cond b (Some r) None) (f d)
    go true p = ap (λ c. cond c (Some r) (f d)) p
    go false p = ap (λ c. cond c (Some r) (f d)) p

-- one row moved
pub without_one : (f g : Dot → Option Row) (x : Dot) → ((d : Dot) → g d ≡ cond (same_dot x d) None (f d)) → (d : Dot) → g d ≡ without_dots (x ∷ []) f d
without_one f g x h d = h d ∙ ap (λ b. cond b None (f d)) (same_dot-sym x d ∙ or_none (same_dot d x))
  where
    or_none : (b : Bool) → b ≡ (b || false)
    or_none true = refl
    or_none false = refl

pub moved_one : (f s t : Dot → Option Row) (x : Dot) (row : Option Row) (added : Option (Dot × Row)) → row ≡ f x → ((d : Dot) → row_at added d ≡ cond (same_dot d x) row None) → ((d : Dot) → t d ≡ first_some (row_at added d) (s d)) → (d : Dot) → t d ≡ first_some (among (x ∷ []) f d) (s d)
moved_one f s t x row added e at h d = h d ∙ (ap (λ o. first_some o (s d)) (at d) ∙ go (same_dot d x) refl)
  where
    go : (b : Bool) → same_dot d x ≡ b → first_some (cond b row None) (s d) ≡ first_some (cond (b || false) (f d) None) (s d)
    go true p = ap (λ o. first_some o (s d)) (e ∙ ap f (sym (same_dot-true d x p)))
    go false p = refl

-- rows moved one after another
pub without_more : (f g : Dot → Option Row) (x : Dot) (xs : List Dot) → ((d : Dot) → g d ≡ without_dots (x ∷ []) f d) → (d : Dot) → without_dots (x ∷ xs) f d ≡ without_dots xs g d
without_more f g x xs h d = shape (same_dot d x) (has_dot xs d) (f d) ∙ ap (λ o. cond (has_dot xs d) None o) (sym (h d))
  where
    shape : (b c : Bool) (o : Option Row) → cond (b || c) None o ≡ cond c None (cond (b || false) None o)
    shape true true o = refl
    shape true false o = refl
    shape false c o = refl

pub among_more : (f g s t : Dot → Option Row) (x : Dot) (xs : List Dot) → ((d : Dot) → g d ≡ without_dots (x ∷ []) f d) → ((d : Dot) → t d ≡ first_some (among (x ∷ []) f d) (s d)) → (d : Dot) → first_some (among (x ∷ xs) f d) (s d) ≡ first_some (among xs g d) (t d)
among_more f g s t x xs h m d = shape (same_dot d x) (has_dot xs d) (f d) ∙ (λ i. first_some (cond (has_dot xs d) (sym (h d) i) None) (sym (m d) i))
  where
    shape : (b c : Bool) (o : Option Row) → first_some (cond (b || c) o None) (s d) ≡ first_some (cond c (cond (b || false) None o) None) (first_some (cond (b || false) o None) (s d))
    shape true true o = refl
    shape true false o = refl
    shape false true o = refl
    shape false false o = refl
