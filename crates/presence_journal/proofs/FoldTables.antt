-- What a table has at each place after rows are put in or taken out.
use Rattle.std.proofs.Common.{◌≡◌, Bool, true, false, cond, not, ◌&&◌, ◌||◌, T, List, [], ◌∷◌, Option, Some, None, refl, sym, ◌∙◌, ap, subst, arith, length}
use Rattle.std.specs.Prelude.{map as each, is_some}
use Rattle.std.specs.declared.cmp.Ordering.{Ordering}
use Rattle.std.specs.declared.cmp.Ordering.TheVariants.{Less, Equal, Greater}
use Rattle.std.specs.List.{list_any}
use Rattle.std.specs.Ordering.{eq_by_cmp, is_eq, is_lt, ordering_reverse}
use Rattle.std.specs.Cmp.{tied_itself}
use Rattle.std.specs.FinMap as map
use Rattle.std.specs.FinMap.Entries.{below_all}
use Rattle.presence_base.specs.declared.dots.Dot.{Dot}
use Rattle.presence_base.specs.declared.row.Row.{Row}
use Rattle.presence_journal.specs.declared.rows.Place.{Place}
use Rattle.presence_journal.specs.Present.{RowMap, place_cmp, place_of, in_order, missing_in, changes}
use Rattle.presence_journal.specs.Queue.{with_rows, without_rows}
use Rattle.presence_journal.specs.Laws.{IsPlaced, ChangesLead}
use Rattle.presence_journal.proofs.FoldOrder.{place_cmp_total, place_ties, same_place-is}

abbrev pub Placed : Type 0
Placed = Place × Row

-- each entry is what g answers at its place
abbrev pub AreOf : (Place → Option Row) → List Placed → Type 0
AreOf g [] = Unit {0}
AreOf g (e ∷ es) = (g e.0 ≡ Some e.1) × AreOf g es

abbrev pub at : List Placed → Place → Option Row
at es p = map.find place_cmp p es

both : (a b : Bool) → T (a && b) → T a × T b
both true b p = (tt, p)
both false b p = absurd p

greater : (e f : Place) → T (is_lt (place_cmp e f)) → is_eq (place_cmp f e) ≡ false
greater e f l = ap is_eq (place_cmp_total.antisymm f e) ∙ go (place_cmp e f) l
  where
    go : (o : Ordering) → T (is_lt o) → is_eq (ordering_reverse o) ≡ false
    go Less p = refl
    go Equal p = absurd p
    go Greater p = absurd p

later : (e : Placed) (es all : List Placed) → T (below_all place_cmp e.0 es) → AreOf (at all) es → AreOf (at (e ∷ all)) es
later e [] all b h = tt
later e (f ∷ es) all b h = let parts = both _ _ b in (rw (greater e.0 f.0 parts.0) h.0, later e es all parts.1 h.1)

-- in a list in order each entry is found
found : (es : List Placed) → T (map.is_sorted place_cmp es) → AreOf (at es) es
found [] s = tt
found (e ∷ es) s = let parts = both _ _ s in (ap (λ o. cond (is_eq o) (Some e.1) (at es e.0)) (tied_itself place_cmp_total e.0), later e es es parts.0 (found es parts.1))

pub entries_found : (m : RowMap) → AreOf (map.get m) (map.entries m)
entries_found m = subst (λ (g : Place → Option Row). AreOf g (map.entries m)) (λ i p. sym (map.get-entries m p) i) (found (map.entries m) (map.entries_sorted m))

abbrev pub HasKeys : (Place → Option Row) → Type 0
HasKeys g = (p : Place) (r : Row) → g p ≡ Some r → r.key ≡ p.key

own_place : (p : Place) (r : Row) → r.key ≡ p.key → place_of p.dot r ≡ p
own_place p r e = λ i. record { key = e i; dot = p.dot }

abbrev pub stripped : List Placed → List (Dot × Row)
stripped = each (λ e. (e.0.dot, e.1))

abbrev pub has_place : List Placed → Place → Bool
has_place es p = list_any (eq_by_cmp place_cmp p) (each (λ e. e.0) es)

get-with : (g : Place → Option Row) → HasKeys g → (es : List Placed) → AreOf g es → (m : RowMap) (p : Place) → map.get (with_rows m (stripped es)) p ≡ cond (has_place es p) (g p) (map.get m p)
get-with g k [] h m p = refl
get-with g k (e ∷ es) h m p =
    get-with g k es h.1 (map.insert m (place_of e.0.dot e.1) e.1) p
    ∙ (ap (cond (has_place es p) (g p)) (map.get-insert place_cmp_total m (place_of e.0.dot e.1) e.1 p ∙ ap (λ q. cond (eq_by_cmp place_cmp p q) (Some e.1) (map.get m p)) (own_place e.0 e.1 (k e.0 e.1 h.0)))
    ∙ go (eq_by_cmp place_cmp p e.0) (has_place es p) refl)
  where
    go : (b c : Bool) → eq_by_cmp place_cmp p e.0 ≡ b → cond c (g p) (cond b (Some e.1) (map.get m p)) ≡ cond (b || c) (g p) (map.get m p)
    go true true q = refl
    go true false q = sym h.0 ∙ ap g (sym (same_place-is p e.0 q))
    go false c q = refl

get-without : (g : Place → Option Row) → HasKeys g → (es : List Placed) → AreOf g es → (m : RowMap) (p : Place) → map.get (without_rows m (stripped es)) p ≡ cond (has_place es p) None (map.get m p)
get-without g k [] h m p = refl
get-without g k (e ∷ es) h m p =
    get-without g k es h.1 (map.remove m (place_of e.0.dot e.1)) p
    ∙ (ap (cond (has_place es p) None) (map.get-remove place_cmp_total m (place_of e.0.dot e.1) p ∙ ap (λ q. cond (eq_by_cmp place_cmp p q) None (map.get m p)) (own_place e.0 e.1 (k e.0 e.1 h.0)))
    ∙ go (eq_by_cmp place_cmp p e.0) (has_place es p))
  where
    go : (b c : Bool) → cond c None (cond b None (map.get m p)) ≡ cond (b || c) None (map.get m p)
    go true true = refl
    go true false = refl
    go false c = refl

pub get-put_in : (m n : RowMap) → IsPlaced n → (p : Place) → map.get (with_rows m (in_order n)) p ≡ cond (is_some (map.get n p)) (map.get n p) (map.get m p)
unfolding in_order
get-put_in m n k p = get-with (map.get n) k (map.entries n) (entries_found n) m p ∙ ap (λ b. cond b (map.get n p) (map.get m p)) (sym (map.contains_key-keys n p))

pub get-taken_out : (m n : RowMap) → IsPlaced n → (p : Place) → map.get (without_rows m (in_order n)) p ≡ cond (is_some (map.get n p)) None (map.get m p)
unfolding in_order
get-taken_out m n k p = get-without (map.get n) k (map.entries n) (entries_found n) m p ∙ ap (λ b. cond b None (map.get m p)) (sym (map.contains_key-keys n p))

pub same_rows : (m n : RowMap) → ((p : Place) → map.get m p ≡ map.get n p) → m ≡ n
same_rows = map.same_map place_cmp_total place_ties

-- a state gives back the table whose rows it has
pub state_is : (m : RowMap) → IsPlaced m → with_rows map.empty (in_order m) ≡ m
state_is m k = same_rows _ _ (λ p. get-put_in map.empty m k p ∙ ap (cond (is_some (map.get m p)) (map.get m p)) (map.get-empty place_cmp p) ∙ go (map.get m p))
  where
    go : (o : Option Row) → cond (is_some o) o None ≡ o
    go None = refl
    go (Some r) = refl

get-missing : (others m : RowMap) (p : Place) → map.get (missing_in others m) p ≡ cond (not (is_some (map.get others p))) (map.get m p) None
get-missing others m p = map.get-retain_keys m (λ q. not (map.contains_key others q)) p (λ x e. ap (λ q. not (map.contains_key others q)) (sym (place_ties p x e)))

missing_placed : (others m : RowMap) → IsPlaced m → IsPlaced (missing_in others m)
missing_placed others m k p r h = k p r (go (is_some (map.get others p)) (sym (get-missing others m p) ∙ h))
  where
    go : (b : Bool) → cond (not b) (map.get m p) None ≡ Some r → map.get m p ≡ Some r
    go true e = absurd (cc)
    go false e = e

pub changes_lead : ChangesLead
unfolding changes
changes_lead old new k l agrees = same_rows _ _ (λ p.
    get-taken_out (with_rows old (in_order (missing_in old new))) (missing_in new old) (missing_placed new old k) p
    ∙ ap (cond (is_some (map.get (missing_in new old) p)) None) (get-put_in old (missing_in old new) (missing_placed old new l) p)
    ∙ (λ i. cond (is_some (get-missing new old p i)) None (cond (is_some (get-missing old new p i)) (get-missing old new p i) (map.get old p)))
    ∙ go p (map.get old p) (map.get new p) refl refl)
  where
    go : (p : Place) (o n : Option Row) → map.get old p ≡ o → map.get new p ≡ n → cond (is_some (cond (not (is_some n)) o None)) None (cond (is_some (cond (not (is_some o)) n None)) (cond (not (is_some o)) n None) o) ≡ n
    go p None None e f = refl
    go p None (Some b) e f = refl
    go p (Some a) None e f = refl
    go p (Some a) (Some b) e f = ap Some (agrees p a b e f)

none_there : (es : List Placed) → length es ≡ 0 → es ≡ []
none_there [] e = refl
none_there (x ∷ es) e = absurd (omega arith)

pub entries-empty : map.entries (map.empty {X = Row} {R = place_cmp}) ≡ []
entries-empty = none_there _ (sym (map.len-entries (map.empty {X = Row} {R = place_cmp})) ∙ map.len-empty place_cmp Row)

-- between a table and itself nothing changes
pub no_changes : (m : RowMap) → changes m m ≡ record { joins = []; leaves = [] }
unfolding changes in_order
no_changes m = λ i. record { joins = stripped (none i); leaves = stripped (none i) }
  where
    go : (o : Option Row) → cond (not (is_some o)) o None ≡ None
    go None = refl
    go (Some r) = refl

    none : map.entries (missing_in m m) ≡ []
    none = ap map.entries (same_rows (missing_in m m) map.empty (λ p. get-missing m m p ∙ (go (map.get m p) ∙ sym (map.get-empty place_cmp p)))) ∙ entries-empty
