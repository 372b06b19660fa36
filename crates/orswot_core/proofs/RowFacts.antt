-- The rows that are live, as a map from dots.
use Rattle.std.proofs.Common.{◌≡◌, Bool, true, false, not, cond, ◌&&◌, ◌||◌, List, [], ◌∷◌, refl, sym, ◌∙◌, ap, Option, Some, None, Result, Ok, Err, OnOk, OnErr, is_some, true≢false}
use Rattle.std.specs.Ordering.{eq_by_cmp, is_eq}
use Rattle.std.specs.FinSet as set
use Rattle.std.specs.FinMap as map
use Rattle.std.specs.BTreeMap.{get}
use Rattle.std.specs.Map.{lookup}
use Rattle.std.proofs.lemmas.Map.Entries.{lookup-filter-keys}
use Rattle.std.specs.List.{filter, list_any}
use Rattle.presence_base.specs.declared.dots.Dot.{Dot}
use Rattle.presence_base.specs.Order.{dot_cmp, same_dot}
use Rattle.dot_context.specs.Sets.{DotSet}
use Rattle.orswot_core.proofs.OrderFacts.{dot_total, dot_antisymmetric, is_tied, flipped, dots_equal}
use Rattle.presence_base.specs.declared.row.Row.{Row}
use Rattle.orswot_core.specs.Sets.{Rows, LiveRows, DotRows, rows_of, first_row, joined_row, is_left, is_missing}

pub find_is : (es : List (Dot × Row)) (q : Dot) → map.find dot_cmp q es ≡ lookup (λ k. is_eq (dot_cmp q k)) es
find_is [] q = refl
find_is (e ∷ es) q = ap (cond (eq_by_cmp dot_cmp q e.0) (Some e.1)) (find_is es q)

pub seen_row : (m : Rows) (q : Dot) → map.get (rows_of m.entries) q ≡ get dot_cmp m q
seen_row m q = map.get-from_entries dot_total m.entries q ∙ find_is m.entries q

pub row_put : (m n : Rows) (live : LiveRows) (d : Dot) (r : Row) → rows_of m.entries ≡ live
    → ((q : Dot) → get dot_cmp n q ≡ cond (eq_by_cmp dot_cmp d q) (Some r) (get dot_cmp m q)) → rows_of n.entries ≡ map.insert live d r
row_put m n live d r e step = map.same_map dot_total dot_antisymmetric (rows_of n.entries) (map.insert live d r) (λ q.
    seen_row n q ∙ step q
    ∙ ap (λ b. cond b (Some r) (get dot_cmp m q)) (flipped d q)
    ∙ ap (cond (eq_by_cmp dot_cmp q d) (Some r)) (sym (seen_row m q) ∙ ap (λ l. map.get l q) e)
    ∙ sym (map.get-insert dot_total live d r q))

pub rows_same : (m n : Rows) (live : LiveRows) → rows_of m.entries ≡ live → ((q : Dot) → get dot_cmp n q ≡ get dot_cmp m q) → rows_of n.entries ≡ live
rows_same m n live e step = map.same_map dot_total dot_antisymmetric (rows_of n.entries) live (λ q. seen_row n q ∙ step q ∙ sym (seen_row m q) ∙ ap (λ l. map.get l q) e)

back_again : (same : Bool) (o : Option Row) (r : Row) → (same ≡ true → o ≡ None) → cond same None (cond same (Some r) o) ≡ o
back_again true o r f = sym (f refl)
back_again false o r f = refl

pub taken_back : (old mid new : Rows) (d : Dot) (r : Row) → get dot_cmp old d ≡ None
    → ((q : Dot) → get dot_cmp mid q ≡ cond (eq_by_cmp dot_cmp d q) (Some r) (get dot_cmp old q))
    → ((q : Dot) → get dot_cmp new q ≡ cond (eq_by_cmp dot_cmp d q) None (get dot_cmp mid q))
    → (q : Dot) → get dot_cmp new q ≡ get dot_cmp old q
taken_back old mid new d r none step step' q =
    step' q
    ∙ ap (cond (eq_by_cmp dot_cmp d q) None) (step q)
    ∙ back_again (eq_by_cmp dot_cmp d q) (get dot_cmp old q) r (λ same. ap (get dot_cmp old) (sym (dot_antisymmetric d q (is_tied (dot_cmp d q) same))) ∙ none)

pub by_result : {A E P Q X : Type 0} (r : Result A E) → OnOk r P → OnErr r Q → (P → X) → (Q → X) → X
by_result (Ok x) p q f g = f p
by_result (Err e) p q f g = g q

pub on_ok : {A E P Q : Type 0} (r : Result A E) → (P → Q) → OnOk r P → OnOk r Q
on_ok (Ok x) f h = f h
on_ok (Err e) f h = tt

pub on_err : {A E P Q : Type 0} (r : Result A E) → (P → Q) → OnErr r P → OnErr r Q
on_err (Ok x) f h = tt
on_err (Err e) f h = f h

pub same_rows : (v w : DotRows) → v.covered ≡ w.covered → v.live ≡ w.live → v ≡ w
same_rows v w e e' = λ i. record { covered = e i; live = e' i }

pub after_filter : (m n : Rows) (p : Dot → Bool) (q : Dot) → n.entries ≡ filter (λ e. p e.0) m.entries → get dot_cmp n q ≡ cond (p q) (get dot_cmp m q) None
after_filter m n p q e =
    ap (lookup (λ k. is_eq (dot_cmp q k))) e
    ∙ lookup-filter-keys (λ k. is_eq (dot_cmp q k)) p (p q) (λ k same. ap p (sym (dot_antisymmetric q k (is_tied (dot_cmp q k) same)))) m.entries

stepped : (same : Bool) (a rest goal : Option Row) (r : Row) → (same ≡ true → Some r ≡ goal) → first_row a (cond same (Some r) rest) ≡ goal → first_row (cond same (Some r) a) rest ≡ goal
stepped true a rest goal r f h = f refl
stepped false a rest goal r f h = h

skipped : (same : Bool) (a rest goal : Option Row) (r : Row) → (same ≡ true → ⊥) → first_row a (cond same (Some r) rest) ≡ goal → first_row a rest ≡ goal
skipped true a rest goal r f h = absurd (f refl)
skipped false a rest goal r f h = h

abbrev pub row_in : List (Dot × Row) → Dot → Option Row
row_in es q = lookup (λ k. is_eq (dot_cmp q k)) es

pub moved_first : (m others : Rows) (es : List (Dot × Row)) (q : Dot) → es ≡ others.entries → get dot_cmp m q ≡ None → first_row (get dot_cmp m q) (row_in es q) ≡ get dot_cmp others q
moved_first m others es q e none = ap (λ o. first_row o (row_in es q)) none ∙ ap (λ l. row_in l q) e

pub moved_one : (m n others : Rows) (k : Dot) (r row : Row) (all es : List (Dot × Row)) (q : Dot) → row ≡ r → get dot_cmp others k ≡ Some r → all ≡ (k, r) ∷ es
    → ((x : Dot) → get dot_cmp n x ≡ cond (eq_by_cmp dot_cmp k x) (Some row) (get dot_cmp m x))
    → first_row (get dot_cmp m q) (row_in all q) ≡ get dot_cmp others q → first_row (get dot_cmp n q) (row_in es q) ≡ get dot_cmp others q
moved_one m n others k r row all es q e' found split step before =
    ap (λ o. first_row o (row_in es q)) (step q ∙ ap (λ x. cond (eq_by_cmp dot_cmp k q) (Some x) (get dot_cmp m q)) e' ∙ ap (λ b. cond b (Some r) (get dot_cmp m q)) (flipped k q))
    ∙ stepped (eq_by_cmp dot_cmp q k) (get dot_cmp m q) (row_in es q) (get dot_cmp others q) r
    (λ same. sym found ∙ ap (get dot_cmp others) (sym (dot_antisymmetric q k (is_tied (dot_cmp q k) same))))
    (ap (λ l. first_row (get dot_cmp m q) (row_in l q)) (sym split) ∙ before)

pub skip_one : (m others : Rows) (s : DotSet) (k : Dot) (r : Row) (all es : List (Dot × Row)) (q : Dot) → set.contains s k ≡ true → set.contains s q ≡ false → all ≡ (k, r) ∷ es
    → first_row (get dot_cmp m q) (row_in all q) ≡ get dot_cmp others q → first_row (get dot_cmp m q) (row_in es q) ≡ get dot_cmp others q
skip_one m others s k r all es q covered not_covered split before =
    skipped (eq_by_cmp dot_cmp q k) (get dot_cmp m q) (row_in es q) (get dot_cmp others q) r
    (λ same. true≢false (sym covered ∙ ap (set.contains s) (sym (dot_antisymmetric q k (is_tied (dot_cmp q k) same))) ∙ not_covered))
    (ap (λ l. first_row (get dot_cmp m q) (row_in l q)) (sym split) ∙ before)

not_same : (same : Bool) (a b : Option Row) → (same ≡ true → ⊥) → cond same a b ≡ b
not_same true a b f = absurd (f refl)
not_same false a b f = refl

pub kept_one : (m n old : Rows) (p : Dot → Bool) (k : Dot) (row : Row) (q : Dot) → p k ≡ true → p q ≡ false
    → ((x : Dot) → get dot_cmp n x ≡ cond (eq_by_cmp dot_cmp k x) (Some row) (get dot_cmp m x)) → get dot_cmp m q ≡ get dot_cmp old q → get dot_cmp n q ≡ get dot_cmp old q
kept_one m n old p k row q there not_there step before =
    step q
    ∙ not_same (eq_by_cmp dot_cmp k q) (Some row) (get dot_cmp m q) (λ same. true≢false (sym there ∙ ap p (dot_antisymmetric k q (is_tied (dot_cmp k q) same)) ∙ not_there))
    ∙ before

pub missing_found : (covers : Bool) (o : Option Row) (r : Row) → covers ≡ false → o ≡ Some r → is_missing covers o ≡ true
missing_found covers o r e e' = ap (λ b. is_missing b o) e ∙ ap (is_missing false) e'

pub none_missing : (o : Option Row) → is_missing true o ≡ false
none_missing o = refl

pub uncovered_none : (o : Option Row) (c : Bool) → (is_some o ≡ true → c ≡ true) → c ≡ false → o ≡ None
uncovered_none None c f e = refl
uncovered_none (Some r) c f e = absurd (true≢false (sym (f refl) ∙ e))

held_side : (o o' : Option Row) (c' : Bool) → cond (not c' || is_some o') o None ≡ joined_row o true o' c'
held_side None None true = refl
held_side None None false = refl
held_side None (Some r) true = refl
held_side None (Some r) false = refl
held_side (Some r) None true = refl
held_side (Some r) None false = refl
held_side (Some r) (Some r') true = refl
held_side (Some r) (Some r') false = refl

other_side : (o' : Option Row) (c' : Bool) → cond (not c' || is_some o') o' None ≡ joined_row None false o' c'
other_side None true = refl
other_side None false = refl
other_side (Some r) true = refl
other_side (Some r) false = refl

pub joined_at : (o mid o' : Option Row) (c c' : Bool) → (is_some o ≡ true → c ≡ true) → (c ≡ true → mid ≡ o) → (c ≡ false → o ≡ None → mid ≡ o') → cond (not c' || is_some o') mid None ≡ joined_row o c o' c'
joined_at o mid o' true c' f g h = ap (λ x. cond (not c' || is_some o') x None) (g refl) ∙ held_side o o' c'
joined_at o mid o' false c' f g h =
    let none = uncovered_none o false f refl in
    ap (λ x. cond (not c' || is_some o') x None) (h refl none) ∙ other_side o' c' ∙ ap (λ x. joined_row x false o' c') (sym none)

pub put_back_at : (o mid : Option Row) (c : Bool) → (is_some o ≡ true → c ≡ true) → (c ≡ true → mid ≡ o) → cond c mid None ≡ o
put_back_at o mid true f g = g refl
put_back_at o mid false f g = sym (uncovered_none o false f refl)

-- a loop over dots takes out one row after another
pub taken_one : (m n : Rows) (d : Dot) (xs rest : List Dot) (q : Dot) → xs ≡ d ∷ rest → ((x : Dot) → get dot_cmp n x ≡ cond (same_dot d x) None (get dot_cmp m x))
    → cond (list_any (same_dot q) rest) None (get dot_cmp n q) ≡ cond (list_any (same_dot q) xs) None (get dot_cmp m q)
taken_one m n d xs rest q split step =
    ap (cond (list_any (same_dot q) rest) None) (step q ∙ ap (λ b. cond b None (get dot_cmp m q)) (flipped d q))
    ∙ either (list_any (same_dot q) rest) (same_dot q d) (get dot_cmp m q)
    ∙ ap (λ l. cond (list_any (same_dot q) l) None (get dot_cmp m q)) (sym split)
  where
    either : (a b : Bool) (o : Option Row) → cond a None (cond b None o) ≡ cond (b || a) None o
    either true true o = refl
    either true false o = refl
    either false true o = refl
    either false false o = refl

-- a loop over rows inserts the first of each dot
pub kept_first : (m n : Rows) (x : Dot × Row) (all es : List (Dot × Row)) (q : Dot) → all ≡ x ∷ es
    → get dot_cmp n q ≡ first_row (get dot_cmp m q) (cond (same_dot q x.0) (Some x.1) None)
    → first_row (get dot_cmp n q) (row_in es q) ≡ first_row (get dot_cmp m q) (row_in all q)
kept_first m n x all es q split step =
    ap (λ o. first_row o (row_in es q)) step
    ∙ placed (same_dot q x.0) (get dot_cmp m q) (row_in es q) x.1
    ∙ ap (λ l. first_row (get dot_cmp m q) (row_in l q)) (sym split)
  where
    placed : (same : Bool) (a rest : Option Row) (r : Row) → first_row (first_row a (cond same (Some r) None)) rest ≡ first_row a (cond same (Some r) rest)
    placed same (Some x) rest r = refl
    placed true None rest r = refl
    placed false None rest r = refl

had_one : (same : Bool) (o : Option Row) (r : Row) → (same ≡ true → is_some o ≡ true) → o ≡ first_row o (cond same (Some r) None)
had_one same (Some x) r f = refl
had_one true None r f = absurd (true≢false (sym (f refl)))
had_one false None r f = refl

pub had_first : (m : Rows) (x : Dot × Row) (q : Dot) → is_some (get dot_cmp m x.0) ≡ true → get dot_cmp m q ≡ first_row (get dot_cmp m q) (cond (same_dot q x.0) (Some x.1) None)
had_first m x q some = had_one (same_dot q x.0) (get dot_cmp m q) x.1 (λ same. ap (λ d. is_some (get dot_cmp m d)) (dots_equal q x.0 same) ∙ some)

gets_one : (same : Bool) (o : Option Row) (r : Row) → (same ≡ true → is_some o ≡ false) → cond same (Some r) o ≡ first_row o (cond same (Some r) None)
gets_one true None r f = refl
gets_one true (Some x) r f = absurd (true≢false (f refl))
gets_one false None r f = refl
gets_one false (Some x) r f = refl

pub gets_first : (m n : Rows) (x : Dot × Row) (row : Row) (q : Dot) → is_some (get dot_cmp m x.0) ≡ false → row ≡ x.1
    → get dot_cmp n q ≡ cond (same_dot x.0 q) (Some row) (get dot_cmp m q) → get dot_cmp n q ≡ first_row (get dot_cmp m q) (cond (same_dot q x.0) (Some x.1) None)
gets_first m n x row q none e' step =
    step ∙ ap (λ r. cond (same_dot x.0 q) (Some r) (get dot_cmp m q)) e' ∙ ap (λ b. cond b (Some x.1) (get dot_cmp m q)) (flipped x.0 q)
    ∙ gets_one (same_dot q x.0) (get dot_cmp m q) x.1 (λ same. ap (λ d. is_some (get dot_cmp m d)) (dots_equal q x.0 same) ∙ none)

pub first_done : (o : Option Row) → first_row o None ≡ o
first_done None = refl
first_done (Some r) = refl

pub unchanged : (m n : Rows) (q : Dot) → n.entries ≡ m.entries → get dot_cmp n q ≡ get dot_cmp m q
unchanged m n q e = ap (λ l. row_in l q) e

-- what is kept, inserted and then taken out makes the join with a told value
pub told_at : (o mid new there : Option Row) (c t gone : Bool) → (is_some o ≡ true → c ≡ true) → (c ≡ true → mid ≡ o) → (c ≡ false → o ≡ None → mid ≡ there)
    → gone ≡ (is_left o there && t) → new ≡ cond gone None mid → new ≡ joined_row o c there t
told_at o mid new there true t gone f g h e step = step ∙ ap (λ b. cond b None mid) e ∙ ap (cond (is_left o there && t) None) (g refl) ∙ here o there t
  where
    here : (o there : Option Row) (t : Bool) → cond (is_left o there && t) None o ≡ joined_row o true there t
    here None None t = refl
    here None (Some r) t = refl
    here (Some r) None t = refl
    here (Some r) (Some r') t = refl
told_at o mid new there false t gone f g h e step =
    let none = uncovered_none o false f refl in
    step ∙ ap (λ b. cond b None mid) e ∙ ap (λ x. cond (is_left x there && t) None mid) none ∙ h refl none ∙ other there t ∙ ap (λ x. joined_row x false there t) (sym none)
  where
    other : (there : Option Row) (t : Bool) → there ≡ joined_row None false there t
    other None t = refl
    other (Some r) t = refl
