-- What a set holds stays sound: a row only where it covers, and all within their limits.
use Rattle.std.proofs.Common.{◌≡◌, ℕ, ◌≤◌, Bool, true, false, not, cond, ◌&&◌, ◌||◌, nat_le, nat_lt, List, [], ◌∷◌, refl, sym, ◌∙◌, ap, Option, Some, None, is_some, true≢false, arith}
use Rattle.std.proofs.lemmas.Bool.Decides.{nat_tests}
use Rattle.std.specs.List.{list_any, list_all}
use Rattle.std.specs.Map.{lookup}
use Rattle.std.specs.FinSet as set
use Rattle.std.specs.FinMap as map
use Rattle.std.specs.BTreeMap.{get}
use Rattle.presence_base.specs.declared.dots.TheConstants.{MAX_COUNT}
use Rattle.presence_base.specs.declared.dots.Dot.{Dot}
use Rattle.presence_base.specs.declared.dots.Replica.{Replica}
use Rattle.presence_base.specs.declared.row.Row.{Row}
use Rattle.presence_base.specs.Order.{dot_cmp, same_dot, same_replica}
use Rattle.dot_context.specs.Sets.{DotSet, others_dots}
use Rattle.dot_context.proofs.SetFacts.{contains-without}
use Rattle.orswot_core.specs.Limits.{is_count, is_dot, is_row, is_range}
use Rattle.orswot_core.specs.Telling.{Range, ToldValue, range_has, covers, live_row}
use Rattle.orswot_core.specs.Checks.{IsTold}
use Rattle.orswot_core.specs.Sets.{Rows, DotRows, LiveRows, rows_of, seen, is_sound, IsSound, joined_row, IsJoin, without_rows, removed, without_replica}
use Rattle.orswot_core.specs.Steps.{Removes}
use Rattle.orswot_core.proofs.OrderFacts.{dot_total, dot_antisymmetric, dots_equal, replicas_equal, flipped}
use Rattle.orswot_core.proofs.RowFacts.{seen_row, same_rows}

pub sound_at : (s : DotSet) (m : Rows) → IsSound s (rows_of m.entries) → (q : Dot) → is_sound q (set.contains s q) (get dot_cmp m q) ≡ true
sound_at s m h q = ap (is_sound q (set.contains s q)) (sym (seen_row m q)) ∙ h q

pub sound_by : (s : DotSet) (m : Rows) → ((q : Dot) → is_sound q (set.contains s q) (get dot_cmp m q) ≡ true) → IsSound s (rows_of m.entries)
sound_by s m h q = ap (is_sound q (set.contains s q)) (seen_row m q) ∙ h q

-- the same covered dots and the same look-ups are as sound
pub sound_like : (s t : DotSet) (m n : Rows) → t ≡ s → ((q : Dot) → get dot_cmp n q ≡ get dot_cmp m q) → IsSound s (rows_of m.entries) → IsSound t (rows_of n.entries)
sound_like s t m n e same h = sound_by t n (λ q. ap (λ x. is_sound q (set.contains x q) (get dot_cmp n q)) e ∙ ap (is_sound q (set.contains s q)) (same q) ∙ sound_at s m h q)

pub only_covered : (d : Dot) (c : Bool) (o : Option Row) → is_sound d c o ≡ true → is_some o ≡ true → c ≡ true
only_covered d true o h some = refl
only_covered d false None h some = absurd (cc)
only_covered d false (Some r) h some = absurd (cc)

pub none_uncovered : (d : Dot) (c : Bool) (o : Option Row) → is_sound d c o ≡ true → c ≡ false → o ≡ None
none_uncovered d true o h e = absurd (cc)
none_uncovered d false None h e = refl
none_uncovered d false (Some r) h e = absurd (cc)

pub live_is_covered : (s : DotSet) (m : Rows) → IsSound s (rows_of m.entries) → (q : Dot) → is_some (get dot_cmp m q) ≡ true → set.contains s q ≡ true
live_is_covered s m h q = only_covered q (set.contains s q) (get dot_cmp m q) (sound_at s m h q)

covered_dot : (d : Dot) (o : Option Row) → is_sound d true o ≡ true → is_dot d ≡ true
covered_dot d None h = h
covered_dot d (Some r) h = left (is_dot d) (is_row r) h
  where
    left : (a b : Bool) → (a && b) ≡ true → a ≡ true
    left true b h = refl
    left false b h = absurd (cc)

-- a join of sound ones is sound
pub joined_sound : (d : Dot) (c c' : Bool) (o o' : Option Row) → is_sound d c o ≡ true → is_sound d c' o' ≡ true → is_sound d (c || c') (joined_row o c o' c') ≡ true
joined_sound d true c' (Some r) (Some r') h h' = h
joined_sound d true true (Some r) None h h' = h'
joined_sound d true false (Some r) None h h' = h
joined_sound d true c' None (Some r') h h' = h
joined_sound d true c' None None h h' = h
joined_sound d false c' (Some r) o' h h' = absurd (true≢false (sym h))
joined_sound d false true None (Some r') h h' = h'
joined_sound d false true None None h h' = h'
joined_sound d false false None (Some r') h h' = absurd (true≢false (sym h'))
joined_sound d false false None None h h' = refl

pub added_sound : (d : Dot) (same c : Bool) (o : Option Row) (r : Row) → (same ≡ true → is_dot d ≡ true) → is_row r ≡ true → is_sound d c o ≡ true → is_sound d (same || c) (cond same (Some r) o) ≡ true
added_sound d true c o r f limited h = ap (λ b. b && is_row r) (f refl) ∙ limited
added_sound d false c o r f limited h = h

pub removed_sound : (d : Dot) (event c gone : Bool) (o : Option Row) → (event ≡ true → is_dot d ≡ true) → (gone ≡ true → is_dot d ≡ true) → is_sound d c o ≡ true → is_sound d (event || (c || gone)) (cond gone None o) ≡ true
removed_sound d true c true o f g h = f refl
removed_sound d true true false o f g h = h
removed_sound d true false false None f g h = f refl
removed_sound d true false false (Some r) f g h = absurd (true≢false (sym h))
removed_sound d false true true o f g h = covered_dot d o h
removed_sound d false false true o f g h = g refl
removed_sound d false true false o f g h = h
removed_sound d false false false o f g h = h

pub left_sound : (d : Dot) (same c : Bool) (o : Option Row) → is_sound d c o ≡ true → is_sound d (c && not same) (cond (not same) o None) ≡ true
left_sound d true true o h = refl
left_sound d true false o h = refl
left_sound d false true o h = h
left_sound d false false o h = h

both_parts : (a b : Bool) → (a && b) ≡ true → (a ≡ true) × (b ≡ true)
both_parts true b h = (refl, h)
both_parts false b h = absurd (cc)

count_within : (from to n : ℕ) → (nat_lt from n && nat_le n to) ≡ true → nat_le to MAX_COUNT ≡ true → is_count n ≡ true
count_within from to n h le = bound MAX_COUNT from to n h le
  where
    bound : (top from to n : ℕ) → (nat_lt from n && nat_le n to) ≡ true → nat_le to top ≡ true → (nat_le 1 n && nat_le n top) ≡ true
    bound top from to n h le = grind (arith, nat_tests)

range_dot : (d : Dot) (g : Range) → is_range g ≡ true → range_has d g ≡ true → is_dot d ≡ true
range_dot d g limited has =
    let here = both_parts (same_replica d.replica g.0) (nat_lt g.1 d.count && nat_le d.count g.2) has in
    let limits = both_parts (is_count g.0.incarnation) (nat_le g.1 MAX_COUNT && nat_le g.2 MAX_COUNT) limited in
    let ends = both_parts (nat_le g.1 MAX_COUNT) (nat_le g.2 MAX_COUNT) limits.1 in
    ap (λ (r : Replica). is_count r.incarnation && is_count d.count) (replicas_equal d.replica g.0 here.0)
    ∙ ap (λ b. b && is_count d.count) limits.0 ∙ count_within g.1 g.2 d.count here.1 ends.1

any_of_all : {A : Type 0} (p t : A → Bool) {P : Type 0} → ((x : A) → p x ≡ true → t x ≡ true → P) → (xs : List A) → list_all p xs ≡ true → list_any t xs ≡ true → P
any_of_all p t f [] all any = absurd (cc)
any_of_all {A = A} p t {P = P} f (x ∷ xs) all any =
    let parts = both_parts (p x) (list_all p xs) all in
    pick (t x) (list_any t xs) any (f x parts.0) (any_of_all p t f xs parts.1)
  where
    pick : {Q : Type 0} (a b : Bool) → (a || b) ≡ true → (a ≡ true → Q) → (b ≡ true → Q) → Q
    pick true b h f g = f refl
    pick false b h f g = g h

told_dot : (t : ToldValue) → IsTold t → (d : Dot) → covers t d ≡ true → is_dot d ≡ true
told_dot t h d has = pick (list_any (range_has d) t.ranges) (list_any (same_dot d) t.extras) has
    (any_of_all is_range (range_has d) (λ g. range_dot d g) t.ranges h.ranges)
    (any_of_all is_dot (same_dot d) (λ e limited same. ap is_dot (dots_equal d e same) ∙ limited) t.extras h.extras)
  where
    pick : {Q : Type 0} (a b : Bool) → (a || b) ≡ true → (a ≡ true → Q) → (b ≡ true → Q) → Q
    pick true b h f g = f refl
    pick false b h f g = g h

found_in : (p : Dot × Row → Bool) (d : Dot) (r : Row) (xs : List (Dot × Row)) → list_all p xs ≡ true → lookup (same_dot d) xs ≡ Some r → p (d, r) ≡ true
found_in p d r [] all e = absurd (cc)
found_in p d r (x ∷ xs) all e =
    let parts = both_parts (p x) (list_all p xs) all in
    pick (same_dot d x.0) x.1 (lookup (same_dot d) xs) e (λ same row. ap p (pairs same row) ∙ parts.0) (found_in p d r xs parts.1)
  where
    pairs : (same_dot d x.0 ≡ true) → x.1 ≡ r → (d, r) ≡ x
    pairs same row = λ i. (dots_equal d x.0 same i, sym row i)

    pick : {Q : Type 0} (same : Bool) (y : Row) (rest : Option Row) → cond same (Some y) rest ≡ Some r → (same ≡ true → y ≡ r → Q) → (rest ≡ Some r → Q) → Q
    pick true y rest h f g = f refl (cc)
    pick false y rest h f g = g h

-- a told value tells a row only where it covers, and all within their limits
pub told_sound : (t : ToldValue) → IsTold t → (d : Dot) → is_sound d (covers t d) (live_row t d) ≡ true
told_sound t h d = by_row (covers t d) (live_row t d) (told_dot t h d)
    (λ r e. found_in (λ x. covers t x.0) d r t.live h.covered e)
    (λ r e. (both_parts (is_dot d) (is_row r) (found_in (λ x. is_dot x.0 && is_row x.1) d r t.live h.rows e)).1)
  where
    by_row : (c : Bool) (o : Option Row) → (c ≡ true → is_dot d ≡ true) → ((r : Row) → o ≡ Some r → c ≡ true) → ((r : Row) → o ≡ Some r → is_row r ≡ true) → is_sound d c o ≡ true
    by_row true None f g k = f refl
    by_row false None f g k = refl
    by_row true (Some r) f g k = ap (λ b. b && is_row r) (f refl) ∙ k r refl
    by_row false (Some r) f g k = absurd (true≢false (sym (g r refl)))

pub dot_counted : (d : Dot) → is_dot d ≡ true → 1 ≤ d.count
dot_counted d h = n_above d.count (both_parts (nat_le 1 d.count) (nat_le d.count MAX_COUNT) (both_parts (is_count d.replica.incarnation) (is_count d.count) h).1).0
  where
    n_above : (n : ℕ) → nat_le 1 n ≡ true → 1 ≤ n
    n_above n h = grind (arith, nat_tests)

pub nothing_sound : (s : DotSet) (m : Rows) → s ≡ set.empty → m.entries ≡ [] → IsSound s (rows_of m.entries)
nothing_sound s m e none = sound_by s m (λ q.
    ap (λ x. is_sound q (set.contains x q) (get dot_cmp m q)) e
    ∙ ap (λ b. is_sound q b (get dot_cmp m q)) (set.contains-empty dot_cmp q)
    ∙ ap (λ l. is_sound q false (lookup (same_dot q) l)) none)

pub add_keeps : (s t : DotSet) (m n : Rows) (d : Dot) (r : Row) → is_dot d ≡ true → is_row r ≡ true → IsSound s (rows_of m.entries) → t ≡ set.insert s d
    → ((q : Dot) → get dot_cmp n q ≡ cond (same_dot d q) (Some r) (get dot_cmp m q)) → IsSound t (rows_of n.entries)
add_keeps s t m n d r hd hr h e step = sound_by t n (λ q.
    ap (λ x. is_sound q (set.contains x q) (get dot_cmp n q)) e
    ∙ ap (λ b. is_sound q b (get dot_cmp n q)) (set.contains-insert dot_total s d q)
    ∙ ap (is_sound q (same_dot q d || set.contains s q)) (step q ∙ ap (λ b. cond b (Some r) (get dot_cmp m q)) (flipped d q))
    ∙ added_sound q (same_dot q d) (set.contains s q) (get dot_cmp m q) r (λ same. ap is_dot (dots_equal q d same) ∙ hd) hr (sound_at s m h q))

-- what a step leaves at each dot is the join with what covers and has rows so
abbrev pub Joins : DotSet → Rows → (Dot → Bool) → (Dot → Option Row) → DotSet → Rows → Type 0
Joins s m has row t n = (q : Dot) → (set.contains t q ≡ (set.contains s q || has q)) × (get dot_cmp n q ≡ joined_row (get dot_cmp m q) (set.contains s q) (row q) (has q))

pub join_keeps : (s t : DotSet) (m n : Rows) (has : Dot → Bool) (row : Dot → Option Row) → ((q : Dot) → is_sound q (has q) (row q) ≡ true) → IsSound s (rows_of m.entries) → Joins s m has row t n → IsSound t (rows_of n.entries)
join_keeps s t m n has row other h step = sound_by t n (λ q.
    ap (λ b. is_sound q b (get dot_cmp n q)) ((step q).0)
    ∙ ap (is_sound q (set.contains s q || has q)) ((step q).1)
    ∙ joined_sound q (set.contains s q) (has q) (get dot_cmp m q) (row q) (sound_at s m h q) (other q))

pub is_join : (s t : DotSet) (m n : Rows) (v : DotRows) (has : Dot → Bool) (row : Dot → Option Row) → seen s m ≡ v → Joins s m has row t n → IsJoin v has row (seen t n)
is_join s t m n v has row e step = λ q. (
  (step q).0 ∙ ap (λ x. set.contains x.covered q || has q) e,
  seen_row n q ∙ (step q).1
      ∙ ap (λ o. joined_row o (set.contains s q) (row q) (has q)) (sym (seen_row m q))
      ∙ ap (λ x. joined_row (map.get x.live q) (set.contains x.covered q) (row q) (has q)) e,
)

pub joins_other : (s t o : DotSet) (m n om : Rows) (w : DotRows) → seen o om ≡ w → t ≡ set.union s o
    → ((q : Dot) → get dot_cmp n q ≡ joined_row (get dot_cmp m q) (set.contains s q) (get dot_cmp om q) (set.contains o q)) → Joins s m (set.contains w.covered) (map.get w.live) t n
joins_other s t o m n om w e union step = λ q. (
  ap (λ x. set.contains x q) union ∙ set.contains-union dot_total s o q ∙ ap (λ x. set.contains s q || set.contains x.covered q) e,
  step q ∙ ap (λ x. joined_row (get dot_cmp m q) (set.contains s q) x (set.contains o q)) (sym (seen_row om q))
      ∙ ap (λ x. joined_row (get dot_cmp m q) (set.contains s q) (map.get x.live q) (set.contains x.covered q)) e,
)

pub other_sound : (o : DotSet) (om : Rows) (w : DotRows) → seen o om ≡ w → IsSound o (rows_of om.entries) → (q : Dot) → is_sound q (set.contains w.covered q) (map.get w.live q) ≡ true
other_sound o om w e h q = ap (λ x. is_sound q (set.contains x.covered q) (map.get x.live q)) (sym e) ∙ h q

pub remove_keeps : (s t : DotSet) (m n : Rows) (ds : List Dot) (event : Dot) → list_all is_dot ds ≡ true → is_dot event ≡ true → IsSound s (rows_of m.entries) → Removes s m ds event t n → IsSound t (rows_of n.entries)
remove_keeps s t m n ds event hds he h step = sound_by t n (λ q.
    ap (λ b. is_sound q b (get dot_cmp n q)) ((step q).0)
    ∙ ap (is_sound q (same_dot q event || (set.contains s q || list_any (same_dot q) ds))) ((step q).1)
    ∙ removed_sound q (same_dot q event) (set.contains s q) (list_any (same_dot q) ds) (get dot_cmp m q)
    (λ same. ap is_dot (dots_equal q event same) ∙ he)
    (any_of_all is_dot (same_dot q) (λ x limited same. ap is_dot (dots_equal q x same) ∙ limited) ds hds)
    (sound_at s m h q))

pub without_rows_at : (m : LiveRows) (ds : List Dot) (q : Dot) → map.get (without_rows m ds) q ≡ cond (list_any (same_dot q) ds) None (map.get m q)
without_rows_at m [] q = refl
without_rows_at m (d ∷ ds) q = map.get-remove dot_total (without_rows m ds) d q ∙ ap (cond (same_dot q d) None) (without_rows_at m ds q) ∙ either (same_dot q d) (list_any (same_dot q) ds) (map.get m q)
  where
    either : (a b : Bool) (o : Option Row) → cond a None (cond b None o) ≡ cond (a || b) None o
    either true b o = refl
    either false b o = refl

pub is_removed : (s t : DotSet) (m n : Rows) (v : DotRows) (ds : List Dot) (event : Dot) → seen s m ≡ v → Removes s m ds event t n → seen t n ≡ removed v ds event
is_removed s t m n v ds event e step = same_rows (seen t n) (removed v ds event)
    (set.same_set dot_total dot_antisymmetric t (set.insert (set.union v.covered (set.from_list ds)) event) (λ q.
    (step q).0
    ∙ ap (λ x. same_dot q event || (set.contains x.covered q || list_any (same_dot q) ds)) e
    ∙ ap (λ b. same_dot q event || (set.contains v.covered q || b)) (sym (set.contains-from_list dot_total ds q))
    ∙ ap (λ b. same_dot q event || b) (sym (set.contains-union dot_total v.covered (set.from_list ds) q))
    ∙ sym (set.contains-insert dot_total (set.union v.covered (set.from_list ds)) event q)))
    (map.same_map dot_total dot_antisymmetric (rows_of n.entries) (without_rows v.live ds) (λ q.
    seen_row n q ∙ (step q).1
    ∙ ap (cond (list_any (same_dot q) ds) None) (sym (seen_row m q) ∙ ap (λ x. map.get x.live q) e)
    ∙ sym (without_rows_at v.live ds q)))

pub forget_keeps : (s t : DotSet) (m n : Rows) (r : Replica) → IsSound s (rows_of m.entries) → t ≡ others_dots s r → ((q : Dot) → get dot_cmp n q ≡ cond (not (same_replica q.replica r)) (get dot_cmp m q) None) → IsSound t (rows_of n.entries)
forget_keeps s t m n r h e step = sound_by t n (λ q.
    ap (λ x. is_sound q (set.contains x q) (get dot_cmp n q)) e
    ∙ ap (λ b. is_sound q b (get dot_cmp n q)) (contains-without s r q)
    ∙ ap (is_sound q (set.contains s q && not (same_replica q.replica r))) (step q)
    ∙ left_sound q (same_replica q.replica r) (set.contains s q) (get dot_cmp m q) (sound_at s m h q))

pub is_forgotten : (s t : DotSet) (m n : Rows) (v : DotRows) (r : Replica) → seen s m ≡ v → t ≡ others_dots s r → ((q : Dot) → get dot_cmp n q ≡ cond (not (same_replica q.replica r)) (get dot_cmp m q) None) → seen t n ≡ without_replica v r
is_forgotten s t m n v r e out step = same_rows (seen t n) (without_replica v r)
    (out ∙ ap (λ x. others_dots x.covered r) e)
    (map.same_map dot_total dot_antisymmetric (rows_of n.entries) (map.retain_keys v.live (λ d. not (same_replica d.replica r))) (λ q.
    seen_row n q ∙ step q
    ∙ ap (λ o. cond (not (same_replica q.replica r)) o None) (sym (seen_row m q) ∙ ap (λ x. map.get x.live q) e)
    ∙ sym (map.get-retain_keys v.live (λ d. not (same_replica d.replica r)) q (λ x tie. ap (λ (d : Dot). not (same_replica d.replica r)) (sym (dot_antisymmetric q x tie))))))
