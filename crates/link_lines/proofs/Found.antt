-- What was read is what is written, within its limits: parts of a line.
use Rattle.std.proofs.Common.{◌≡◌, ℕ, Bool, true, false, ◌&&◌, List, [], ◌∷◌, map, Option, Some, None, option_map, refl, sym, ◌∙◌, ap, is_some}
use Rattle.std.specs.List.{list_all}
use Rattle.serde_json.specs.Data.{unsigned, negative, float, Data, null, boolean, number, string, array, object, Items, no_items, item}
use Rattle.serde_json.specs.Find.{as_object}
use Rattle.serde_json.specs.View.{items_of}
use Rattle.presence_base.specs.declared.dots.TheConstants.{MAX_COUNT}
use Rattle.presence_base.specs.declared.dots.Replica.{Replica}
use Rattle.presence_base.specs.declared.dots.Dot.{Dot}
use Rattle.presence_base.specs.declared.row.Row.{Row}
use Rattle.presence_base.specs.Names.{is_node_name, guarded}
use Rattle.orswot_core.specs.Telling.{Range}
use Rattle.link_lines.specs.Arrays.{Pair, two_items, two_in, Three, three_items, three_in, Four, four_items, four_in, Five, five_items, five_in, Six, six_items, six_in, Eight, eight_items, eight_in}
use Rattle.link_lines.specs.Limits.{is_from_to, is_counted, is_bound, is_replica, is_told_range, is_told_dot, is_told_prev, is_told_row}
use Rattle.link_lines.specs.Members.{◌>>=◌, whole_in, within, number_in, count_in, bound_in, text_in, name_in, replica_in, dot_in}
use Rattle.link_lines.specs.Telling.{range_in, extra_in, prev_in, object_in, row_of, row_in, each_in, list_in}
use Rattle.link_lines.specs.Values.{whole, range_value, dot_value, prev_value, row_value}

-- ---- steps

-- what a chain of steps that came to y did first
then : {A B G : Type 0} (o : Option A) (f : A → Option B) (y : B) → (o >>= f) ≡ Some y → ((x : A) → o ≡ Some x → f x ≡ Some y → G) → G
then (Some x) f y h k = k x refl h
then None f y h k = absurd (differ y h)
  where
    differ : {C : Type 0} (z : C) → None ≡ Some z → ⊥
    differ z bad = cc

pub guarded_ok : {A : Type 0} (b : Bool) (x y : A) → guarded b x ≡ Some y → (b ≡ true) × (x ≡ y)
guarded_ok true x y h = (refl, cc)
guarded_ok false x y h = (cc, cc)

pub both : (a b : Bool) → a ≡ true → b ≡ true → (a && b) ≡ true
both a b p q = rw (p, q) refl

-- ---- members

pub whole_ok : (d : Data) (n : ℕ) → whole_in d ≡ Some n → d ≡ whole n
whole_ok null n h = cc
whole_ok (boolean b) n h = cc
whole_ok (number (unsigned m)) n h = let e : m ≡ n = cc in ap whole e
whole_ok (number (negative z)) n h = cc
whole_ok (number (float x)) n h = cc
whole_ok (string s) n h = cc
whole_ok (array ds) n h = cc
whole_ok (object ms) n h = cc

pub number_ok : (low high : ℕ) (d : Data) (n : ℕ) → number_in low high d ≡ Some n → (d ≡ whole n) × (is_from_to low high n ≡ true)
number_ok low high d n h =
    then (whole_in d) (within low high) n h (λ m is g.
    let p = guarded_ok (is_from_to low high m) m n g in
    (whole_ok d n (is ∙ ap Some p.1), ap (is_from_to low high) (sym p.1) ∙ p.0))

pub text_ok : (d : Data) (s : List ℕ) → text_in d ≡ Some s → d ≡ string s
text_ok null s h = cc
text_ok (boolean b) s h = cc
text_ok (number n) s h = cc
text_ok (string t) s h = let e : t ≡ s = cc in ap string e
text_ok (array ds) s h = cc
text_ok (object ms) s h = cc

name_ok : (d : Data) (s : List ℕ) → name_in d ≡ Some s → (d ≡ string s) × (is_node_name s ≡ true)
name_ok d s h =
    then (text_in d) (λ t. guarded (is_node_name t) t) s h (λ t is g.
    let p = guarded_ok (is_node_name t) t s g in
    (text_ok d s (is ∙ ap Some p.1), ap is_node_name (sym p.1) ∙ p.0))

-- a name and an incarnation are this replica
pub record AreReplica (name incarnation : Data) (r : Replica) : Type 0 where
  pub name_is : name ≡ string r.name
  pub incarnation_is : incarnation ≡ whole r.incarnation
  pub limits : is_replica r ≡ true

pub replica_ok : (name incarnation : Data) (r : Replica) → replica_in name incarnation ≡ Some r → AreReplica name incarnation r
replica_ok name incarnation r h =
    then (name_in name) _ r h (λ n is_n h1.
    then (count_in incarnation) _ r h1 (λ i is_i h2.
    made n i is_n is_i (last (record { name = n; incarnation = i }) r h2)))
  where
    last : (x y : Replica) → Some x ≡ Some y → x ≡ y
    last x y e = cc

    made : (n : List ℕ) (i : ℕ) → name_in name ≡ Some n → count_in incarnation ≡ Some i → record { name = n; incarnation = i } ≡ r → AreReplica name incarnation r
    made n i is_n is_i same =
        let a = name_ok name n is_n in
        let b = number_ok 1 MAX_COUNT incarnation i is_i in
        rw (← same) (record { name_is = a.0; incarnation_is = b.0; limits = both (is_node_name n) (is_counted i) a.1 b.1 })

-- and with a count this dot
pub record AreDot (name incarnation count : Data) (d : Dot) : Type 0 where
  pub name_is : name ≡ string d.replica.name
  pub incarnation_is : incarnation ≡ whole d.replica.incarnation
  pub count_is : count ≡ whole d.count
  pub limits : is_told_dot d ≡ true

pub dot_ok : (name incarnation count : Data) (d : Dot) → dot_in name incarnation count ≡ Some d → AreDot name incarnation count d
dot_ok name incarnation count d h =
    then (replica_in name incarnation) _ d h (λ r is_r h1.
    then (count_in count) _ d h1 (λ n is_n h2.
    made r n is_r is_n (last (record { replica = r; count = n }) d h2)))
  where
    last : (x y : Dot) → Some x ≡ Some y → x ≡ y
    last x y e = cc

    made : (r : Replica) (n : ℕ) → replica_in name incarnation ≡ Some r → count_in count ≡ Some n → record { replica = r; count = n } ≡ d → AreDot name incarnation count d
    made r n is_r is_n same =
        let a = replica_ok name incarnation r is_r in
        let b = number_ok 1 MAX_COUNT count n is_n in
        rw (← same) (record { name_is = a.name_is; incarnation_is = a.incarnation_is; count_is = b.0; limits = both (is_replica r) (is_counted n) a.limits b.1 })

-- ---- arrays

abbrev pub items_two : Pair → Items
items_two m = item m.0 (item m.1 no_items)

two_items_ok : (ds : Items) (m : Pair) → two_items ds ≡ Some m → ds ≡ items_two m
two_items_ok no_items m h = cc
two_items_ok (item a no_items) m h = cc
two_items_ok (item a (item b no_items)) m h = let same : (a, b) ≡ m = cc in ap items_two same
two_items_ok (item a (item b (item c ds))) m h = cc

pub two_ok : (d : Data) (m : Pair) → two_in d ≡ Some m → d ≡ array (items_two m)
two_ok null m h = cc
two_ok (boolean b) m h = cc
two_ok (number n) m h = cc
two_ok (string s) m h = cc
two_ok (array ds) m h = ap array (two_items_ok ds m h)
two_ok (object ms) m h = cc

abbrev pub items_three : Three → Items
items_three m = item m.0 (item m.1 (item m.2 no_items))

three_items_ok : (ds : Items) (m : Three) → three_items ds ≡ Some m → ds ≡ items_three m
three_items_ok no_items m h = cc
three_items_ok (item a no_items) m h = cc
three_items_ok (item a (item b no_items)) m h = cc
three_items_ok (item a (item b (item c no_items))) m h = let same : (a, b, c) ≡ m = cc in ap items_three same
three_items_ok (item a (item b (item c (item d ds)))) m h = cc

pub three_ok : (d : Data) (m : Three) → three_in d ≡ Some m → d ≡ array (items_three m)
three_ok null m h = cc
three_ok (boolean b) m h = cc
three_ok (number n) m h = cc
three_ok (string s) m h = cc
three_ok (array ds) m h = ap array (three_items_ok ds m h)
three_ok (object ms) m h = cc

abbrev pub items_four : Four → Items
items_four m = item m.0 (item m.1 (item m.2 (item m.3 no_items)))

four_items_ok : (ds : Items) (m : Four) → four_items ds ≡ Some m → ds ≡ items_four m
four_items_ok no_items m h = cc
four_items_ok (item a no_items) m h = cc
four_items_ok (item a (item b no_items)) m h = cc
four_items_ok (item a (item b (item c no_items))) m h = cc
four_items_ok (item a (item b (item c (item d no_items)))) m h = let same : (a, b, c, d) ≡ m = cc in ap items_four same
four_items_ok (item a (item b (item c (item d (item e ds))))) m h = cc

pub four_ok : (d : Data) (m : Four) → four_in d ≡ Some m → d ≡ array (items_four m)
four_ok null m h = cc
four_ok (boolean b) m h = cc
four_ok (number n) m h = cc
four_ok (string s) m h = cc
four_ok (array ds) m h = ap array (four_items_ok ds m h)
four_ok (object ms) m h = cc

abbrev pub items_five : Five → Items
items_five m = item m.0 (item m.1 (item m.2 (item m.3 (item m.4 no_items))))

five_items_ok : (ds : Items) (m : Five) → five_items ds ≡ Some m → ds ≡ items_five m
five_items_ok no_items m h = cc
five_items_ok (item a no_items) m h = cc
five_items_ok (item a (item b no_items)) m h = cc
five_items_ok (item a (item b (item c no_items))) m h = cc
five_items_ok (item a (item b (item c (item d no_items)))) m h = cc
five_items_ok (item a (item b (item c (item d (item e no_items))))) m h = let same : (a, b, c, d, e) ≡ m = cc in ap items_five same
five_items_ok (item a (item b (item c (item d (item e (item f ds)))))) m h = cc

pub five_ok : (d : Data) (m : Five) → five_in d ≡ Some m → d ≡ array (items_five m)
five_ok null m h = cc
five_ok (boolean b) m h = cc
five_ok (number n) m h = cc
five_ok (string s) m h = cc
five_ok (array ds) m h = ap array (five_items_ok ds m h)
five_ok (object ms) m h = cc

abbrev pub items_six : Six → Items
items_six m = item m.0 (item m.1 (item m.2 (item m.3 (item m.4 (item m.5 no_items)))))

six_items_ok : (ds : Items) (m : Six) → six_items ds ≡ Some m → ds ≡ items_six m
six_items_ok no_items m h = cc
six_items_ok (item a no_items) m h = cc
six_items_ok (item a (item b no_items)) m h = cc
six_items_ok (item a (item b (item c no_items))) m h = cc
six_items_ok (item a (item b (item c (item d no_items)))) m h = cc
six_items_ok (item a (item b (item c (item d (item e no_items))))) m h = cc
six_items_ok (item a (item b (item c (item d (item e (item f no_items)))))) m h = let same : (a, b, c, d, e, f) ≡ m = cc in ap items_six same
six_items_ok (item a (item b (item c (item d (item e (item f (item g ds))))))) m h = cc

pub six_ok : (d : Data) (m : Six) → six_in d ≡ Some m → d ≡ array (items_six m)
six_ok null m h = cc
six_ok (boolean b) m h = cc
six_ok (number n) m h = cc
six_ok (string s) m h = cc
six_ok (array ds) m h = ap array (six_items_ok ds m h)
six_ok (object ms) m h = cc

abbrev pub items_eight : Eight → Items
items_eight m = item m.0 (item m.1 (item m.2 (item m.3 (item m.4 (item m.5 (item m.6 (item m.7 no_items)))))))

eight_items_ok : (ds : Items) (m : Eight) → eight_items ds ≡ Some m → ds ≡ items_eight m
eight_items_ok no_items m h = cc
eight_items_ok (item a no_items) m h = cc
eight_items_ok (item a (item b no_items)) m h = cc
eight_items_ok (item a (item b (item c no_items))) m h = cc
eight_items_ok (item a (item b (item c (item d no_items)))) m h = cc
eight_items_ok (item a (item b (item c (item d (item e no_items))))) m h = cc
eight_items_ok (item a (item b (item c (item d (item e (item f no_items)))))) m h = cc
eight_items_ok (item a (item b (item c (item d (item e (item f (item g no_items))))))) m h = cc
eight_items_ok (item a (item b (item c (item d (item e (item f (item g (item i no_items)))))))) m h = let same : (a, b, c, d, e, f, g, i) ≡ m = cc in ap items_eight same
eight_items_ok (item a (item b (item c (item d (item e (item f (item g (item i (item j ds))))))))) m h = cc

pub eight_ok : (d : Data) (m : Eight) → eight_in d ≡ Some m → d ≡ array (items_eight m)
eight_ok null m h = cc
eight_ok (boolean b) m h = cc
eight_ok (number n) m h = cc
eight_ok (string s) m h = cc
eight_ok (array ds) m h = ap array (eight_items_ok ds m h)
eight_ok (object ms) m h = cc

-- ---- parts of a told value

pub range_ok : (d : Data) (g : Range) → range_in d ≡ Some g → (d ≡ range_value g) × (is_told_range g ≡ true)
range_ok d g h =
    then (four_in d) _ g h (λ m is_m h1.
    then (replica_in m.0 m.1) _ g h1 (λ r is_r h2.
    then (bound_in m.2) _ g h2 (λ f is_f h3.
    then (bound_in m.3) _ g h3 (λ t is_t h4.
    made m r f t is_m is_r is_f is_t (last (r, f, t) g h4)))))
  where
    last : (x y : Range) → Some x ≡ Some y → x ≡ y
    last x y e = cc

    made : (m : Four) (r : Replica) (f t : ℕ) → four_in d ≡ Some m → replica_in m.0 m.1 ≡ Some r → bound_in m.2 ≡ Some f → bound_in m.3 ≡ Some t → (r, f, t) ≡ g
        → (d ≡ range_value g) × (is_told_range g ≡ true)
    made m r f t is_m is_r is_f is_t same =
        let a = replica_ok m.0 m.1 r is_r in
        let b = number_ok 0 MAX_COUNT m.2 f is_f in
        let e = number_ok 0 MAX_COUNT m.3 t is_t in
        rw (← same) (
          rw (four_ok d m is_m, a.name_is, a.incarnation_is, b.0, e.0) refl,
          both (is_replica r) (is_bound f && is_bound t) a.limits (both (is_bound f) (is_bound t) b.1 e.1),
        )

pub extra_ok : (x : Data) (d : Dot) → extra_in x ≡ Some d → (x ≡ dot_value d) × (is_told_dot d ≡ true)
extra_ok x d h =
    then (three_in x) _ d h (λ m is_m h1.
    let a = dot_ok m.0 m.1 m.2 d h1 in
    (rw (three_ok x m is_m, a.name_is, a.incarnation_is, a.count_is) refl, a.limits))

some_prev : (x : Data) (o : Option Dot) → option_map Some (extra_in x) ≡ Some o → (x ≡ prev_value o) × (is_told_prev o ≡ true)
some_prev x o h = go (extra_in x) refl h
  where
    go : (e : Option Dot) → extra_in x ≡ e → option_map Some e ≡ Some o → (x ≡ prev_value o) × (is_told_prev o ≡ true)
    go None was h = (cc, cc)
    go (Some d) was h = let same : Some d ≡ o = cc in rw (← same) (extra_ok x d was)

pub prev_ok : (x : Data) (o : Option Dot) → prev_in x ≡ Some o → (x ≡ prev_value o) × (is_told_prev o ≡ true)
prev_ok null o h = let same : None ≡ o = cc in rw (← same) (refl, refl)
prev_ok (boolean b) o h = some_prev (boolean b) o h
prev_ok (number n) o h = some_prev (number n) o h
prev_ok (string s) o h = some_prev (string s) o h
prev_ok (array ds) o h = some_prev (array ds) o h
prev_ok (object ms) o h = some_prev (object ms) o h

pub object_ok : (x d : Data) → object_in x ≡ Some d → (x ≡ d) × (is_some (as_object d) ≡ true)
object_ok null d h = (cc, cc)
object_ok (boolean b) d h = (cc, cc)
object_ok (number n) d h = (cc, cc)
object_ok (string s) d h = (cc, cc)
object_ok (array ds) d h = (cc, cc)
object_ok (object ms) d h = let same : object ms ≡ d = cc in (same, rw (← same) refl)

-- these five values are what is told of this row
pub record AreRow (topic key pid meta prev : Data) (r : Row) : Type 0 where
  pub topic_is : topic ≡ string r.topic
  pub key_is : key ≡ string r.key
  pub pid_is : pid ≡ whole r.pid
  pub meta_is : meta ≡ r.meta
  pub prev_is : prev ≡ prev_value r.prev
  pub limits : (is_some (as_object r.meta) && is_told_prev r.prev) ≡ true

pub row_ok : (topic key pid meta prev : Data) (r : Row) → row_of topic key pid meta prev ≡ Some r → AreRow topic key pid meta prev r
row_ok topic key pid meta prev r h =
    then (text_in topic) _ r h (λ t is_t h1.
    then (text_in key) _ r h1 (λ k is_k h2.
    then (whole_in pid) _ r h2 (λ p is_p h3.
    then (object_in meta) _ r h3 (λ m is_m h4.
    then (prev_in prev) _ r h4 (λ o is_o h5.
    made t k p m o is_t is_k is_p is_m is_o (last (record { topic = t; key = k; pid = p; meta = m; prev = o }) r h5))))))
  where
    last : (x y : Row) → Some x ≡ Some y → x ≡ y
    last x y e = cc

    made : (t k : List ℕ) (p : ℕ) (m : Data) (o : Option Dot) → text_in topic ≡ Some t → text_in key ≡ Some k → whole_in pid ≡ Some p → object_in meta ≡ Some m → prev_in prev ≡ Some o
        → record { topic = t; key = k; pid = p; meta = m; prev = o } ≡ r → AreRow topic key pid meta prev r
    made t k p m o is_t is_k is_p is_m is_o same =
        let a = object_ok meta m is_m in
        let b = prev_ok prev o is_o in
        rw (← same) (record {
          topic_is = text_ok topic t is_t;
          key_is = text_ok key k is_k;
          pid_is = whole_ok pid p is_p;
          meta_is = a.0;
          prev_is = b.0;
          limits = both (is_some (as_object m)) (is_told_prev o) a.1 b.1;
        })

pub live_ok : (d : Data) (x : Dot × Row) → row_in d ≡ Some x → (d ≡ row_value x) × (is_told_row x ≡ true)
live_ok d x h =
    then (eight_in d) _ x h (λ m is_m h1.
    then (dot_in m.0 m.1 m.2) _ x h1 (λ q is_q h2.
    then (row_of m.3 m.4 m.5 m.6 m.7) _ x h2 (λ r is_r h3.
    made m q r is_m is_q is_r (last (q, r) x h3))))
  where
    last : (x y : Dot × Row) → Some x ≡ Some y → x ≡ y
    last x y e = cc

    made : (m : Eight) (q : Dot) (r : Row) → eight_in d ≡ Some m → dot_in m.0 m.1 m.2 ≡ Some q → row_of m.3 m.4 m.5 m.6 m.7 ≡ Some r → (q, r) ≡ x
        → (d ≡ row_value x) × (is_told_row x ≡ true)
    made m q r is_m is_q is_r same =
        let a = dot_ok m.0 m.1 m.2 q is_q in
        let b = row_ok m.3 m.4 m.5 m.6 m.7 r is_r in
        rw (← same) (
          rw (eight_ok d m is_m, a.name_is, a.incarnation_is, a.count_is, b.topic_is, b.key_is, b.pid_is, b.meta_is, b.prev_is) refl,
          both (is_told_dot q) (is_some (as_object r.meta) && is_told_prev r.prev) a.limits b.limits,
        )

-- ---- lists

pub each_ok : {A : Type 0} (f : Data → Option A) (value : A → Data) (is : A → Bool) (one : (d : Data) (x : A) → f d ≡ Some x → (d ≡ value x) × (is x ≡ true))
    (ds : Items) (xs : List A) → each_in f ds ≡ Some xs → (ds ≡ items_of (map value xs)) × (list_all is xs ≡ true)
each_ok {A = A} f value is one no_items xs h = let same : [] ≡ xs = cc in rw (← same) (refl, refl)
each_ok {A = A} f value is one (item d ds) xs h =
    then (f d) _ xs h (λ x is_x h1.
    then (each_in f ds) _ xs h1 (λ rest is_rest h2.
    made x rest is_x (each_ok f value is one ds rest is_rest) (last (x ∷ rest) xs h2)))
  where
    last : (a b : List A) → Some a ≡ Some b → a ≡ b
    last a b e = cc

    made : (x : A) (rest : List A) → f d ≡ Some x → (ds ≡ items_of (map value rest)) × (list_all is rest ≡ true) → x ∷ rest ≡ xs
        → (item d ds ≡ items_of (map value xs)) × (list_all is xs ≡ true)
    made x rest is_x more same =
        let a = one d x is_x in
        rw (← same) (ap (λ v. item v ds) a.0 ∙ ap (item (value x)) more.0, both (is x) (list_all is rest) a.1 more.1)

pub list_ok : {A : Type 0} (f : Data → Option A) (value : A → Data) (is : A → Bool) (one : (d : Data) (x : A) → f d ≡ Some x → (d ≡ value x) × (is x ≡ true))
    (d : Data) (xs : List A) → list_in f d ≡ Some xs → (d ≡ array (items_of (map value xs))) × (list_all is xs ≡ true)
list_ok f value is one null xs h = (cc, cc)
list_ok f value is one (boolean b) xs h = (cc, cc)
list_ok f value is one (number n) xs h = (cc, cc)
list_ok f value is one (string s) xs h = (cc, cc)
list_ok f value is one (array ds) xs h = let e = each_ok f value is one ds xs h in (ap array e.0, e.1)
list_ok f value is one (object ms) xs h = (cc, cc)
