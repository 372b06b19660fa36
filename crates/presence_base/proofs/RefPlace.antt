-- The text of a meta round the place of the references.
use Rattle.std.proofs.Common.{◌≡◌, ◌∙◌, ap, arith, sym, refl, subst, ℕ, suc, ◌-◌, ◌<◌, ◌≤◌, lit<, nat_le, List, [], ◌∷◌, ◌++◌, length, take, drop, get_or, append_assoc, Bool, true, false, not, ◌&&◌, ◌||◌, if◌then◌else◌, IsTrue, Option, Some, None, slice_get, codes, string_bytes, String}
use Rattle.std.specs.Global.{Global}
use Rattle.std.specs.List.{All}
use Rattle.std.specs.Map.{keys_of}
use Rattle.std.specs.Ordering.{is_gt, is_lt}
use Rattle.std.specs.declared.cmp.Ordering.{Ordering}
use Rattle.std.specs.declared.cmp.Ordering.TheVariants.{Less, Equal, Greater}
use Rattle.std.specs.Str.{IsCharBoundary}
use Rattle.std.proofs.lemmas.Bool.{leb-true}
use Rattle.std.proofs.lemmas.List.{take_at, drop_at, length-append, get_or_at}
use Rattle.std.proofs.lemmas.Str.{IsCharBoundary-before_ascii}
use Rattle.serde_json.specs.Data.{Data, null, boolean, number, string, array, object, Members, no_members, member, depth}
use Rattle.serde_json.specs.View.{view, members_view}
use Rattle.serde_json.specs.Written.{compact_text, members_text, comma_if, has_float, members_have_float}
use Rattle.serde_json.specs.declared.value.Value.{Value}
use Rattle.presence_base.specs.Order.{text_cmp}
use Rattle.presence_base.specs.Metas.{is_meta, is_plain}
use Rattle.presence_base.specs.Names.{guarded}
use Rattle.presence_base.specs.RefPlace.{members_before, members_from, begin_behind, ref_place}

some_is : {A : Type 0} (x y : A) → Some x ≡ Some y → x ≡ y
some_is x y h = cc

true_false : {P : Type 0} → true ≡ false → P
true_false h = cc

-- ---- what was found of members in a map

abbrev pub Entries : Type 0
Entries = List (String Global × Value)

-- how `phx_ref` stands to a member's name
abbrev pub ref_to : String Global → Ordering
ref_to n = text_cmp (codes "phx_ref") (string_bytes n)

gt_is : (o : Ordering) → is_gt o ≡ true → o ≡ Greater
gt_is Less h = cc
gt_is Equal h = cc
gt_is Greater h = refl

at_first : (fs : Entries) → All (λ k. is_gt (ref_to k) ≡ false) (keys_of fs) → (members_before (members_view fs) ≡ no_members) × (members_from (members_view fs) ≡ members_view fs)
at_first [] h = (refl, refl)
at_first (e ∷ fs) h = not_above (ref_to e.0) (h 0 e.0 (omega (arith))) refl
  where
    not_above : (o : Ordering) → is_gt o ≡ false → ref_to e.0 ≡ o → (members_before (members_view (e ∷ fs)) ≡ no_members) × (members_from (members_view (e ∷ fs)) ≡ members_view (e ∷ fs))
    not_above Less f g = rw g (refl, refl)
    not_above Equal f g = rw g (refl, refl)
    not_above Greater f g = true_false f

-- a map that is parted at `phx_ref`
parted : (bs fs : Entries) → All (λ k. is_gt (ref_to k) ≡ true) (keys_of bs) → All (λ k. is_gt (ref_to k) ≡ false) (keys_of fs)
    → (members_before (members_view (bs ++ fs)) ≡ members_view bs) × (members_from (members_view (bs ++ fs)) ≡ members_view fs)
parted [] fs h i = at_first fs i
parted (e ∷ bs) fs h i =
    let more = parted bs fs (λ k d l. h (suc k) d (omega arith)) i in
    rw (gt_is (ref_to e.0) (h 0 e.0 (omega arith))) (ap (member (string_bytes e.0) (view e.1)) more.0, more.1)

pub first_behind : (fs : Entries) (n : String Global) (v : Value) (b : Bool) → slice_get fs 0 ≡ Some (n, v) → b ≡ is_lt (text_cmp (codes "phx_ref_prev") (string_bytes n)) → b ≡ begin_behind (members_view fs)
first_behind [] n v b f e = cc
first_behind (x ∷ fs) n v b f e = e ∙ ap (λ z. is_lt (text_cmp (codes "phx_ref_prev") (string_bytes z.0))) (sym (some_is x (n, v) f))

pub none_behind : (fs : Entries) → ¬ (0 < length fs) → true ≡ begin_behind (members_view fs)
none_behind [] l = refl
none_behind (x ∷ fs) l = absurd (l (omega arith))

-- ---- the text before the references, and from there on

-- the members, not closed yet
unfoldable pub members_open : Bool → Members → List ℕ
members_open later no_members = []
members_open later (member k d ms) = comma_if later ++ (compact_text (string k) ++ 58 ∷ (compact_text d ++ members_open true ms))

-- whether something stands before what follows
unfoldable pub after : Bool → Members → Bool
after later no_members = later
after later (member k d ms) = true

pub over_member : (later : Bool) (k : List ℕ) (d : Data) (x y : List ℕ) → comma_if later ++ (compact_text (string k) ++ 58 ∷ (compact_text d ++ (x ++ y))) ≡ (comma_if later ++ (compact_text (string k) ++ 58 ∷ (compact_text d ++ x))) ++ y
over_member later k d x y =
    ap (λ z. comma_if later ++ (compact_text (string k) ++ 58 ∷ z)) (sym (append_assoc (compact_text d) x y))
    ∙ ap (λ z. comma_if later ++ z) (sym (append_assoc (compact_text (string k)) (58 ∷ (compact_text d ++ x)) y))
    ∙ sym (append_assoc (comma_if later) (compact_text (string k) ++ 58 ∷ (compact_text d ++ x)) y)

closed : (later : Bool) (ms : Members) → members_text later ms ≡ members_open later ms ++ 125 ∷ []
unfolding members_open
closed later no_members = refl
closed later (member k d ms) =
    ap (λ z. comma_if later ++ (compact_text (string k) ++ 58 ∷ (compact_text d ++ z))) (closed true ms)
    ∙ over_member later k d (members_open true ms) (125 ∷ [])

order_cases : {P : Type 0} (o : Ordering) → (o ≡ Less → P) → (o ≡ Equal → P) → (o ≡ Greater → P) → P
order_cases Less l e g = l refl
order_cases Equal l e g = e refl
order_cases Greater l e g = g refl

-- the members before the references, and those from there on
both_parts : (later : Bool) (ms : Members) → members_text later ms ≡ members_open later (members_before ms) ++ members_text (after later (members_before ms)) (members_from ms)
unfolding members_open after
both_parts later no_members = refl
both_parts later (member l d ms) =
    order_cases (text_cmp (codes "phx_ref") l)
    (λ o. rw o refl)
    (λ o. rw o refl)
    (λ o. rw o
    (ap (λ z. comma_if later ++ (compact_text (string l) ++ 58 ∷ (compact_text d ++ z))) (both_parts true ms ∙ ap (λ b. members_open true (members_before ms) ++ members_text b (members_from ms)) (after_true (members_before ms)))
    ∙ over_member later l d (members_open true (members_before ms)) (members_text true (members_from ms))))
  where
    after_true : (ns : Members) → after true ns ≡ true
    after_true no_members = refl
    after_true (member j x ns) = refl

-- the text is cut before the references
pub record IsCut (ms : Members) (place : ℕ) : Type 0 where
  pub front : List ℕ
  pub rest : List ℕ
  pub is_front : front ≡ 123 ∷ members_open false (members_before ms)
  pub is_rest : rest ≡ members_text (after false (members_before ms)) (members_from ms)
  pub whole : compact_text (object ms) ≡ front ++ rest
  pub is_place : length front ≡ place
  pub behind : begin_behind (members_from ms) ≡ true

if_some : {A : Type 0} (b : Bool) (x y : A) → (if b then Some x else None) ≡ Some y → (b ≡ true) × (x ≡ y)
if_some true x y h = (refl, cc)
if_some false x y h = (cc, cc)

place_open : (ms : Members) → length (compact_text (object (members_before ms))) - 1 ≡ length (123 ∷ members_open false (members_before ms))
place_open ms =
    ap (λ z. length (123 ∷ z) - 1) (closed false (members_before ms))
    ∙ omega (arith, length-append (members_open false (members_before ms)) (125 ∷ []))

pub cut_at : (ms : Members) (p : ℕ) → ref_place (object ms) ≡ Some p → IsCut ms p
unfolding ref_place
cut_at ms p h =
    let found = if_some (begin_behind (members_from ms)) _ p h in
    record {
      front = 123 ∷ members_open false (members_before ms);
      rest = members_text (after false (members_before ms)) (members_from ms);
      is_front = refl;
      is_rest = refl;
      whole = ap (λ z. 123 ∷ z) (both_parts false ms);
      is_place = sym (place_open ms) ∙ found.1;
      behind = found.0;
    }

-- where a text is cut at one length there is one cut
same_seam : (xs ys zs ws : List ℕ) → xs ++ ys ≡ zs ++ ws → length xs ≡ length zs → (xs ≡ zs) × (ys ≡ ws)
same_seam xs ys zs ws e l = (
  sym (take_at xs ys (length zs) l) ∙ ap (take (length zs)) e ∙ take_at zs ws (length zs) refl,
  sym (drop_at xs ys (length zs) l) ∙ ap (drop (length zs)) e ∙ drop_at zs ws (length zs) refl,
)

-- what stands before the place in an object's text, and from there on
pub cut_parts : (ms : Members) (p : ℕ) (front rest : List ℕ) → ref_place (object ms) ≡ Some p → length front ≡ p → front ++ rest ≡ compact_text (object ms)
    → (front ≡ 123 ∷ members_open false (members_before ms)) × (rest ≡ members_text (after false (members_before ms)) (members_from ms)) × (begin_behind (members_from ms) ≡ true)
cut_parts ms p front rest h l e =
    let cut = cut_at ms p h in
    let same = same_seam front rest cut.front cut.rest (e ∙ cut.whole) (l ∙ sym cut.is_place) in
    (same.0 ∙ cut.is_front, same.1 ∙ cut.is_rest, cut.behind)

-- only an object has a place
pub is_object : (d : Data) (p : ℕ) → ref_place d ≡ Some p → (ms : Members) × (d ≡ object ms)
unfolding ref_place
is_object null p h = absurd (cc)
is_object (boolean b) p h = absurd (cc)
is_object (number n) p h = absurd (cc)
is_object (string s) p h = absurd (cc)
is_object (array ds) p h = absurd (cc)
is_object (object ms) p h = (ms, refl)

-- ---- a text may be cut there

-- what follows begins with a bracket, a comma or a quote
begins : (later : Bool) (ms : Members) → (b : ℕ) × (s : List ℕ) × (members_text later ms ≡ b ∷ s) × (b < 128)
begins later no_members = (125, [], refl, lit< tt)
begins true (member k d ms) = (44, compact_text (string k) ++ 58 ∷ (compact_text d ++ members_text true ms), refl, lit< tt)
begins false (member k d ms) = (34, _, refl, lit< tt)

object_boundary : (ms : Members) (p : ℕ) → ref_place (object ms) ≡ Some p → IsCharBoundary (compact_text (object ms)) p
object_boundary ms p h =
    let cut = cut_at ms p h in
    let first = begins (after false (members_before ms)) (members_from ms) in
    let whole : compact_text (object ms) ≡ cut.front ++ first.0 ∷ first.1 = cut.whole ∙ ap (λ z. cut.front ++ z) (cut.is_rest ∙ first.2) in
    let within : p < length (compact_text (object ms)) = subst (λ z. p < length z) (sym whole) (omega (arith, length-append cut.front (first.0 ∷ first.1), cut.is_place)) in
    let byte : get_or (compact_text (object ms)) p 0 ≡ first.0 = ap (λ z. get_or z p 0) whole ∙ get_or_at cut.front first.0 first.1 0 p cut.is_place in
    IsCharBoundary-before_ascii (compact_text (object ms)) p within (subst (λ z. z < 128) (sym byte) first.3)

pub is_boundary : (d : Data) (p : ℕ) → ref_place d ≡ Some p → IsCharBoundary (compact_text d) p
is_boundary d p h =
    let it = is_object d p h in
    subst (λ z. IsCharBoundary (compact_text z) p) (sym it.1) (object_boundary it.0 p (ap ref_place (sym it.1) ∙ h))

-- ---- the limits

or_left : (a b : Bool) → (a || b) ≡ false → (a ≡ false) × (b ≡ false)
or_left true b h = (cc, cc)
or_left false b h = (refl, h)

before_whole : (ms : Members) → members_have_float ms ≡ false → members_have_float (members_before ms) ≡ false
before_whole no_members h = refl
before_whole (member l d ms) h =
    let parts = or_left (has_float d) (members_have_float ms) h in
    order_cases (text_cmp (codes "phx_ref") l)
    (λ o. rw o refl)
    (λ o. rw o refl)
    (λ o. rw (o, parts.0) (before_whole ms parts.1))

last_of_four : (a b c d : Bool) → IsTrue (a && b && not c && d) → (c ≡ false) × (d ≡ true)
last_of_four true true true d h = cc
last_of_four true true false d h = (refl, h)
last_of_four true false c d h = cc
last_of_four false b c d h = cc

pub meta_whole : (d : Data) → IsTrue (is_meta d) → has_float d ≡ false
meta_whole d h = (last_of_four (is_plain d) (nat_le (depth d) 32) (has_float d) (nat_le (length (compact_text d)) 16384) h).0

-- a place is no further than the longest meta
pub place_most : (d : Data) (p : ℕ) → IsTrue (is_meta d) → ref_place d ≡ Some p → p ≤ 16384
place_most d p h f =
    let it = is_object d p f in
    let cut = cut_at it.0 p (ap ref_place (sym it.1) ∙ f) in
    let long : length (compact_text d) ≡ length (cut.front ++ cut.rest) = ap (λ z. length (compact_text z)) it.1 ∙ ap length cut.whole in
    let most : length (compact_text d) ≤ 16384 = leb-true (length (compact_text d)) 16384 (last_of_four (is_plain d) (nat_le (depth d) 32) (has_float d) (nat_le (length (compact_text d)) 16384) h).1 in
    omega (arith, long, most, length-append cut.front cut.rest, cut.is_place)

-- ---- what is found of a value

-- the value is an object, whose map was parted at `phx_ref`
pub record IsParted (v : Value) (es bs fs : Entries) : Type 0 where
  pub is : view v ≡ object (members_view es)
  pub parts : es ≡ bs ++ fs
  pub before : All (λ k. is_gt (ref_to k) ≡ true) (keys_of bs)
  pub from : All (λ k. is_gt (ref_to k) ≡ false) (keys_of fs)

both_found : (v : Value) (es bs fs : Entries) → IsParted v es bs fs → (members_before (members_view es) ≡ members_view bs) × (members_from (members_view es) ≡ members_view fs)
both_found v es bs fs p = subst (λ z. (members_before (members_view z) ≡ members_view bs) × (members_from (members_view z) ≡ members_view fs)) (sym p.parts) (parted bs fs p.before p.from)

pub whole_front : (v : Value) (es bs fs : Entries) → IsParted v es bs fs → IsTrue (is_meta (view v)) → members_have_float (members_view bs) ≡ false
whole_front v es bs fs p h =
    let whole : members_have_float (members_view es) ≡ false = sym (ap has_float p.is) ∙ meta_whole (view v) h in
    sym (ap members_have_float (both_found v es bs fs p).0) ∙ before_whole (members_view es) whole

at_place : (ms : Members) (b : Bool) → b ≡ begin_behind (members_from ms) → ref_place (object ms) ≡ (if b then Some (length (compact_text (object (members_before ms))) - 1) else None)
unfolding ref_place
at_place ms b h = ap (λ c. if c then Some (length (compact_text (object (members_before ms))) - 1) else None) (sym h)

pub none_found : (v : Value) (es bs fs : Entries) (b : Bool) → IsParted v es bs fs → b ≡ begin_behind (members_view fs) → b ≡ false → None ≡ ref_place (view v)
none_found v es bs fs b p is f =
    let both = both_found v es bs fs p in
    sym (ap ref_place p.is ∙ at_place (members_view es) false (sym f ∙ is ∙ ap begin_behind (sym both.1)))

pub place_found : (v : Value) (es bs fs : Entries) (b : Bool) (n : ℕ) → IsParted v es bs fs → b ≡ begin_behind (members_view fs) → b ≡ true → n ≡ length (compact_text (object (members_view bs))) - 1 → Some n ≡ ref_place (view v)
place_found v es bs fs b n p is t at =
    let both = both_found v es bs fs p in
    ap (λ m. Some m) (at ∙ ap (λ ms. length (compact_text (object ms)) - 1) (sym both.0))
    ∙ sym (ap ref_place p.is ∙ at_place (members_view es) true (sym t ∙ is ∙ ap begin_behind (sym both.1)))

-- ---- metas

guarded_some : {A : Type 0} (b : Bool) (x y : A) → guarded b x ≡ Some y → IsTrue b × (x ≡ y)
guarded_some true x y h = (refl, cc)
guarded_some false x y h = (cc, cc)

-- a value that a meta was made of
pub meta_is : (v t : Data) → Some t ≡ guarded (is_meta v) v → IsTrue (is_meta v) × (v ≡ t)
meta_is v t h = guarded_some (is_meta v) v t (sym h)

pub meta_from : (v t : Data) (place : Option ℕ) → Some t ≡ guarded (is_meta v) v → place ≡ ref_place v → IsTrue (is_meta t) × (place ≡ ref_place t)
meta_from v t place h p =
    let is = meta_is v t h in
    subst (λ z. IsTrue (is_meta z) × (place ≡ ref_place z)) is.1 (is.0, p)
