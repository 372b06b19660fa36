-- What was read is what is written, within its limits: told values and lines.
use Rattle.std.proofs.Common.{◌≡◌, ℕ, ◌≤◌, Bool, true, false, cond, ◌&&◌, List, [], ◌∷◌, codes, length, nat_lt, is_none, Option, Some, None, Result, Ok, Err, refl, sym, ◌∙◌, ap, arith}
use Rattle.std.specs.List.{list_all}
use Rattle.std.specs.Str.{bytes_eq}
use Rattle.std.proofs.lemmas.Bool.Decides.{nat_tests}
use Rattle.std.proofs.lemmas.Slice.Eq.{bytes_eq-Decides}
use Rattle.serde_json.specs.Data.{Data, null, boolean, number, string, array, object, Items, no_items, item}
use Rattle.serde_json.specs.Read.{read}
use Rattle.presence_base.specs.declared.dots.TheConstants.{MAX_COUNT}
use Rattle.presence_base.specs.declared.dots.Replica.{Replica}
use Rattle.presence_base.specs.declared.dots.Dot.{Dot}
use Rattle.presence_base.specs.declared.row.Row.{Row}
use Rattle.orswot_core.specs.declared.told.ToldFault.{ToldFault}
use Rattle.orswot_core.specs.Telling.{Range, ToldValue}
use Rattle.orswot_core.specs.declared.form.Form.{Form}
use Rattle.orswot_core.specs.declared.form.Form.TheVariants.{One, Two}
use Rattle.orswot_core.specs.Checks.{first_fault}
use Rattle.link_lines.specs.declared.kinds.Kind.{Kind}
use Rattle.link_lines.specs.declared.kinds.Kind.TheVariants as kinds_are
use Rattle.link_lines.specs.declared.lines.Line.{Line}
use Rattle.link_lines.specs.declared.lines.Line.TheVariants as lines_are
use Rattle.link_lines.specs.declared.hearer.Hearer.{Hearer}
use Rattle.link_lines.specs.declared.hearer.Telling.{Telling}
use Rattle.link_lines.specs.declared.fault.LinkFault.{LinkFault}
use Rattle.link_lines.specs.declared.fault.LinkFault.TheVariants.{LineTooLong, BadLine}
use Rattle.presence_base.specs.declared.names.TheConstants.{MAX_SHARDS}
use Rattle.link_lines.specs.declared.lines.TheConstants.{MAX_LINE_BYTES}
use Rattle.link_lines.specs.Arrays.{Pair, two_in, Three, three_in, Four, four_in, Five, five_in, Six, six_in}
use Rattle.link_lines.specs.Kinds.{kind_named, kind_first, kind_in}
use Rattle.link_lines.specs.Limits.{is_from_to, is_bound, is_replica, is_told_range, is_told_dot, is_told_row, is_told, has_form, is_form, is_version, is_sound, is_delta, is_within}
use Rattle.link_lines.specs.Members.{whole_in, number_in, count_in, bound_in, replica_in}
use Rattle.link_lines.specs.Reading.{shard_in, hello_with, hello_of, hello_in, beat_in, want_in, told_line_in, permdown_in, gone_in, ok_items, ok_in, line_of_kind, line_in, found_value, value_in, decoded, IsLine}
use Rattle.link_lines.specs.Results.{◌>>=◌, or_bad}
use Rattle.link_lines.specs.Telling.{range_in, extra_in, row_in, list_in}
use Rattle.link_lines.specs.Told.{raw_told_in, unless, sound, in_form, told_as, told_in, is_delta_of, own_delta, delta_as, delta_in}
use Rattle.link_lines.specs.Values.{whole, array_of, range_value, dot_value, row_value, value_in as written_in, told_value, version_values, delta_value, value_of}
use Rattle.link_lines.proofs.Found.{guarded_ok, both, whole_ok, number_ok, replica_ok, two_ok, three_ok, four_ok, five_ok, six_ok, range_ok, extra_ok, live_ok, list_ok}

-- ---- steps

refuse : {A G : Type 0} (e : LinkFault) (y : A) → Err e ≡ Ok y → G
refuse e y h = absurd (differ e y h)
  where
    differ : {C : Type 0} (d : LinkFault) (z : C) → Err d ≡ Ok z → ⊥
    differ d z bad = cc

then : {A B G : Type 0} (r : Result A LinkFault) (f : A → Result B LinkFault) (y : B) → (r >>= f) ≡ Ok y → ((x : A) → r ≡ Ok x → f x ≡ Ok y → G) → G
then (Ok x) f y h k = k x refl h
then (Err e) f y h k = refuse e y h

or_bad_ok : {A : Type 0} (o : Option A) (x : A) → or_bad o ≡ Ok x → o ≡ Some x
or_bad_ok None x h = cc
or_bad_ok (Some y) x h = cc

-- the same with a step that finds something or not
after : {A B G : Type 0} (o : Option A) (f : A → Result B LinkFault) (y : B) → (or_bad o >>= f) ≡ Ok y → ((x : A) → o ≡ Some x → f x ≡ Ok y → G) → G
after o f y h k = then (or_bad o) f y h (λ x is more. k x (or_bad_ok o x is) more)

abbrev answer : {A : Type 0} → A → Result A LinkFault
answer x = Ok x

last : {A : Type 0} (x y : A) → answer x ≡ answer y → x ≡ y
last x y e = cc

-- ---- told values

-- it is written as it was read, and has what its form has
abbrev Written : Form → Data → ToldValue → Type 0
Written form d t = (d ≡ written_in form t) × (is_told t ≡ true) × (has_form form t ≡ true)

pub raw_told_ok : (form : Form) (d : Data) (t : ToldValue) → raw_told_in form d ≡ Ok t → Written form d t
unfolding raw_told_in
raw_told_ok Two d t h =
    after (two_in d) _ t h (λ m is_m h1.
    after (list_in range_in m.0) _ t h1 (λ gs is_gs h2.
    after (list_in row_in m.1) _ t h2 (λ xs is_xs h3.
    made m gs xs is_m is_gs is_xs (last (record { ranges = gs; extras = []; live = xs }) t h3))))
  where
    made : (m : Pair) (gs : List Range) (xs : List (Dot × Row))
        → two_in d ≡ Some m → list_in range_in m.0 ≡ Some gs → list_in row_in m.1 ≡ Some xs → record { ranges = gs; extras = []; live = xs } ≡ t
        → Written Two d t
    made m gs xs is_m is_gs is_xs same =
        let a = list_ok range_in range_value is_told_range range_ok m.0 gs is_gs in
        let e = list_ok row_in row_value is_told_row live_ok m.1 xs is_xs in
        rw (← same) (
          rw (two_ok d m is_m, a.0, e.0) refl,
          both (list_all is_told_range gs) (true && list_all is_told_row xs) a.1 e.1,
          refl,
        )
raw_told_ok One d t h =
    after (three_in d) _ t h (λ m is_m h1.
    after (list_in range_in m.0) _ t h1 (λ gs is_gs h2.
    after (list_in extra_in m.1) _ t h2 (λ es is_es h3.
    after (list_in row_in m.2) _ t h3 (λ xs is_xs h4.
    made m gs es xs is_m is_gs is_es is_xs (last (record { ranges = gs; extras = es; live = xs }) t h4)))))
  where
    made : (m : Three) (gs : List Range) (es : List Dot) (xs : List (Dot × Row))
        → three_in d ≡ Some m → list_in range_in m.0 ≡ Some gs → list_in extra_in m.1 ≡ Some es → list_in row_in m.2 ≡ Some xs → record { ranges = gs; extras = es; live = xs } ≡ t
        → Written One d t
    made m gs es xs is_m is_gs is_es is_xs same =
        let a = list_ok range_in range_value is_told_range range_ok m.0 gs is_gs in
        let b = list_ok extra_in dot_value is_told_dot extra_ok m.1 es is_es in
        let e = list_ok row_in row_value is_told_row live_ok m.2 xs is_xs in
        rw (← same) (
          rw (three_ok d m is_m, a.0, b.0, e.0) refl,
          both (list_all is_told_range gs) (list_all is_told_dot es && list_all is_told_row xs) a.1 (both (list_all is_told_dot es) (list_all is_told_row xs) b.1 e.1),
          refl,
        )

unless_ok : (o : Option ToldFault) (t u : ToldValue) → unless o t ≡ Ok u → (is_none o ≡ true) × (t ≡ u)
unless_ok None t u h = (refl, cc)
unless_ok (Some f) t u h = (cc, cc)

form_is : (form : Form) → is_form (Some form) form ≡ true
form_is One = refl
form_is Two = refl

-- a value of the hearer's form, with nothing wrong
sound_is : (k : ℕ) (h : Hearer) (form : Form) (t : ToldValue) → h.form ≡ Some form → has_form form t ≡ true → is_told t ≡ true → is_none (first_fault k h.shards form t) ≡ true
    → is_sound k h (record { form = form; told = t }) ≡ true
sound_is k h form t known shaped told faultless =
    both (is_form h.form form) (has_form form t && (is_told t && is_none (first_fault k h.shards form t))) (ap (λ o. is_form o form) known ∙ form_is form)
    (both (has_form form t) (is_told t && is_none (first_fault k h.shards form t)) shaped
    (both (is_told t) (is_none (first_fault k h.shards form t)) told faultless))

told_ok : (k : ℕ) (h : Hearer) (d : Data) (t : Telling) → told_in k h d ≡ Ok t → (d ≡ told_value t) × (is_sound k h t ≡ true)
told_ok k h d t read =
    after h.form (told_as k h.shards d) t read (λ form known h1.
    then (raw_told_in form d >>= sound k h.shards form) (in_form form) t h1 (λ own is_own h2.
    then (raw_told_in form d) (sound k h.shards form) own is_own (λ raw is_raw h3.
    made form raw own known is_raw h3 (last (record { form = form; told = own }) t h2))))
  where
    made : (form : Form) (raw own : ToldValue) → h.form ≡ Some form → raw_told_in form d ≡ Ok raw → sound k h.shards form raw ≡ Ok own → record { form = form; told = own } ≡ t
        → (d ≡ told_value t) × (is_sound k h t ≡ true)
    made form raw own known is_raw is_own same =
        let a = raw_told_ok form d raw is_raw in
        let b = unless_ok (first_fault k h.shards form raw) raw own is_own in
        rw (← same) (
          a.0 ∙ ap (written_in form) b.1,
          sound_is k h form own known (ap (has_form form) (sym b.1) ∙ a.2) (ap is_told (sym b.1) ∙ a.1) (ap (λ x. is_none (first_fault k h.shards form x)) (sym b.1) ∙ b.0),
        )

some_delta : (k : ℕ) (h : Hearer) (r : Replica) (d : Data) (o : Option Telling) → (or_bad h.form >>= delta_as k h.shards r d) ≡ Ok o
    → (d ≡ delta_value o) × (is_delta k h r o ≡ true)
some_delta k h r d o read =
    after h.form (delta_as k h.shards r d) o read (λ form known h0.
    then (raw_told_in form d >>= own_delta form r >>= sound k h.shards form) _ o h0 (λ t is_t h1.
    then (raw_told_in form d >>= own_delta form r) (sound k h.shards form) t is_t (λ own is_own h2.
    then (raw_told_in form d) (own_delta form r) own is_own (λ raw is_raw h3.
    made form raw own t known is_raw h3 h2 (last (Some (record { form = form; told = t })) o h1)))))
  where
    made : (form : Form) (raw own t : ToldValue) → h.form ≡ Some form → raw_told_in form d ≡ Ok raw → own_delta form r raw ≡ Ok own → sound k h.shards form own ≡ Ok t
        → Some (record { form = form; told = t }) ≡ o → (d ≡ delta_value o) × (is_delta k h r o ≡ true)
    made form raw own t known is_raw is_own is_t same =
        let a = raw_told_ok form d raw is_raw in
        let b = guarded_ok (is_delta_of form r raw) raw own (or_bad_ok _ own is_own) in
        let e = unless_ok (first_fault k h.shards form own) own t is_t in
        let through : raw ≡ t = b.1 ∙ e.1 in
        rw (← same) (
          a.0 ∙ ap (written_in form) through,
          both (is_delta_of form r t) (is_sound k h (record { form = form; told = t })) (ap (is_delta_of form r) (sym through) ∙ b.0)
              (sound_is k h form t known (ap (has_form form) (sym through) ∙ a.2) (ap is_told (sym through) ∙ a.1) (ap (λ x. is_none (first_fault k h.shards form x)) (sym e.1) ∙ e.0)),
        )

delta_ok : (k : ℕ) (h : Hearer) (r : Replica) (d : Data) (o : Option Telling) → delta_in k h r d ≡ Ok o → (d ≡ delta_value o) × (is_delta k h r o ≡ true)
delta_ok k h r null o read = let same : None ≡ o = cc in rw (← same) (refl, refl)
delta_ok k h r (boolean b) o read = some_delta k h r (boolean b) o read
delta_ok k h r (number x) o read = some_delta k h r (number x) o read
delta_ok k h r (string s) o read = some_delta k h r (string s) o read
delta_ok k h r (array ds) o read = some_delta k h r (array ds) o read
delta_ok k h r (object ms) o read = some_delta k h r (object ms) o read

-- ---- kinds

abbrev pub name_of : Kind → List ℕ
name_of kinds_are.Hello = codes "hello"
name_of kinds_are.Beat = codes "beat"
name_of kinds_are.Want = codes "want"
name_of kinds_are.Told = codes "told"
name_of kinds_are.PermDown = codes "permdown"
name_of kinds_are.Gone = codes "gone"
name_of kinds_are.Ok = codes "ok"

-- the name is this one, or one of the others
pick : (s : List ℕ) (a k : Kind) (rest : Option Kind) → cond (bytes_eq s (name_of a)) (Some a) rest ≡ Some k → (rest ≡ Some k → s ≡ name_of k) → s ≡ name_of k
pick s a k rest h more = go (bytes_eq s (name_of a)) refl h
  where
    go : (b : Bool) → bytes_eq s (name_of a) ≡ b → cond b (Some a) rest ≡ Some k → s ≡ name_of k
    go true was e = let same : a ≡ k = cc in (bytes_eq-Decides s (name_of a)).0 was ∙ ap name_of same
    go false was e = more e

kind_named_ok : (s : List ℕ) (k : Kind) → kind_named s ≡ Some k → s ≡ name_of k
kind_named_ok s k h =
    pick s kinds_are.Hello k _ h (λ h1.
    pick s kinds_are.Beat k _ h1 (λ h2.
    pick s kinds_are.Want k _ h2 (λ h3.
    pick s kinds_are.Told k _ h3 (λ h4.
    pick s kinds_are.PermDown k _ h4 (λ h5.
    pick s kinds_are.Gone k _ h5 (λ h6.
    pick s kinds_are.Ok k None h6 (λ h7. differ s k h7)))))))
  where
    differ : (t : List ℕ) (j : Kind) → None ≡ Some j → t ≡ name_of j
    differ t j e = cc

kind_first_ok : (d : Data) (k : Kind) → kind_first d ≡ Some k → d ≡ string (name_of k)
kind_first_ok null k h = cc
kind_first_ok (boolean b) k h = cc
kind_first_ok (number n) k h = cc
kind_first_ok (string s) k h = ap string (kind_named_ok s k h)
kind_first_ok (array ds) k h = cc
kind_first_ok (object ms) k h = cc

-- an array of these names its kind first
first_is : (d first : Data) (ds : Items) (k : Kind) → d ≡ array (item first ds) → kind_in d ≡ Some k → first ≡ string (name_of k)
first_is d first ds k e h = kind_first_ok first k (ap kind_in (sym e) ∙ h)

-- ---- lines

-- the value is what the line is written as, and the line may come to the hearer
abbrev Belongs : Hearer → Data → Line → Type 0
Belongs n d line = (d ≡ value_of line) × (is_within n line ≡ true)

shard_ok : (n : ℕ) (d : Data) (k : ℕ) → shard_in n d ≡ Ok k → (d ≡ whole k) × (nat_lt k n ≡ true)
shard_ok n d k h =
    after (whole_in d) _ k h (λ m is_m h1.
    let g = guarded_ok (nat_lt m n) m k (or_bad_ok _ k h1) in
    (whole_ok d k (is_m ∙ ap Some g.1), ap (λ x. nat_lt x n) (sym g.1) ∙ g.0))

hello_with_ok : (n : Hearer) (name incarnation shards : Data) (version : Option ℕ) (line : Line) → hello_with name incarnation shards version ≡ Ok line → is_version version ≡ true
    → (array_of (string (codes "hello") ∷ name ∷ incarnation ∷ shards ∷ version_values version) ≡ value_of line) × (is_within n line ≡ true)
hello_with_ok n name incarnation shards version line h limit =
    after (replica_in name incarnation) _ line h (λ r is_r h1.
    after (number_in 1 MAX_SHARDS shards) _ line h1 (λ k is_k h2.
    made r k is_r is_k (last (lines_are.Hello r k version) line h2)))
  where
    made : (r : Replica) (k : ℕ) → replica_in name incarnation ≡ Some r → number_in 1 MAX_SHARDS shards ≡ Some k → lines_are.Hello r k version ≡ line
        → (array_of (string (codes "hello") ∷ name ∷ incarnation ∷ shards ∷ version_values version) ≡ value_of line) × (is_within n line ≡ true)
    made r k is_r is_k same =
        let a = replica_ok name incarnation r is_r in
        let b = number_ok 1 MAX_SHARDS shards k is_k in
        rw (← same) (
          rw (a.name_is, a.incarnation_is, b.0) refl,
          both (is_replica r) (is_from_to 1 MAX_SHARDS k && is_version version) a.limits (both (is_from_to 1 MAX_SHARDS k) (is_version version) b.1 limit),
        )

hello_ok : (n : Hearer) (d : Data) (line : Line) → kind_in d ≡ Some kinds_are.Hello → hello_in d ≡ Ok line → Belongs n d line
hello_ok n d line kind h = go (four_in d) (five_in d) refl refl h
  where
    four : (m : Four) → four_in d ≡ Some m → hello_with m.1 m.2 m.3 None ≡ Ok line → Belongs n d line
    four m is_m read =
        let is = four_ok d m is_m in
        let e = hello_with_ok n m.1 m.2 m.3 None line read refl in
        (is ∙ ap (λ x. array_of (x ∷ m.1 ∷ m.2 ∷ m.3 ∷ [])) (first_is d m.0 _ kinds_are.Hello is kind) ∙ e.0, e.1)

    five : (m : Five) → five_in d ≡ Some m → (or_bad (count_in m.4) >>= (λ v. hello_with m.1 m.2 m.3 (Some v))) ≡ Ok line → Belongs n d line
    five m is_m read =
        after (count_in m.4) _ line read (λ v is_v h1.
        let is = five_ok d m is_m in
        let b = number_ok 1 MAX_COUNT m.4 v is_v in
        let e = hello_with_ok n m.1 m.2 m.3 (Some v) line h1 b.1 in (
          is ∙ ap (λ x. array_of (x ∷ m.1 ∷ m.2 ∷ m.3 ∷ m.4 ∷ [])) (first_is d m.0 _ kinds_are.Hello is kind)
              ∙ ap (λ x. array_of (string (codes "hello") ∷ m.1 ∷ m.2 ∷ m.3 ∷ x ∷ [])) b.0 ∙ e.0,
          e.1,
        ))

    go : (o : Option Four) (p : Option Five) → four_in d ≡ o → five_in d ≡ p → hello_of o p ≡ Ok line → Belongs n d line
    go (Some m) p is_o is_p read = four m is_o read
    go None (Some m) is_o is_p read = five m is_p read
    go None None is_o is_p read = refuse BadLine line read

beat_ok : (n : Hearer) (d : Data) (line : Line) → kind_in d ≡ Some kinds_are.Beat → beat_in n d ≡ Ok line → Belongs n d line
beat_ok n d line kind h =
    after (six_in d) _ line h (λ m is_m h1.
    then (shard_in n.shards m.1) _ line h1 (λ k is_k h2.
    after (replica_in m.2 m.3) _ line h2 (λ r is_r h3.
    after (bound_in m.4) _ line h3 (λ c is_c h4.
    then (delta_in k n r m.5) _ line h4 (λ t is_t h5.
    made m k r c t is_m is_k is_r is_c is_t (last (lines_are.Beat k r c t) line h5))))))
  where
    made : (m : Six) (k : ℕ) (r : Replica) (c : ℕ) (t : Option Telling)
        → six_in d ≡ Some m → shard_in n.shards m.1 ≡ Ok k → replica_in m.2 m.3 ≡ Some r → bound_in m.4 ≡ Some c → delta_in k n r m.5 ≡ Ok t → lines_are.Beat k r c t ≡ line → Belongs n d line
    made m k r c t is_m is_k is_r is_c is_t same =
        let is = six_ok d m is_m in
        let s = shard_ok n.shards m.1 k is_k in
        let a = replica_ok m.2 m.3 r is_r in
        let b = number_ok 0 MAX_COUNT m.4 c is_c in
        let e = delta_ok k n r m.5 t is_t in
        rw (← same) (
          rw (is, first_is d m.0 _ kinds_are.Beat is kind, s.0, a.name_is, a.incarnation_is, b.0, e.0) refl,
          both (nat_lt k n.shards) (is_replica r && (is_bound c && is_delta k n r t)) s.1
              (both (is_replica r) (is_bound c && is_delta k n r t) a.limits (both (is_bound c) (is_delta k n r t) b.1 e.1)),
        )

want_ok : (n : Hearer) (d : Data) (line : Line) → kind_in d ≡ Some kinds_are.Want → want_in n.shards d ≡ Ok line → Belongs n d line
want_ok n d line kind h =
    after (five_in d) _ line h (λ m is_m h1.
    then (shard_in n.shards m.1) _ line h1 (λ k is_k h2.
    after (replica_in m.2 m.3) _ line h2 (λ r is_r h3.
    after (bound_in m.4) _ line h3 (λ c is_c h4.
    made m k r c is_m is_k is_r is_c (last (lines_are.Want k r c) line h4)))))
  where
    made : (m : Five) (k : ℕ) (r : Replica) (c : ℕ)
        → five_in d ≡ Some m → shard_in n.shards m.1 ≡ Ok k → replica_in m.2 m.3 ≡ Some r → bound_in m.4 ≡ Some c → lines_are.Want k r c ≡ line → Belongs n d line
    made m k r c is_m is_k is_r is_c same =
        let is = five_ok d m is_m in
        let s = shard_ok n.shards m.1 k is_k in
        let a = replica_ok m.2 m.3 r is_r in
        let b = number_ok 0 MAX_COUNT m.4 c is_c in
        rw (← same) (
          rw (is, first_is d m.0 _ kinds_are.Want is kind, s.0, a.name_is, a.incarnation_is, b.0) refl,
          both (nat_lt k n.shards) (is_replica r && is_bound c) s.1 (both (is_replica r) (is_bound c) a.limits b.1),
        )

told_line_ok : (n : Hearer) (d : Data) (line : Line) → kind_in d ≡ Some kinds_are.Told → told_line_in n d ≡ Ok line → Belongs n d line
told_line_ok n d line kind h =
    after (three_in d) _ line h (λ m is_m h1.
    then (shard_in n.shards m.1) _ line h1 (λ k is_k h2.
    then (told_in k n m.2) _ line h2 (λ t is_t h3.
    made m k t is_m is_k is_t (last (lines_are.Told k t) line h3))))
  where
    made : (m : Three) (k : ℕ) (t : Telling) → three_in d ≡ Some m → shard_in n.shards m.1 ≡ Ok k → told_in k n m.2 ≡ Ok t → lines_are.Told k t ≡ line → Belongs n d line
    made m k t is_m is_k is_t same =
        let is = three_ok d m is_m in
        let s = shard_ok n.shards m.1 k is_k in
        let e = told_ok k n m.2 t is_t in
        rw (← same) (rw (is, first_is d m.0 _ kinds_are.Told is kind, s.0, e.0) refl, both (nat_lt k n.shards) (is_sound k n t) s.1 e.1)

permdown_ok : (n : Hearer) (d : Data) (line : Line) → kind_in d ≡ Some kinds_are.PermDown → permdown_in d ≡ Ok line → Belongs n d line
permdown_ok n d line kind h =
    after (three_in d) _ line h (λ m is_m h1.
    after (replica_in m.1 m.2) _ line h1 (λ r is_r h2.
    made m r is_m is_r (last (lines_are.PermDown r) line h2)))
  where
    made : (m : Three) (r : Replica) → three_in d ≡ Some m → replica_in m.1 m.2 ≡ Some r → lines_are.PermDown r ≡ line → Belongs n d line
    made m r is_m is_r same =
        let is = three_ok d m is_m in
        let a = replica_ok m.1 m.2 r is_r in
        rw (← same) (rw (is, first_is d m.0 _ kinds_are.PermDown is kind, a.name_is, a.incarnation_is) refl, a.limits)

gone_ok : (n : Hearer) (d : Data) (line : Line) → kind_in d ≡ Some kinds_are.Gone → gone_in d ≡ Ok line → Belongs n d line
gone_ok n d line kind h =
    after (three_in d) _ line h (λ m is_m h1.
    after (replica_in m.1 m.2) _ line h1 (λ r is_r h2.
    made m r is_m is_r (last (lines_are.Gone r) line h2)))
  where
    made : (m : Three) (r : Replica) → three_in d ≡ Some m → replica_in m.1 m.2 ≡ Some r → lines_are.Gone r ≡ line → Belongs n d line
    made m r is_m is_r same =
        let is = three_ok d m is_m in
        let a = replica_ok m.1 m.2 r is_r in
        rw (← same) (rw (is, first_is d m.0 _ kinds_are.Gone is kind, a.name_is, a.incarnation_is) refl, a.limits)

ok_items_ok : (n : Hearer) (ds : Items) (line : Line) → kind_in (array ds) ≡ Some kinds_are.Ok → ok_items ds ≡ Ok line → Belongs n (array ds) line
ok_items_ok n no_items line kind h = (cc, cc)
ok_items_ok n (item d no_items) line kind h =
    let same : lines_are.Ok ≡ line = last lines_are.Ok line h in
    rw (← same) (rw (first_is (array (item d no_items)) d no_items kinds_are.Ok refl kind) refl, refl)
ok_items_ok n (item d (item e ds)) line kind h = (cc, cc)

ok_ok : (n : Hearer) (d : Data) (line : Line) → kind_in d ≡ Some kinds_are.Ok → ok_in d ≡ Ok line → Belongs n d line
ok_ok n null line kind h = (cc, cc)
ok_ok n (boolean b) line kind h = (cc, cc)
ok_ok n (number x) line kind h = (cc, cc)
ok_ok n (string s) line kind h = (cc, cc)
ok_ok n (array ds) line kind h = ok_items_ok n ds line kind h
ok_ok n (object ms) line kind h = (cc, cc)

by_kind : (n : Hearer) (d : Data) (k : Kind) (line : Line) → kind_in d ≡ Some k → line_of_kind n d k ≡ Ok line → Belongs n d line
by_kind n d kinds_are.Hello line kind h = hello_ok n d line kind h
by_kind n d kinds_are.Beat line kind h = beat_ok n d line kind h
by_kind n d kinds_are.Want line kind h = want_ok n d line kind h
by_kind n d kinds_are.Told line kind h = told_line_ok n d line kind h
by_kind n d kinds_are.PermDown line kind h = permdown_ok n d line kind h
by_kind n d kinds_are.Gone line kind h = gone_ok n d line kind h
by_kind n d kinds_are.Ok line kind h = ok_ok n d line kind h

-- ---- texts

pub line_ok : (n : Hearer) (d : Data) (line : Line) → line_in n d ≡ Ok line → Belongs n d line
line_ok n d line h = after (kind_in d) (line_of_kind n d) line h (λ k kind h1. by_kind n d k line kind h1)

found_value_ok : (o : Option Data) (d : Data) → found_value o ≡ Ok d → o ≡ Some d
found_value_ok None d h = cc
found_value_ok (Some e) d h = cc

value_ok : (s : List ℕ) (d : Data) → value_in s ≡ Ok d → (length s ≤ MAX_LINE_BYTES) × (read s ≡ Some d)
value_ok s d h = go (nat_lt MAX_LINE_BYTES (length s)) refl h
  where
    go : (b : Bool) → nat_lt MAX_LINE_BYTES (length s) ≡ b → cond b (Err LineTooLong) (found_value (read s)) ≡ Ok d → (length s ≤ MAX_LINE_BYTES) × (read s ≡ Some d)
    go true was e = absurd (cc)
    go false was e = (grind (arith, nat_tests), found_value_ok (read s) d e)

pub decoded_found : (n : Hearer) (s : List ℕ) (line : Line) → decoded n s ≡ Ok line → IsLine n s line
decoded_found n s line h =
    then (value_in s) (line_in n) line h (λ d is_d h1.
    let v = value_ok s d is_d in
    let b = line_ok n d line h1 in
    record { within = b.1; short = v.0; reads = v.1 ∙ ap Some b.0 })
