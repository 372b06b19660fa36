-- What is written is read again: parts of a line, told values and lines.
use Rattle.std.proofs.Common.{◌≡◌, ℕ, ◌≤◌, Bool, true, false, ◌&&◌, List, [], ◌∷◌, length, ◌<◌, nat_lt, nat_eq, suc, cond, subst, is_some, is_none, map, Option, Some, None, option_map, Result, Ok, Err, IfOk, refl, sym, ◌∙◌, ap, arith}
use Rattle.std.specs.List.{list_all}
use Rattle.std.proofs.lemmas.Bool.{and_parts}
use Rattle.std.proofs.lemmas.Bool.Decides.{nat_tests}
use Rattle.serde_json.specs.Data.{Data, null, boolean, number, string, array, object}
use Rattle.serde_json.specs.Find.{as_object}
use Rattle.serde_json.specs.View.{items_of}
use Rattle.presence_base.specs.declared.dots.TheConstants.{MAX_COUNT}
use Rattle.presence_base.specs.declared.dots.Replica.{Replica}
use Rattle.presence_base.specs.declared.dots.Dot.{Dot}
use Rattle.presence_base.specs.declared.row.Row.{Row}
use Rattle.presence_base.specs.Names.{is_node_name, guarded}
use Rattle.orswot_core.specs.declared.told.ToldFault.{ToldFault}
use Rattle.orswot_core.specs.Telling.{Range, ToldValue}
use Rattle.orswot_core.specs.declared.form.Form.{Form}
use Rattle.orswot_core.specs.declared.form.Form.TheVariants.{One, Two}
use Rattle.orswot_core.specs.Checks.{first_fault}
use Rattle.link_lines.specs.declared.lines.Line.{Line}
use Rattle.link_lines.specs.declared.lines.Line.TheVariants as lines_are
use Rattle.link_lines.specs.declared.hearer.Hearer.{Hearer}
use Rattle.link_lines.specs.declared.hearer.Telling.{Telling}
use Rattle.link_lines.specs.declared.fault.LinkFault.{LinkFault}
use Rattle.link_lines.specs.declared.fault.LinkFault.TheVariants.{LineTooLong}
use Rattle.presence_base.specs.declared.names.TheConstants.{MAX_SHARDS}
use Rattle.link_lines.specs.declared.lines.TheConstants.{MAX_LINE_BYTES}
use Rattle.link_lines.specs.Limits.{is_from_to, is_counted, is_bound, is_replica, is_told_range, is_told_dot, is_told_prev, is_told_row, is_told, has_form, is_form, is_sound, is_delta, is_within}
use Rattle.link_lines.specs.Members.{number_in, name_in, replica_in, dot_in}
use Rattle.link_lines.specs.Reading.{shard_in, line_in, value_in, decoded, IsLine}
use Rattle.link_lines.specs.Results.{◌>>=◌, or_bad, Answers}
use Rattle.link_lines.specs.Telling.{range_in, extra_in, prev_in, object_in, row_in, each_in}
use Rattle.link_lines.specs.Told.{raw_told_in, unless, sound, in_form, told_as, told_in, is_delta_of, own_delta, delta_as, delta_in}
use Rattle.link_lines.specs.Writing.{text_of, encoded}
use Rattle.link_lines.proofs.FoundLines.{decoded_found}
use Rattle.link_lines.specs.Values.{whole, range_value, dot_value, prev_value, row_value, value_in as written_in, told_value, delta_value, value_of}

-- ---- members

number_again : (low high n : ℕ) → is_from_to low high n ≡ true → number_in low high (whole n) ≡ Some n
number_again low high n h = ap (λ b. guarded b n) h

name_again : (s : List ℕ) → is_node_name s ≡ true → name_in (string s) ≡ Some s
name_again s h = ap (λ b. guarded b s) h

replica_again : (r : Replica) → is_replica r ≡ true → replica_in (string r.name) (whole r.incarnation) ≡ Some r
replica_again r h =
    let p = and_parts (is_node_name r.name) (is_counted r.incarnation) h in
    rw (name_again r.name p.0, number_again 1 MAX_COUNT r.incarnation p.1) refl

dot_again : (d : Dot) → is_told_dot d ≡ true → dot_in (string d.replica.name) (whole d.replica.incarnation) (whole d.count) ≡ Some d
dot_again d h =
    let p = and_parts (is_replica d.replica) (is_counted d.count) h in
    rw (replica_again d.replica p.0, number_again 1 MAX_COUNT d.count p.1) refl

-- ---- parts of a told value

range_again : (g : Range) → is_told_range g ≡ true → range_in (range_value g) ≡ Some g
range_again g h =
    let p = and_parts (is_replica g.0) (is_bound g.1 && is_bound g.2) h in
    let q = and_parts (is_bound g.1) (is_bound g.2) p.1 in
    rw (replica_again g.0 p.0, number_again 0 MAX_COUNT g.1 q.0, number_again 0 MAX_COUNT g.2 q.1) refl

extra_again : (d : Dot) → is_told_dot d ≡ true → extra_in (dot_value d) ≡ Some d
extra_again d h = dot_again d h

prev_again : (o : Option Dot) → is_told_prev o ≡ true → prev_in (prev_value o) ≡ Some o
prev_again None h = refl
prev_again (Some d) h = ap (option_map Some) (extra_again d h)

object_again : (d : Data) → is_some (as_object d) ≡ true → object_in d ≡ Some d
object_again null h = cc
object_again (boolean b) h = cc
object_again (number n) h = cc
object_again (string s) h = cc
object_again (array ds) h = cc
object_again (object ms) h = refl

row_again : (x : Dot × Row) → is_told_row x ≡ true → row_in (row_value x) ≡ Some x
row_again x h =
    let p = and_parts (is_told_dot x.0) (is_some (as_object x.1.meta) && is_told_prev x.1.prev) h in
    let q = and_parts (is_some (as_object x.1.meta)) (is_told_prev x.1.prev) p.1 in
    rw (dot_again x.0 p.0, object_again x.1.meta q.0, prev_again x.1.prev q.1) refl

each_again : {A : Type 0} (f : Data → Option A) (value : A → Data) (is : A → Bool) (one : (x : A) → is x ≡ true → f (value x) ≡ Some x)
    (xs : List A) → list_all is xs ≡ true → each_in f (items_of (map value xs)) ≡ Some xs
each_again f value is one [] h = refl
each_again f value is one (x ∷ xs) h =
    let p = and_parts (is x) (list_all is xs) h in
    rw (one x p.0, each_again f value is one xs p.1) refl

-- ---- told values

no_extras : (es : List Dot) → nat_eq (length es) 0 ≡ true → es ≡ []
no_extras [] h = refl
no_extras (e ∷ es) h = absurd (some (length es) h)
  where
    some : (n : ℕ) → nat_eq (suc n) 0 ≡ true → ⊥
    some n k = grind (arith, nat_tests)

raw_told_again : (form : Form) (t : ToldValue) → has_form form t ≡ true → is_told t ≡ true → raw_told_in form (written_in form t) ≡ Ok t
unfolding raw_told_in
raw_told_again Two t none h =
    let p = and_parts (list_all is_told_range t.ranges) (list_all is_told_dot t.extras && list_all is_told_row t.live) h in
    let q = and_parts (list_all is_told_dot t.extras) (list_all is_told_row t.live) p.1 in
    let bare : ToldValue = record { ranges = t.ranges; extras = []; live = t.live } in
    let read : raw_told_in Two (written_in Two t) ≡ Ok bare = rw (
      each_again range_in range_value is_told_range range_again t.ranges p.0,
      each_again row_in row_value is_told_row row_again t.live q.1,
    ) refl in
    read ∙ ap (λ es. Ok (record { ranges = t.ranges; extras = es; live = t.live })) (sym (no_extras t.extras none))
raw_told_again One t any h =
    let p = and_parts (list_all is_told_range t.ranges) (list_all is_told_dot t.extras && list_all is_told_row t.live) h in
    let q = and_parts (list_all is_told_dot t.extras) (list_all is_told_row t.live) p.1 in
    rw (
      each_again range_in range_value is_told_range range_again t.ranges p.0,
      each_again extra_in dot_value is_told_dot extra_again t.extras q.0,
      each_again row_in row_value is_told_row row_again t.live q.1,
    ) refl

unless_none : (o : Option ToldFault) (t : ToldValue) → is_none o ≡ true → unless o t ≡ Ok t
unless_none None t h = refl
unless_none (Some f) t h = cc

form_known : (o : Option Form) (f : Form) → is_form o f ≡ true → o ≡ Some f
form_known None One h = cc
form_known None Two h = cc
form_known (Some One) One h = refl
form_known (Some One) Two h = cc
form_known (Some Two) One h = cc
form_known (Some Two) Two h = refl

-- what is_sound says, part by part
record Sound (k : ℕ) (h : Hearer) (t : Telling) : Type 0 where
  known : h.form ≡ Some t.form
  shaped : has_form t.form t.told ≡ true
  told : is_told t.told ≡ true
  faultless : is_none (first_fault k h.shards t.form t.told) ≡ true

sound_parts : (k : ℕ) (h : Hearer) (t : Telling) → is_sound k h t ≡ true → Sound k h t
sound_parts k h t s =
    let p = and_parts (is_form h.form t.form) (has_form t.form t.told && (is_told t.told && is_none (first_fault k h.shards t.form t.told))) s in
    let q = and_parts (has_form t.form t.told) (is_told t.told && is_none (first_fault k h.shards t.form t.told)) p.1 in
    let e = and_parts (is_told t.told) (is_none (first_fault k h.shards t.form t.told)) q.1 in
    record { known = form_known h.form t.form p.0; shaped = q.0; told = e.0; faultless = e.1 }

told_again : (k : ℕ) (h : Hearer) (t : Telling) → is_sound k h t ≡ true → told_in k h (told_value t) ≡ Ok t
told_again k h t s =
    let p = sound_parts k h t s in
    ap (λ o. or_bad o >>= told_as k h.shards (told_value t)) p.known
    ∙ ap (λ r. r >>= sound k h.shards t.form >>= in_form t.form) (raw_told_again t.form t.told p.shaped p.told)
    ∙ ap (λ r. r >>= in_form t.form) (unless_none (first_fault k h.shards t.form t.told) t.told p.faultless)

abbrev some_told : Form → Result ToldValue LinkFault → Result (Option Telling) LinkFault
some_told form r = r >>= (λ t. Ok (Some (record { form = form; told = t })))

as_again : (k n : ℕ) (r : Replica) (t : Telling) → is_delta_of t.form r t.told ≡ true → has_form t.form t.told ≡ true → is_told t.told ≡ true → is_none (first_fault k n t.form t.told) ≡ true
    → delta_as k n r (told_value t) t.form ≡ Ok (Some t)
as_again k n r t own shaped told faultless =
    ap (λ x. some_told t.form (x >>= own_delta t.form r >>= sound k n t.form)) (raw_told_again t.form t.told shaped told)
    ∙ ap (λ b. some_told t.form (or_bad (guarded b t.told) >>= sound k n t.form)) own
    ∙ ap (some_told t.form) (unless_none (first_fault k n t.form t.told) t.told faultless)

-- a value that is written is an array, and no null
not_null : (k : ℕ) (h : Hearer) (r : Replica) (t : Telling) → delta_in k h r (told_value t) ≡ (or_bad h.form >>= delta_as k h.shards r (told_value t))
not_null k h r t = go t.form
  where
    go : (f : Form) → delta_in k h r (written_in f t.told) ≡ (or_bad h.form >>= delta_as k h.shards r (written_in f t.told))
    go One = refl
    go Two = refl

delta_again : (k : ℕ) (h : Hearer) (r : Replica) (o : Option Telling) → is_delta k h r o ≡ true → delta_in k h r (delta_value o) ≡ Ok o
delta_again k h r None s = refl
delta_again k h r (Some t) s =
    let p = and_parts (is_delta_of t.form r t.told) (is_sound k h t) s in
    let q = sound_parts k h t p.1 in
    not_null k h r t
    ∙ ap (λ o. or_bad o >>= delta_as k h.shards r (told_value t)) q.known
    ∙ as_again k h.shards r t p.0 q.shaped q.told q.faultless

-- ---- lines

shard_again : (n k : ℕ) → nat_lt k n ≡ true → shard_in n (whole k) ≡ Ok k
shard_again n k h = ap (λ b. or_bad (guarded b k)) h

pub line_again : (n : Hearer) (line : Line) → is_within n line ≡ true → line_in n (value_of line) ≡ Ok line
line_again n (lines_are.Hello r k None) h =
    let p = and_parts (is_replica r) (is_from_to 1 MAX_SHARDS k && true) h in
    let q = and_parts (is_from_to 1 MAX_SHARDS k) true p.1 in
    rw (replica_again r p.0, number_again 1 MAX_SHARDS k q.0) refl
line_again n (lines_are.Hello r k (Some v)) h =
    let p = and_parts (is_replica r) (is_from_to 1 MAX_SHARDS k && is_counted v) h in
    let q = and_parts (is_from_to 1 MAX_SHARDS k) (is_counted v) p.1 in
    rw (number_again 1 MAX_COUNT v q.1, replica_again r p.0, number_again 1 MAX_SHARDS k q.0) refl
line_again n (lines_are.Beat k r c t) h =
    let p = and_parts (nat_lt k n.shards) (is_replica r && (is_bound c && is_delta k n r t)) h in
    let q = and_parts (is_replica r) (is_bound c && is_delta k n r t) p.1 in
    let s = and_parts (is_bound c) (is_delta k n r t) q.1 in
    rw (shard_again n.shards k p.0, replica_again r q.0, number_again 0 MAX_COUNT c s.0, delta_again k n r t s.1) refl
line_again n (lines_are.Want k r c) h =
    let p = and_parts (nat_lt k n.shards) (is_replica r && is_bound c) h in
    let q = and_parts (is_replica r) (is_bound c) p.1 in
    rw (shard_again n.shards k p.0, replica_again r q.0, number_again 0 MAX_COUNT c q.1) refl
line_again n (lines_are.Told k t) h =
    let p = and_parts (nat_lt k n.shards) (is_sound k n t) h in
    rw (shard_again n.shards k p.0, told_again k n t p.1) refl
line_again n (lines_are.PermDown r) h = rw (replica_again r h) refl
line_again n (lines_are.Gone r) h = rw (replica_again r h) refl
line_again n lines_are.Ok h = refl

pub decoded_only : (n : Hearer) (s : List ℕ) (line : Line) → IsLine n s line → decoded n s ≡ Ok line
decoded_only n s line h =
    let short = h.short in
    let fits : nat_lt MAX_LINE_BYTES (length s) ≡ false = grind (arith, nat_tests) in
    let is_value : value_in s ≡ Ok (value_of line) = rw (fits, h.reads) refl in
    ap (λ r. r >>= line_in n) is_value ∙ line_again n line h.within

-- where a line's text is too long, and where it isn't
pub too_long : (line : Line) (s : List ℕ) → s ≡ text_of line → MAX_LINE_BYTES < length s → encoded line ≡ Err LineTooLong
too_long line s is long =
    let over : MAX_LINE_BYTES < length (text_of line) = subst (λ x. MAX_LINE_BYTES < length x) is long in
    let test : nat_lt MAX_LINE_BYTES (length (text_of line)) ≡ true = grind (arith, nat_tests) in
    ap (λ b. cond b (Err LineTooLong) (Ok (text_of line))) test

pub fits_well : (line : Line) (s : List ℕ) → s ≡ text_of line → length s ≤ MAX_LINE_BYTES → encoded line ≡ Ok s
fits_well line s is short =
    let within : length (text_of line) ≤ MAX_LINE_BYTES = subst (λ x. length x ≤ MAX_LINE_BYTES) is short in
    let test : nat_lt MAX_LINE_BYTES (length (text_of line)) ≡ false = grind (arith, nat_tests) in
    ap (λ b. cond b (Err LineTooLong) (Ok (text_of line))) test ∙ ap (λ x. Ok x) (sym is)

pub found_from_answer : (n : Hearer) (s : List ℕ) (r : Result Line LinkFault) → Answers r (decoded n s) → IfOk r (IsLine n s)
found_from_answer n s (Ok line) h = decoded_found n s line h
found_from_answer n s (Err e) h = tt
