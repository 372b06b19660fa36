-- Lines hold no floats, and nest little.
use Rattle.std.proofs.Common.{◌≡◌, ℕ, ◌≤◌, true, false, not, ◌&&◌, List, [], ◌∷◌, nat_le, map, Option, Some, None, refl, arith}
use Rattle.std.proofs.lemmas.Bool.{and_parts, not-true, leb-true}
use Rattle.serde_json.specs.Data.{Data, depth, items_depth}
use Rattle.serde_json.specs.View.{items_of}
use Rattle.serde_json.specs.Written.{has_float, items_have_float}
use Rattle.presence_base.specs.declared.dots.Dot.{Dot}
use Rattle.presence_base.specs.declared.row.Row.{Row}
use Rattle.presence_base.specs.Metas.{is_plain, is_small_tree, is_meta}
use Rattle.orswot_core.specs.declared.form.Form.{Form}
use Rattle.orswot_core.specs.declared.form.Form.TheVariants.{One, Two}
use Rattle.orswot_core.specs.Telling.{Range, ToldValue}
use Rattle.link_lines.specs.declared.hearer.Telling.{Telling}
use Rattle.link_lines.specs.declared.lines.Line.{Line}
use Rattle.link_lines.specs.declared.lines.Line.TheVariants as lines_are
use Rattle.link_lines.specs.Limits.{are_metas, delta_metas, has_metas}
use Rattle.link_lines.specs.Values.{range_value, dot_value, prev_value, row_value, value_in, told_value, delta_value, value_of}

-- no float within, and at most n levels
record IsTame (n : ℕ) (d : Data) : Type 0 where
  whole : has_float d ≡ false
  shallow : depth d ≤ n

meta_tame : (d : Data) → is_meta d ≡ true → IsTame 32 d
meta_tame d h =
    let small = (and_parts (is_small_tree d) _ h).0 in
    let p = and_parts (is_plain d && nat_le (depth d) 32) (not (has_float d)) small in
    record { whole = not-true (has_float d) p.1; shallow = leb-true (depth d) 32 (and_parts (is_plain d) (nat_le (depth d) 32) p.0).1 }

-- the same of a list
record AreTame (n : ℕ) (ds : List Data) : Type 0 where
  whole : items_have_float (items_of ds) ≡ false
  shallow : items_depth (items_of ds) ≤ n

both_tame : (n : ℕ) (d : Data) (ds : List Data) → IsTame n d → AreTame n ds → AreTame n (d ∷ ds)
both_tame n d ds one more = record {
  whole = rw (one.whole, more.whole) refl;
  shallow = let a = one.shallow in let b = more.shallow in omega arith;
}

each_tame : {A : Type 0} (n : ℕ) (value : A → Data) → ((x : A) → IsTame n (value x)) → (xs : List A) → AreTame n (map value xs)
each_tame n value one [] = record { whole = refl; shallow = omega arith }
each_tame n value one (x ∷ xs) = both_tame n (value x) (map value xs) (one x) (each_tame n value one xs)

range_tame : (g : Range) → IsTame 33 (range_value g)
range_tame g = record { whole = refl; shallow = omega arith }

dot_tame : (d : Dot) → IsTame 1 (dot_value d)
dot_tame d = record { whole = refl; shallow = omega arith }

extra_tame : (d : Dot) → IsTame 33 (dot_value d)
extra_tame d = record { whole = refl; shallow = omega arith }

prev_tame : (o : Option Dot) → IsTame 1 (prev_value o)
prev_tame None = record { whole = refl; shallow = omega arith }
prev_tame (Some d) = dot_tame d

row_tame : (x : Dot × Row) → is_meta x.1.meta ≡ true → IsTame 33 (row_value x)
row_tame x h =
    let m = meta_tame x.1.meta h in
    let p = prev_tame x.1.prev in
    record {
      whole = rw (m.whole, p.whole) refl;
      shallow = let a = m.shallow in let b = p.shallow in omega arith;
    }

rows_tame : (xs : List (Dot × Row)) → are_metas xs ≡ true → AreTame 33 (map row_value xs)
rows_tame [] h = record { whole = refl; shallow = omega arith }
rows_tame (x ∷ xs) h =
    let p = and_parts (is_meta x.1.meta) (are_metas xs) h in
    both_tame 33 (row_value x) (map row_value xs) (row_tame x p.0) (rows_tame xs p.1)

value_tame : (form : Form) (t : ToldValue) → are_metas t.live ≡ true → IsTame 35 (value_in form t)
value_tame Two t h =
    let a = each_tame 33 range_value range_tame t.ranges in
    let e = rows_tame t.live h in
    record {
      whole = rw (a.whole, e.whole) refl;
      shallow = let x = a.shallow in let z = e.shallow in omega arith;
    }
value_tame One t h =
    let a = each_tame 33 range_value range_tame t.ranges in
    let b = each_tame 33 dot_value extra_tame t.extras in
    let e = rows_tame t.live h in
    record {
      whole = rw (a.whole, b.whole, e.whole) refl;
      shallow = let x = a.shallow in let y = b.shallow in let z = e.shallow in omega arith;
    }

told_tame : (t : Telling) → are_metas t.told.live ≡ true → IsTame 35 (told_value t)
told_tame t h = value_tame t.form t.told h

delta_tame : (o : Option Telling) → delta_metas o ≡ true → IsTame 35 (delta_value o)
delta_tame None h = record { whole = refl; shallow = omega arith }
delta_tame (Some t) h = told_tame t h

line_tame : (line : Line) → has_metas line ≡ true → IsTame 36 (value_of line)
line_tame (lines_are.Hello r k None) h = record { whole = refl; shallow = omega arith }
line_tame (lines_are.Hello r k (Some v)) h = record { whole = refl; shallow = omega arith }
line_tame (lines_are.Beat k r c t) h = let d = delta_tame t h in record { whole = rw (d.whole) refl; shallow = let a = d.shallow in omega arith }
line_tame (lines_are.Want k r c) h = record { whole = refl; shallow = omega arith }
line_tame (lines_are.Told k t) h = let d = told_tame t h in record { whole = rw (d.whole) refl; shallow = let a = d.shallow in omega arith }
line_tame (lines_are.PermDown r) h = record { whole = refl; shallow = omega arith }
line_tame (lines_are.Gone r) h = record { whole = refl; shallow = omega arith }
line_tame lines_are.Ok h = record { whole = refl; shallow = omega arith }

pub line_whole : (line : Line) → has_metas line ≡ true → has_float (value_of line) ≡ false
line_whole line h = (line_tame line h).whole

pub line_shallow : (line : Line) → has_metas line ≡ true → depth (value_of line) ≤ 127
line_shallow line h = let d = (line_tame line h).shallow in omega arith
