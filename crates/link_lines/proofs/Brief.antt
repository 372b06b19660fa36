-- The members of a line need no more than brief values.
use Rattle.std.proofs.Common.{◌≡◌, ℕ, Option, Some, None, option_map, refl, ap, ◌∙◌}
use Rattle.serde_json.specs.Data.{Data, null, boolean, number, string, array, object, Items, no_items, item}
use Rattle.json_parts.specs.Outline.{brief, few, shallow}
use Rattle.presence_base.specs.declared.dots.Dot.{Dot}
use Rattle.orswot_core.specs.Telling.{Range}
use Rattle.link_lines.specs.Arrays.{Three, three_items, three_in, Four, four_items, four_in, Five, five_items, five_in, Six, six_items, six_in}
use Rattle.link_lines.specs.Members.{◌>>=◌, whole_in, number_in, count_in, bound_in, text_in, name_in, replica_in, dot_in}
use Rattle.link_lines.specs.Telling.{range_in, extra_in, prev_in}

pub whole_brief : (d : Data) → whole_in (brief d) ≡ whole_in d
whole_brief null = refl
whole_brief (boolean b) = refl
whole_brief (number n) = refl
whole_brief (string s) = refl
whole_brief (array ds) = refl
whole_brief (object ms) = refl

pub text_brief : (d : Data) → text_in (brief d) ≡ text_in d
text_brief null = refl
text_brief (boolean b) = refl
text_brief (number n) = refl
text_brief (string s) = refl
text_brief (array ds) = refl
text_brief (object ms) = refl

pub name_brief : (d : Data) → name_in (brief d) ≡ name_in d
name_brief null = refl
name_brief (boolean b) = refl
name_brief (number n) = refl
name_brief (string s) = refl
name_brief (array ds) = refl
name_brief (object ms) = refl

module _ (low high : ℕ) where
  pub number_brief : (d : Data) → number_in low high (brief d) ≡ number_in low high d
  number_brief null = refl
  number_brief (boolean b) = refl
  number_brief (number n) = refl
  number_brief (string s) = refl
  number_brief (array ds) = refl
  number_brief (object ms) = refl

pub count_brief : (d : Data) → count_in (brief d) ≡ count_in d
count_brief null = refl
count_brief (boolean b) = refl
count_brief (number n) = refl
count_brief (string s) = refl
count_brief (array ds) = refl
count_brief (object ms) = refl

pub bound_brief : (d : Data) → bound_in (brief d) ≡ bound_in d
bound_brief null = refl
bound_brief (boolean b) = refl
bound_brief (number n) = refl
bound_brief (string s) = refl
bound_brief (array ds) = refl
bound_brief (object ms) = refl

pub replica_brief : (a b : Data) → replica_in (brief a) (brief b) ≡ replica_in a b
replica_brief a b =
    ap (λ n. n >>= (λ x. count_in (brief b) >>= (λ y. Some (record { name = x; incarnation = y })))) (name_brief a)
    ∙ ap (λ i. name_in a >>= (λ x. i >>= (λ y. Some (record { name = x; incarnation = y })))) (count_brief b)

pub dot_brief : (a b c : Data) → dot_in (brief a) (brief b) (brief c) ≡ dot_in a b c
dot_brief a b c =
    ap (λ r. r >>= (λ x. count_in (brief c) >>= (λ y. Some (record { replica = x; count = y })))) (replica_brief a b)
    ∙ ap (λ n. replica_in a b >>= (λ x. n >>= (λ y. Some (record { replica = x; count = y })))) (count_brief c)

-- ---- arrays of just so many

abbrev pub brief_three : Three → Three
brief_three m = (brief m.0, brief m.1, brief m.2)

abbrev pub brief_four : Four → Four
brief_four m = (brief m.0, brief m.1, brief m.2, brief m.3)

abbrev pub brief_five : Five → Five
brief_five m = (brief m.0, brief m.1, brief m.2, brief m.3, brief m.4)

abbrev pub brief_six : Six → Six
brief_six m = (brief m.0, brief m.1, brief m.2, brief m.3, brief m.4, brief m.5)

three_few : (ds : Items) → three_items (few 9 ds) ≡ option_map brief_three (three_items ds)
unfolding few
three_few no_items = refl
three_few (item a no_items) = refl
three_few (item a (item b no_items)) = refl
three_few (item a (item b (item c no_items))) = refl
three_few (item a (item b (item c (item d ds)))) = refl

four_few : (ds : Items) → four_items (few 9 ds) ≡ option_map brief_four (four_items ds)
unfolding few
four_few no_items = refl
four_few (item a no_items) = refl
four_few (item a (item b no_items)) = refl
four_few (item a (item b (item c no_items))) = refl
four_few (item a (item b (item c (item d no_items)))) = refl
four_few (item a (item b (item c (item d (item e ds))))) = refl

five_few : (ds : Items) → five_items (few 9 ds) ≡ option_map brief_five (five_items ds)
unfolding few
five_few no_items = refl
five_few (item a no_items) = refl
five_few (item a (item b no_items)) = refl
five_few (item a (item b (item c no_items))) = refl
five_few (item a (item b (item c (item d no_items)))) = refl
five_few (item a (item b (item c (item d (item e no_items))))) = refl
five_few (item a (item b (item c (item d (item e (item f ds)))))) = refl

six_few : (ds : Items) → six_items (few 9 ds) ≡ option_map brief_six (six_items ds)
unfolding few
six_few no_items = refl
six_few (item a no_items) = refl
six_few (item a (item b no_items)) = refl
six_few (item a (item b (item c no_items))) = refl
six_few (item a (item b (item c (item d no_items)))) = refl
six_few (item a (item b (item c (item d (item e no_items))))) = refl
six_few (item a (item b (item c (item d (item e (item f no_items)))))) = refl
six_few (item a (item b (item c (item d (item e (item f (item g ds))))))) = refl

pub three_shallow : (d : Data) → three_in (shallow 9 d) ≡ option_map brief_three (three_in d)
three_shallow null = refl
three_shallow (boolean b) = refl
three_shallow (number n) = refl
three_shallow (string s) = refl
three_shallow (array ds) = three_few ds
three_shallow (object ms) = refl

pub four_shallow : (d : Data) → four_in (shallow 9 d) ≡ option_map brief_four (four_in d)
four_shallow null = refl
four_shallow (boolean b) = refl
four_shallow (number n) = refl
four_shallow (string s) = refl
four_shallow (array ds) = four_few ds
four_shallow (object ms) = refl

pub five_shallow : (d : Data) → five_in (shallow 9 d) ≡ option_map brief_five (five_in d)
five_shallow null = refl
five_shallow (boolean b) = refl
five_shallow (number n) = refl
five_shallow (string s) = refl
five_shallow (array ds) = five_few ds
five_shallow (object ms) = refl

pub six_shallow : (d : Data) → six_in (shallow 9 d) ≡ option_map brief_six (six_in d)
six_shallow null = refl
six_shallow (boolean b) = refl
six_shallow (number n) = refl
six_shallow (string s) = refl
six_shallow (array ds) = six_few ds
six_shallow (object ms) = refl

-- what follows doesn't tell what was made brief from what wasn't
same_after : {A B : Type 0} (f : A → A) (g : A → Option B) → ((a : A) → g (f a) ≡ g a) → (o : Option A) → (option_map f o >>= g) ≡ (o >>= g)
same_after f g same None = refl
same_after f g same (Some a) = same a

abbrev range_of : Four → Option Range
range_of m = replica_in m.0 m.1 >>= (λ r. bound_in m.2 >>= (λ a. bound_in m.3 >>= (λ b. Some (r, a, b))))

range_same : (m : Four) → range_of (brief_four m) ≡ range_of m
range_same m =
    ap (λ o. o >>= (λ r. bound_in (brief m.2) >>= (λ a. bound_in (brief m.3) >>= (λ b. Some (r, a, b))))) (replica_brief m.0 m.1)
    ∙ ap (λ o. replica_in m.0 m.1 >>= (λ r. o >>= (λ a. bound_in (brief m.3) >>= (λ b. Some (r, a, b))))) (bound_brief m.2)
    ∙ ap (λ o. replica_in m.0 m.1 >>= (λ r. bound_in m.2 >>= (λ a. o >>= (λ b. Some (r, a, b))))) (bound_brief m.3)

pub range_shallow : (d : Data) → range_in (shallow 9 d) ≡ range_in d
range_shallow d = ap (λ o. o >>= range_of) (four_shallow d) ∙ same_after brief_four range_of range_same (four_in d)

abbrev extra_of : Three → Option Dot
extra_of m = dot_in m.0 m.1 m.2

pub extra_shallow : (d : Data) → extra_in (shallow 9 d) ≡ extra_in d
extra_shallow d = ap (λ o. o >>= extra_of) (three_shallow d) ∙ same_after brief_three extra_of (λ m. dot_brief m.0 m.1 m.2) (three_in d)

pub prev_shallow : (d : Data) → prev_in (shallow 9 d) ≡ prev_in d
prev_shallow null = refl
prev_shallow (boolean b) = refl
prev_shallow (number n) = refl
prev_shallow (string s) = refl
prev_shallow (array ds) = ap (option_map Some) (extra_shallow (array ds))
prev_shallow (object ms) = refl
