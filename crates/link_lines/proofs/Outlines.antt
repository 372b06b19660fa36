-- What a line's kind and the lines without lists say is in the line without what is in its members.
use Rattle.std.proofs.Common.{◌≡◌, ℕ, List, length, Option, Some, None, option_map, Result, Ok, Err, refl, sym, ap, ap₂, ◌∙◌, subst}
use Rattle.json.specs.Json as json
use Rattle.serde_json.specs.Data.{Data, null, boolean, number, string, array, object, Items, no_items, item}
use Rattle.serde_json.specs.Events.{items_len}
use Rattle.serde_json.specs.View.{items_view}
use Rattle.serde_json.specs.declared.value.Value.{Value}
use Rattle.serde_json.proofs.Views.{items_len-items_view}
use Rattle.presence_base.specs.declared.dots.Replica.{Replica}
use Rattle.presence_base.specs.declared.names.TheConstants.{MAX_SHARDS}
use Rattle.json_parts.specs.Items.{after}
use Rattle.json_parts.specs.Outline.{brief, few, shallow}
use Rattle.json_parts.specs.Places.{data_of, items_data}
use Rattle.link_lines.specs.declared.fault.LinkFault.{LinkFault}
use Rattle.link_lines.specs.Arrays.{Three, three_items, three_in, Four, four_in, Five, five_in, Six, six_items, six_in}
use Rattle.link_lines.specs.Members.{whole_in, number_in, count_in, bound_in, replica_in}
use Rattle.link_lines.specs.Results.{◌>>=◌, Answers, or_bad}
use Rattle.link_lines.proofs.Brief.{whole_brief, number_brief, count_brief, bound_brief, replica_brief, brief_three, brief_four, brief_five, brief_six, three_shallow, four_shallow, five_shallow, six_shallow}
use Rattle.link_lines.specs.declared.lines.Line.{Line}
use Rattle.link_lines.specs.declared.lines.Line.TheVariants as lines_are
use Rattle.link_lines.specs.Kinds.{kind_first, kind_of_all, kind_in}
use Rattle.link_lines.specs.Reading.{below, hello_with, hello_of, hello_in, shard_in, want_in, permdown_in, gone_in, ok_items, ok_in}

first_brief : (d : Data) → kind_first (brief d) ≡ kind_first d
first_brief null = refl
first_brief (boolean b) = refl
first_brief (number n) = refl
first_brief (string s) = refl
first_brief (array ds) = refl
first_brief (object ms) = refl

all_few : (ds : Items) → kind_of_all (few 9 ds) ≡ kind_of_all ds
unfolding few
all_few no_items = refl
all_few (item d ds) = first_brief d

pub kind_shallow : (d : Data) → kind_in (shallow 9 d) ≡ kind_in d
kind_shallow null = refl
kind_shallow (boolean b) = refl
kind_shallow (number n) = refl
kind_shallow (string s) = refl
kind_shallow (array ds) = all_few ds
kind_shallow (object ms) = refl

hello_brief : (n i s : Data) (v : Option ℕ) → hello_with (brief n) (brief i) (brief s) v ≡ hello_with n i s v
hello_brief n i s v =
    ap (λ o. or_bad o >>= (λ r. or_bad (number_in 1 MAX_SHARDS (brief s)) >>= (λ k. Ok (lines_are.Hello r k v)))) (replica_brief n i)
    ∙ ap (λ o. or_bad (replica_in n i) >>= (λ r. or_bad o >>= (λ k. Ok (lines_are.Hello r k v)))) (number_brief 1 MAX_SHARDS s)

hello_few : (four : Option Four) (five : Option Five) → hello_of (option_map brief_four four) (option_map brief_five five) ≡ hello_of four five
hello_few (Some m) five = hello_brief m.1 m.2 m.3 None
hello_few None None = refl
hello_few None (Some m) =
    ap (λ o. or_bad o >>= (λ v. hello_with (brief m.1) (brief m.2) (brief m.3) (Some v))) (count_brief m.4)
    ∙ each (or_bad (count_in m.4))
  where
    each : (o : Result ℕ LinkFault) → (o >>= (λ v. hello_with (brief m.1) (brief m.2) (brief m.3) (Some v))) ≡ (o >>= (λ v. hello_with m.1 m.2 m.3 (Some v)))
    each (Ok v) = hello_brief m.1 m.2 m.3 (Some v)
    each (Err e) = refl

pub hello_shallow : (d : Data) → hello_in (shallow 9 d) ≡ hello_in d
hello_shallow d = ap₂ hello_of (four_shallow d) (five_shallow d) ∙ hello_few (four_in d) (five_in d)

pub shard_brief : (n : ℕ) (d : Data) → shard_in n (brief d) ≡ shard_in n d
shard_brief n d = ap (λ o. or_bad o >>= (λ k. or_bad (below n k))) (whole_brief d)

-- what follows doesn't tell what was made brief from what wasn't
same_after : {A B : Type 0} (f : A → A) (g : A → Result B LinkFault) → ((a : A) → g (f a) ≡ g a) → (o : Option A) → (or_bad (option_map f o) >>= g) ≡ (or_bad o >>= g)
same_after f g same None = refl
same_after f g same (Some a) = same a

abbrev want_of : ℕ → Five → Result Line LinkFault
want_of n m = shard_in n m.1 >>= (λ s. or_bad (replica_in m.2 m.3) >>= (λ r. or_bad (bound_in m.4) >>= (λ t. Ok (lines_are.Want s r t))))

want_brief : (n : ℕ) (m : Five) → want_of n (brief_five m) ≡ want_of n m
want_brief n m =
    ap (λ o. o >>= (λ s. or_bad (replica_in (brief m.2) (brief m.3)) >>= (λ r. or_bad (bound_in (brief m.4)) >>= (λ t. Ok (lines_are.Want s r t))))) (shard_brief n m.1)
    ∙ ap (λ o. shard_in n m.1 >>= (λ s. or_bad o >>= (λ r. or_bad (bound_in (brief m.4)) >>= (λ t. Ok (lines_are.Want s r t))))) (replica_brief m.2 m.3)
    ∙ ap (λ o. shard_in n m.1 >>= (λ s. or_bad (replica_in m.2 m.3) >>= (λ r. or_bad o >>= (λ t. Ok (lines_are.Want s r t))))) (bound_brief m.4)

pub want_shallow : (n : ℕ) (d : Data) → want_in n (shallow 9 d) ≡ want_in n d
want_shallow n d = ap (λ o. or_bad o >>= want_of n) (five_shallow d) ∙ same_after brief_five (want_of n) (want_brief n) (five_in d)

abbrev with_replica : (Replica → Line) → Three → Result Line LinkFault
with_replica line m = or_bad (replica_in m.1 m.2) >>= (λ r. Ok (line r))

with_brief : (line : Replica → Line) (m : Three) → with_replica line (brief_three m) ≡ with_replica line m
with_brief line m = ap (λ o. or_bad o >>= (λ r. Ok (line r))) (replica_brief m.1 m.2)

pub permdown_shallow : (d : Data) → permdown_in (shallow 9 d) ≡ permdown_in d
permdown_shallow d = ap (λ o. or_bad o >>= with_replica lines_are.PermDown) (three_shallow d)
    ∙ same_after brief_three (with_replica lines_are.PermDown) (with_brief lines_are.PermDown) (three_in d)

pub gone_shallow : (d : Data) → gone_in (shallow 9 d) ≡ gone_in d
gone_shallow d = ap (λ o. or_bad o >>= with_replica lines_are.Gone) (three_shallow d)
    ∙ same_after brief_three (with_replica lines_are.Gone) (with_brief lines_are.Gone) (three_in d)

ok_few : (ds : Items) → ok_items (few 9 ds) ≡ ok_items ds
unfolding few
ok_few no_items = refl
ok_few (item d no_items) = refl
ok_few (item d (item e ds)) = refl

pub ok_shallow : (d : Data) → ok_in (shallow 9 d) ≡ ok_in d
ok_shallow null = refl
ok_shallow (boolean b) = refl
ok_shallow (number n) = refl
ok_shallow (string s) = refl
ok_shallow (array ds) = ok_few ds
ok_shallow (object ms) = refl

-- ---- the last member of a line

pub third : (js : json.Items) (m : Three) → three_items (items_data js) ≡ Some m → (j : json.Json) × (after 2 js ≡ json.item j json.no_items) × (data_of j ≡ m.2)
unfolding after
third json.no_items m e = absurd (cc)
third (json.item a json.no_items) m e = absurd (cc)
third (json.item a (json.item b json.no_items)) m e = absurd (cc)
third (json.item a (json.item b (json.item c json.no_items))) m e = (c, refl, ap (last_of (data_of c)) e)
  where
    last_of : Data → Option Three → Data
    last_of d None = d
    last_of d (Some n) = n.2
third (json.item a (json.item b (json.item c (json.item d js)))) m e = absurd (cc)

pub two_read : (js : json.Items) (m : Three) (vs : List Value) → three_items (items_data js) ≡ Some m → items_view vs ≡ few 2 (items_data js) → length vs ≡ 2
unfolding few
two_read json.no_items m vs e is = absurd (cc)
two_read (json.item a json.no_items) m vs e is = absurd (cc)
two_read (json.item a (json.item b js)) m vs e is = sym (items_len-items_view vs) ∙ ap items_len is

pub sixth : (js : json.Items) (m : Six) → six_items (items_data js) ≡ Some m → (j : json.Json) × (after 5 js ≡ json.item j json.no_items) × (data_of j ≡ m.5)
unfolding after
sixth json.no_items m e = absurd (cc)
sixth (json.item a json.no_items) m e = absurd (cc)
sixth (json.item a (json.item b json.no_items)) m e = absurd (cc)
sixth (json.item a (json.item b (json.item c json.no_items))) m e = absurd (cc)
sixth (json.item a (json.item b (json.item c (json.item d json.no_items)))) m e = absurd (cc)
sixth (json.item a (json.item b (json.item c (json.item d (json.item f json.no_items))))) m e = absurd (cc)
sixth (json.item a (json.item b (json.item c (json.item d (json.item f (json.item g json.no_items)))))) m e = (g, refl, ap (last_of (data_of g)) e)
  where
    last_of : Data → Option Six → Data
    last_of d None = d
    last_of d (Some n) = n.5
sixth (json.item a (json.item b (json.item c (json.item d (json.item f (json.item g (json.item h js))))))) m e = absurd (cc)

pub five_read : (js : json.Items) (m : Six) (vs : List Value) → six_items (items_data js) ≡ Some m → items_view vs ≡ few 5 (items_data js) → length vs ≡ 5
unfolding few
five_read json.no_items m vs e is = absurd (cc)
five_read (json.item a json.no_items) m vs e is = absurd (cc)
five_read (json.item a (json.item b json.no_items)) m vs e is = absurd (cc)
five_read (json.item a (json.item b (json.item c json.no_items))) m vs e is = absurd (cc)
five_read (json.item a (json.item b (json.item c (json.item d json.no_items)))) m vs e is = absurd (cc)
five_read (json.item a (json.item b (json.item c (json.item d (json.item f js))))) m vs e is = sym (items_len-items_view vs) ∙ ap items_len is
