-- A line with a told value, from what is read of its first members and of its last.
use Rattle.std.proofs.Common.{◌≡◌, ◌≤◌, ℕ, List, length, Option, Some, None, option_map, Result, Ok, Err, refl, sym, ap, ◌∙◌, subst, arith}
use Rattle.json.specs.Json as json
use Rattle.json.specs.Token.{Token}
use Rattle.serde_json.specs.Data.{Data, array}
use Rattle.serde_json.specs.View.{items_view}
use Rattle.serde_json.specs.declared.value.Value.{Value}
use Rattle.presence_base.specs.declared.dots.Replica.{Replica}
use Rattle.json_parts.specs.Items.{after}
use Rattle.json_parts.specs.Outline.{brief, few, shallow}
use Rattle.json_parts.specs.Places.{data_of, items_data, AtItems}
use Rattle.link_lines.specs.declared.fault.LinkFault.{LinkFault}
use Rattle.link_lines.specs.declared.fault.LinkFault.TheVariants.{BadLine}
use Rattle.link_lines.specs.declared.hearer.Hearer.{Hearer}
use Rattle.link_lines.specs.Arrays.{Three, three_items, three_in, Six, six_items, six_in}
use Rattle.link_lines.specs.Members.{bound_in, replica_in}
use Rattle.link_lines.specs.Results.{◌>>=◌, or_bad}
use Rattle.link_lines.specs.Told.{told_in, delta_in}
use Rattle.link_lines.proofs.Brief.{bound_brief, replica_brief, brief_three, brief_six, three_shallow, six_shallow}
use Rattle.link_lines.specs.declared.lines.Line.{Line}
use Rattle.link_lines.specs.declared.lines.Line.TheVariants as lines_are
use Rattle.link_lines.specs.Reading.{shard_in, beat_in, told_line_in}
use Rattle.link_lines.proofs.Outlines.{shard_brief, third, two_read, sixth, five_read}

none_mapped : {A B : Type 0} (f : A → B) (o : Option A) → option_map f o ≡ None → o ≡ None
none_mapped f None e = refl
none_mapped f (Some a) e = absurd (cc)

some_mapped : {A B : Type 0} (f : A → B) (o : Option A) (b : B) → option_map f o ≡ Some b → (a : A) × (o ≡ Some a) × (b ≡ f a)
some_mapped f None b e = absurd (cc)
some_mapped {A} {B} f (Some a) b e = (a, refl, sym (ap or_b e))
  where
    or_b : Option B → B
    or_b None = b
    or_b (Some c) = c

abbrev told_of : Hearer → Three → Result Line LinkFault
told_of h m = shard_in h.shards m.1 >>= (λ s. told_in s h m.2 >>= (λ t. Ok (lines_are.Told s t)))

abbrev counted : Hearer → ℕ → Replica → Data → ℕ → Result Line LinkFault
counted h s r d c = delta_in s h r d >>= (λ x. Ok (lines_are.Beat s r c x))

abbrev beat_by : Hearer → Result ℕ LinkFault → Option Replica → Option ℕ → Data → Result Line LinkFault
beat_by h shard replica count d = shard >>= (λ s. or_bad replica >>= (λ r. or_bad count >>= counted h s r d))

abbrev beat_of : Hearer → Six → Result Line LinkFault
beat_of h m = beat_by h (shard_in h.shards m.1) (replica_in m.2 m.3) (bound_in m.4) m.5

-- a beat, but for its delta, as its brief members say
beat_brief : (h : Hearer) (n : Six) → beat_of h n ≡ beat_by h (shard_in h.shards (brief n.1)) (replica_in (brief n.2) (brief n.3)) (bound_in (brief n.4)) n.5
beat_brief h n =
    ap (λ o. beat_by h o (replica_in n.2 n.3) (bound_in n.4) n.5) (sym (shard_brief h.shards n.1))
    ∙ ap (λ o. beat_by h (shard_in h.shards (brief n.1)) o (bound_in n.4) n.5) (sym (replica_brief n.2 n.3))
    ∙ ap (λ o. beat_by h (shard_in h.shards (brief n.1)) (replica_in (brief n.2) (brief n.3)) o n.5) (sym (bound_brief n.4))

module _ (h : Hearer) (js : json.Items) (v : Data) (seen : v ≡ shallow 9 (array (items_data js))) where
  three_seen : three_in v ≡ option_map brief_three (three_items (items_data js))
  three_seen = ap three_in seen ∙ three_shallow (array (items_data js))

  six_seen : six_in v ≡ option_map brief_six (six_items (items_data js))
  six_seen = ap six_in seen ∙ six_shallow (array (items_data js))

  pub no_told : three_in v ≡ None → told_line_in h (array (items_data js)) ≡ Err BadLine
  no_told none = ap (λ o. or_bad o >>= told_of h) (none_mapped brief_three (three_items (items_data js)) (sym three_seen ∙ none))

  pub told_astray : (m : Three) (e : LinkFault) → three_in v ≡ Some m → shard_in h.shards m.1 ≡ Err e → told_line_in h (array (items_data js)) ≡ Err e
  told_astray m e found wrong =
      let n = some_mapped brief_three (three_items (items_data js)) m (sym three_seen ∙ found) in
      ap (λ o. or_bad o >>= told_of h) n.1
      ∙ ap (λ s. s >>= (λ k. told_in k h n.0.2 >>= (λ t. Ok (lines_are.Told k t)))) (sym (shard_brief h.shards n.0.1) ∙ ap (λ x. shard_in h.shards x.1) (sym n.2) ∙ wrong)

  pub told_last : (m : Three) (s : ℕ) (vs : List Value) (new rest : List Token) → three_in v ≡ Some m → shard_in h.shards m.1 ≡ Ok s
      → items_view vs ≡ few 2 (items_data js) → (2 ≤ length vs → AtItems new (after 2 js) rest)
      → (j : json.Json) × AtItems new (json.item j json.no_items) rest × (told_line_in h (array (items_data js)) ≡ (told_in s h (data_of j) >>= (λ t. Ok (lines_are.Told s t))))
  told_last m s vs new rest found right read stands =
      let n = some_mapped brief_three (three_items (items_data js)) m (sym three_seen ∙ found) in
      let l = third js n.0 n.1 in
      let two : length vs ≡ 2 = two_read js n.0 vs n.1 read in (
        l.0,
        subst (λ is. AtItems new is rest) l.1 (stands (omega (arith, two))),
        ap (λ o. or_bad o >>= told_of h) n.1
            ∙ ap (λ q. q >>= (λ k. told_in k h n.0.2 >>= (λ t. Ok (lines_are.Told k t)))) (sym (shard_brief h.shards n.0.1) ∙ ap (λ x. shard_in h.shards x.1) (sym n.2) ∙ right)
            ∙ ap (λ d. told_in s h d >>= (λ t. Ok (lines_are.Told s t))) (sym l.2),
      )

  pub no_beat : six_in v ≡ None → beat_in h (array (items_data js)) ≡ Err BadLine
  no_beat none = ap (λ o. or_bad o >>= beat_of h) (none_mapped brief_six (six_items (items_data js)) (sym six_seen ∙ none))

  -- the beat, but for its delta, by the members that were seen
  record Beaten (m : Six) : Type 0 where
    pub n : Six
    pub found : six_items (items_data js) ≡ Some n
    pub value : beat_in h (array (items_data js)) ≡ beat_by h (shard_in h.shards m.1) (replica_in m.2 m.3) (bound_in m.4) n.5

  beaten : (m : Six) → six_in v ≡ Some m → Beaten m
  beaten m found =
      let n = some_mapped brief_six (six_items (items_data js)) m (sym six_seen ∙ found) in
      record {
        n = n.0;
        found = n.1;
        value = ap (λ o. or_bad o >>= beat_of h) n.1 ∙ beat_brief h n.0
            ∙ ap (λ x. beat_by h (shard_in h.shards x.1) (replica_in x.2 x.3) (bound_in x.4) n.0.5) (sym n.2);
      }

  pub beat_astray : (m : Six) (e : LinkFault) → six_in v ≡ Some m → shard_in h.shards m.1 ≡ Err e → beat_in h (array (items_data js)) ≡ Err e
  beat_astray m e found wrong = let b = beaten m found in b.value ∙ ap (λ o. beat_by h o (replica_in m.2 m.3) (bound_in m.4) b.n.5) wrong

  pub beat_of_none : (m : Six) (s : ℕ) (e : LinkFault) → six_in v ≡ Some m → shard_in h.shards m.1 ≡ Ok s → or_bad (replica_in m.2 m.3) ≡ Err e
      → beat_in h (array (items_data js)) ≡ Err e
  beat_of_none m s e found right none = let b = beaten m found in
      b.value ∙ ap (λ o. beat_by h o (replica_in m.2 m.3) (bound_in m.4) b.n.5) right ∙ ap (λ o. o >>= (λ r. or_bad (bound_in m.4) >>= counted h s r b.n.5)) none

  pub beat_uncounted : (m : Six) (s : ℕ) (r : Replica) (e : LinkFault) → six_in v ≡ Some m → shard_in h.shards m.1 ≡ Ok s → or_bad (replica_in m.2 m.3) ≡ Ok r
      → or_bad (bound_in m.4) ≡ Err e → beat_in h (array (items_data js)) ≡ Err e
  beat_uncounted m s r e found right named none = let b = beaten m found in
      b.value ∙ ap (λ o. beat_by h o (replica_in m.2 m.3) (bound_in m.4) b.n.5) right
      ∙ ap (λ o. o >>= (λ q. or_bad (bound_in m.4) >>= counted h s q b.n.5)) named ∙ ap (λ o. o >>= counted h s r b.n.5) none

  pub beat_last : (m : Six) (s : ℕ) (r : Replica) (c : ℕ) (vs : List Value) (new rest : List Token) → six_in v ≡ Some m → shard_in h.shards m.1 ≡ Ok s
      → or_bad (replica_in m.2 m.3) ≡ Ok r → or_bad (bound_in m.4) ≡ Ok c → items_view vs ≡ few 5 (items_data js) → (5 ≤ length vs → AtItems new (after 5 js) rest)
      → (j : json.Json) × AtItems new (json.item j json.no_items) rest × (beat_in h (array (items_data js)) ≡ counted h s r (data_of j) c)
  beat_last m s r c vs new rest found right named count read stands =
      let b = beaten m found in
      let l = sixth js b.n b.found in
      let five : length vs ≡ 5 = five_read js b.n vs b.found read in (
        l.0,
        subst (λ is. AtItems new is rest) l.1 (stands (omega (arith, five))),
        b.value ∙ ap (λ o. beat_by h o (replica_in m.2 m.3) (bound_in m.4) b.n.5) right
            ∙ ap (λ o. o >>= (λ q. or_bad (bound_in m.4) >>= counted h s q b.n.5)) named
            ∙ ap (λ o. o >>= counted h s r b.n.5) count
            ∙ ap (λ d. counted h s r d c) (sym l.2),
      )
