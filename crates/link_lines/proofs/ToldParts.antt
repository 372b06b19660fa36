-- What a hearer is told, from what is kept of the value.
use Rattle.std.proofs.Common.{◌≡◌, ℕ, List, Bool, true, false, Option, Some, None, Result, Ok, Err, refl, sym, ap, ◌∙◌}
use Rattle.json.specs.Json as json
use Rattle.json.specs.Token.{Token}
use Rattle.serde_json.specs.Data.{Data, null, boolean, number, string, array, object, Items}
use Rattle.presence_base.specs.declared.dots.Replica.{Replica}
use Rattle.orswot_core.specs.Telling.{ToldValue}
use Rattle.orswot_core.specs.declared.form.Form.{Form}
use Rattle.orswot_core.specs.declared.form.Form.TheVariants.{One, Two}
use Rattle.json_parts.specs.Items.{is_other, Begins}
use Rattle.json_parts.specs.Places.{data_of, items_data}
use Rattle.json_parts.specs.declared.items.Begun.{Begun}
use Rattle.json_parts.specs.declared.items.Begun.TheVariants as begun
use Rattle.link_lines.specs.declared.fault.LinkFault.{LinkFault}
use Rattle.link_lines.specs.declared.fault.LinkFault.TheVariants.{BadLine}
use Rattle.link_lines.specs.declared.hearer.Hearer.{Hearer}
use Rattle.link_lines.specs.declared.hearer.Telling.{Telling}
use Rattle.link_lines.specs.ReadingMembers.{kept_told_in}
use Rattle.link_lines.specs.Results.{◌>>=◌, Fails, or_bad}
use Rattle.link_lines.specs.Rows.{kept}
use Rattle.link_lines.specs.Told.{raw_told_in, sound, in_form, told_as, told_in, own_delta, delta_as, delta_in}
use Rattle.link_lines.proofs.Lists.{is_array_begun}
use Rattle.link_lines.proofs.Kept.{sound_kept, own_kept}
use Rattle.link_lines.proofs.Memory.{fails_on}

-- where nothing is left, nothing is next
pub never_begun : (j : json.Json) (more : json.Items) → json.no_items ≡ json.item j more → ⊥
never_begun j more e = cc

ok_or : {A : Type 0} → A → Result A LinkFault → A
ok_or a (Ok x) = x
ok_or a (Err e) = a

ok_is : {A : Type 0} (x y : A) → ◌≡◌ {A = Result A LinkFault} (Ok x) (Ok y) → x ≡ y
unfolding ok_or
ok_is x y e = ap (ok_or x) e

module _ (shard n : ℕ) (form : Form) where
  told_by : (r : Result ToldValue LinkFault) (t : ToldValue) → (r >>= (λ u. Ok (kept u))) ≡ Ok t → (r >>= sound shard n form >>= in_form form) ≡ (sound shard n form t >>= in_form form)
  told_by (Err e) t h = absurd (cc)
  told_by (Ok u) t h = ap (λ s. s >>= in_form form) (sym (sound_kept shard n form u) ∙ ap (sound shard n form) (ok_is (kept u) t h))

  pub told_kept : (d : Data) (t : ToldValue) → kept_told_in form d ≡ Ok t → told_as shard n d form ≡ (sound shard n form t >>= in_form form)
  told_kept d t h = told_by (raw_told_in form d) t h

  fault_by : {B : Type 0} (r : Result ToldValue LinkFault) (f : ToldValue → Result B LinkFault) (e : LinkFault) → (r >>= (λ u. Ok (kept u))) ≡ Err e → (r >>= f) ≡ Err e
  fault_by (Err g) f e h = ap (λ r. r >>= f) h
  fault_by (Ok u) f e h = absurd (cc)

  pub told_fault : (d : Data) (e : LinkFault) → kept_told_in form d ≡ Err e → told_as shard n d form ≡ Err e
  told_fault d e h = ap (λ r. r >>= in_form form) (fault_by (raw_told_in form d) (sound shard n form) e h)

  module _ (r : Replica) where
    abbrev in_delta : ToldValue → Result (Option Telling) LinkFault
    in_delta t = Ok (Some (record { form = form; told = t }))

    delta_by : (o : Result ToldValue LinkFault) (own : Result ToldValue LinkFault) → own ≡ (o >>= (λ u. Ok (kept u))) → (o >>= sound shard n form >>= in_delta) ≡ (own >>= sound shard n form >>= in_delta)
    delta_by (Err e) own h = ap (λ q. q >>= sound shard n form >>= in_delta) (sym h)
    delta_by (Ok u) own h = ap (λ s. s >>= in_delta) (sym (sound_kept shard n form u)) ∙ ap (λ q. q >>= sound shard n form >>= in_delta) (sym h)

    raw_by : (o : Result ToldValue LinkFault) (t : ToldValue) → (o >>= (λ u. Ok (kept u))) ≡ Ok t
        → (o >>= own_delta form r >>= sound shard n form >>= in_delta) ≡ (own_delta form r t >>= sound shard n form >>= in_delta)
    raw_by (Err e) t h = absurd (cc)
    raw_by (Ok u) t h = delta_by (own_delta form r u) (own_delta form r t) (ap (own_delta form r) (sym (ok_is (kept u) t h)) ∙ own_kept form r u)

    pub delta_from : (d : Data) (t : ToldValue) → kept_told_in form d ≡ Ok t → delta_as shard n r d form ≡ (own_delta form r t >>= sound shard n form >>= in_delta)
    delta_from d t h = raw_by (raw_told_in form d) t h

    pub delta_fault : (d : Data) (e : LinkFault) → kept_told_in form d ≡ Err e → delta_as shard n r d form ≡ Err e
    delta_fault d e h = ap (λ q. q >>= sound shard n form >>= in_delta) (fault_by (raw_told_in form d) (own_delta form r) e h)

-- ---- what is no array is not told

raw_null : (form : Form) → raw_told_in form null ≡ Err BadLine
unfolding raw_told_in
raw_null One = refl
raw_null Two = refl

raw_other : (form : Form) (d : Data) → is_other d ≡ true → raw_told_in form d ≡ Err BadLine
unfolding raw_told_in
raw_other form null e = absurd (cc)
raw_other One (boolean b) e = refl
raw_other Two (boolean b) e = refl
raw_other One (number n) e = refl
raw_other Two (number n) e = refl
raw_other One (string s) e = refl
raw_other Two (string s) e = refl
raw_other form (array ds) e = absurd (cc)
raw_other One (object ms) e = refl
raw_other Two (object ms) e = refl

same_item : (i j : json.Json) (more more2 : json.Items) → json.item i more ≡ json.item j more2 → data_of i ≡ data_of j
same_item i j more more2 e = ap (first_or (data_of i)) e
  where
    first_or : Data → json.Items → Data
    first_or d json.no_items = d
    first_or d (json.item k ks) = data_of k

raw_begun : (form : Form) (j : json.Json) (more : json.Items) (rest new : List Token) (b : Begun) → Begins (json.item j more) rest new b → is_array_begun b ≡ false → raw_told_in form (data_of j) ≡ Err BadLine
raw_begun form j more rest new begun.End h e = absurd (let z = h.0 in cc)
raw_begun form j more rest new begun.Array h e = absurd (cc)
raw_begun form j more rest new begun.Null h e = ap (raw_told_in form) (same_item j json.null more h.0 h.1) ∙ raw_null form
raw_begun form j more rest new begun.Other h e = ap (raw_told_in form) (same_item j h.0 more h.1 h.2) ∙ raw_other form (data_of h.0) h.3

pub not_told : (shard n : ℕ) (form : Form) (j : json.Json) (more : json.Items) (rest new : List Token) (b : Begun) → Begins (json.item j more) rest new b → is_array_begun b ≡ false
    → told_as shard n (data_of j) form ≡ Err BadLine
not_told shard n form j more rest new b h e = ap (λ r. r >>= sound shard n form >>= in_form form) (raw_begun form j more rest new b h e)

-- the array that was begun
pub begun_array : (j : json.Json) (more is left : json.Items) → json.item j more ≡ json.item (json.array is) left → data_of j ≡ array (items_data is)
begun_array j more is left e = same_item j (json.array is) more left e

-- ---- what this hearer is told

pub no_form : (shard : ℕ) (h : Hearer) (d : Data) → h.form ≡ None → told_in shard h d ≡ Err BadLine
no_form shard h d is = ap (λ o. or_bad o >>= told_as shard h.shards d) is

module _ (shard : ℕ) (h : Hearer) (form : Form) (is : h.form ≡ Some form) where
  told_of : (d : Data) → told_in shard h d ≡ told_as shard h.shards d form
  told_of d = ap (λ o. or_bad o >>= told_as shard h.shards d) is

  pub told_nothing : (j : json.Json) (more : json.Items) (rest new : List Token) (b : Begun) → Begins (json.item j more) rest new b → is_array_begun b ≡ false
      → told_in shard h (data_of j) ≡ Err BadLine
  told_nothing j more rest new b begun other = told_of (data_of j) ∙ not_told shard h.shards form j more rest new b begun other

  pub told_unread : (d : Data) (e : LinkFault) → Fails e (kept_told_in form d) → Fails e (told_in shard h d)
  told_unread d e fault = fails_on e (kept_told_in form d) (told_in shard h d) fault (λ g k. told_of d ∙ told_fault shard h.shards form d g k)

  pub told_unsound : (d : Data) (t : ToldValue) (e : LinkFault) → kept_told_in form d ≡ Ok t → Fails e (sound shard h.shards form t) → Fails e (told_in shard h d)
  told_unsound d t e read fault = fails_on e (sound shard h.shards form t) (told_in shard h d) fault
      (λ g k. told_of d ∙ told_kept shard h.shards form d t read ∙ ap (λ s. s >>= in_form form) k)

  pub told_sound : (d : Data) (t u : ToldValue) → kept_told_in form d ≡ Ok t → sound shard h.shards form t ≡ Ok u → told_in shard h d ≡ Ok (record { form = form; told = u })
  told_sound d t u read k = told_of d ∙ told_kept shard h.shards form d t read ∙ ap (λ s. s >>= in_form form) k

-- ---- and of this replica

abbrev pub is_read : Begun → Bool
is_read begun.Array = true
is_read begun.Null = true
is_read _ = false

pub not_read : (b : Begun) → (b ≡ begun.Null → ⊥) → (b ≡ begun.Array → ⊥) → is_read b ≡ false
not_read begun.End f g = refl
not_read begun.Array f g = absurd (g refl)
not_read begun.Null f g = absurd (f refl)
not_read begun.Other f g = refl

other_as : (shard n : ℕ) (r : Replica) (o : Option Form) (d : Data) → is_other d ≡ true → (or_bad o >>= delta_as shard n r d) ≡ Err BadLine
other_as shard n r None d e = refl
other_as shard n r (Some form) d e = ap (λ q. q >>= own_delta form r >>= sound shard n form >>= in_delta shard n form r) (raw_other form d e)

module _ (shard : ℕ) (h : Hearer) (r : Replica) where
  other_delta : (d : Data) → is_other d ≡ true → delta_in shard h r d ≡ Err BadLine
  other_delta null e = absurd (cc)
  other_delta (boolean b) e = other_as shard h.shards r h.form (boolean b) e
  other_delta (number n) e = other_as shard h.shards r h.form (number n) e
  other_delta (string s) e = other_as shard h.shards r h.form (string s) e
  other_delta (array ds) e = absurd (cc)
  other_delta (object ms) e = other_as shard h.shards r h.form (object ms) e

  pub null_delta : (j : json.Json) (more left : json.Items) → json.item j more ≡ json.item json.null left → delta_in shard h r (data_of j) ≡ Ok None
  null_delta j more left e = ap (delta_in shard h r) (same_item j json.null more left e)

  pub no_delta : (j : json.Json) (more : json.Items) (rest new : List Token) (b : Begun) → Begins (json.item j more) rest new b → is_read b ≡ false
      → delta_in shard h r (data_of j) ≡ Err BadLine
  no_delta j more rest new begun.End b e = absurd (let z = b.0 in cc)
  no_delta j more rest new begun.Array b e = absurd (cc)
  no_delta j more rest new begun.Null b e = absurd (cc)
  no_delta j more rest new begun.Other b e = ap (delta_in shard h r) (same_item j b.0 more b.1 b.2) ∙ other_delta (data_of b.0) b.3

  pub no_form_delta : (ds : Items) → h.form ≡ None → delta_in shard h r (array ds) ≡ Err BadLine
  no_form_delta ds is = ap (λ o. or_bad o >>= delta_as shard h.shards r (array ds)) is

  module _ (form : Form) (is : h.form ≡ Some form) where
    delta_of : (ds : Items) → delta_in shard h r (array ds) ≡ delta_as shard h.shards r (array ds) form
    delta_of ds = ap (λ o. or_bad o >>= delta_as shard h.shards r (array ds)) is

    pub delta_unread : (ds : Items) (e : LinkFault) → Fails e (kept_told_in form (array ds)) → Fails e (delta_in shard h r (array ds))
    delta_unread ds e fault = fails_on e (kept_told_in form (array ds)) (delta_in shard h r (array ds)) fault
        (λ g k. delta_of ds ∙ delta_fault shard h.shards form r (array ds) g k)

    pub delta_astray : (ds : Items) (t : ToldValue) (e : LinkFault) → kept_told_in form (array ds) ≡ Ok t → Fails e (own_delta form r t) → Fails e (delta_in shard h r (array ds))
    delta_astray ds t e read fault = fails_on e (own_delta form r t) (delta_in shard h r (array ds)) fault
        (λ g k. delta_of ds ∙ delta_from shard h.shards form r (array ds) t read ∙ ap (λ q. q >>= sound shard h.shards form >>= in_delta shard h.shards form r) k)

    owned : (ds : Items) (t u : ToldValue) → kept_told_in form (array ds) ≡ Ok t → own_delta form r t ≡ Ok u
        → delta_in shard h r (array ds) ≡ (sound shard h.shards form u >>= in_delta shard h.shards form r)
    owned ds t u read own = delta_of ds ∙ delta_from shard h.shards form r (array ds) t read ∙ ap (λ q. q >>= sound shard h.shards form >>= in_delta shard h.shards form r) own

    pub delta_unsound : (ds : Items) (t u : ToldValue) (e : LinkFault) → kept_told_in form (array ds) ≡ Ok t → own_delta form r t ≡ Ok u
        → Fails e (sound shard h.shards form u) → Fails e (delta_in shard h r (array ds))
    delta_unsound ds t u e read own fault = fails_on e (sound shard h.shards form u) (delta_in shard h r (array ds)) fault
        (λ g k. owned ds t u read own ∙ ap (λ s. s >>= in_delta shard h.shards form r) k)

    pub delta_sound : (ds : Items) (t u v : ToldValue) → kept_told_in form (array ds) ≡ Ok t → own_delta form r t ≡ Ok u → sound shard h.shards form u ≡ Ok v
        → delta_in shard h r (array ds) ≡ Ok (Some (record { form = form; told = v }))
    delta_sound ds t u v read own k = owned ds t u read own ∙ ap (λ s. s >>= in_delta shard h.shards form r) k
