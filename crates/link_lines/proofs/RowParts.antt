-- A row, from the parts in which it is read.
use Rattle.std.proofs.Common.{◌≡◌, ◌≤◌, ℕ, zero, suc, List, length, Bool, true, false, not, Option, Some, None, option_map, unwrap_or, if◌then◌else◌, refl, sym, ap, ◌∙◌, subst, arith}
use Rattle.json.specs.Json as json
use Rattle.json.specs.Token.{Token}
use Rattle.serde_json.specs.Data.{Data, null, boolean, number, string, array, object, Items, no_items, item}
use Rattle.serde_json.specs.Events.{items_len}
use Rattle.serde_json.specs.View.{items_view}
use Rattle.serde_json.specs.declared.value.Value.{Value}
use Rattle.serde_json.proofs.Views.{items_len-items_view}
use Rattle.presence_base.specs.Metas.{is_meta}
use Rattle.presence_base.specs.Names.{guarded}
use Rattle.presence_base.specs.declared.dots.Dot.{Dot}
use Rattle.presence_base.specs.declared.row.Row.{Row}
use Rattle.json_parts.specs.Items.{after}
use Rattle.json_parts.specs.Outline.{brief, few, shallow}
use Rattle.json_parts.specs.Places.{data_of, items_data, AtItems}
use Rattle.json_parts.specs.Small.{is_object, no_object_first}
use Rattle.link_lines.specs.Members.{◌>>=◌, whole_in, text_in, dot_in}
use Rattle.link_lines.specs.Rows.{kept_meta, kept_entry, kept_row_in, FrontValue, front_in, entry_in}
use Rattle.link_lines.specs.Telling.{prev_in, object_in}
use Rattle.link_lines.proofs.Brief.{whole_brief, text_brief, dot_brief, prev_shallow}

-- a row whose eight members are known
abbrev whole_row : Option Dot → Option (List ℕ) → Option (List ℕ) → Option ℕ → Option Data → Option (Option Dot) → Option (Dot × Row)
whole_row dot topic key pid meta prev =
    dot >>= (λ d. (topic >>= (λ t. key >>= (λ k. pid >>= (λ p. meta >>= (λ m. prev >>= (λ q. Some (record { topic = t; key = k; pid = p; meta = m; prev = q }))))))) >>= (λ r. Some (d, r)))

abbrev parted_row : Option Dot → Option (List ℕ) → Option (List ℕ) → Option ℕ → Data → Option (Option Dot) → Option (Dot × Row)
parted_row dot topic key pid m prev =
    dot >>= (λ d. (topic >>= (λ t. key >>= (λ k. pid >>= (λ p. prev >>= (λ q. Some (record { topic = t; key = k; pid = p; meta = m; prev = q })))))) >>= (λ r. Some (d, r)))

parted : (dot : Option Dot) (topic key : Option (List ℕ)) (pid : Option ℕ) (m : Data) (prev : Option (Option Dot))
    → option_map kept_entry (whole_row dot topic key pid (Some m) prev) ≡ parted_row dot topic key pid (kept_meta m) prev
parted None topic key pid m prev = refl
parted (Some d) None key pid m prev = refl
parted (Some d) (Some t) None pid m prev = refl
parted (Some d) (Some t) (Some k) None m prev = refl
parted (Some d) (Some t) (Some k) (Some p) m None = refl
parted (Some d) (Some t) (Some k) (Some p) m (Some q) = refl

no_meta : (dot : Option Dot) (topic key : Option (List ℕ)) (pid : Option ℕ) (prev : Option (Option Dot))
    → option_map kept_entry (whole_row dot topic key pid None prev) ≡ None
no_meta None topic key pid prev = refl
no_meta (Some d) None key pid prev = refl
no_meta (Some d) (Some t) None pid prev = refl
no_meta (Some d) (Some t) (Some k) None prev = refl
no_meta (Some d) (Some t) (Some k) (Some p) prev = refl

object_is : (m : Data) → is_object m ≡ true → object_in m ≡ Some m
object_is null e = absurd (cc)
object_is (boolean b) e = absurd (cc)
object_is (number n) e = absurd (cc)
object_is (string s) e = absurd (cc)
object_is (array ds) e = absurd (cc)
object_is (object ms) e = refl

no_object : (m : Data) → not (is_object m) ≡ true → object_in m ≡ None
no_object null e = refl
no_object (boolean b) e = refl
no_object (number n) e = refl
no_object (string s) e = refl
no_object (array ds) e = refl
no_object (object ms) e = absurd (cc)

-- ---- what stands before the meta

-- the row's first six members, and what follows them
pub record Six (ds : Items) (f : FrontValue) (more : Items) : Type 0 where
  pub a : Data
  pub b : Data
  pub c : Data
  pub t : Data
  pub k : Data
  pub p : Data
  pub split : ds ≡ item a (item b (item c (item t (item k (item p more)))))
  pub dot : dot_in a b c ≡ Some f.0
  pub topic : f.1.0 ≡ brief t
  pub key : f.1.1.0 ≡ brief k
  pub pid : f.1.1.1 ≡ brief p

abbrev fronted : Data → Data → Data → Dot → Option FrontValue
fronted t k p d = Some (d, (t, (k, p)))

no_dot : (dot : Option Dot) (t k p : Data) → (dot >>= fronted t k p) ≡ None → dot ≡ None
no_dot None t k p e = refl
no_dot (Some d) t k p e = absurd (cc)

some_dot : (dot : Option Dot) (t k p : Data) (f : FrontValue) → (dot >>= fronted t k p) ≡ Some f → (dot ≡ Some f.0) × (f.1.0 ≡ t) × (f.1.1.0 ≡ k) × (f.1.1.1 ≡ p)
some_dot None t k p f e = absurd (cc)
some_dot (Some d) t k p f e =
    let is : f ≡ (d, (t, (k, p))) = sym (ap (or_it (d, (t, (k, p)))) e) in
    (ap (λ g. Some g.0) (sym is), ap (λ g. g.1.0) is, ap (λ g. g.1.1.0) is, ap (λ g. g.1.1.1) is)
  where
    or_it : FrontValue → Option FrontValue → FrontValue
    or_it d None = d
    or_it d (Some f) = f

pub front_missing : (ds : Items) → front_in (few 6 ds) ≡ None → kept_row_in (array ds) ≡ None
unfolding few
front_missing no_items e = refl
front_missing (item a no_items) e = refl
front_missing (item a (item b no_items)) e = refl
front_missing (item a (item b (item c no_items))) e = refl
front_missing (item a (item b (item c (item t no_items)))) e = refl
front_missing (item a (item b (item c (item t (item k no_items))))) e = refl
front_missing (item a (item b (item c (item t (item k (item p no_items)))))) e = refl
front_missing (item a (item b (item c (item t (item k (item p (item m no_items))))))) e = refl
front_missing (item a (item b (item c (item t (item k (item p (item m (item q no_items)))))))) e =
    let none : dot_in a b c ≡ None = sym (dot_brief a b c) ∙ no_dot (dot_in (brief a) (brief b) (brief c)) (brief t) (brief k) (brief p) e in
    ap (λ o. option_map kept_entry (whole_row o (text_in t) (text_in k) (whole_in p) (object_in m) (prev_in q))) none
front_missing (item a (item b (item c (item t (item k (item p (item m (item q (item z ds))))))))) e = refl

pub front_found : (ds : Items) (f : FrontValue) → front_in (few 6 ds) ≡ Some f → (more : Items) × Six ds f more
unfolding few
front_found no_items f e = absurd (cc)
front_found (item a no_items) f e = absurd (cc)
front_found (item a (item b no_items)) f e = absurd (cc)
front_found (item a (item b (item c no_items))) f e = absurd (cc)
front_found (item a (item b (item c (item t no_items)))) f e = absurd (cc)
front_found (item a (item b (item c (item t (item k no_items))))) f e = absurd (cc)
front_found (item a (item b (item c (item t (item k (item p more)))))) f e =
    let is = some_dot (dot_in (brief a) (brief b) (brief c)) (brief t) (brief k) (brief p) f e in (
      more,
      record {
        a = a;
        b = b;
        c = c;
        t = t;
        k = k;
        p = p;
        split = refl;
        dot = sym (dot_brief a b c) ∙ is.0;
        topic = is.1;
        key = is.2;
        pid = is.3;
      },
    )

-- ---- the row

-- it ends too early, has no object as its meta, or goes on
pub ended_early : (ds more : Items) (f : FrontValue) → Six ds f more → more ≡ no_items → kept_row_in (array ds) ≡ None
ended_early ds more f s e = ap (λ is. kept_row_in (array is)) (s.split ∙ ap (λ m. item s.a (item s.b (item s.c (item s.t (item s.k (item s.p m)))))) e)

pub without_object : (ds more : Items) (f : FrontValue) → Six ds f more → no_object_first more ≡ true → kept_row_in (array ds) ≡ None
without_object ds no_items f s e = ended_early ds no_items f s refl
without_object ds (item m no_items) f s e = ap (λ is. kept_row_in (array is)) s.split
without_object ds (item m (item q no_items)) f s e =
    ap (λ is. kept_row_in (array is)) s.split
    ∙ ap (λ o. option_map kept_entry (whole_row (dot_in s.a s.b s.c) (text_in s.t) (text_in s.k) (whole_in s.p) o (prev_in q))) (no_object m e)
    ∙ no_meta (dot_in s.a s.b s.c) (text_in s.t) (text_in s.k) (whole_in s.p) (prev_in q)
without_object ds (item m (item q (item z more))) f s e = ap (λ is. kept_row_in (array is)) s.split

pub without_prev : (ds : Items) (m : Data) (f : FrontValue) → Six ds f (item m no_items) → kept_row_in (array ds) ≡ None
without_prev ds m f s = ap (λ is. kept_row_in (array is)) s.split

pub with_more : (ds more : Items) (m q z : Data) (f : FrontValue) → Six ds f (item m (item q (item z more))) → kept_row_in (array ds) ≡ None
with_more ds more m q z f s = ap (λ is. kept_row_in (array is)) s.split

kept_by : (b : Bool) (d : Data) → unwrap_or (guarded b d) null ≡ (if b then d else null)
kept_by true d = refl
kept_by false d = refl

-- with all of its members it's the row that was read
pub all_read : (ds : Items) (f : FrontValue) (m q v : Data) (meta : Option Data) → Six ds f (item m (item q no_items)) → is_object m ≡ true → meta ≡ guarded (is_meta m) m → v ≡ shallow 9 q
    → kept_row_in (array ds) ≡ entry_in f (unwrap_or meta null) v
all_read ds f m q v meta s obj is seen =
    let kept : unwrap_or meta null ≡ kept_meta m = ap (λ o. unwrap_or o null) is ∙ kept_by (is_meta m) m in
    ap (λ l. kept_row_in (array l)) s.split
    ∙ ap (λ o. option_map kept_entry (whole_row (dot_in s.a s.b s.c) (text_in s.t) (text_in s.k) (whole_in s.p) o (prev_in q))) (object_is m obj)
    ∙ parted (dot_in s.a s.b s.c) (text_in s.t) (text_in s.k) (whole_in s.p) m (prev_in q)
    ∙ ap (λ o. parted_row o (text_in s.t) (text_in s.k) (whole_in s.p) (kept_meta m) (prev_in q)) s.dot
    ∙ ap (λ o. parted_row (Some f.0) o (text_in s.k) (whole_in s.p) (kept_meta m) (prev_in q)) (sym (ap text_in s.topic ∙ text_brief s.t))
    ∙ ap (λ o. parted_row (Some f.0) (text_in f.1.0) o (whole_in s.p) (kept_meta m) (prev_in q)) (sym (ap text_in s.key ∙ text_brief s.k))
    ∙ ap (λ o. parted_row (Some f.0) (text_in f.1.0) (text_in f.1.1.0) o (kept_meta m) (prev_in q)) (sym (ap whole_in s.pid ∙ whole_brief s.p))
    ∙ ap (λ d. parted_row (Some f.0) (text_in f.1.0) (text_in f.1.1.0) (whole_in f.1.1.1) d (prev_in q)) (sym kept)
    ∙ ap (λ o. parted_row (Some f.0) (text_in f.1.0) (text_in f.1.1.0) (whole_in f.1.1.1) (unwrap_or meta null) o) (sym (ap prev_in seen ∙ prev_shallow q))

-- ---- where the reader stands behind the front

data_rest : ℕ → Items → Items
data_rest zero ds = ds
data_rest (suc n) no_items = no_items
data_rest (suc n) (item d ds) = data_rest n ds

data_after : (n : ℕ) (js : json.Items) → items_data (after n js) ≡ data_rest n (items_data js)
unfolding after data_rest
data_after zero js = refl
data_after (suc n) json.no_items = refl
data_after (suc n) (json.item j js) = data_after n js

six_rest : (ds more : Items) (f : FrontValue) → Six ds f more → data_rest 6 ds ≡ more
unfolding data_rest
six_rest ds more f s = ap (data_rest 6) s.split

six_few : (ds more : Items) (f : FrontValue) → Six ds f more → items_len (few 6 ds) ≡ 6
unfolding few
six_few ds more f s = ap (λ l. items_len (few 6 l)) s.split

pub record Behind (js : json.Items) (f : FrontValue) (new rest : List Token) : Type 0 where
  pub more : Items
  pub front : Six (items_data js) f more
  pub stands : AtItems new (after 6 js) rest
  pub same : items_data (after 6 js) ≡ more

pub behind : (js : json.Items) (vs : List Value) (f : FrontValue) (new rest : List Token) → items_view vs ≡ few 6 (items_data js) → (6 ≤ length vs → AtItems new (after 6 js) rest)
    → front_in (items_view vs) ≡ Some f → Behind js f new rest
behind js vs f new rest read stands found =
    let s = front_found (items_data js) f (ap front_in (sym read) ∙ found) in
    let six : length vs ≡ 6 = sym (items_len-items_view vs) ∙ ap items_len read ∙ six_few (items_data js) s.0 f s.1 in
    record {
      more = s.0;
      front = s.1;
      stands = stands (omega (arith, six));
      same = data_after 6 js ∙ six_rest (items_data js) s.0 f s.1;
    }

-- the row's last two members, as far as they were read
pub with_meta : (js more : json.Items) (j : json.Json) (f : FrontValue) (new rest : List Token) (b : Behind js f new rest) → after 6 js ≡ json.item j more → Six (items_data js) f (item (data_of j) (items_data more))
with_meta js more j f new rest b split = subst (Six (items_data js) f) (sym b.same ∙ ap items_data split) b.front
