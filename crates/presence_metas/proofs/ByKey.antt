-- What lists, objects and frames hold, key by key.
use Rattle.std.proofs.Common.{◌≡◌, ◌≢◌, ℕ, List, [], ◌∷◌, ◌++◌, map, Bool, true, false, ◌&&◌, if◌then◌else◌, Option, Some, None, Result, Ok, Err, codes, refl, ap, sym, subst, ◌∙◌, append_assoc, append-nil}
use Rattle.std.specs.Ordering.{is_eq}
use Rattle.std.specs.List.{fold}
use Rattle.std.specs.Str.{bytes_eq}
use Rattle.std.proofs.lemmas.Map.Text.{is_eq-slice_cmp}
use Rattle.serde_json.specs.Data.{Data, null, boolean, number, string, array, object, Items, no_items, item, Members, no_members, member}
use Rattle.serde_json.specs.Find.{get, get_member}
use Rattle.serde_json.specs.View.{items_of}
use Rattle.phx_message.specs.declared.message.Message.{Message}
use Rattle.presence_base.specs.Order.{text_cmp}
use Rattle.presence_base.specs.declared.dots.Dot.{Dot}
use Rattle.presence_base.specs.declared.row.Row.{Row}
use Rattle.presence_metas.specs.declared.tracked.TrackedMeta.{TrackedMeta}
use Rattle.presence_metas.specs.declared.presences.Diff.{Diff}
use Rattle.presence_metas.specs.declared.frame.FrameFault.{FrameFault}
use Rattle.presence_metas.specs.declared.frame.FrameFault.TheVariants.{BadShape}
use Rattle.presence_metas.specs.declared.frame.Frame.TheVariants as frame_is
use Rattle.presence_metas.specs.Listing.{Listing, at, put}
use Rattle.presence_metas.specs.Rows.{tracked_of, add_row, listing_of}
use Rattle.presence_metas.specs.Values.{metas_value}
use Rattle.presence_metas.specs.Frames.{◌>>=◌, AllNamed, has_metas, is_array_of_objects, all_have_metas, is_listing, is_some_listing, is_diff, text_ref, with_ref, metas_into, items_in, metas_in, listing_into, listing_in, some_listing_in, state_in, diff_in, frame_in}
use Rattle.presence_metas.specs.Laws.{metas_of_key, RowsByKey, told_of, StatesByKey, NamesDiffer, AreMetasOf, IsReadByKey, StatesAreRead, DiffsAreRead}
use Rattle.presence_metas.proofs.ReadBack.{members_from, written_all, AllKept, listing_rises, listing_kept}
use Rattle.presence_metas.proofs.Lookups.{same, same_is, equal_is, bool_cases, order_cases, Rises, none_rises, put_rises, put_here, put_other}

-- ---- rows

added_here : (ls : Listing) (p : Dot × Row) (k : List ℕ) → k ≡ p.1.key → Rises ls → at (add_row ls p) k ≡ at ls k ++ tracked_of p.0 p.1 ∷ []
added_here ls p k is h = rw is (put_here ls p.1.key (at ls p.1.key ++ tracked_of p.0 p.1 ∷ []) h)

added_other : (ls : Listing) (p : Dot × Row) (k : List ℕ) → same k p.1.key ≡ false → Rises ls → at (add_row ls p) k ≡ at ls k
added_other ls p k apart h = put_other ls p.1.key (at ls p.1.key ++ tracked_of p.0 p.1 ∷ []) k apart h

rows_from : (ls : Listing) (rows : List (Dot × Row)) (k : List ℕ) → Rises ls → at (fold add_row ls rows) k ≡ at ls k ++ metas_of_key k rows
rows_from ls [] k h = sym (append-nil (at ls k))
rows_from ls (p ∷ rows) k h =
    rows_from (add_row ls p) rows k (put_rises ls p.1.key (at ls p.1.key ++ tracked_of p.0 p.1 ∷ []) h)
    ∙ bool_cases (same k p.1.key)
    (λ s. let test : bytes_eq k p.1.key ≡ true = sym (is_eq-slice_cmp k p.1.key) ∙ s in
    rw (test, added_here ls p k (same_is k p.1.key s) h) (append_assoc (at ls k) (tracked_of p.0 p.1 ∷ []) (metas_of_key k rows)))
    (λ s. let test : bytes_eq k p.1.key ≡ false = sym (is_eq-slice_cmp k p.1.key) ∙ s in rw (test, added_other ls p k s h) refl)

pub rows_by_key : RowsByKey
unfolding listing_of
rows_by_key rows k = rows_from [] rows k none_rises

-- ---- objects

told_some : (ts : List TrackedMeta) → ts ≢ [] → Some (metas_value ts) ≡ told_of ts
told_some [] h = absurd (h refl)
told_some (t ∷ ts) h = refl

get_told : (es : Listing) (k : List ℕ) → AllKept es → get_member k (members_from (λ e. metas_value e.1) es) ≡ told_of (at es k)
unfolding members_from
get_told [] k h = refl
get_told (e ∷ es) k h =
    order_cases (text_cmp k e.0) (λ o. rw o (get_told es k h.1)) (λ o. rw o (told_some e.1 h.0.0)) (λ o. rw o (get_told es k h.1))

pub states_by_key : StatesByKey
states_by_key rows k =
    ap (get_member k) (written_all (λ e. metas_value e.1) (listing_of rows) (listing_rises rows))
    ∙ get_told (listing_of rows) k (listing_kept rows)
    ∙ ap told_of (rows_by_key rows k)

-- ---- a key's metas

abbrev read_as : {X : Type 0} → X → Result X FrameFault
read_as x = Ok x

err_ok : {X P : Type 0} {e : FrameFault} {x : X} → Err e ≡ read_as x → P
err_ok h = cc

ok_same : {X : Type 0} {x y : X} → read_as x ≡ read_as y → x ≡ y
ok_same h = cc

some_same : {X : Type 0} {x y : X} → Some x ≡ Some y → x ≡ y
some_same h = cc

some_none : {X P : Type 0} {x : X} → Some x ≡ None → P
some_none h = cc

none_some : {X P : Type 0} {x : X} → None ≡ Some x → P
none_some h = cc

false_true : {P : Type 0} → false ≡ true → P
false_true h = cc

-- the items are the metas that follow us in ts
abbrev AreRead : List TrackedMeta → Items → List TrackedMeta → Type 0
AreRead us ds ts = (rest : List TrackedMeta) × (ts ≡ us ++ rest) × (items_of (map (λ t. t.meta) rest) ≡ ds) × AllNamed rest

item_read : (us : List TrackedMeta) (d : Data) (ds : Items) (ts : List TrackedMeta)
    → ((t : TrackedMeta) → metas_into (us ++ t ∷ []) ds ≡ Ok ts → AreRead (us ++ t ∷ []) ds ts)
    → (o : Option (List ℕ)) → text_ref d ≡ o → (with_ref d o >>= (λ t. metas_into (us ++ t ∷ []) ds)) ≡ Ok ts → AreRead us (item d ds) ts
item_read us d ds ts on None is h = err_ok h
item_read us d ds ts on (Some r) is h =
    let t : TrackedMeta = record { reference = r; meta = d } in
    let more : AreRead (us ++ t ∷ []) ds ts = on t h in
    (t ∷ more.0, more.1 ∙ append_assoc us (t ∷ []) more.0, ap (item d) more.2, (is, more.3))

metas_read : (us : List TrackedMeta) (ds : Items) (ts : List TrackedMeta) → metas_into us ds ≡ Ok ts → AreRead us ds ts
metas_read us no_items ts h = ([], sym (ok_same h) ∙ sym (append-nil us), refl, tt)
metas_read us (item d ds) ts h = item_read us d ds ts (λ t. metas_read (us ++ t ∷ []) ds ts) (text_ref d) refl h

metas_found : (o : Option Data) (ts : List TrackedMeta) → is_array_of_objects o ≡ true → metas_into [] (items_in o) ≡ Ok ts
    → (o ≡ Some (array (items_of (map (λ t. t.meta) ts)))) × AllNamed ts
metas_found None ts h r = false_true h
metas_found (Some null) ts h r = false_true h
metas_found (Some (boolean b)) ts h r = false_true h
metas_found (Some (number n)) ts h r = false_true h
metas_found (Some (string s)) ts h r = false_true h
metas_found (Some (object ms)) ts h r = false_true h
metas_found (Some (array ds)) ts h r =
    let read : AreRead [] ds ts = metas_read [] ds ts r in
    rw (read.1) (ap (λ items. Some (array items)) (sym read.2), read.3)

-- ---- the keys of an object

-- what the members ms make of a key's metas
abbrev Found : Members → Listing → Listing → List ℕ → Type 0
Found ms ls all k = (get_member k ms ≡ None → at all k ≡ at ls k) × ((d : Data) → get_member k ms ≡ Some d → metas_in d ≡ Ok (at all k))

member_read : (j : List ℕ) (d : Data) (ms : Members) (ls all : Listing) (k : List ℕ) → Rises ls → NamesDiffer (member j d ms)
    → ((ts : List TrackedMeta) → listing_into (put ls j ts) ms ≡ Ok all → Found ms (put ls j ts) all k)
    → (r : Result (List TrackedMeta) FrameFault) → metas_in d ≡ r → (r >>= (λ ts. listing_into (put ls j ts) ms)) ≡ Ok all → Found (member j d ms) ls all k
member_read j d ms ls all k rises differ on (Err e) is h = err_ok h
member_read j d ms ls all k rises differ on (Ok ts) is h =
    let later : Found ms (put ls j ts) all k = on ts h in
    order_cases (text_cmp k j)
    (λ o. rw o ((λ none. later.0 none ∙ put_other ls j ts k (ap is_eq o) rises), later.1))
    (λ o. let alike : k ≡ j = equal_is k j o in
    let mine : at all k ≡ ts = later.0 (ap (λ q. get_member q ms) alike ∙ differ.0) ∙ rw alike (put_here ls j ts rises) in
    rw o ((λ some. some_none some), (λ e some. ap metas_in (sym (some_same some)) ∙ is ∙ ap Ok (sym mine))))
    (λ o. rw o ((λ none. later.0 none ∙ put_other ls j ts k (ap is_eq o) rises), later.1))

listing_read : (ms : Members) (ls all : Listing) (k : List ℕ) → Rises ls → NamesDiffer ms → listing_into ls ms ≡ Ok all → Found ms ls all k
listing_read no_members ls all k rises differ h = ((λ none. ap (λ z. at z k) (sym (ok_same h))), (λ d some. none_some some))
listing_read (member j d ms) ls all k rises differ h =
    member_read j d ms ls all k rises differ (λ ts. listing_read ms (put ls j ts) all k (put_rises ls j ts rises) differ.1) (metas_in d) refl h

first_true : (a b : Bool) → (a && b) ≡ true → a ≡ true
first_true true b h = refl
first_true false b h = h

second_true : (a b : Bool) → (a && b) ≡ true → b ≡ true
second_true true b h = h
second_true false b h = false_true h

shape_found : (ms : Members) (k : List ℕ) (d : Data) → all_have_metas ms ≡ true → get_member k ms ≡ Some d → has_metas d ≡ true
shape_found no_members k d h g = none_some g
shape_found (member j e ms) k d h g =
    let behind : all_have_metas ms ≡ true = second_true (has_metas e) (all_have_metas ms) h in
    order_cases (text_cmp k j)
    (λ o. shape_found ms k d behind (rw o at g))
    (λ o. subst (λ z. has_metas z ≡ true) (some_same (rw o at g)) (first_true (has_metas e) (all_have_metas ms) h))
    (λ o. shape_found ms k d behind (rw o at g))

key_read : (ms : Members) (all : Listing) (k : List ℕ) → all_have_metas ms ≡ true → Found ms [] all k → (o : Option Data) → get_member k ms ≡ o → AreMetasOf o (at all k)
key_read ms all k h found None is = found.0 is
key_read ms all k h found (Some d) is = metas_found (get (codes "metas") d) (at all k) (shape_found ms k d h is) (found.1 d is)

read_by_key : (d : Data) (ls : Listing) → is_listing d ≡ true → listing_in d ≡ Ok ls → IsReadByKey d ls
read_by_key null ls h r = false_true h
read_by_key (boolean b) ls h r = false_true h
read_by_key (number n) ls h r = false_true h
read_by_key (string s) ls h r = false_true h
read_by_key (array ds) ls h r = false_true h
read_by_key (object ms) ls h r = λ differ k. key_read ms ls k h (listing_read ms [] ls k none_rises differ r) (get_member k ms) refl

-- ---- frames

state_same : {x y : Listing} → read_as (frame_is.State x) ≡ read_as (frame_is.State y) → x ≡ y
state_same h = cc

state_made : (r : Result Listing FrameFault) (ls : Listing) → (r >>= (λ x. Ok (frame_is.State x))) ≡ Ok (frame_is.State ls) → r ≡ Ok ls
state_made (Err e) ls h = err_ok h
state_made (Ok x) ls h = ap Ok (state_same h)

state_read : (d : Data) (ls : Listing) (b : Bool) → is_listing d ≡ b → (if b then (listing_in d >>= (λ x. Ok (frame_is.State x))) else Err BadShape) ≡ Ok (frame_is.State ls)
    → (is_listing d ≡ true) × (listing_in d ≡ Ok ls)
state_read d ls false is h = err_ok h
state_read d ls true is h = (is, state_made (listing_in d) ls h)

state_frame : (m : Message) → m.event ≡ codes "presence_state" → frame_in m ≡ state_in m.payload
unfolding frame_in
state_frame m is = rw is refl

pub states_are_read : StatesAreRead
states_are_read m ls is h =
    let read = state_read m.payload ls (is_listing m.payload) refl (sym (state_frame m is) ∙ h) in
    read_by_key m.payload ls read.0 read.1

diff_same : {x y : Diff} → read_as (frame_is.Diff x) ≡ read_as (frame_is.Diff y) → x ≡ y
diff_same h = cc

-- both lists of a diff are read
abbrev AreBoth : Result Listing FrameFault → Result Listing FrameFault → Diff → Type 0
AreBoth r s d = (r ≡ Ok d.joins) × (s ≡ Ok d.leaves)

diff_made : (r s : Result Listing FrameFault) (d : Diff)
    → (r >>= (λ joins. s >>= (λ leaves. Ok (frame_is.Diff (record { joins = joins; leaves = leaves }))))) ≡ Ok (frame_is.Diff d) → AreBoth r s d
diff_made (Err e) s d h = err_ok h
diff_made (Ok x) (Err e) d h = err_ok h
diff_made (Ok x) (Ok y) d h = let same_diff = diff_same h in (ap Ok (ap (λ z. z.joins) same_diff), ap Ok (ap (λ z. z.leaves) same_diff))

diff_read : (p : Data) (d : Diff) (b : Bool) → is_diff p ≡ b
    → (if b then (some_listing_in (get (codes "joins") p) >>= (λ joins. some_listing_in (get (codes "leaves") p) >>= (λ leaves. Ok (frame_is.Diff (record { joins = joins; leaves = leaves }))))) else Err BadShape) ≡ Ok (frame_is.Diff d)
    → (is_diff p ≡ true) × AreBoth (some_listing_in (get (codes "joins") p)) (some_listing_in (get (codes "leaves") p)) d
diff_read p d false is h = err_ok h
diff_read p d true is h = (is, diff_made (some_listing_in (get (codes "joins") p)) (some_listing_in (get (codes "leaves") p)) d h)

diff_frame : (m : Message) → m.event ≡ codes "presence_diff" → frame_in m ≡ diff_in m.payload
unfolding frame_in
diff_frame m is = rw is refl

both_by_key : (o u : Option Data) (joins leaves : Data) (d : Diff) → (is_some_listing o && is_some_listing u) ≡ true → AreBoth (some_listing_in o) (some_listing_in u) d → o ≡ Some joins → u ≡ Some leaves
    → IsReadByKey joins d.joins × IsReadByKey leaves d.leaves
both_by_key None u joins leaves d h read is_o is_u = none_some is_o
both_by_key (Some x) None joins leaves d h read is_o is_u = none_some is_u
both_by_key (Some x) (Some y) joins leaves d h read is_o is_u = (
  subst (λ z. IsReadByKey z d.joins) (some_same is_o) (read_by_key x d.joins (first_true (is_listing x) (is_listing y) h) read.0),
  subst (λ z. IsReadByKey z d.leaves) (some_same is_u) (read_by_key y d.leaves (second_true (is_listing x) (is_listing y) h) read.1),
)

pub diffs_are_read : DiffsAreRead
diffs_are_read m d joins leaves is h is_joins is_leaves =
    let read = diff_read m.payload d (is_diff m.payload) refl (sym (diff_frame m is) ∙ h) in
    both_by_key (get (codes "joins") m.payload) (get (codes "leaves") m.payload) joins leaves d read.0 read.1 is_joins is_leaves
