-- The object that lists are written as is read as these lists.
use Rattle.std.proofs.Common.{◌≡◌, ◌≢◌, ℕ, List, [], ◌∷◌, ◌++◌, map, Bool, true, Option, Some, None, Ok, option_and_then, is_some, codes, refl, ap, sym, ◌∙◌, append_assoc, append-nil}
use Rattle.std.specs.declared.cmp.Ordering.TheVariants.{Less, Greater}
use Rattle.std.specs.Ordering.{ordering_reverse}
use Rattle.std.specs.List.{fold, AllByRecursion}
use Rattle.std.specs.Map.{remove_entry}
use Rattle.std.specs.BTreeMap.{is_at, insert_entry}
use Rattle.serde_json.specs.Data.{Data, null, boolean, number, string, array, object, Members, no_members, member, put as put_member}
use Rattle.serde_json.specs.Find.{get_member, as_object, as_str}
use Rattle.serde_json.specs.View.{items_of}
use Rattle.serde_json.proofs.Views.{get_member-put, get_member-put_other}
use Rattle.presence_base.specs.Order.{text_cmp}
use Rattle.presence_base.specs.Refs.{ref_of}
use Rattle.presence_base.specs.declared.dots.Dot.{Dot}
use Rattle.presence_base.specs.declared.row.Row.{Row}
use Rattle.presence_metas.specs.declared.tracked.TrackedMeta.{TrackedMeta}
use Rattle.presence_metas.specs.Listing.{Listing, at, without_key, put}
use Rattle.presence_metas.specs.Rows.{members_in, with_prev, tracked_of, add_row, listing_of}
use Rattle.presence_metas.specs.Values.{metas_value, listing_value, state_of}
use Rattle.presence_metas.specs.Frames.{Named, AllNamed, metas_in, all_objects, has_metas, all_have_metas, is_listing, text_ref, tracked_in, metas_into, listing_into, listing_in, frame_in}
use Rattle.presence_metas.specs.Laws.{StatesReadBack, DiffsReadBack}
use Rattle.presence_metas.proofs.Seen.{entered_some}
use Rattle.presence_metas.proofs.Lookups.{same, order, order_cases, bool_cases, Rises, Above, rest_rises, first_below, none_rises, put_rises}

-- ---- metas

prev_apart : codes "phx_ref" ≡ codes "phx_ref_prev" → ⊥
prev_apart h = cc

ref_with_prev : (o : Option Dot) (ms : Members) → get_member (codes "phx_ref") (with_prev o ms) ≡ get_member (codes "phx_ref") ms
ref_with_prev None ms = refl
ref_with_prev (Some d) ms = get_member-put_other (codes "phx_ref") (codes "phx_ref_prev") (string (ref_of d)) ms prev_apart

tracked_named : (d : Dot) (r : Row) → Named (tracked_of d r)
tracked_named d r =
    ap (option_and_then as_str) (ref_with_prev r.prev (put_member (codes "phx_ref") (string (ref_of d)) (members_in r.meta)) ∙ get_member-put (codes "phx_ref") (string (ref_of d)) (members_in r.meta))

named_object : (d : Data) (r : List ℕ) → text_ref d ≡ Some r → is_some (as_object d) ≡ true
named_object null r h = cc
named_object (boolean b) r h = cc
named_object (number n) r h = cc
named_object (string s) r h = cc
named_object (array ds) r h = cc
named_object (object ms) r h = refl

pub objects : (ts : List TrackedMeta) → AllNamed ts → all_objects (items_of (map (λ t. t.meta) ts)) ≡ true
objects [] h = refl
objects (t ∷ ts) h = rw (named_object t.meta t.reference h.0) (objects ts h.1)

named_in : (t : TrackedMeta) → Named t → tracked_in t.meta ≡ Ok t
named_in t h = rw h refl

pub metas_back : (us ts : List TrackedMeta) → AllNamed ts → metas_into us (items_of (map (λ t. t.meta) ts)) ≡ Ok (us ++ ts)
metas_back us [] h = ap Ok (sym (append-nil us))
metas_back us (t ∷ ts) h = rw (named_in t h.0) (metas_back (us ++ t ∷ []) ts h.1 ∙ ap Ok (append_assoc us (t ∷ []) ts))

-- ---- the members of lists in order

-- where v says what is told of a key
unfoldable pub members_from : (List ℕ × List TrackedMeta → Data) → Listing → Members
members_from v [] = no_members
members_from v (e ∷ es) = member e.0 (v e) (members_from v es)

-- ---- lists that rows make: each key with metas, each of these named

abbrev pub Kept : List ℕ × List TrackedMeta → Type 0
Kept e = (e.1 ≢ []) × AllNamed e.1

abbrev pub AllKept : Listing → Type 0
AllKept = AllByRecursion Kept

kept_without : (test : List ℕ → Bool) (ls : Listing) → AllKept ls → AllKept (remove_entry test ls)
kept_without test [] h = tt
kept_without test (e ∷ ls) h = bool_cases (test e.0) (λ t. rw t h.1) (λ t. rw t (h.0, kept_without test ls h.1))

kept_inserted : (k : List ℕ) (ts : List TrackedMeta) (ls : Listing) → Kept (k, ts) → AllKept ls → AllKept (insert_entry text_cmp ls k ts)
kept_inserted k ts [] new h = (new, tt)
kept_inserted k ts (e ∷ ls) new h =
    order_cases (text_cmp k e.0) (λ o. rw o (new, h)) (λ o. rw o (new, h.1)) (λ o. rw o (h.0, kept_inserted k ts ls new h.1))

kept_put : (ls : Listing) (k : List ℕ) (ts : List TrackedMeta) → Kept (k, ts) → AllKept ls → AllKept (put ls k ts)
kept_put ls k ts new h = rw (entered_some (without_key ls k) k ts new.0) (kept_inserted k ts (without_key ls k) new (kept_without (is_at (text_cmp k)) ls h))

at_named : (ls : Listing) (k : List ℕ) → AllKept ls → AllNamed (at ls k)
at_named [] k h = tt
at_named (e ∷ ls) k h = bool_cases (same k e.0) (λ s. rw s h.0.1) (λ s. rw s (at_named ls k h.1))

named_push : (ts : List TrackedMeta) (t : TrackedMeta) → AllNamed ts → Named t → AllNamed (ts ++ t ∷ [])
named_push [] t h n = (n, tt)
named_push (u ∷ ts) t h n = (h.0, named_push ts t h.1 n)

some_pushed : (ts : List TrackedMeta) (t : TrackedMeta) → ts ++ t ∷ [] ≢ []
some_pushed [] t h = cc
some_pushed (u ∷ ts) t h = cc

rows_kept : (ls : Listing) (rows : List (Dot × Row)) → AllKept ls → AllKept (fold add_row ls rows)
rows_kept ls [] h = h
rows_kept ls (p ∷ rows) h =
    rows_kept (add_row ls p) rows
    (kept_put ls p.1.key (at ls p.1.key ++ tracked_of p.0 p.1 ∷ []) (some_pushed (at ls p.1.key) (tracked_of p.0 p.1), named_push (at ls p.1.key) (tracked_of p.0 p.1) (at_named ls p.1.key h) (tracked_named p.0 p.1)) h)

rows_rise : (ls : Listing) (rows : List (Dot × Row)) → Rises ls → Rises (fold add_row ls rows)
rows_rise ls [] h = h
rows_rise ls (p ∷ rows) h = rows_rise (add_row ls p) rows (put_rises ls p.1.key (at ls p.1.key ++ tracked_of p.0 p.1 ∷ []) h)

-- ---- what is written

append_members : Members → Members → Members
append_members no_members ns = ns
append_members (member k d ms) ns = member k d (append_members ms ns)

-- every name is below k
abbrev BelowKey : List ℕ → Members → Type 0
BelowKey k no_members = Unit {0}
BelowKey k (member l d ms) = (text_cmp k l ≡ Greater) × BelowKey k ms

-- every name is below every key
abbrev BelowAll : Members → Listing → Type 0
BelowAll ms es = AllByRecursion (λ e. BelowKey e.0 ms) es

append_none : (ms : Members) → append_members ms no_members ≡ ms
unfolding append_members
append_none no_members = refl
append_none (member k d ms) = ap (member k d) (append_none ms)

append_append : (ms ns os : Members) → append_members (append_members ms ns) os ≡ append_members ms (append_members ns os)
unfolding append_members
append_append no_members ns os = refl
append_append (member k d ms) ns os = ap (member k d) (append_append ms ns os)

put_at_end : (k : List ℕ) (d : Data) (ms : Members) → BelowKey k ms → put_member k d ms ≡ append_members ms (member k d no_members)
unfolding append_members
put_at_end k d no_members h = refl
put_at_end k d (member l e ms) h = rw (h.0) (ap (member l e) (put_at_end k d ms h.1))

below_pushed : (j k : List ℕ) (d : Data) (ms : Members) → BelowKey j ms → text_cmp j k ≡ Greater → BelowKey j (append_members ms (member k d no_members))
unfolding append_members
below_pushed j k d no_members h g = (g, tt)
below_pushed j k d (member l e ms) h g = (h.0, below_pushed j k d ms h.1 g)

flipped : (j k : List ℕ) → text_cmp j k ≡ Less → text_cmp k j ≡ Greater
flipped j k h = order.antisymm k j ∙ ap ordering_reverse h

below_all_pushed : (k : List ℕ) (d : Data) (ms : Members) (es : Listing) → BelowAll ms es → Above k es → BelowAll (append_members ms (member k d no_members)) es
below_all_pushed k d ms [] h above = tt
below_all_pushed k d ms (e ∷ es) h above = (below_pushed e.0 k d ms h.0 (flipped k e.0 above.0), below_all_pushed k d ms es h.1 above.1)

written : (v : List ℕ × List TrackedMeta → Data) (ms : Members) (es : Listing) → Rises es → BelowAll ms es → fold (λ ns e. put_member e.0 (v e) ns) ms es ≡ append_members ms (members_from v es)
unfolding append_members members_from
written v ms [] rises below = sym (append_none ms)
written v ms (e ∷ es) rises below =
    rw (put_at_end e.0 (v e) ms below.0)
    (written v (append_members ms (member e.0 (v e) no_members)) es (rest_rises e es rises) (below_all_pushed e.0 (v e) ms es below.1 (first_below e es rises))
    ∙ append_append ms (member e.0 (v e) no_members) (members_from v es))

below_none : (es : Listing) → BelowAll no_members es
below_none [] = tt
below_none (e ∷ es) = (tt, below_none es)

-- the object that is made by putting each key is the one with these members
pub written_all : (v : List ℕ × List TrackedMeta → Data) (es : Listing) → Rises es → fold (λ ns e. put_member e.0 (v e) ns) no_members es ≡ members_from v es
unfolding append_members
written_all v es rises = written v no_members es rises (below_none es)

-- v tells a key's metas, whatever else it tells
abbrev pub Tells : (List ℕ × List TrackedMeta → Data) → Type 0
Tells v = (e : List ℕ × List TrackedMeta) → AllNamed e.1 → (has_metas (v e) ≡ true) × (metas_in (v e) ≡ Ok e.1)

value_tells : Tells (λ e. metas_value e.1)
value_tells e named = (objects e.1 named, metas_back [] e.1 named)

-- ---- what is read

-- every key of the lists is below k
abbrev BelowOne : List ℕ → Listing → Type 0
BelowOne k ls = AllByRecursion (λ a. text_cmp k a.0 ≡ Greater) ls

without_none : (k : List ℕ) (ls : Listing) → BelowOne k ls → without_key ls k ≡ ls
without_none k [] h = refl
without_none k (a ∷ ls) h = rw (h.0) (ap (λ rest. a ∷ rest) (without_none k ls h.1))

inserted_at_end : (k : List ℕ) (ts : List TrackedMeta) (ls : Listing) → BelowOne k ls → insert_entry text_cmp ls k ts ≡ ls ++ (k, ts) ∷ []
inserted_at_end k ts [] h = refl
inserted_at_end k ts (a ∷ ls) h = rw (h.0) (ap (λ rest. a ∷ rest) (inserted_at_end k ts ls h.1))

put_last : (ls : Listing) (k : List ℕ) (ts : List TrackedMeta) → ts ≢ [] → BelowOne k ls → put ls k ts ≡ ls ++ (k, ts) ∷ []
put_last ls k ts some h = rw (without_none k ls h, entered_some ls k ts some) (inserted_at_end k ts ls h)

below_one_pushed : (j : List ℕ) (e : List ℕ × List TrackedMeta) (ls : Listing) → BelowOne j ls → text_cmp j e.0 ≡ Greater → BelowOne j (ls ++ e ∷ [])
below_one_pushed j e [] h g = (g, tt)
below_one_pushed j e (a ∷ ls) h g = (h.0, below_one_pushed j e ls h.1 g)

below_ones_pushed : (e : List ℕ × List TrackedMeta) (ls es : Listing) → AllByRecursion (λ f. BelowOne f.0 ls) es → Above e.0 es → AllByRecursion (λ f. BelowOne f.0 (ls ++ e ∷ [])) es
below_ones_pushed e ls [] h above = tt
below_ones_pushed e ls (f ∷ es) h above = (below_one_pushed f.0 e ls h.0 (flipped e.0 f.0 above.0), below_ones_pushed e ls es h.1 above.1)

read_on : (v : List ℕ × List TrackedMeta → Data) → Tells v → (ls es : Listing) → Rises es → AllKept es → AllByRecursion (λ f. BelowOne f.0 ls) es → listing_into ls (members_from v es) ≡ Ok (ls ++ es)
unfolding members_from
read_on v tells ls [] rises kept below = ap Ok (sym (append-nil ls))
read_on v tells ls (e ∷ es) rises kept below =
    let told = tells e kept.0.1 in
    rw (told.1, put_last ls e.0 e.1 kept.0.0 below.0)
    (read_on v tells (ls ++ e ∷ []) es (rest_rises e es rises) kept.1 (below_ones_pushed e ls es below.1 (first_below e es rises)) ∙ ap Ok (append_assoc ls (e ∷ []) es))

none_below : (es : Listing) → AllByRecursion (λ f. BelowOne f.0 []) es
none_below [] = tt
none_below (e ∷ es) = (tt, none_below es)

pub shaped : (v : List ℕ × List TrackedMeta → Data) → Tells v → (es : Listing) → AllKept es → all_have_metas (members_from v es) ≡ true
unfolding members_from
shaped v tells [] h = refl
shaped v tells (e ∷ es) h = let told = tells e h.0.1 in rw (told.0) (shaped v tells es h.1)

pub read_all : (v : List ℕ × List TrackedMeta → Data) → Tells v → (es : Listing) → Rises es → AllKept es → listing_into [] (members_from v es) ≡ Ok es
read_all v tells es rises kept = read_on v tells [] es rises kept (none_below es)

shape_of_value : (es : Listing) → Rises es → AllKept es → is_listing (listing_value es) ≡ true
shape_of_value es rises kept = ap all_have_metas (written_all (λ e. metas_value e.1) es rises) ∙ shaped (λ e. metas_value e.1) value_tells es kept

value_back : (es : Listing) → Rises es → AllKept es → listing_in (listing_value es) ≡ Ok es
value_back es rises kept = ap (listing_into []) (written_all (λ e. metas_value e.1) es rises) ∙ read_all (λ e. metas_value e.1) value_tells es rises kept

-- ---- frames

-- the lists of rows are in order, and each key has metas that name their references
pub listing_rises : (rows : List (Dot × Row)) → Rises (listing_of rows)
unfolding listing_of
listing_rises rows = rows_rise [] rows none_rises

pub listing_kept : (rows : List (Dot × Row)) → AllKept (listing_of rows)
unfolding listing_of
listing_kept rows = rows_kept [] rows tt

state_shape : (rows : List (Dot × Row)) → is_listing (state_of rows) ≡ true
state_shape rows = shape_of_value (listing_of rows) (listing_rises rows) (listing_kept rows)

state_back : (rows : List (Dot × Row)) → listing_in (state_of rows) ≡ Ok (listing_of rows)
state_back rows = value_back (listing_of rows) (listing_rises rows) (listing_kept rows)

pub states_read_back : StatesReadBack
unfolding frame_in
states_read_back m rows is_event is_payload = rw (is_event, is_payload, state_shape rows, state_back rows) refl

pub diffs_read_back : DiffsReadBack
unfolding frame_in
diffs_read_back m joins leaves is_event is_payload = rw (is_event, is_payload, state_shape joins, state_shape leaves, state_back joins, state_back leaves) refl
