-- The text of rows in order of their keys is that of their object.
use Rattle.std.proofs.Common.{◌≡◌, ℕ, List, [], ◌∷◌, ◌++◌, map, Bool, true, false, Some, None, Result, Ok, Err, OnOk, codes, refl, ap, sym, subst, ◌∙◌, append_assoc, append-nil}
use Rattle.std.specs.declared.cmp.Ordering.TheVariants.{Less, Equal}
use Rattle.std.specs.Ordering.{is_eq}
use Rattle.std.specs.List.{fold}
use Rattle.std.specs.Str.{bytes_eq}
use Rattle.std.proofs.lemmas.Map.Text.{is_eq-slice_cmp}
use Rattle.json.specs.Print.{quoted, escape_byte}
use Rattle.serde_json.specs.Data.{Members}
use Rattle.serde_json.specs.View.{items_of}
use Rattle.serde_json.specs.Written.{compact_text, items_text, members_text, comma_if}
use Rattle.presence_base.specs.Order.{text_cmp}
use Rattle.presence_base.specs.declared.dots.Dot.{Dot}
use Rattle.presence_base.specs.declared.row.Row.{Row}
use Rattle.presence_metas.specs.declared.tracked.TrackedMeta.{TrackedMeta}
use Rattle.presence_metas.specs.Listing.{Listing, at, put}
use Rattle.presence_metas.specs.Rows.{tracked_of, add_row, listing_of}
use Rattle.presence_metas.specs.Values.{metas_value, state_of, diff_of}
use Rattle.presence_metas.proofs.Lookups.{order_cases, equal_is}
use Rattle.presence_metas.proofs.ReadBack.{members_from, written_all, listing_rises}
use Rattle.presence_metas.specs.KeyOrder.{GoesOn, AreInKeyOrder}
use Rattle.presence_metas.specs.Texts.{row_text, key_text, rest_text}
use Rattle.presence_metas.proofs.Listed.{Below, put_again, put_behind, below_next}

-- ---- parts of a text

pub grouped : (a b c x : List ℕ) → (a ++ (b ++ c)) ++ x ≡ a ++ (b ++ (c ++ x))
grouped a b c x = append_assoc a (b ++ c) x ∙ ap (λ z. a ++ z) (append_assoc b c x)

five_joined : (a b c d e : List ℕ) → (((a ++ b) ++ c) ++ d) ++ e ≡ a ++ (b ++ (c ++ (d ++ e)))
five_joined a b c d e = append_assoc ((a ++ b) ++ c) d e ∙ append_assoc (a ++ b) c (d ++ e) ∙ append_assoc a b (c ++ (d ++ e))

-- ---- a key's metas, not closed yet

metas_open : Bool → List TrackedMeta → List ℕ
metas_open later [] = []
metas_open later (t ∷ ts) = comma_if later ++ (compact_text t.meta ++ metas_open true ts)

metas_closed : (later : Bool) (ts : List TrackedMeta) → items_text later (items_of (map (λ t. t.meta) ts)) ≡ metas_open later ts ++ 93 ∷ []
unfolding metas_open
metas_closed later [] = refl
metas_closed later (t ∷ ts) =
    ap (λ z. comma_if later ++ (compact_text t.meta ++ z)) (metas_closed true ts)
    ∙ sym (grouped (comma_if later) (compact_text t.meta) (metas_open true ts) (93 ∷ []))

pushed_later : (ts : List TrackedMeta) (t : TrackedMeta) → metas_open true (ts ++ t ∷ []) ≡ metas_open true ts ++ 44 ∷ compact_text t.meta
unfolding metas_open
pushed_later [] t = ap (λ z. 44 ∷ z) (append-nil (compact_text t.meta))
pushed_later (u ∷ ts) t =
    ap (λ z. 44 ∷ (compact_text u.meta ++ z)) (pushed_later ts t)
    ∙ sym (grouped (44 ∷ []) (compact_text u.meta) (metas_open true ts) (44 ∷ compact_text t.meta))

pushed : (u : TrackedMeta) (ts : List TrackedMeta) (t : TrackedMeta) → metas_open false ((u ∷ ts) ++ t ∷ []) ≡ metas_open false (u ∷ ts) ++ 44 ∷ compact_text t.meta
unfolding metas_open
pushed u ts t =
    ap (λ z. compact_text u.meta ++ z) (pushed_later ts t)
    ∙ sym (append_assoc (compact_text u.meta) (metas_open true ts) (44 ∷ compact_text t.meta))

one_open : (t : TrackedMeta) → metas_open false (t ∷ []) ≡ compact_text t.meta
unfolding metas_open
one_open t = append-nil (compact_text t.meta)

-- ---- keys, the last not closed yet

abbrev Entry : Type 0
Entry = List ℕ × List TrackedMeta

entry_open : Entry → List ℕ
entry_open e = key_text e.0 ++ metas_open false e.1

keys_open : Bool → Listing → Entry → List ℕ
keys_open later [] e = comma_if later ++ entry_open e
keys_open later (a ∷ ls) e = comma_if later ++ (entry_open a ++ (93 ∷ 125 ∷ keys_open true ls e))

members_of_keys : Listing → Members
members_of_keys ls = members_from (λ e. metas_value e.1) ls

entry_closed : (e : Entry) (more : List ℕ) → quoted e.0 ++ 58 ∷ (compact_text (metas_value e.1) ++ more) ≡ entry_open e ++ (93 ∷ 125 ∷ more)
unfolding entry_open escape_byte
entry_closed e more =
    let items : List ℕ = items_text false (items_of (map (λ t. t.meta) e.1)) in
    let inner : (items ++ 125 ∷ []) ++ more ≡ metas_open false e.1 ++ (93 ∷ 125 ∷ more) =
    append_assoc items (125 ∷ []) more
    ∙ ap (λ z. z ++ 125 ∷ more) (metas_closed false e.1)
    ∙ append_assoc (metas_open false e.1) (93 ∷ []) (125 ∷ more) in
    ap (λ z. quoted e.0 ++ (codes ":{\"metas\":[" ++ z)) inner
    ∙ sym (append_assoc (quoted e.0) (codes ":{\"metas\":[") (metas_open false e.1 ++ (93 ∷ 125 ∷ more)))
    ∙ sym (append_assoc (key_text e.0) (metas_open false e.1) (93 ∷ 125 ∷ more))

keys_closed : (later : Bool) (ls : Listing) (e : Entry) → members_text later (members_of_keys (ls ++ e ∷ [])) ≡ keys_open later ls e ++ (93 ∷ 125 ∷ 125 ∷ [])
unfolding keys_open members_of_keys members_from
keys_closed later [] e =
    ap (λ z. comma_if later ++ z) (entry_closed e (125 ∷ []))
    ∙ sym (append_assoc (comma_if later) (entry_open e) (93 ∷ 125 ∷ 125 ∷ []))
keys_closed later (a ∷ ls) e =
    ap (λ z. comma_if later ++ z) (entry_closed a (members_text true (members_of_keys (ls ++ e ∷ []))))
    ∙ ap (λ z. comma_if later ++ (entry_open a ++ (93 ∷ 125 ∷ z))) (keys_closed true ls e)
    ∙ sym (grouped (comma_if later) (entry_open a) (93 ∷ 125 ∷ keys_open true ls e) (93 ∷ 125 ∷ 125 ∷ []))

-- one more meta of the last key
keys_pushed : (later : Bool) (ls : Listing) (k : List ℕ) (u : TrackedMeta) (ts : List TrackedMeta) (t : TrackedMeta)
    → keys_open later ls (k, (u ∷ ts) ++ t ∷ []) ≡ keys_open later ls (k, u ∷ ts) ++ 44 ∷ compact_text t.meta
unfolding keys_open entry_open
keys_pushed later [] k u ts t =
    ap (λ z. comma_if later ++ (key_text k ++ z)) (pushed u ts t)
    ∙ sym (grouped (comma_if later) (key_text k) (metas_open false (u ∷ ts)) (44 ∷ compact_text t.meta))
keys_pushed later (a ∷ ls) k u ts t =
    ap (λ z. comma_if later ++ (entry_open a ++ (93 ∷ 125 ∷ z))) (keys_pushed true ls k u ts t)
    ∙ sym (grouped (comma_if later) (entry_open a) (93 ∷ 125 ∷ keys_open true ls (k, u ∷ ts)) (44 ∷ compact_text t.meta))

-- a key behind the last one
keys_behind : (later : Bool) (ls : Listing) (e f : Entry) → keys_open later (ls ++ e ∷ []) f ≡ keys_open later ls e ++ (93 ∷ 125 ∷ 44 ∷ entry_open f)
unfolding keys_open
keys_behind later [] e f = sym (append_assoc (comma_if later) (entry_open e) (93 ∷ 125 ∷ 44 ∷ entry_open f))
keys_behind later (a ∷ ls) e f =
    ap (λ z. comma_if later ++ (entry_open a ++ (93 ∷ 125 ∷ z))) (keys_behind true ls e f)
    ∙ sym (grouped (comma_if later) (entry_open a) (93 ∷ 125 ∷ keys_open true ls e) (93 ∷ 125 ∷ 44 ∷ entry_open f))

first_open : (k : List ℕ) (t : TrackedMeta) → entry_open (k, t ∷ []) ≡ key_text k ++ compact_text t.meta
unfolding entry_open
first_open k t = ap (λ z. key_text k ++ z) (one_open t)

-- ---- rows

same_key : (k j : List ℕ) → text_cmp k j ≡ Equal → bytes_eq k j ≡ true
same_key k j o = sym (is_eq-slice_cmp k j) ∙ ap is_eq o

other_key : (k j : List ℕ) → text_cmp k j ≡ Less → bytes_eq k j ≡ false
other_key k j o = sym (is_eq-slice_cmp k j) ∙ ap is_eq o

-- the text of the lists that further rows make
abbrev listed : Listing → List (Dot × Row) → List ℕ
listed ls rows = members_text false (members_of_keys (fold add_row ls rows))

rows_on : (ls : Listing) (k : List ℕ) (u : TrackedMeta) (ts : List TrackedMeta) (rows : List (Dot × Row)) → Below k ls → GoesOn k rows
    → listed (ls ++ (k, u ∷ ts) ∷ []) rows ≡ keys_open false ls (k, u ∷ ts) ++ rest_text (Some k) rows
unfolding rest_text
rows_on ls k u ts [] below h = keys_closed false ls (k, u ∷ ts)
rows_on ls k u ts (p ∷ rows) below h =
    let t : TrackedMeta = tracked_of p.0 p.1 in
    let last : Entry = (k, u ∷ ts) in
    let more : List ℕ = rest_text (Some p.1.key) rows in
    order_cases (text_cmp k p.1.key)
    (λ o.
    ap (λ z. listed z rows) (put_behind (ls ++ last ∷ []) p.1.key t (below_next k p.1.key ls (u ∷ ts) o below))
    ∙ rows_on (ls ++ last ∷ []) p.1.key t [] rows (below_next k p.1.key ls (u ∷ ts) o below) h.1
    ∙ ap (λ z. z ++ more) (keys_behind false ls last (p.1.key, t ∷ []) ∙ ap (λ z. keys_open false ls last ++ (93 ∷ 125 ∷ 44 ∷ z)) (first_open p.1.key t))
    ∙ append_assoc (keys_open false ls last) (93 ∷ 125 ∷ 44 ∷ (key_text p.1.key ++ row_text p)) more
    ∙ ap (λ z. keys_open false ls last ++ (93 ∷ 125 ∷ 44 ∷ z)) (append_assoc (key_text p.1.key) (row_text p) more)
    ∙ rw (other_key k p.1.key o) refl)
    (λ o.
    let alike : k ≡ p.1.key = equal_is k p.1.key o in
    ap (λ z. listed z rows) (again alike)
    ∙ rows_on ls k u (ts ++ t ∷ []) rows below (subst (λ z. GoesOn z rows) (sym alike) h.1)
    ∙ ap (λ z. keys_open false ls (k, u ∷ (ts ++ t ∷ [])) ++ rest_text (Some z) rows) alike
    ∙ ap (λ z. z ++ more) (keys_pushed false ls k u ts t)
    ∙ append_assoc (keys_open false ls last) (44 ∷ row_text p) more
    ∙ rw (same_key k p.1.key o) refl)
    (λ o. absurd (h.0 o))
  where
    again : k ≡ p.1.key → add_row (ls ++ (k, u ∷ ts) ∷ []) p ≡ ls ++ (k, (u ∷ ts) ++ tracked_of p.0 p.1 ∷ []) ∷ []
    again alike =
        subst (λ j. put (ls ++ (k, u ∷ ts) ∷ []) j (at (ls ++ (k, u ∷ ts) ∷ []) j ++ tracked_of p.0 p.1 ∷ []) ≡ ls ++ (k, (u ∷ ts) ++ tracked_of p.0 p.1 ∷ []) ∷ [])
        alike (put_again ls k (u ∷ ts) (tracked_of p.0 p.1) below)

first_row : (p : Dot × Row) (rows : List (Dot × Row)) → GoesOn p.1.key rows → listed [] (p ∷ rows) ≡ rest_text None (p ∷ rows)
unfolding rest_text keys_open
first_row p rows h =
    rows_on [] p.1.key (tracked_of p.0 p.1) [] rows tt h
    ∙ ap (λ z. z ++ rest_text (Some p.1.key) rows) (first_open p.1.key (tracked_of p.0 p.1))
    ∙ append_assoc (key_text p.1.key) (row_text p) (rest_text (Some p.1.key) rows)

-- the text of a state, of rows in order of their keys
pub state_written : (rows : List (Dot × Row)) → AreInKeyOrder rows → 123 ∷ rest_text None rows ≡ compact_text (state_of rows)
unfolding rest_text listing_of members_of_keys
state_written [] h = refl
state_written (p ∷ rows) h =
    ap (λ z. 123 ∷ z) (sym (first_row p rows h))
    ∙ ap (λ ms. 123 ∷ members_text false ms) (sym (written_all (λ e. metas_value e.1) (listing_of (p ∷ rows)) (listing_rises (p ∷ rows))))

-- the text of a diff, round those of its states
pub diff_written : (joins leaves : List (Dot × Row))
    → (((codes "{\"joins\":" ++ compact_text (state_of joins)) ++ codes ",\"leaves\":") ++ compact_text (state_of leaves)) ++ codes "}" ≡ compact_text (diff_of joins leaves)
unfolding escape_byte
diff_written joins leaves = five_joined (codes "{\"joins\":") (compact_text (state_of joins)) (codes ",\"leaves\":") (compact_text (state_of leaves)) (codes "}")

-- what was written behind a text is its state
pub state_behind : {A E : Type 0} (r : Result A E) (old mid new : List ℕ) (rows : List (Dot × Row)) → AreInKeyOrder rows → mid ≡ old ++ 123 ∷ []
    → OnOk r (new ≡ mid ++ rest_text None rows) → OnOk r (new ≡ old ++ compact_text (state_of rows))
state_behind (Ok x) old mid new rows h e w =
    w ∙ ap (λ z. z ++ rest_text None rows) e ∙ append_assoc old (123 ∷ []) (rest_text None rows) ∙ ap (λ z. old ++ z) (state_written rows h)
state_behind (Err x) old mid new rows h e w = tt
