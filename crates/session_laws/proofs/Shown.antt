-- What tables of rows show by key and reference, and how a client's frames change it.
use Rattle.std.proofs.Common.{◌≡◌, ℕ, Bool, true, false, cond, ◌&&◌, ◌||◌, List, [], ◌∷◌, ◌++◌, Option, Some, None, refl, sym, ◌∙◌, ap, append-nil, append_assoc}
use Rattle.std.specs.FinMap as map
use Rattle.std.specs.List.{fold, AllByRecursion}
use Rattle.std.specs.Str.{bytes_eq}
use Rattle.std.proofs.lemmas.Slice.Eq.{bytes_eq-Decides}
use Rattle.serde_json.specs.Data.{Data}
use Rattle.presence_base.proofs.Splitting.{one_dot}
use Rattle.presence_base.specs.Order.{same_text, same_dot}
use Rattle.presence_base.specs.Refs.{ref_of, IsDot}
use Rattle.presence_base.specs.declared.dots.Dot.{Dot}
use Rattle.presence_base.specs.declared.row.Row.{Row}
use Rattle.presence_journal.specs.Present.{RowMap, place_cmp, place_of}
use Rattle.presence_journal.specs.Queue.{with_rows, without_rows}
use Rattle.presence_journal.specs.declared.rows.Place.{Place}
use Rattle.presence_journal.proofs.Lookups.{get-insert_row}
use Rattle.presence_journal.proofs.Same.{same_dot-true, same_dot-refl, place_total, same_place}
use Rattle.presence_metas.specs.Fold.{first_some, last_named, meta_at, folded}
use Rattle.presence_metas.specs.Listing.{Listing, at, is_named}
use Rattle.presence_metas.specs.Rows.{tracked_of, add_row, listing_of}
use Rattle.presence_metas.specs.declared.tracked.TrackedMeta.{TrackedMeta}
use Rattle.presence_metas.proofs.Lookups.{same_is, bool_cases, Rises, none_rises, put_rises, put_here, put_other}

abbrev pub Metas : Type 0
Metas = List ℕ → List ℕ → Option Data

-- what is told of a row under its dot
abbrev pub tell : Dot → Option Row → Option Data
tell d None = None
tell d (Some r) = Some (tracked_of d r).meta

abbrev pub place : List ℕ → Dot → Place
place k d = record { key = k; dot = d }

-- the reference of some dot
abbrev pub IsRef : List ℕ → Type 0
IsRef r = (d : Dot) × (IsDot d × (r ≡ ref_of d))

-- the metas are those of the table's rows, under the references of their dots
pub record Shows (f : Metas) (m : RowMap) : Type 0 where
  pub on : (k : List ℕ) (d : Dot) → IsDot d → f k (ref_of d) ≡ tell d (map.get m (place k d))
  pub off : (k r : List ℕ) (x : Data) → f k r ≡ Some x → IsRef r

-- a table shows one thing
pub shown_alike : (f g : Metas) (m : RowMap) → Shows f m → Shows g m → (k r : List ℕ) → f k r ≡ g k r
shown_alike f g m sf sg k r = go (f k r) (g k r) refl refl
  where
    both : IsRef r → f k r ≡ g k r
    both x = ap (f k) x.1.1 ∙ (sf.on k x.0 x.1.0 ∙ (sym (sg.on k x.0 x.1.0) ∙ ap (g k) (sym x.1.1)))

    go : (o p : Option Data) → f k r ≡ o → g k r ≡ p → f k r ≡ g k r
    go (Some x) p e h = both (sf.off k r x e)
    go None (Some y) e h = both (sg.off k r y h)
    go None None e h = e ∙ sym h

pub shows_same : (f g : Metas) (m : RowMap) → ((k r : List ℕ) → g k r ≡ f k r) → Shows f m → Shows g m
shows_same f g m is s = record { on = λ k d ok. is k (ref_of d) ∙ s.on k d ok; off = λ k r x e. s.off k r x (sym (is k r) ∙ e) }

abbrev pub AllDots : List (Dot × Row) → Type 0
AllDots = AllByRecursion (λ x. IsDot x.0)

-- ---- the lists of rows

-- the metas of a key's rows, in their order
abbrev pub metas_of : List ℕ → List (Dot × Row) → List TrackedMeta
metas_of k [] = []
metas_of k (x ∷ xs) = cond (same_text k x.1.key) (tracked_of x.0 x.1 ∷ metas_of k xs) (metas_of k xs)

at_added : (ls : Listing) (rows : List (Dot × Row)) (k : List ℕ) → Rises ls → at (fold add_row ls rows) k ≡ at ls k ++ metas_of k rows
at_added ls [] k h = sym (append-nil (at ls k))
at_added ls (x ∷ xs) k h =
    at_added (add_row ls x) xs k (put_rises ls x.1.key (at ls x.1.key ++ tracked_of x.0 x.1 ∷ []) h)
    ∙ bool_cases (same_text k x.1.key)
    (λ s. rw s (on_key (same_is k x.1.key s)))
    (λ s. rw s (ap (λ ts. ts ++ metas_of k xs) (put_other ls x.1.key (at ls x.1.key ++ tracked_of x.0 x.1 ∷ []) k s h)))
  where
    on_key : k ≡ x.1.key → at (add_row ls x) k ++ metas_of k xs ≡ at ls k ++ tracked_of x.0 x.1 ∷ metas_of k xs
    on_key alike =
        ap (λ z. at (add_row ls x) z ++ metas_of k xs) alike
        ∙ (ap (λ ts. ts ++ metas_of k xs) (put_here ls x.1.key (at ls x.1.key ++ tracked_of x.0 x.1 ∷ []) h)
        ∙ (append_assoc (at ls x.1.key) (tracked_of x.0 x.1 ∷ []) (metas_of k xs)
        ∙ ap (λ z. at ls z ++ tracked_of x.0 x.1 ∷ metas_of k xs) (sym alike)))

pub at_listing : (rows : List (Dot × Row)) (k : List ℕ) → at (listing_of rows) k ≡ metas_of k rows
unfolding listing_of
at_listing rows k = at_added [] rows k none_rises

-- ---- dots and references

some_first : (l : Option Data) (x : Data) (o : Option Data) → first_some l (Some x) ≡ first_some (first_some l (Some x)) o
some_first (Some y) x o = refl
some_first None x o = refl

none_first : (l o : Option Data) → first_some l o ≡ first_some (first_some l None) o
none_first (Some y) o = refl
none_first None o = refl

pub first_none : (o : Option Data) → first_some o None ≡ o
first_none (Some x) = refl
first_none None = refl

-- one dot, one reference
ref_alike : (d e : Dot) → same_dot d e ≡ true → bytes_eq (ref_of e) (ref_of d) ≡ true
ref_alike d e s = (bytes_eq-Decides (ref_of e) (ref_of d)).1 (ap ref_of (sym (same_dot-true d e s)))

ref_apart : (d e : Dot) → IsDot d → IsDot e → same_dot d e ≡ false → bytes_eq (ref_of e) (ref_of d) ≡ false
ref_apart d e dok eok s =
    bool_cases (bytes_eq (ref_of e) (ref_of d))
    (λ b. let alike : e ≡ d = one_dot e d eok dok ((bytes_eq-Decides (ref_of e) (ref_of d)).0 b) in
    let bad : true ≡ false = sym (ap (same_dot d) alike ∙ same_dot-refl d) ∙ s in cc)
    (λ b. b)

-- ---- rows put in

with_one : (d e : Dot) (r : Row) (l : Option Data) (o : Option Row) → IsDot d → IsDot e
    → first_some l (tell d (cond (same_dot d e) (Some r) o)) ≡ first_some (first_some l (cond (bytes_eq (ref_of e) (ref_of d)) (Some (tracked_of e r).meta) None)) (tell d o)
with_one d e r l o dok eok =
    bool_cases (same_dot d e)
    (λ s. rw (s, ref_alike d e s) (ap (λ z. first_some l (Some (tracked_of z r).meta)) (same_dot-true d e s) ∙ some_first l (tracked_of e r).meta (tell d o)))
    (λ s. rw (s, ref_apart d e dok eok s) (none_first l (tell d o)))

with_next : (k : List ℕ) (d : Dot) (x : Dot × Row) (ts : List TrackedMeta) (o : Option Row) → IsDot d → IsDot x.0 → (b : Bool)
    → first_some (last_named ts (ref_of d)) (tell d (cond (b && same_dot d x.0) (Some x.1) o)) ≡ first_some (last_named (cond b (tracked_of x.0 x.1 ∷ ts) ts) (ref_of d)) (tell d o)
with_next k d x ts o dok xok true = with_one d x.0 x.1 (last_named ts (ref_of d)) o dok xok
with_next k d x ts o dok xok false = refl

pub shown_with : (m : RowMap) (xs : List (Dot × Row)) (k : List ℕ) (d : Dot) → IsDot d → AllDots xs
    → tell d (map.get (with_rows m xs) (place k d)) ≡ first_some (last_named (metas_of k xs) (ref_of d)) (tell d (map.get m (place k d)))
shown_with m [] k d dok all = refl
shown_with m (x ∷ xs) k d dok all =
    shown_with (map.insert m (place_of x.0 x.1) x.1) xs k d dok all.1
    ∙ (ap (λ o. first_some (last_named (metas_of k xs) (ref_of d)) (tell d o)) (get-insert_row m x.0 x.1 (place k d))
    ∙ with_next k d x (metas_of k xs) (map.get m (place k d)) dok all.0 (same_text k x.1.key))

-- ---- rows taken out

no_one : (b : Bool) → cond {A = Option Data} b None None ≡ None
no_one true = refl
no_one false = refl

without_one : (d e : Dot) (b : Bool) (o : Option Row) → IsDot d → IsDot e
    → cond b None (tell d (cond (same_dot d e) None o)) ≡ cond (bytes_eq (ref_of e) (ref_of d) || b) None (tell d o)
without_one d e b o dok eok =
    bool_cases (same_dot d e)
    (λ s. rw (s, ref_alike d e s) (no_one b))
    (λ s. rw (s, ref_apart d e dok eok s) refl)

without_next : (d : Dot) (x : Dot × Row) (ts : List TrackedMeta) (o : Option Row) → IsDot d → IsDot x.0 → (b : Bool)
    → cond (is_named ts (ref_of d)) None (tell d (cond (b && same_dot d x.0) None o)) ≡ cond (is_named (cond b (tracked_of x.0 x.1 ∷ ts) ts) (ref_of d)) None (tell d o)
without_next d x ts o dok xok true = without_one d x.0 (is_named ts (ref_of d)) o dok xok
without_next d x ts o dok xok false = refl

get_removed : (m : RowMap) (x : Dot × Row) (k : List ℕ) (d : Dot) → map.get (map.remove m (place_of x.0 x.1)) (place k d) ≡ cond (same_text k x.1.key && same_dot d x.0) None (map.get m (place k d))
get_removed m x k d = map.get-remove place_total m (place_of x.0 x.1) (place k d) ∙ ap (λ b. cond b None (map.get m (place k d))) (same_place (place k d) (place_of x.0 x.1))

pub shown_without : (m : RowMap) (xs : List (Dot × Row)) (k : List ℕ) (d : Dot) → IsDot d → AllDots xs
    → tell d (map.get (without_rows m xs) (place k d)) ≡ cond (is_named (metas_of k xs) (ref_of d)) None (tell d (map.get m (place k d)))
shown_without m [] k d dok all = refl
shown_without m (x ∷ xs) k d dok all =
    shown_without (map.remove m (place_of x.0 x.1)) xs k d dok all.1
    ∙ (ap (λ o. cond (is_named (metas_of k xs) (ref_of d)) None (tell d o)) (get_removed m x k d)
    ∙ without_next d x (metas_of k xs) (map.get m (place k d)) dok all.0 (same_text k x.1.key))

-- ---- nothing but references

named_ref : (k r : List ℕ) (xs : List (Dot × Row)) (y : Data) → AllDots xs → last_named (metas_of k xs) r ≡ Some y → IsRef r
named_ref k r [] y all e = absurd (cc)
named_ref k r (x ∷ xs) y all e = at_key (same_text k x.1.key) (λ z. named_ref k r xs z all.1) e
  where
    at_ref : (b : Bool) → bytes_eq (ref_of x.0) r ≡ b → cond b (Some (tracked_of x.0 x.1).meta) None ≡ Some y → IsRef r
    at_ref true s f = (x.0, (all.0, sym ((bytes_eq-Decides (ref_of x.0) r).0 s)))
    at_ref false s f = absurd (cc)

    at_rest : ((z : Data) → last_named (metas_of k xs) r ≡ Some z → IsRef r) → (o : Option Data) → last_named (metas_of k xs) r ≡ o
        → first_some o (cond (bytes_eq (ref_of x.0) r) (Some (tracked_of x.0 x.1).meta) None) ≡ Some y → IsRef r
    at_rest ih (Some z) s f = ih z s
    at_rest ih None s f = at_ref (bytes_eq (ref_of x.0) r) refl f

    at_key : (b : Bool) → ((z : Data) → last_named (metas_of k xs) r ≡ Some z → IsRef r) → last_named (cond b (tracked_of x.0 x.1 ∷ metas_of k xs) (metas_of k xs)) r ≡ Some y → IsRef r
    at_key true ih f = at_rest ih (last_named (metas_of k xs) r) refl f
    at_key false ih f = ih y f

-- ---- states and diffs

meta_listed : (rows : List (Dot × Row)) (k r : List ℕ) → meta_at (listing_of rows) k r ≡ last_named (metas_of k rows) r
meta_listed rows k r = ap (λ ts. last_named ts r) (at_listing rows k)

-- the lists of rows show the table of these rows
pub state_shows : (rows : List (Dot × Row)) → AllDots rows → Shows (meta_at (listing_of rows)) (with_rows map.empty rows)
state_shows rows all = record {
  on = λ k d ok.
      meta_listed rows k (ref_of d)
      ∙ sym (shown_with map.empty rows k d ok all ∙ (ap (λ o. first_some (last_named (metas_of k rows) (ref_of d)) (tell d o)) (map.get-empty place_cmp (place k d)) ∙ first_none (last_named (metas_of k rows) (ref_of d))));
  off = λ k r x e. named_ref k r rows x all (sym (meta_listed rows k r) ∙ e);
}

folded_ref : (f : Metas) (js : List (Dot × Row)) (k r : List ℕ) (x : Data) → ((y : Data) → f k r ≡ Some y → IsRef r) → AllDots js → (b : Bool)
    → cond b None (first_some (meta_at (listing_of js) k r) (f k r)) ≡ Some x → IsRef r
folded_ref f js k r x off all true e = absurd (cc)
folded_ref f js k r x off all false e = go (meta_at (listing_of js) k r) refl e
  where
    go : (o : Option Data) → meta_at (listing_of js) k r ≡ o → first_some o (f k r) ≡ Some x → IsRef r
    go (Some y) s h = named_ref k r js y all (sym (meta_listed js k r) ∙ s)
    go None s h = off x h

-- a diff that is folded in shows the table with its joins put in and its leaves taken out
pub diff_shows : (f : Metas) (m : RowMap) (js ls : List (Dot × Row)) → AllDots js → AllDots ls → Shows f m
    → Shows (folded f (record { joins = listing_of js; leaves = listing_of ls })) (without_rows (with_rows m js) ls)
diff_shows f m js ls jok lok s = record {
  on = λ k d ok.
      ap (λ ts. cond (is_named ts (ref_of d)) None (first_some (meta_at (listing_of js) k (ref_of d)) (f k (ref_of d)))) (at_listing ls k)
      ∙ (ap (λ o. cond (is_named (metas_of k ls) (ref_of d)) None (first_some o (f k (ref_of d)))) (meta_listed js k (ref_of d))
      ∙ (ap (λ o. cond (is_named (metas_of k ls) (ref_of d)) None (first_some (last_named (metas_of k js) (ref_of d)) o)) (s.on k d ok)
      ∙ sym (shown_without (with_rows m js) ls k d ok lok ∙ ap (cond (is_named (metas_of k ls) (ref_of d)) None) (shown_with m js k d ok jok))));
  off = λ k r x e. folded_ref f js k r x (s.off k r) jok (is_named (at (listing_of ls) k) r) e;
}
