-- What an edit of a map of vectors is, where each vector is seen as its list.
use Rattle.std.proofs.Common.{◌≡◌, ◌≢◌, ℕ, List, [], ◌∷◌, map, Bool, true, false, cond, Some, None, refl, ap}
use Rattle.std.specs.declared.cmp.Ordering.{Ordering}
use Rattle.std.specs.declared.cmp.Ordering.TheVariants.{Less, Equal, Greater}
use Rattle.std.specs.Ordering.{match_ordering}
use Rattle.std.specs.List.{AllZip}
use Rattle.std.specs.Map.{lookup, remove_entry}
use Rattle.std.specs.BTreeMap.{is_at, insert_entry}
use Rattle.std.proofs.lemmas.Map.Made.{lookup-map_values}
use Rattle.presence_base.specs.Order.{text_cmp}
use Rattle.presence_metas.specs.Listing.{Listing, at, entered}
use Rattle.presence_metas.specs.declared.tracked.TrackedMeta.{TrackedMeta}

pub at_found : {X : Type 0} (g : X → List TrackedMeta) (k : List ℕ) (es : List (List ℕ × X)) (v : X) → Some v ≡ lookup (is_at (text_cmp k)) es → g v ≡ at (map (λ e. (e.0, g e.1)) es) k
at_found g k es v h = rw (lookup-map_values g (is_at (text_cmp k)) es, ← h) refl

pub at_missing : {X : Type 0} (g : X → List TrackedMeta) (k : List ℕ) (es : List (List ℕ × X)) → None ≡ lookup (is_at (text_cmp k)) es → [] ≡ at (map (λ e. (e.0, g e.1)) es) k
at_missing g k es h = rw (lookup-map_values g (is_at (text_cmp k)) es, ← h) refl

pub remove_seen : {X Y : Type 0} (g : X → Y) (test : List ℕ → Bool) (es : List (List ℕ × X)) → map (λ e. (e.0, g e.1)) (remove_entry test es) ≡ remove_entry test (map (λ e. (e.0, g e.1)) es)
remove_seen g test [] = refl
remove_seen {X} {Y} g test (e ∷ es) = at_test (test e.0) (remove_seen g test es)
  where
    at_test : (b : Bool) → map (λ e. (e.0, g e.1)) (remove_entry test es) ≡ remove_entry test (map (λ e. (e.0, g e.1)) es)
        → map (λ e. (e.0, g e.1)) (cond b es (e ∷ remove_entry test es)) ≡ cond b (map (λ e. (e.0, g e.1)) es) ((e.0, g e.1) ∷ remove_entry test (map (λ e. (e.0, g e.1)) es))
    at_test true h = refl
    at_test false h = ap (λ rest. (e.0, g e.1) ∷ rest) h

pub without_seen : {X Y : Type 0} (g : X → Y) (test : List ℕ → Bool) (es fs : List (List ℕ × X)) → fs ≡ remove_entry test es → map (λ e. (e.0, g e.1)) fs ≡ remove_entry test (map (λ e. (e.0, g e.1)) es)
without_seen g test es fs h = rw h (remove_seen g test es)

pub insert_seen : {X Y : Type 0} (g : X → Y) (k : List ℕ) (v : X) (es : List (List ℕ × X)) → map (λ e. (e.0, g e.1)) (insert_entry text_cmp es k v) ≡ insert_entry text_cmp (map (λ e. (e.0, g e.1)) es) k (g v)
insert_seen g k v [] = refl
insert_seen {X} {Y} g k v (e ∷ es) = at_order (text_cmp k e.0) (insert_seen g k v es)
  where
    at_order : (o : Ordering) → map (λ e. (e.0, g e.1)) (insert_entry text_cmp es k v) ≡ insert_entry text_cmp (map (λ e. (e.0, g e.1)) es) k (g v)
        → map (λ e. (e.0, g e.1)) (match_ordering o ((k, v) ∷ e ∷ es) ((e.0, v) ∷ es) (e ∷ insert_entry text_cmp es k v))
        ≡ match_ordering o ((k, g v) ∷ (e.0, g e.1) ∷ map (λ e. (e.0, g e.1)) es) ((e.0, g v) ∷ map (λ e. (e.0, g e.1)) es) ((e.0, g e.1) ∷ insert_entry text_cmp (map (λ e. (e.0, g e.1)) es) k (g v))
    at_order Less h = refl
    at_order Equal h = refl
    at_order Greater h = ap (λ rest. (e.0, g e.1) ∷ rest) h

pub entered_some : (ls : Listing) (k : List ℕ) (ts : List TrackedMeta) → ts ≢ [] → entered ls k ts ≡ insert_entry text_cmp ls k ts
entered_some ls k [] h = absurd (h refl)
entered_some ls k (t ∷ ts) h = refl

pub entered_seen : {X : Type 0} (g : X → List TrackedMeta) (k : List ℕ) (v : X) (es fs : List (List ℕ × X)) → g v ≢ [] → fs ≡ insert_entry text_cmp es k v → map (λ e. (e.0, g e.1)) fs ≡ entered (map (λ e. (e.0, g e.1)) es) k (g v)
entered_seen g k v es fs some h = rw (h, entered_some (map (λ e. (e.0, g e.1)) es) k (g v) some) (insert_seen g k v es)

pub clones_seen : {X : Type 0} (g : X → List TrackedMeta) (C : List ℕ → List ℕ → Type 0) (D : X → X → Type 0) → ((k l : List ℕ) → C k l → l ≡ k) → ((v w : X) → D v w → g w ≡ g v)
    → (es fs : List (List ℕ × X)) → AllZip (λ p q. C p.0 q.0 × D p.1 q.1) es fs → map {B = List ℕ × List TrackedMeta} (λ e. (e.0, g e.1)) fs ≡ map {B = List ℕ × List TrackedMeta} (λ e. (e.0, g e.1)) es
clones_seen g C D same_key same_list [] [] h = refl
clones_seen g C D same_key same_list [] (f ∷ fs) h = absurd h
clones_seen g C D same_key same_list (e ∷ es) [] h = absurd h
clones_seen g C D same_key same_list (e ∷ es) (f ∷ fs) h = rw (same_key e.0 f.0 h.0.0, same_list e.1 f.1 h.0.1, clones_seen g C D same_key same_list es fs h.1) refl
