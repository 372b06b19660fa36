-- Rows in order of their keys add to the last key of the lists, or a key behind it.
use Rattle.std.proofs.Common.{◌≡◌, ◌≢◌, ℕ, List, [], ◌∷◌, ◌++◌, refl, ap, ◌∙◌}
use Rattle.std.specs.declared.cmp.Ordering.TheVariants.{Less, Greater}
use Rattle.std.specs.Ordering.{ordering_reverse}
use Rattle.std.specs.List.{AllByRecursion}
use Rattle.std.specs.BTreeMap.{insert_entry}
use Rattle.presence_base.specs.Order.{text_cmp}
use Rattle.presence_metas.specs.declared.tracked.TrackedMeta.{TrackedMeta}
use Rattle.presence_metas.specs.Listing.{Listing, at, without_key, put}
use Rattle.presence_metas.proofs.Lookups.{same_self, order}
use Rattle.presence_metas.proofs.Seen.{entered_some}

-- every key of the lists is below k
abbrev pub Below : List ℕ → Listing → Type 0
Below k ls = AllByRecursion (λ a. text_cmp k a.0 ≡ Greater) ls

some_pushed : (ts : List TrackedMeta) (t : TrackedMeta) → ts ++ t ∷ [] ≢ []
some_pushed [] t h = cc
some_pushed (u ∷ ts) t h = cc

at_last : (k : List ℕ) (ls : Listing) (ts : List TrackedMeta) → Below k ls → at (ls ++ (k, ts) ∷ []) k ≡ ts
at_last k [] ts h = rw (same_self k) refl
at_last k (a ∷ ls) ts h = rw (h.0) (at_last k ls ts h.1)

without_last : (k : List ℕ) (ls : Listing) (ts : List TrackedMeta) → Below k ls → without_key (ls ++ (k, ts) ∷ []) k ≡ ls
without_last k [] ts h = rw (same_self k) refl
without_last k (a ∷ ls) ts h = rw (h.0) (ap (λ rest. a ∷ rest) (without_last k ls ts h.1))

at_none : (k : List ℕ) (ls : Listing) → Below k ls → at ls k ≡ []
at_none k [] h = refl
at_none k (a ∷ ls) h = rw (h.0) (at_none k ls h.1)

without_none : (k : List ℕ) (ls : Listing) → Below k ls → without_key ls k ≡ ls
without_none k [] h = refl
without_none k (a ∷ ls) h = rw (h.0) (ap (λ rest. a ∷ rest) (without_none k ls h.1))

inserted_last : (k : List ℕ) (ts : List TrackedMeta) (ls : Listing) → Below k ls → insert_entry text_cmp ls k ts ≡ ls ++ (k, ts) ∷ []
inserted_last k ts [] h = refl
inserted_last k ts (a ∷ ls) h = rw (h.0) (ap (λ rest. a ∷ rest) (inserted_last k ts ls h.1))

-- one more meta of the last key
pub put_again : (ls : Listing) (k : List ℕ) (ts : List TrackedMeta) (t : TrackedMeta) → Below k ls
    → put (ls ++ (k, ts) ∷ []) k (at (ls ++ (k, ts) ∷ []) k ++ t ∷ []) ≡ ls ++ (k, ts ++ t ∷ []) ∷ []
put_again ls k ts t h =
    ap (λ us. put (ls ++ (k, ts) ∷ []) k (us ++ t ∷ [])) (at_last k ls ts h)
    ∙ entered_some (without_key (ls ++ (k, ts) ∷ []) k) k (ts ++ t ∷ []) (some_pushed ts t)
    ∙ ap (λ rest. insert_entry text_cmp rest k (ts ++ t ∷ [])) (without_last k ls ts h)
    ∙ inserted_last k (ts ++ t ∷ []) ls h

-- the first meta of a key behind all
pub put_behind : (ls : Listing) (k : List ℕ) (t : TrackedMeta) → Below k ls → put ls k (at ls k ++ t ∷ []) ≡ ls ++ (k, t ∷ []) ∷ []
put_behind ls k t h =
    ap (λ us. put ls k (us ++ t ∷ [])) (at_none k ls h)
    ∙ ap (λ rest. insert_entry text_cmp rest k (t ∷ [])) (without_none k ls h)
    ∙ inserted_last k (t ∷ []) ls h

reversed : (j k : List ℕ) → text_cmp j k ≡ Greater → text_cmp k j ≡ Less
reversed j k h = order.antisymm k j ∙ ap ordering_reverse h

flipped : (j k : List ℕ) → text_cmp j k ≡ Less → text_cmp k j ≡ Greater
flipped j k h = order.antisymm k j ∙ ap ordering_reverse h

-- what is below j, and j, are below a key above j
pub below_next : (j k : List ℕ) (ls : Listing) (ts : List TrackedMeta) → text_cmp j k ≡ Less → Below j ls → Below k (ls ++ (j, ts) ∷ [])
below_next j k [] ts l h = (flipped j k l, tt)
below_next j k (a ∷ ls) ts l h = (flipped a.0 k (order.trans a.0 j k (reversed j a.0 h.0) l), below_next j k ls ts l h.1)
