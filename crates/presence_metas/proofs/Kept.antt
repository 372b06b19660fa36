-- Edits of lists leave lists: keys in order, each with metas.
use Rattle.std.proofs.Common.{◌≡◌, ◌≢◌, ℕ, List, [], ◌∷◌, map, Bool, Vec, Global}
use Rattle.std.specs.Map.{remove_entry}
use Rattle.std.specs.BTreeMap.{insert_entry}
use Rattle.presence_base.specs.Order.{text_cmp}
use Rattle.presence_metas.specs.declared.tracked.TrackedMeta.{TrackedMeta}
use Rattle.presence_metas.specs.Lists.{AreFilled, AreLists}
use Rattle.presence_metas.specs.Listing.{Listing}
use Rattle.presence_metas.proofs.Seen.{remove_seen, insert_seen}
use Rattle.presence_metas.proofs.Lookups.{bool_cases, order_cases, none_rises, removed_rises, inserted_rises}

filled_without : (test : List ℕ → Bool) (ls : Listing) → AreFilled ls → AreFilled (remove_entry test ls)
filled_without test [] h = tt
filled_without test (e ∷ ls) h = bool_cases (test e.0) (λ t. rw t h.1) (λ t. rw t (h.0, filled_without test ls h.1))

filled_inserted : (k : List ℕ) (ts : List TrackedMeta) (ls : Listing) → ts ≢ [] → AreFilled ls → AreFilled (insert_entry text_cmp ls k ts)
filled_inserted k ts [] some h = (some, tt)
filled_inserted k ts (e ∷ ls) some h =
    order_cases (text_cmp k e.0) (λ o. rw o (some, h)) (λ o. rw o (some, h.1)) (λ o. rw o (h.0, filled_inserted k ts ls some h.1))

-- a map of vectors, each seen as its list
abbrev pub seen : List (List ℕ × Vec TrackedMeta Global) → Listing
seen es = map (λ e. (e.0, e.1.items)) es

pub none_kept : AreLists []
none_kept = record { rises = none_rises; filled = tt }

pub removed_kept : (test : List ℕ → Bool) (es fs : List (List ℕ × Vec TrackedMeta Global)) → AreLists (seen es) → fs ≡ remove_entry test es → AreLists (seen fs)
removed_kept test es fs h is =
    rw (is, remove_seen {Y = List TrackedMeta} (λ v. v.items) test es)
    record { rises = removed_rises test (seen es) h.rises; filled = filled_without test (seen es) h.filled }

pub inserted_kept : (k : List ℕ) (v : Vec TrackedMeta Global) (es fs : List (List ℕ × Vec TrackedMeta Global)) → AreLists (seen es) → v.items ≢ [] → fs ≡ insert_entry text_cmp es k v → AreLists (seen fs)
inserted_kept k v es fs h some is =
    rw (is, insert_seen {Y = List TrackedMeta} (λ w. w.items) k v es)
    record { rises = inserted_rises k v.items (seen es) h.rises; filled = filled_inserted k v.items (seen es) some h.filled }
