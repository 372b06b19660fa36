-- A client's lists: keys in order, each with its metas; and how the joins and leaves of a diff change them.
use Rattle.std.specs.Prelude.{ℕ, List, [], ◌∷◌, ◌++◌, Bool, not, unwrap_or}
use Rattle.std.specs.List.{fold, filter, list_any}
use Rattle.std.specs.Str.{bytes_eq}
use Rattle.std.specs.Map.{lookup, remove_entry}
use Rattle.std.specs.BTreeMap.{is_at, insert_entry}
use Rattle.presence_base.specs.Order.{text_cmp}
use Rattle.presence_metas.specs.declared.tracked.TrackedMeta.{TrackedMeta}
use Rattle.presence_metas.specs.declared.presences.Diff.{Diff}

abbrev pub Listing : Type 0
Listing = List (List ℕ × List TrackedMeta)

-- the metas of a key
abbrev pub at : Listing → List ℕ → List TrackedMeta
at ls k = unwrap_or (lookup (is_at (text_cmp k)) ls) []

abbrev pub without_key : Listing → List ℕ → Listing
without_key ls k = remove_entry (is_at (text_cmp k)) ls

-- a key without metas is not kept
abbrev pub entered : Listing → List ℕ → List TrackedMeta → Listing
entered ls k [] = ls
entered ls k (t ∷ ts) = insert_entry text_cmp ls k (t ∷ ts)

-- with these metas at the key
abbrev pub put : Listing → List ℕ → List TrackedMeta → Listing
put ls k ts = entered (without_key ls k) k ts

-- whether one of the metas has the reference
abbrev pub is_named : List TrackedMeta → List ℕ → Bool
is_named ts r = list_any (λ t. bytes_eq t.reference r) ts

-- the metas whose references are not among those that went
abbrev pub left_metas : List TrackedMeta → List TrackedMeta → List TrackedMeta
left_metas held gone = filter (λ t. not (is_named gone t.reference)) held

-- the metas whose references are not joined stay, and the joined ones follow
abbrev pub joined_metas : List TrackedMeta → List TrackedMeta → List TrackedMeta
joined_metas held joined = left_metas held joined ++ joined

abbrev pub join_key : Listing → List ℕ × List TrackedMeta → Listing
join_key ls e = put ls e.0 (joined_metas (at ls e.0) e.1)

abbrev pub leave_key : Listing → List ℕ × List TrackedMeta → Listing
leave_key ls e = put ls e.0 (left_metas (at ls e.0) e.1)

-- first the keys of the joins, then those of the leaves
unfoldable pub applied : Listing → Diff → Listing
applied ls d = fold leave_key (fold join_key ls d.joins) d.leaves
