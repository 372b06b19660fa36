-- The keys of the lists that rows make are within their limits.
use Rattle.std.proofs.Common.{ℕ, List, [], ◌∷◌, Bool, IsTrue}
use Rattle.std.specs.List.{fold, AllByRecursion}
use Rattle.std.specs.Map.{remove_entry}
use Rattle.std.specs.BTreeMap.{is_at, insert_entry}
use Rattle.presence_base.specs.Names.{is_short_text}
use Rattle.presence_base.specs.Order.{text_cmp}
use Rattle.presence_base.specs.declared.dots.Dot.{Dot}
use Rattle.presence_base.specs.declared.row.Row.{Row}
use Rattle.presence_metas.specs.declared.tracked.TrackedMeta.{TrackedMeta}
use Rattle.presence_metas.specs.Listing.{Listing, without_key, put}
use Rattle.presence_metas.specs.Rows.{add_row, listing_of}
use Rattle.presence_metas.proofs.Lookups.{bool_cases, order_cases}
use Rattle.hook_registry.proofs.Choosing.{AllShort}

short_without : (test : List ℕ → Bool) (ls : Listing) → AllShort ls → AllShort (remove_entry test ls)
short_without test [] h = tt
short_without test (e ∷ ls) h = bool_cases (test e.0) (λ t. rw t h.1) (λ t. rw t (h.0, short_without test ls h.1))

short_inserted : (k : List ℕ) (ts : List TrackedMeta) (ls : Listing) → IsTrue (is_short_text k) → AllShort ls → AllShort (insert_entry text_cmp ls k ts)
short_inserted k ts [] new h = (new, tt)
short_inserted k ts (e ∷ ls) new h =
    order_cases (text_cmp k e.0) (λ o. rw o (new, h)) (λ o. rw o (h.0, h.1)) (λ o. rw o (h.0, short_inserted k ts ls new h.1))

short_put : (ls : Listing) (k : List ℕ) (ts : List TrackedMeta) → IsTrue (is_short_text k) → AllShort ls → AllShort (put ls k ts)
short_put ls k [] new h = short_without (is_at (text_cmp k)) ls h
short_put ls k (t ∷ ts) new h = short_inserted k (t ∷ ts) (without_key ls k) new (short_without (is_at (text_cmp k)) ls h)

rows_short : (ls : Listing) (rows : List (Dot × Row)) → AllByRecursion (λ p. IsTrue (is_short_text p.1.key)) rows → AllShort ls → AllShort (fold add_row ls rows)
rows_short ls [] h all = all
rows_short ls (p ∷ rows) h all = rows_short (add_row ls p) rows h.1 (short_put ls p.1.key _ h.0 all)

pub listing_short : (rows : List (Dot × Row)) → AllByRecursion (λ p. IsTrue (is_short_text p.1.key)) rows → AllShort (listing_of rows)
unfolding listing_of
listing_short rows h = rows_short [] rows h tt
