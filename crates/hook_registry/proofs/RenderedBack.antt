-- The object that lists are rendered as is read as these lists, whatever a fetch adds.
use Rattle.std.proofs.Common.{◌≡◌, List, [], map, true, Some, Ok, codes, refl, ap, ◌∙◌}
use Rattle.serde_json.specs.Data.{Data, array, put as put_member}
use Rattle.serde_json.specs.Find.{get_member}
use Rattle.serde_json.specs.View.{items_of}
use Rattle.serde_json.proofs.Views.{get_member-put}
use Rattle.presence_base.specs.declared.dots.Dot.{Dot}
use Rattle.presence_base.specs.declared.row.Row.{Row}
use Rattle.presence_metas.specs.Listing.{Listing}
use Rattle.presence_metas.specs.Rows.{listing_of}
use Rattle.presence_metas.specs.Frames.{is_array_of_objects, items_in, all_have_metas, is_listing, metas_into, listing_into, listing_in, frame_in}
use Rattle.presence_metas.proofs.ReadBack.{Tells, objects, metas_back, AllKept, written_all, shaped, read_all, listing_rises, listing_kept}
use Rattle.presence_metas.proofs.Lookups.{Rises}
use Rattle.hook_registry.specs.Rendered.{Extras, key_value, listing_with, state_with}
use Rattle.hook_registry.specs.Laws.{RenderedStatesReadBack, RenderedDiffsReadBack}

-- a key's object tells its metas, whatever stands beside them
key_tells : (extras : Extras) → Tells (key_value extras)
key_tells extras e named =
    let metas : Data = array (items_of (map (λ t. t.meta) e.1)) in
    let here : get_member (codes "metas") (put_member (codes "metas") metas (extras e.0)) ≡ Some metas = get_member-put (codes "metas") metas (extras e.0) in
    (ap is_array_of_objects here ∙ objects e.1 named, ap (λ o. metas_into [] (items_in o)) here ∙ metas_back [] e.1 named)

shape_of_rendered : (extras : Extras) (es : Listing) → Rises es → AllKept es → is_listing (listing_with extras es) ≡ true
shape_of_rendered extras es rises kept = ap all_have_metas (written_all (key_value extras) es rises) ∙ shaped (key_value extras) (key_tells extras) es kept

rendered_back : (extras : Extras) (es : Listing) → Rises es → AllKept es → listing_in (listing_with extras es) ≡ Ok es
rendered_back extras es rises kept = ap (listing_into []) (written_all (key_value extras) es rises) ∙ read_all (key_value extras) (key_tells extras) es rises kept

state_shape : (extras : Extras) (rows : List (Dot × Row)) → is_listing (state_with extras rows) ≡ true
state_shape extras rows = shape_of_rendered extras (listing_of rows) (listing_rises rows) (listing_kept rows)

state_back : (extras : Extras) (rows : List (Dot × Row)) → listing_in (state_with extras rows) ≡ Ok (listing_of rows)
state_back extras rows = rendered_back extras (listing_of rows) (listing_rises rows) (listing_kept rows)

pub rendered_states_read_back : RenderedStatesReadBack
unfolding frame_in
rendered_states_read_back m extras rows is_event is_payload = rw (is_event, is_payload, state_shape extras rows, state_back extras rows) refl

pub rendered_diffs_read_back : RenderedDiffsReadBack
unfolding frame_in
rendered_diffs_read_back m of_joins of_leaves joins leaves is_event is_payload =
    rw (is_event, is_payload, state_shape of_joins joins, state_shape of_leaves leaves, state_back of_joins joins, state_back of_leaves leaves) refl
