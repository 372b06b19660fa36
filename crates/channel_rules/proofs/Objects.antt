-- Members that are put into an object or taken out of it.
use Rattle.std.proofs.Common.{◌≡◌, ℕ, List, [], ◌∷◌, Bool, true, false, cond, String, string_bytes, refl, ap}
use Rattle.std.specs.declared.alloc.Global.{Global}
use Rattle.std.specs.Ordering.{nat_cmp}
use Rattle.std.specs.Cmp.Lexicographic.{slice_cmp}
use Rattle.std.specs.Map.{remove_entry}
use Rattle.std.specs.BTreeMap.{is_at}
use Rattle.serde_json.specs.Data.{member}
use Rattle.serde_json.specs.View.{view, members_view}
use Rattle.serde_json.specs.declared.value.Value.{Value}
use Rattle.presence_base.specs.Order.{same_text}
use Rattle.channel_rules.specs.Asked.{without_member}

-- without an entry, an object lacks its member
pub members_view-remove_entry : (name : List ℕ) (es : List (String Global × Value)) → members_view (remove_entry (is_at (λ k. slice_cmp nat_cmp name (string_bytes k))) es) ≡ without_member name (members_view es)
members_view-remove_entry name [] = refl
members_view-remove_entry name (e ∷ es) = at_test (same_text name (string_bytes e.0)) e es _ (members_view-remove_entry name es)
  where
    at_test : (b : Bool) (e : String Global × Value) (es fs : List (String Global × Value)) → members_view fs ≡ without_member name (members_view es)
        → members_view (cond b es (e ∷ fs)) ≡ cond b (members_view es) (member (string_bytes e.0) (view e.1) (without_member name (members_view es)))
    at_test true e es fs h = refl
    at_test false e es fs h = ap (member (string_bytes e.0) (view e.1)) h
