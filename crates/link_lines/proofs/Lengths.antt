-- What the length of an array says of its members.
use Rattle.std.proofs.Common.{◌≡◌, ◌≢◌, [], ◌∷◌, List, length, Ok, Err, refl}
use Rattle.serde_json.specs.View.{items_view}
use Rattle.serde_json.specs.declared.value.Value.{Value}
use Rattle.link_lines.specs.declared.fault.LinkFault.TheVariants.{BadLine}
use Rattle.link_lines.specs.declared.lines.Line.TheVariants as lines_are
use Rattle.link_lines.specs.Reading.{ok_items}

pub one : (vs : List Value) → length vs ≡ 1 → ok_items (items_view vs) ≡ Ok lines_are.Ok
one [] h = absurd (cc)
one (a ∷ []) h = refl
one (a ∷ b ∷ vs) h = absurd (cc)

pub not_one : (vs : List Value) → length vs ≢ 1 → ok_items (items_view vs) ≡ Err BadLine
not_one [] h = refl
not_one (a ∷ []) h = absurd (h refl)
not_one (a ∷ b ∷ vs) h = refl
