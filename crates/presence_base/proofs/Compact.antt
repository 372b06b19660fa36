-- What is written for a value reads as the value.
use Rattle.std.proofs.Common.{◌≡◌, ◌∙◌, ap, sym, refl, ℕ, List, Some}
use Rattle.serde_json.specs.Data.{Data}
use Rattle.serde_json.specs.Read.{read}
use Rattle.serde_json.specs.Written.{compact_text}
use Rattle.presence_base.specs.JsonTexts.{value_in, IsCompact}

pub value_in-read : (s : List ℕ) (d : Data) → read s ≡ Some d → value_in s ≡ d
unfolding value_in
value_in-read s d h = rw h refl

pub is_compact : (s : List ℕ) (d : Data) → read s ≡ Some d → s ≡ compact_text d → IsCompact s
is_compact s d h w =
    (h ∙ ap Some (sym (value_in-read s d h)), ap compact_text (value_in-read s d h) ∙ sym w)
