-- JSON values as they are written with no white space (RFC 8259). A string is as it stands between its quotes.
use Rattle.std.specs.Prelude.{◌≡◌, ℕ, zero, suc, ◌==◌, ◌&&◌, ◌||◌, not, nat_le, Bool, true, false, List, [], ◌∷◌, ◌++◌, if◌then◌else◌, ⊤}
use Rattle.json.specs.Json.{Json, null, boolean, number, string, array, object, Items, no_items, item, Members, no_members, member}
use Rattle.serde_json.specs.Written.{comma_if}
use Rattle.number_texts.specs.Numbers.{is_number}

abbrev pub in_quotes : List ℕ → List ℕ
in_quotes t = 34 ∷ (t ++ 34 ∷ [])

abbrev mutual
  pub written : Json → List ℕ
  written null = 110 ∷ 117 ∷ 108 ∷ 108 ∷ []
  written (boolean true) = 116 ∷ 114 ∷ 117 ∷ 101 ∷ []
  written (boolean false) = 102 ∷ 97 ∷ 108 ∷ 115 ∷ 101 ∷ []
  written (number r) = r
  written (string t) = in_quotes t
  written (array js) = 91 ∷ items_written false js
  written (object ms) = 123 ∷ members_written false ms

  -- with the closing bracket
  pub items_written : Bool → Items → List ℕ
  items_written later no_items = 93 ∷ []
  items_written later (item j js) = comma_if later ++ (written j ++ items_written true js)

  pub members_written : Bool → Members → List ℕ
  members_written later no_members = 125 ∷ []
  members_written later (member k j ms) = comma_if later ++ (in_quotes k ++ 58 ∷ (written j ++ members_written true ms))

-- ---- what may stand between quotes

abbrev pub is_hex : ℕ → Bool
is_hex b = (nat_le 48 b && nat_le b 57) || ((nat_le 65 b && nat_le b 70) || (nat_le 97 b && nat_le b 102))

-- `"`, `\`, `/`, `b`, `f`, `n`, `r` and `t`
abbrev pub is_short : ℕ → Bool
is_short b = (b == 34) || ((b == 92) || ((b == 47) || ((b == 98) || ((b == 102) || ((b == 110) || ((b == 114) || (b == 116)))))))

-- where a reader of a string stands: at a character, behind a backslash, or before a hex digit that has so many behind it
pub data Within : Type 0 where
  at_character : Within
  behind_backslash : Within
  at_hex : ℕ → Within

abbrev pub are_chars : Within → List ℕ → Bool
are_chars at_character [] = true
are_chars at_character (b ∷ t) =
    if b == 92 then are_chars behind_backslash t else (nat_le 32 b && not (b == 34)) && are_chars at_character t
are_chars behind_backslash [] = false
are_chars behind_backslash (b ∷ t) = if b == 117 then are_chars (at_hex 3) t else is_short b && are_chars at_character t
are_chars (at_hex n) [] = false
are_chars (at_hex zero) (b ∷ t) = is_hex b && are_chars at_character t
are_chars (at_hex (suc n)) (b ∷ t) = is_hex b && are_chars (at_hex n) t

abbrev pub is_string : List ℕ → Bool
is_string t = are_chars at_character t

-- each number and each string is one
abbrev mutual
  pub IsWritten : Json → Type 0
  IsWritten null = ⊤
  IsWritten (boolean b) = ⊤
  IsWritten (number r) = is_number r ≡ true
  IsWritten (string t) = is_string t ≡ true
  IsWritten (array js) = ItemsAreWritten js
  IsWritten (object ms) = MembersAreWritten ms

  pub ItemsAreWritten : Items → Type 0
  ItemsAreWritten no_items = ⊤
  ItemsAreWritten (item j js) = IsWritten j × ItemsAreWritten js

  pub MembersAreWritten : Members → Type 0
  MembersAreWritten no_members = ⊤
  MembersAreWritten (member k j ms) = (is_string k ≡ true) × IsWritten j × MembersAreWritten ms

-- the text is that of a value
abbrev pub IsJsonText : List ℕ → Type 0
IsJsonText s = (j : Json) × IsWritten j × (s ≡ written j)
