-- The three parts of a token in its compact form (RFC 7515, section 7.1), and what they encode.
use Rattle.std.specs.Prelude.{ℕ, ◌==◌, cond, List, [], ◌∷◌, ◌++◌, Option, Some, None, Result, option_map, option_and_then}
use Rattle.std.specs.Result.{result_ok}
use Rattle.base64.specs.GeneralPurpose.{decode_of}
use Rattle.base64.specs.Engines.{url_safe_no_pad}
use Rattle.tokens.specs.Answers.{present}
use Rattle.tokens.specs.declared.fault.TokenFault.{TokenFault}

-- what stands before the first dot and behind it
abbrev pub with_first : ℕ → List ℕ × List ℕ → List ℕ × List ℕ
with_first b p = (b ∷ p.0, p.1)

abbrev pub cut_in : List ℕ → Option (List ℕ × List ℕ)
cut_in [] = None
cut_in (b ∷ bs) = cond (b == 46) (Some ([], bs)) (option_map (with_first b) (cut_in bs))

-- the parts of a token, as texts
pub record PartTexts : Type 0 where
  pub head : List ℕ
  pub claims : List ℕ
  pub signature : List ℕ

abbrev pub behind_head : List ℕ → List ℕ × List ℕ → PartTexts
behind_head head p = record { head = head; claims = p.0; signature = p.1 }

abbrev pub parts_behind : List ℕ × List ℕ → Option PartTexts
parts_behind p = option_map (behind_head p.0) (cut_in p.1)

-- the part before the first dot, that before the next, and all that follows
abbrev pub parts_in : List ℕ → Option PartTexts
parts_in text = option_and_then parts_behind (cut_in text)

-- what is signed: the first two parts with the dot between them
abbrev pub signed_text : List ℕ → List ℕ → List ℕ
signed_text head claims = head ++ 46 ∷ claims

-- the bytes that a part encodes, in base64 for URLs without padding
abbrev pub bytes_in : List ℕ → Result (List ℕ) TokenFault
bytes_in part = present (result_ok (decode_of url_safe_no_pad part))
