-- What a token grants, or the first thing that is wrong with it.
use Rattle.std.specs.Prelude.{ℕ, Bool, List, if◌then◌else◌, nat_lt, nat_le, Result, Ok, Err, bytes_eq}
use Rattle.std.specs.List.{list_any}
use Rattle.hmac_keys.specs.Hmac.{hmac_sha256}
use Rattle.json.specs.Json.{Json}
use Rattle.tokens.specs.Answers.{present, ◌>>=◌}
use Rattle.tokens.specs.Parts.{PartTexts, parts_in, signed_text, bytes_in}
use Rattle.tokens.specs.Unique.{json_in}
use Rattle.tokens.specs.Claimed.{Granted, is_hs256, claims_in}
use Rattle.tokens.specs.declared.fault.TokenFault.{TokenFault}
use Rattle.tokens.specs.declared.fault.TokenFault.TheVariants.{OtherAlgorithm, BadSignature, TooEarly, Expired}

-- the signature is the code of the head and the claims under this key
abbrev pub signs : List ℕ → List ℕ → List ℕ → List ℕ → Bool
signs head claims signature key = bytes_eq (hmac_sha256 key (signed_text head claims)) signature

-- under one of the keys
abbrev pub is_signed : List (List ℕ) → List ℕ → List ℕ → List ℕ → Bool
is_signed keys head claims signature = list_any (signs head claims signature) keys

-- the JSON value that a part encodes
abbrev pub value_in : List ℕ → Result Json TokenFault
value_in part = bytes_in part >>= json_in

abbrev pub named : Json → Result (Unit {0}) TokenFault
named head = if is_hs256 head then Ok tt else Err OtherAlgorithm

abbrev pub judged_head : List ℕ → Result (Unit {0}) TokenFault
judged_head part = value_in part >>= named

abbrev pub in_time : ℕ → Granted → Result Granted TokenFault
in_time now g = if nat_lt now g.begins then Err TooEarly else (if nat_le g.ends now then Err Expired else Ok g)

abbrev pub judged_claims : ℕ → List ℕ → Result Granted TokenFault
judged_claims now part = value_in part >>= (λ j. claims_in j >>= in_time now)

abbrev pub judged_code : List (List ℕ) → ℕ → PartTexts → List ℕ → Result Granted TokenFault
judged_code keys now p signature =
    if is_signed keys p.head p.claims signature then judged_claims now p.claims else Err BadSignature

abbrev pub judged_parts : List (List ℕ) → ℕ → PartTexts → Result Granted TokenFault
judged_parts keys now p = judged_head p.head >>= (λ _. bytes_in p.signature >>= judged_code keys now p)

-- at this second, under these keys
unfoldable pub judged : List (List ℕ) → ℕ → List ℕ → Result Granted TokenFault
judged keys now text = present (parts_in text) >>= judged_parts keys now
