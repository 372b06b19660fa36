-- What stands behind a token that is taken.
use Rattle.std.specs.Prelude.{◌≡◌, ◌≤◌, ◌<◌, ℕ, List, ◌∷◌, ◌++◌, Contains, Ok, true}
use Rattle.json.specs.Json.{Json}
use Rattle.hmac_keys.specs.Hmac.{hmac_sha256}
use Rattle.tokens.specs.Parts.{bytes_in, signed_text}
use Rattle.tokens.specs.Claimed.{Granted, claims_in, is_hs256}
use Rattle.tokens.specs.Judging.{value_in}

-- The text is a head, claims and a signature, with dots between them. The head names HS256 and nothing that must be understood
-- beside it, the signature is the HMAC-SHA-256 of the first two under one of the keys, the claims grant this, and it is the
-- time for it.
pub record IsCertified (keys : List (List ℕ)) (now : ℕ) (text : List ℕ) (g : Granted) : Type 0 where
  pub head : List ℕ
  pub claims : List ℕ
  pub signature : List ℕ
  pub text_is : text ≡ signed_text head claims ++ 46 ∷ signature
  pub header : Json
  pub head_is : value_in head ≡ Ok header
  pub is_named : is_hs256 header ≡ true
  pub key : List ℕ
  pub is_known : Contains keys key
  pub is_signed : bytes_in signature ≡ Ok (hmac_sha256 key (signed_text head claims))
  pub value : Json
  pub claims_are : value_in claims ≡ Ok value
  pub grants : claims_in value ≡ Ok g
  pub begun : g.begins ≤ now
  pub lasts : now < g.ends
