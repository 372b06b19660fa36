-- Tokens that are made, to try a client.
use Rattle.std.specs.Prelude.{◌≡◌, ℕ, Bool, true, false, ◌&&◌, ◌==◌, if◌then◌else◌, List, [], ◌∷◌, ◌++◌, map, Option, Some, None, option_map, Result, Ok, Err, codes, decimal, string_bytes}
use Rattle.std.specs.Arc.{arc_value}
use Rattle.json.specs.Print.{quoted}
use Rattle.base64.specs.GeneralPurpose.{encode_of}
use Rattle.base64.specs.Engines.{url_safe_no_pad}
use Rattle.hmac_keys.specs.Hmac.{hmac_sha256}
use Rattle.hmac_keys.specs.Keys.{key_bytes}
use Rattle.hmac_keys.specs.declared.keys.Keys.{Keys}
use Rattle.tokens.specs.Answers.{◌>>=◌}
use Rattle.tokens.specs.Claimed.{Granted}
use Rattle.tokens.specs.Granting.{same_subject}
use Rattle.tokens.specs.Parts.{signed_text}
use Rattle.tokens.specs.Signing.{judged_at}
use Rattle.tokens.specs.declared.fault.TokenFault.{TokenFault}
use Rattle.tokens.specs.declared.fault.TokenFault.TheVariants.{BadClaims}
use Rattle.tokens.specs.declared.making.Wanted.{Wanted}
use Rattle.tokens.specs.declared.making.TheConstants.{HEAD}
use Rattle.tokens.specs.declared.signing.Signing.{Signing}

-- what a token is to grant, as texts
pub record WantedTexts : Type 0 where
  pub subject : Option (List ℕ)
  pub topics : Option (List (List ℕ))
  pub ends : ℕ

abbrev pub wanted_in : Wanted → WantedTexts
wanted_in w = record {
  subject = option_map (λ s. s.now) w.subject;
  topics = option_map (λ t. map string_bytes t.now) w.topics;
  ends = w.ends;
}

abbrev pub subject_text : Option (List ℕ) → List ℕ
subject_text None = []
subject_text (Some subject) = codes "\"sub\":" ++ (quoted subject ++ codes ",")

-- patterns behind another
abbrev pub rest_text : List (List ℕ) → List ℕ
rest_text [] = []
rest_text (p ∷ ps) = codes "," ++ (quoted p ++ rest_text ps)

abbrev pub patterns_text : List (List ℕ) → List ℕ
patterns_text [] = []
patterns_text (p ∷ ps) = quoted p ++ rest_text ps

abbrev pub topics_text : Option (List (List ℕ)) → List ℕ
topics_text None = []
topics_text (Some topics) = codes "\"topics\":[" ++ (patterns_text topics ++ codes "],")

abbrev pub claims_text : WantedTexts → List ℕ
claims_text w = codes "{" ++ (subject_text w.subject ++ (topics_text w.topics ++ (codes "\"exp\":" ++ (decimal w.ends ++ codes "}"))))

abbrev pub encoded : List ℕ → List ℕ
encoded bytes = encode_of url_safe_no_pad bytes

-- head and claims, as they are encoded
abbrev pub head_part : List ℕ
head_part = encoded HEAD.now

abbrev pub claims_part : WantedTexts → List ℕ
claims_part w = encoded (claims_text w)

-- the token itself, signed with this key (RFC 7515, section 3.1)
unfoldable pub token_text : List ℕ → WantedTexts → List ℕ
token_text key w = signed_text head_part (claims_part w) ++ 46 ∷ encoded (hmac_sha256 key (signed_text head_part (claims_part w)))

-- the first of the keys, by which is signed
abbrev pub first_key : List (List ℕ) → List ℕ
first_key [] = []
first_key (key ∷ rest) = key

-- so it is signed under the first of these keys
abbrev pub made_text : Keys → WantedTexts → List ℕ
made_text keys w = token_text (first_key (key_bytes keys)) w

-- both are there, or neither is
abbrev pub are_alike : {A B : Type 0} → Option A → Option B → Bool
are_alike None None = true
are_alike None (Some y) = false
are_alike (Some x) None = false
are_alike (Some x) (Some y) = true

-- What is granted is what is wanted: the same subject, topics where some are named, leave to shout, from long ago to that end.
abbrev pub is_wanted : WantedTexts → Granted → Bool
is_wanted w g =
    same_subject g.subject w.subject && are_alike g.topics w.topics && g.talks && g.begins == 0 && g.ends == w.ends

-- a server with these keys takes it now, for what is wanted
pub record IsTakenFor (s : Signing) (w : WantedTexts) (token : List ℕ) : Type 0 where
  pub grants : Granted
  pub is_taken : judged_at s token ≡ Ok grants
  pub is_wanted : is_wanted w grants ≡ true

abbrev pub if_wanted : WantedTexts → Granted → Result Granted TokenFault
if_wanted w g = if is_wanted w g then Ok g else Err BadClaims

-- what the token that is made grants, or why it isn't given away
abbrev pub signed : Signing → WantedTexts → Result Granted TokenFault
signed s w = judged_at s (made_text (arc_value s.keys.now) w) >>= if_wanted w
