-- What a head and claims say (RFC 7515, section 4.1, and RFC 7519, section 4.1).
use Rattle.std.specs.Prelude.{ℕ, ◌^◌, ◌==◌, ◌&&◌, not, nat_lt, Bool, true, false, List, [], ◌∷◌, ◌++◌, length, if◌then◌else◌, Option, Some, None, Result, Ok, Err, codes, bytes_eq, is_none}
use Rattle.fast_float.specs.Text.{Parts, scan, digits_of}
use Rattle.json.specs.Json.{Json, boolean, number, string, array, Items, no_items, item}
use Rattle.json.specs.Find.{get}
use Rattle.presence_base.specs.Names.{guarded, is_short_text}
use Rattle.hook_registry.specs.Routes.{refusal}
use Rattle.hook_registry.specs.declared.routes.RouteFault.{RouteFault}
use Rattle.tokens.specs.Answers.{◌>>=◌}
use Rattle.tokens.specs.declared.claims.TheConstants.{TOPIC_KIND}
use Rattle.tokens.specs.declared.fault.TokenFault.{TokenFault}
use Rattle.tokens.specs.declared.fault.TokenFault.TheVariants.{BadClaims}

-- what a token grants: to be tracked under the subject, if there is one; to join topics that one of the patterns matches, or
-- any; to shout, or not; from one second on and before another
pub record Granted : Type 0 where
  pub subject : Option (List ℕ)
  pub topics : Option (List (List ℕ × ℕ))
  pub talks : Bool
  pub begins : ℕ
  pub ends : ℕ

abbrev pub names_hs256 : Option Json → Bool
names_hs256 (Some (string s)) = bytes_eq s (codes "HS256")
names_hs256 _ = false

-- the head names HMAC with SHA-256 (RFC 7518, section 3.2), and nothing that must be understood beside it
abbrev pub is_hs256 : Json → Bool
is_hs256 head = names_hs256 (get (codes "alg") head) && is_none (get (codes "crit") head)

-- digits, and neither a sign nor a point nor an exponent
abbrev pub are_digits : Parts → Bool
are_digits p = nat_lt 0 (length p.whole) && not p.point && (length p.exponent == 0)

-- the number that such a text is, where it is one of 64 bits
abbrev pub whole_number : List ℕ → Option ℕ
whole_number s = if are_digits (scan s) && nat_lt (digits_of (scan s)) (2 ^ 64) then Some (digits_of (scan s)) else None

-- what is there, or a claim that isn't of its kind
abbrev pub claimed : {A : Type 0} → Option A → Result A TokenFault
claimed None = Err BadClaims
claimed (Some x) = Ok x

abbrev pub whole_in : Option Json → Result ℕ TokenFault
whole_in (Some (number s)) = claimed (whole_number s)
whole_in _ = Err BadClaims

-- a missing `nbf` is long ago; an `exp` may not be missing
abbrev pub begins_in : Option Json → Result ℕ TokenFault
begins_in None = Ok 0
begins_in (Some j) = whole_in (Some j)

-- who says nothing else may shout
abbrev pub talks_in : Option Json → Result Bool TokenFault
talks_in None = Ok true
talks_in (Some (boolean b)) = Ok b
talks_in _ = Err BadClaims

-- a subject is a key under which one may be tracked
abbrev pub keyed : Option (List ℕ) → Result (Option (List ℕ)) TokenFault
keyed None = Err BadClaims
keyed (Some key) = Ok (Some key)

abbrev pub subject_in : Option Json → Result (Option (List ℕ)) TokenFault
subject_in None = Ok None
subject_in (Some (string s)) = keyed (guarded (is_short_text s) s)
subject_in _ = Err BadClaims

-- a pattern that isn't refused is added behind the others
abbrev pub unless : {A : Type 0} → Option RouteFault → A → Result A TokenFault
unless None x = Ok x
unless (Some fault) x = Err BadClaims

abbrev pub added : List (List ℕ × ℕ) → Json → Result (List (List ℕ × ℕ)) TokenFault
added found (string s) = unless (refusal found s) (found ++ (s, TOPIC_KIND) ∷ [])
added found _ = Err BadClaims

abbrev pub patterns_in : Items → List (List ℕ × ℕ) → Result (List (List ℕ × ℕ)) TokenFault
patterns_in no_items found = Ok found
patterns_in (item j js) found = added found j >>= patterns_in js

abbrev pub topics_in : Option Json → Result (Option (List (List ℕ × ℕ))) TokenFault
topics_in None = Ok None
topics_in (Some (array js)) = patterns_in js [] >>= (λ topics. Ok (Some topics))
topics_in _ = Err BadClaims

unfoldable pub claims_in : Json → Result Granted TokenFault
claims_in j = do
  ends ← whole_in (get (codes "exp") j)
  begins ← begins_in (get (codes "nbf") j)
  talks ← talks_in (get (codes "talk") j)
  subject ← subject_in (get (codes "sub") j)
  topics ← topics_in (get (codes "topics") j)
  Ok (record { subject = subject; topics = topics; talks = talks; begins = begins; ends = ends })
