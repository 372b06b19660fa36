-- What is granted to a client that shows a further token.
use Rattle.std.specs.Prelude.{◌≡◌, ◌&&◌, ℕ, List, Bool, false, if◌then◌else◌, Option, Some, None, Result, Ok, Err, codes, bytes_eq}
use Rattle.std.specs.List.{list_all}
use Rattle.serde_json.specs.Data.{Data, string}
use Rattle.serde_json.specs.Find.{get}
use Rattle.phx_message.specs.declared.message.Message.{Message}
use Rattle.channel_rules.specs.Rules.{is_phoenix}
use Rattle.tokens.specs.Claimed.{Granted}
use Rattle.tokens.specs.Granting.{is_of_topics, same_subject}
use Rattle.tokens.specs.Held.{granted}
use Rattle.tokens.specs.Signing.{judged_at}
use Rattle.tokens.specs.declared.fault.TokenFault.{TokenFault}
use Rattle.tokens.specs.declared.grant.Grant.{Grant}
use Rattle.tokens.specs.declared.signing.Signing.{Signing}
use Rattle.serve_connections.specs.declared.cause.Cause.{Cause}
use Rattle.serve_connections.specs.declared.renewing.Unrenewed.{Unrenewed}
use Rattle.serve_connections.specs.declared.renewing.Unrenewed.TheVariants.{BadPayload, Unauthorized, OutOfMemory}

-- the event `access_token` on `phoenix` shows a further token
abbrev pub is_renewal : Message → Bool
is_renewal m = is_phoenix m.topic && bytes_eq m.event (codes "access_token")

abbrev pub token_in : Option Data → Option (List ℕ)
token_in (Some (string token)) = Some token
token_in _ = None

-- the token that a payload shows
abbrev pub token_shown : Data → Option (List ℕ)
token_shown payload = token_in (get (codes "access_token") payload)

-- what is granted next is of the same subject, and each of these topics is
abbrev pub follows : Result Grant Cause → List (List ℕ) → Granted → Bool
follows (Ok held) topics next = same_subject (granted held).subject next.subject && list_all (is_of_topics next.topics) topics
follows (Err cause) topics next = false

abbrev pub renewed : Result Grant Cause → List (List ℕ) → Result Granted TokenFault → Result Granted Unrenewed
renewed held topics (Ok next) = if follows held topics next then Ok next else Err Unauthorized
renewed held topics (Err fault) = Err Unauthorized

-- what is granted next to a client to whom this is granted, that names these topics and shows this, or why nothing is
abbrev pub renewal : Signing → Result Grant Cause → List (List ℕ) → Option (List ℕ) → Result Granted Unrenewed
renewal signing held topics None = Err BadPayload
renewal signing held topics (Some token) = renewed held topics (judged_at signing token)

-- A token is shown, which is taken at this second under one of these keys, and which grants this.
pub record IsShown (signing : Signing) (shown : Option (List ℕ)) (g : Grant) : Type 0 where
  pub token : List ℕ
  pub shown_is : shown ≡ Some token
  pub judged : judged_at signing token ≡ Ok (granted g)

-- That grant is given, or why there is none; memory aside.
abbrev pub GivesRenewal : Signing → Result Grant Cause → List (List ℕ) → Option (List ℕ) → Result Grant Unrenewed → Type 0
GivesRenewal signing held topics shown (Ok g) = (renewal signing held topics shown ≡ Ok (granted g)) × IsShown signing shown g
GivesRenewal signing held topics shown (Err OutOfMemory) = Unit {0}
GivesRenewal signing held topics shown (Err BadPayload) = renewal signing held topics shown ≡ Err BadPayload
GivesRenewal signing held topics shown (Err Unauthorized) = renewal signing held topics shown ≡ Err Unauthorized
