-- What is told to a client that shows a further token.
use Rattle.std.proofs.Common.{◌≡◌, ℕ, List, [], ◌∷◌, Option, None, Result, Ok, Err, refl, sym, subst}
use Rattle.std.specs.Prelude.{String, Vec}
use Rattle.std.specs.Global.{Global}
use Rattle.serde_json.specs.Data.{Data}
use Rattle.phx_message.specs.declared.message.Message.{Message}
use Rattle.channel_rules.specs.Rules.{empty, ok}
use Rattle.channel_rules.specs.Said.{text_of}
use Rattle.channel_session.specs.Ran.{texts_in}
use Rattle.channel_session.specs.declared.fault.SessionFault.{SessionFault}
use Rattle.tokens.specs.Claimed.{Granted}
use Rattle.tokens.specs.declared.grant.Grant.{Grant}
use Rattle.tokens.specs.declared.signing.Signing.{Signing}
use Rattle.serve_connections.specs.Renewing.{GivesRenewal, renewal, token_shown}
use Rattle.serve_connections.specs.Signed.{RefusedBy, Tells, TellsOr}
use Rattle.serve_connections.specs.declared.cause.Cause.{Cause}
use Rattle.serve_connections.specs.declared.renewing.Unrenewed.{Unrenewed}
use Rattle.serve_connections.specs.declared.renewing.Unrenewed.TheVariants.{BadPayload, Unauthorized, OutOfMemory}

-- it is granted
pub tells_renewal : (signing : Signing) (held : Result Grant Cause) (m : Message) (topics : List (List ℕ)) (payload : Data) (next : Grant) (texts : List (List ℕ)) → payload ≡ m.payload
    → GivesRenewal signing held topics (token_shown payload) (Ok next) → texts ≡ text_of (ok None m empty) ∷ [] → Tells signing held m (renewal signing held topics (token_shown m.payload)) texts (Ok next)
tells_renewal signing held m topics payload next texts is gives told =
    let at_message : GivesRenewal signing held topics (token_shown m.payload) (Ok next) = subst (λ (d : Data). GivesRenewal signing held topics (token_shown d) (Ok next)) is gives in
    subst (λ (r : Result Granted Unrenewed). Tells signing held m r texts (Ok next)) (sym at_message.0) (next, refl, refl, at_message.1, told)

-- or refused
refused : (signing : Signing) (held : Result Grant Cause) (m : Message) (topics : List (List ℕ)) (shown : Option (List ℕ)) (why : Unrenewed) (result : Result (Vec (String Global) Global) SessionFault)
    → GivesRenewal signing held topics shown (Err why) → RefusedBy m why result → TellsOr signing held m (renewal signing held topics shown) held result
refused signing held m topics shown BadPayload (Ok texts) is told = subst (λ (r : Result Granted Unrenewed). Tells signing held m r (texts_in texts) held) (sym is) (refl, told)
refused signing held m topics shown Unauthorized (Ok texts) is told = subst (λ (r : Result Granted Unrenewed). Tells signing held m r (texts_in texts) held) (sym is) (refl, told)
refused signing held m topics shown OutOfMemory (Ok texts) is told = absurd told
refused signing held m topics shown BadPayload (Err fault) is told = (told, refl)
refused signing held m topics shown Unauthorized (Err fault) is told = (told, refl)
refused signing held m topics shown OutOfMemory (Err fault) is told = (told, refl)

pub tells_refusal : (signing : Signing) (held : Result Grant Cause) (m : Message) (topics : List (List ℕ)) (payload : Data) (why : Unrenewed) (result : Result (Vec (String Global) Global) SessionFault)
    → payload ≡ m.payload → GivesRenewal signing held topics (token_shown payload) (Err why) → RefusedBy m why result
    → TellsOr signing held m (renewal signing held topics (token_shown m.payload)) held result
tells_refusal signing held m topics payload why result is gives told =
    refused signing held m topics (token_shown m.payload) why result (subst (λ (d : Data). GivesRenewal signing held topics (token_shown d) (Err why)) is gives) told
