-- What is asked is granted, and what is granted was shown.
use Rattle.std.proofs.Common.{◌≡◌, ◌⊎◌, ℕ, Bool, true, false, List, Option, Some, Result, Ok, Err, inl, inr, refl, sym, ap, ◌∙◌, subst}
use Rattle.std.specs.Prelude.{String, Vec, if◌then◌else◌}
use Rattle.std.specs.Global.{Global}
use Rattle.phx_message.specs.declared.message.Message.{Message}
use Rattle.phx_message.specs.declared.message.MessageFault.{MessageFault}
use Rattle.channel_pieces.specs.declared.telling.UntoldState.{UntoldState}
use Rattle.channel_rules.specs.Asks.{Ask, Answer}
use Rattle.channel_rules.specs.InForce.{InForce}
use Rattle.channel_rules.specs.Said.{Said}
use Rattle.channel_rules.specs.declared.refusal.Refusal.TheVariants.{NotGranted}
use Rattle.channel_session.specs.Ending.{topics_named}
use Rattle.channel_session.specs.declared.fault.SessionFault.{SessionFault}
use Rattle.tokens.specs.Claimed.{Granted}
use Rattle.tokens.specs.Held.{granted}
use Rattle.tokens.specs.declared.fault.TokenFault.{TokenFault}
use Rattle.tokens.specs.declared.grant.Grant.{Grant}
use Rattle.tokens.specs.declared.signing.Signing.{Signing}
use Rattle.serve_connections.specs.Granted.{AsksIf, may_ask}
use Rattle.serve_connections.specs.Renewing.{IsShown, follows, is_renewal, renewal, renewed, token_shown}
use Rattle.serve_connections.specs.Signed.{RunsMessage, RunsRead, RunsText, TellsOr}
use Rattle.serve_connections.specs.SigningIn.{IsGrantedBy, SignsIn}
use Rattle.serve_connections.specs.SigningLaws.{AsksAreGranted, IsRenewed, MayAsk, NewcomersAreShown, RenewalsAreShown}
use Rattle.serve_connections.specs.Working.{fresh}
use Rattle.serve_connections.specs.declared.cause.Cause.{Cause}
use Rattle.serve_connections.specs.declared.connection.Connection.{Connection}
use Rattle.serve_connections.specs.declared.renewing.Unrenewed.{Unrenewed}
use Rattle.serve_connections.specs.declared.renewing.Unrenewed.TheVariants.{Unauthorized}

-- ---- newcomers

shown_so : (signing : Signing) (shown : Option (List ℕ)) (held : Result Grant Cause) (g : Grant) → held ≡ Ok g → IsGrantedBy signing shown held → IsShown signing shown g
shown_so signing shown held g is h = subst (λ (r : Result Grant Cause). IsGrantedBy signing shown r) is h

signed_so : {S K : Type 0} (carried : S → Option (List ℕ)) (signing : Option Signing) (s : Signing) (old new : Connection S K) → signing ≡ Some s → SignsIn carried signing old new
    → IsGrantedBy s (carried new.socket.stream) new.grant
signed_so {S} {K} carried signing s old new is h = (subst (λ (o : Option Signing). SignsIn {S = S} {K = K} carried o old new) is h).grant

pub newcomers_shown : {S : Type 0} (carried : S → Option (List ℕ)) → NewcomersAreShown carried
newcomers_shown carried settings now c signing g is h granted =
    shown_so signing (carried c.connection.socket.stream) c.connection.grant g granted
    (signed_so carried now.signing signing (fresh settings h.number h.socket now.milliseconds) c.connection is h.signs_in)

-- ---- what is asked

may : (held : Result Grant Cause) (now : ℕ) (q : Ask) → may_ask held now q ≡ true → MayAsk held now q
may (Err cause) now q is = inl is
may (Ok g) now q is = inr (record { grant = g; held_is = refl; gives = is })

module _ {P : Type 0} (step : P → (q : Ask) → Answer q → P → Type 0) where
  asked_if : (b : Bool) (held : Result Grant Cause) (now : ℕ) (old : P) (q : Ask) (a : Answer q) (new : P) → may_ask held now q ≡ b → AsksIf step b old q a new
      → (MayAsk held now q × step old q a new) ⊎ ((new ≡ old) × (a ≡ Err NotGranted))
  asked_if true held now old q a new is h = inl (may held now q is, h)
  asked_if false held now old q a new is h = inr h

  pub all_granted : AsksAreGranted step
  all_granted held now old q a new h = asked_if (may_ask held now q) held now old q a new refl h

-- ---- renewals

-- what is granted next may follow
may_follow : (next : Granted) (b : Bool) → (if b then Ok next else Err Unauthorized) ≡ Ok next → b ≡ true
may_follow next true is = refl
may_follow next false is = absurd cc

followed : (signing : Signing) (held : Result Grant Cause) (topics : List (List ℕ)) (shown : Option (List ℕ)) (g : Grant) → renewal signing held topics shown ≡ Ok (granted g) → IsShown signing shown g
    → follows held topics (granted g) ≡ true
followed signing held topics shown g is by =
    let at_token : renewal signing held topics (Some by.token) ≡ Ok (granted g) = subst (λ (o : Option (List ℕ)). renewal signing held topics o ≡ Ok (granted g)) by.shown_is is in
    may_follow (granted g) (follows held topics (granted g))
    (subst (λ (r : Result Granted TokenFault). renewed held topics r ≡ Ok (granted g)) by.judged at_token)

renewed_by : (signing : Signing) (held : Result Grant Cause) (s : InForce) (m : Message) (r : Result Granted Unrenewed) (later : Result Grant Cause)
    (result : Result (Vec (String Global) Global) SessionFault) → is_renewal m ≡ true → renewal signing held (topics_named s) (token_shown m.payload) ≡ r
    → TellsOr signing held m r later result → (later ≡ held) ⊎ IsRenewed signing held s (Ok m) later
renewed_by signing held s m (Ok next) later (Ok texts) renews is told =
    inr (record {
      message = m;
      read = refl;
      renews = renews;
      grant = told.0;
      later_is = told.1;
      shown = told.3;
      may_follow = followed signing held (topics_named s) (token_shown m.payload) told.0 (is ∙ ap (λ (g : Granted). Ok g) (sym told.2)) told.3;
    })
renewed_by signing held s m (Err why) later (Ok texts) renews is told = inl told.0
renewed_by signing held s m (Ok next) later (Err fault) renews is told = inl told.1
renewed_by signing held s m (Err why) later (Err fault) renews is told = inl told.1

module _ {P : Type 0} (W : Said → Message → Type 0) (step : P → (q : Ask) → Answer q → P → Type 0) (routes : List (List ℕ × ℕ)) (signing : Signing) (held : Result Grant Cause) (s : InForce)
    (old new : P × Option UntoldState) (after : InForce) (later : Result Grant Cause) (result : Result (Vec (String Global) Global) SessionFault) where
  by_message : (b : Bool) (m : Message) → is_renewal m ≡ b → RunsMessage W step routes b signing held s m old new after later result
      → (later ≡ held) ⊎ IsRenewed signing held s (Ok m) later
  by_message true m is h = renewed_by signing held s m (renewal signing held (topics_named s) (token_shown m.payload)) later result is refl h.told
  by_message false m is h = inl h.kept

  by_reading : (reading : Result Message MessageFault) → RunsRead W step routes signing held s reading old new after later result
      → (later ≡ held) ⊎ IsRenewed signing held s reading later
  by_reading (Ok m) h = by_message (is_renewal m) m refl h
  by_reading (Err fault) h = inl h.kept

  by_text : (reading : Result Message MessageFault) → RunsText W step routes (Some signing) held s reading old new after later result
      → (later ≡ held) ⊎ IsRenewed signing held s reading later
  by_text reading (inl h) = by_reading reading h
  by_text reading (inr h) = inl h.kept

pub all_shown : {P : Type 0} (W : Said → Message → Type 0) (step : P → (q : Ask) → Answer q → P → Type 0) → RenewalsAreShown W step
all_shown W step routes signing held s reading old new after later result h = by_text W step routes signing held s old new after later result reading h
