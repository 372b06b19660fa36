-- What a grant holds.
use Rattle.std.specs.Prelude.{◌≡◌, ℕ, List}
use Rattle.std.specs.Arc.{arc_value}
use Rattle.hmac_keys.specs.declared.keys.Keys.{Keys}
use Rattle.tokens.specs.declared.grant.Grant.{Grant}
use Rattle.tokens.specs.Claimed.{Granted}
use Rattle.tokens.specs.Judged.{WasJudged}
use Rattle.tokens.specs.Views.{granted_by}

-- what it grants
abbrev pub granted : Grant → Granted
granted g = granted_by g.claims

-- It came of its token, which was taken at its second under one of its keys.
abbrev pub CameOfToken : Grant → Type 0
CameOfToken g = WasJudged (arc_value g.keys) g.since g.token.items g.claims

-- it is of this token, which was taken at this second under one of these keys
pub record IsOf (keys : Keys) (now : ℕ) (token : List ℕ) (g : Grant) : Type 0 where
  pub keys_are : arc_value g.keys ≡ keys
  pub token_is : g.token.items ≡ token
  pub since_is : g.since ≡ now
