-- What a grant came of.
use Rattle.std.specs.Prelude.{◌≡◌, ℕ, List, Ok}
use Rattle.hmac_keys.specs.Keys.{key_bytes}
use Rattle.hmac_keys.specs.declared.keys.Keys.{Keys}
use Rattle.tokens.specs.Judging.{judged}
use Rattle.tokens.specs.Views.{granted_by}
use Rattle.tokens.specs.declared.claims.Claims.{Claims}

-- at this second, under one of these keys, this token came to these claims
abbrev pub WasJudged : Keys → ℕ → List ℕ → Claims → Type 0
WasJudged keys since token claims = judged (key_bytes keys) since token ≡ Ok (granted_by claims)
