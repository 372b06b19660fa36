-- How clients sign in.
use Rattle.std.specs.Prelude.{ℕ, List, Result}
use Rattle.std.specs.Arc.{arc_value}
use Rattle.hmac_keys.specs.Keys.{key_bytes}
use Rattle.tokens.specs.Claimed.{Granted}
use Rattle.tokens.specs.Judging.{judged}
use Rattle.tokens.specs.declared.fault.TokenFault.{TokenFault}
use Rattle.tokens.specs.declared.signing.Signing.{Signing}

-- what a token grants then, under one of those keys, or the first thing that is wrong with it
abbrev pub judged_at : Signing → List ℕ → Result Granted TokenFault
judged_at s token = judged (key_bytes (arc_value s.keys.now)) s.second token
