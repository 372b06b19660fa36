use Rattle.hmac_keys.specs.Hmac.{hmac_sha256}
use Rattle.hmac_keys.proofs.keyed.Hmac.finalize.Goals as goal

pub returns : goal.returns
unfolding hmac_sha256
returns c = λ key text holds. rw (c.finalize.ensures _ holds.inner) at (c.finalize-2.ensures _ (c.update.ensures _ holds.outer))
