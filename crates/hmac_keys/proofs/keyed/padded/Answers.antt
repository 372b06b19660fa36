use Rattle.std.proofs.Common.{arith, refl}
use Rattle.hmac_keys.proofs.Masks.{padded_at_each, zeros}
use Rattle.hmac_keys.proofs.keyed.padded.Goals as goal

pub returns : goal.returns
returns c = padded_at_each c.loop-i.block c.args.key.now c.loop-i.invariant.0 (omega arith) (λ k low. c.loop-i.invariant.1 k (omega arith)) (λ k high. c.loop-i.invariant.2 k (omega arith))

pub loop-i-init : goal.loop-i-init
loop-i-init c = (refl, (λ k low. absurd (omega arith)), λ k high. zeros 64 k)
