use Rattle.std.proofs.Common.{arith, ◌∙◌, length-set}
use Rattle.hmac_keys.proofs.Masks.{masked_at_each, masks_more}
use Rattle.hmac_keys.proofs.keyed.masked.Goals as goal

pub loop-i-preserved : goal.loop-i-preserved
loop-i-preserved c = (length-set _ _ _ ∙ c.loop-i.invariant.0, masks_more c.loop-i.out c.args.block.now c.loop-i.i c.args.pad (omega (arith, c.loop-i.invariant.0)) c.loop-i.invariant.1)

pub returns : goal.returns
returns c = masked_at_each c.loop-i.out c.args.block.now c.args.pad (omega (arith, c.loop-i.invariant.0)) (λ k low. c.loop-i.invariant.1 k (omega (arith, c.loop-i.invariant.0)))
