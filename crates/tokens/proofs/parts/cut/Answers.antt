use Rattle.std.proofs.Common.{arith, sym}
use Rattle.tokens.proofs.Cutting.{cut_found_here, cut_missed}
use Rattle.tokens.proofs.parts.cut.Goals as goal

pub returns-then-text-i-eq46 : goal.returns-then-text-i-eq46
returns-then-text-i-eq46 c = sym (cut_found_here _ _ (omega arith) c.loop-i.invariant c.if-text-i-eq46.true)

pub returns : goal.returns
returns c = sym (cut_missed _ (λ k low. c.loop-i.invariant k (omega arith)))
