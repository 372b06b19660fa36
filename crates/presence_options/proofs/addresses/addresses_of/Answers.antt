use Rattle.presence_options.proofs.Written.{first_address, weaker_for}
use Rattle.presence_options.proofs.addresses.addresses_of.Goals as goal

pub returns-in-Err-clause-cause : goal.returns-in-Err-clause-cause
returns-in-Err-clause-cause c =
    weaker_for _ _ _ c.in-Err.fault (λ few. first_address c.args.texts.now c.loop-text.text-index _ c.loop-text-test.true (c.loop-text.invariant.1 few.each)) c.in-Err.ensures.cause
