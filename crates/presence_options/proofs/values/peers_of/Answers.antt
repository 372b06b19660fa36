use Rattle.presence_options.proofs.Peers.{first_peer, weaker}
use Rattle.presence_options.proofs.values.peers_of.Goals as goal

pub returns-in-Err-clause-cause : goal.returns-in-Err-clause-cause
returns-in-Err-clause-cause c =
    weaker _ _ c.in-Err.fault (λ all. first_peer c.args.texts.now c.loop-text.text-index _ c.loop-text-test.true (c.loop-text.invariant.1 all)) c.in-Err.ensures.cause
