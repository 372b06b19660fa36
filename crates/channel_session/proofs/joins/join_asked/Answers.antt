use Rattle.std.proofs.Common.{rules}
use Rattle.channel_session.proofs.Within.{full_within}
use Rattle.channel_session.proofs.joins.join_asked.Goals as goal

pub returns-then-count-ge-MAX_TOPICS-2 : goal.returns-then-count-ge-MAX_TOPICS-2
returns-then-count-ge-MAX_TOPICS-2 g c = λ before kind s.
    rw (c.in-Wants.is)
    (full_within (g.P.Port.step c.args.joiner.caller.pid) c.args.joiner.count before s c.args.message.now _ c.args.port.now _ c.if-count-ge-MAX_TOPICS-2.true (c.refusing-then-count-ge-MAX_TOPICS-2.ensures before kind s))

pub returns : goal.returns
returns g c = search rules
