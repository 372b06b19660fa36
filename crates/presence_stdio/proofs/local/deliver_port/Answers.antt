use Rattle.channel_session.specs.Ran.{said_by}
use Rattle.presence_stdio.proofs.Lent.{delivered_local, delivered_keeps}
use Rattle.presence_stdio.proofs.local.deliver_port.Goals as goal

pub returns-clause-same_reference : goal.returns-clause-same_reference
returns-clause-same_reference g c =
    let dealt = c.deliver.ensures.delivered c.requires in
    delivered_keeps _ (λ p. p.shard.ghost_name) (λ old new q a h. h.0) _ _ c.args.port.now c.deliver.new.port _ (said_by dealt.said c.deliver.result) dealt.delivered

pub returns-clause-dealt : goal.returns-clause-dealt
returns-clause-dealt g c =
    let dealt = c.deliver.ensures.delivered c.requires in record {
      said = dealt.said;
      carries = dealt.carries;
      delivered = delivered_local c.args.session.now.pid _ (λ p. p.shard.now) (λ old new q a h. h.1) _ _ c.args.port.now c.deliver.new.port _ (said_by dealt.said c.deliver.result) dealt.delivered;
    }
