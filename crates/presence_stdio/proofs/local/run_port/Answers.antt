use Rattle.channel_session.specs.Ran.{said_by}
use Rattle.presence_stdio.proofs.Lent.{text_local, text_keeps}
use Rattle.presence_stdio.proofs.local.run_port.Goals as goal

pub returns-clause-same_reference : goal.returns-clause-same_reference
returns-clause-same_reference g c =
    let ran = c.run_text.ensures.ran in
    text_keeps _ (λ p. p.shard.ghost_name) (λ old new q a h. h.0) _ _ _ c.args.port.now c.run_text.new.port _ (said_by ran.said c.run_text.result) ran.ended

pub returns-clause-answered : goal.returns-clause-answered
returns-clause-answered g c =
    let ran = c.run_text.ensures.ran in record {
      said = ran.said;
      writes = ran.writes;
      ended = text_local c.args.session.now.pid _ (λ p. p.shard.now) (λ old new q a h. h.1) _ _ _ c.args.port.now c.run_text.new.port _ (said_by ran.said c.run_text.result) ran.ended;
    }
