use Rattle.std.proofs.Common.{refl}
use Rattle.channel_rules.proofs.Once.{once, more}
use Rattle.channel_session.proofs.joins.track_then_subscribe.Goals as goal

pub returns-in-Ok : goal.returns-in-Ok
returns-in-Ok g c = λ before kind s. rw (c.spoil.ensures.ends _) (more _ _ _ _ _ _ _ _ c.in-Ok.ensures refl refl (c.subscribe_told-rest.ensures before kind s))

pub returns-in-Err : goal.returns-in-Err
returns-in-Err g c = λ before kind s. once _ _ _ _ _ _ _ _ c.in-Err.ensures refl refl (rw c.track_reason.ensures at (c.refused_join.ensures before kind s))
