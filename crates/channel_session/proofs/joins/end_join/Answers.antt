use Rattle.channel_session.proofs.Ended.{first_refused, second_refused, both_accepted}
use Rattle.channel_session.proofs.joins.end_join.Goals as goal

pub returns-in-Err : goal.returns-in-Err
returns-in-Err g c = first_refused _ _ _ _ _ _ _ c.in-Err.ensures c.stop_of.ensures

pub returns-in-Err-take_out : goal.returns-in-Err-take_out
returns-in-Err-take_out g c = second_refused _ _ _ _ _ _ _ _ _ c.in-Ok.ensures c.in-Err-take_out.ensures c.stop_of-in-Err-take_out.ensures

pub returns-in-Ok-take_out : goal.returns-in-Ok-take_out
returns-in-Ok-take_out g c = both_accepted _ _ _ _ _ _ _ _ c.in-Ok.ensures c.in-Ok-take_out.ensures
