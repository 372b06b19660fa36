use Rattle.channel_session.proofs.Endings.{rows_gone, rows_gone_unknown, kept}
use Rattle.channel_session.proofs.ending.end_topic.Goals as goal

pub returns-in-Ok : goal.returns-in-Ok
returns-in-Ok g c = rows_gone _ _ _ _ _ _ _ _ c.in-Ok.ensures c.take_out.ensures

pub returns-then-is_unknown : goal.returns-then-is_unknown
returns-then-is_unknown g c = rows_gone_unknown _ _ _ _ _ _ _ _ (rw c.is_unknown.ensures at c.if-is_unknown.true) c.in-Err.ensures c.take_out-then-is_unknown.ensures

pub returns-else-is_unknown : goal.returns-else-is_unknown
returns-else-is_unknown g c = kept _ _ _ _ _ _ (rw c.is_unknown.ensures at c.if-is_unknown.false) c.in-Err.ensures
