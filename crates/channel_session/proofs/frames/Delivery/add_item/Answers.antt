use Rattle.std.proofs.Common.{rules}
use Rattle.channel_session.proofs.Carried.{carries_more}
use Rattle.channel_session.proofs.frames.Delivery.add_item.Goals as goal

pub returns : goal.returns
returns g c = λ before h. carries_more _ _ before _ c.args.self _ c.in_ok-frame.frame c.in_ok-noted.noted.items h c.in_ok-frame.ensures c.in_ok-noted.ensures (search rules) (search rules)
