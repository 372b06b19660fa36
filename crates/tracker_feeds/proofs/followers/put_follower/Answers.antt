use Rattle.tracker_feeds.proofs.PutLemmas.{put_in}
use Rattle.tracker_feeds.proofs.followers.put_follower.Goals as goal

pub returns-clause-ok : goal.returns-clause-ok
returns-clause-ok c = put_in c.args.followers.now c.insert.new.self c.args.number c.args.follower c.insert.ensures.was_ordered c.in_ok-insert.ensures.updates.0 c.in_ok-insert.ensures.entries
