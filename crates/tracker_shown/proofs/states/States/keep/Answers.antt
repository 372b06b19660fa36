use Rattle.tracker_shown.proofs.StateLemmas.{put_too, stays_too}
use Rattle.tracker_shown.proofs.states.States.keep.Goals as goal

pub returns : goal.returns
returns c =
    put_too c.args.topic.now c.in_ok-topic.topic c.args.state.now c.in_ok-state.state c.args.self.now.kept c.make_room.new.self.kept c.insert.new.self
    c.in_ok-topic.ensures.cases c.in_ok-state.ensures c.make_room.ensures c.in_ok-insert.ensures.updates.0

pub returns-in_err-insert : goal.returns-in_err-insert
returns-in_err-insert c =
    stays_too c.args.topic.now c.args.state.now c.args.self.now.kept c.make_room.new.self.kept c.insert.new.self c.make_room.ensures c.in_err-insert.ensures.err
