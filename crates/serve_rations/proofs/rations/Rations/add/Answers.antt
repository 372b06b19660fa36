use Rattle.serve_rations.specs.Connections.{kept}
use Rattle.serve_rations.proofs.Maps.{row_added}
use Rattle.serve_rations.proofs.rations.Rations.add.Goals as goal

pub returns-clause-added : goal.returns-clause-added
returns-clause-added c =
    row_added c.args.self.now c.admit.new.self c.push.new.self c.args.pid c.in_ok-row.row (kept c.args.topic.now c.args.key.now c.args.bytes) c.push.result c.in_ok-row.ensures c.admit.ensures c.push.ensures.added
