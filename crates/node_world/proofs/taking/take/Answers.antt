use Rattle.node_world.proofs.Taken.{refused_after, refused_adds}
use Rattle.node_world.proofs.taking.take.Goals as goal

pub returns-clause-history : goal.returns-clause-history
returns-clause-history g c =
    let call = c.args.call.now in
    let h = c.args.shard.now in
    refused_after (g.C.Call.gives call h) (g.C.Call.there call h) h c.look.new.self (g.C.Call.step call) c.in-Err.fault _ c.requires c.in-Err.ensures.found c.look.ensures.same c.refused.ensures.good

pub returns-clause-made : goal.returns-clause-made
returns-clause-made g c =
    let call = c.args.call.now in
    let h = c.args.shard.now in
    refused_adds (g.C.Call.gives call h) (g.C.Call.there call h) h (g.C.Call.step call) c.in-Err.fault c.args.made.now.items _ c.requires c.in-Err.ensures.found c.refused.ensures.good
