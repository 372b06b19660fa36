use Rattle.node_links.specs.Acting.{silent}
use Rattle.node_links.proofs.Playing.{PlayLeads}
use Rattle.node_links.proofs.acting.act.Given as goal

-- what comes of the actions that are left, comes of all
abbrev pub invariant-loop-action : goal.invariant-loop-action
invariant-loop-action g l = PlayLeads g.P.LinkPort.step g.P.LinkPort.shard_count l.fn.actions.items silent l.initial.port l.action-iterator.rest.items l.act l.port
