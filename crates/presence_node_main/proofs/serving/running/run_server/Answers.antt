use Rattle.std.proofs.Common.{subst}
use Rattle.presence_node_main.specs.ServeEnds.{Settles}
use denote.Param.{param}
use denote.Param.Send.{IsSync, sendable}
use Rattle.presence_server.proofs.Crossing.{place_row_send, task_row_send}
use Rattle.presence_node_main.proofs.Sharing.{server_row_sync, server_sync}
use Rattle.presence_node_main.proofs.serving.running.run_server.Goals as goal

pub run_crew-requires-send-C-Tools : goal.run_crew-requires-send-C-Tools
run_crew-requires-send-C-Tools g c = search (place_row_send, sendable) depth 30

pub run_crew-requires-send-C-Task : goal.run_crew-requires-send-C-Task
run_crew-requires-send-C-Task g c = search (task_row_send, sendable) depth 30

pub run_crew-requires-sync-C : goal.run_crew-requires-sync-C
run_crew-requires-sync-C g c κs within =
    let hooks : IsSync (param 1 g.row.H) = c.type_bounds.sync-H in
    search (server_row_sync, server_sync, sendable) depth 30

pub returns : goal.returns
returns c c' = (
  c'.trim_all.new.seats.items,
  subst (λ p. Settles p.own.name p.shards p.seats c'.trim_all.new.seats.items c'.settled.result) c'.into_pool-pool.ensures c'.settled.ensures,
)
