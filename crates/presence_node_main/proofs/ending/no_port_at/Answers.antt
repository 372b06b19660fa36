use Rattle.std.proofs.Common.{◌++◌, codes, decimal, string_bytes}
use Rattle.presence_node_main.proofs.Places.{names_there, shows_there}
use Rattle.presence_node_main.proofs.ending.no_port_at.Goals as goal

pub returns-clause-port : goal.returns-clause-port
returns-clause-port c =
    names_there c.args.port (codes "presence_node: --") c.args.option.now (codes " '") c.args.address.now (codes "': the system gives no port ")
    (codes " there; wanted are an address of this machine, as 127.0.0.1, 0.0.0.0 or ::1, and a port that its user may have") (string_bytes c.in_ok-line.line) c.in_ok-line.ensures.ok

pub returns-clause-address : goal.returns-clause-address
returns-clause-address c =
    shows_there (codes "presence_node: --") c.args.option.now (codes " '") c.args.address.now
    (codes "': the system gives no port " ++ (decimal c.args.port ++ codes " there; wanted are an address of this machine, as 127.0.0.1, 0.0.0.0 or ::1, and a port that its user may have"))
    (string_bytes c.in_ok-line.line) c.in_ok-line.ensures.ok
