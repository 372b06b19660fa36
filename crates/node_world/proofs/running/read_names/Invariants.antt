use Rattle.std.proofs.Common.{◌≡◌, drop}
use Rattle.std.specs.List.{list_all}
use Rattle.presence_base.specs.Names.{is_node_name}
use Rattle.node_world.proofs.running.read_names.Given as goal

abbrev pub invariant-loop-name : goal.invariant-loop-name
invariant-loop-name l = list_all is_node_name (drop l.name-index l.names) ≡ list_all is_node_name l.names
