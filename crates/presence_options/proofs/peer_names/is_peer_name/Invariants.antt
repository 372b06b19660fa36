use Rattle.std.proofs.Common.{◌≡◌, drop}
use Rattle.presence_options.specs.Limits.{is_peer_name}
use Rattle.presence_options.proofs.peer_names.is_peer_name.Given as goal

-- one of the peers has the name if one of those that are left has it
abbrev pub invariant-loop-peer : goal.invariant-loop-peer
invariant-loop-peer l = is_peer_name l.name l.peers ≡ is_peer_name l.name (drop l.peer-index l.peers)
