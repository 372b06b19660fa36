use Rattle.std.proofs.Common.{◌++◌, List, map, drop}
use Rattle.presence_options.specs.Given.{AllArePeers, ArePeers}
use Rattle.presence_options.specs.declared.options.PeerOption.{PeerOption}
use Rattle.presence_options.proofs.values.peers_of.Given as goal

-- the peers so far, followed by those of the texts that are left
abbrev pub invariant-loop-text : goal.invariant-loop-text
invariant-loop-text l =
    ((more : List PeerOption) → ArePeers (map (λ t. t.now) (drop l.text-index l.texts)) more → ArePeers (map (λ t. t.now) l.texts) (l.peers.items ++ more))
    × (AllArePeers (map (λ t. t.now) l.texts) → AllArePeers (map (λ t. t.now) (drop l.text-index l.texts)))
    × (AllArePeers (map (λ t. t.now) (drop l.text-index l.texts)) → AllArePeers (map (λ t. t.now) l.texts))
