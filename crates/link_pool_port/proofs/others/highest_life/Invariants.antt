use Rattle.std.proofs.Common.{◌≡◌, max, drop}
use Rattle.link_pool_port.specs.Others.{highest_in}
use Rattle.link_pool_port.proofs.others.highest_life.Given as goal

-- with those that are left the highest is the highest of all
abbrev pub invariant-loop-range : goal.invariant-loop-range
invariant-loop-range l = max (highest_in l.own l.most_ahead (drop l.range-index l.range-items)) l.highest ≡ highest_in l.own l.most_ahead l.range-items
