use Rattle.std.proofs.Common.{◌≡◌, ◌++◌, drop}
use Rattle.std.specs.List.{filter}
use Rattle.orswot_core.proofs.cut.cut_ranges.Given as goal

abbrev pub invariant-loop-range : goal.invariant-loop-range
invariant-loop-range g l = l.kept.items ++ filter (λ y. g.T.ReplicaTest.picks l.test y.0) (drop l.range-index l.ranges) ≡ filter (λ y. g.T.ReplicaTest.picks l.test y.0) l.ranges
