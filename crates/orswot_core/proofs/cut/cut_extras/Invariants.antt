use Rattle.std.proofs.Common.{◌≡◌, ◌++◌, drop}
use Rattle.std.specs.List.{filter}
use Rattle.orswot_core.proofs.cut.cut_extras.Given as goal

abbrev pub invariant-loop-dot : goal.invariant-loop-dot
invariant-loop-dot g l = l.kept.items ++ filter (λ y. g.T.ReplicaTest.picks l.test y.replica) (drop l.dot-index l.extras) ≡ filter (λ y. g.T.ReplicaTest.picks l.test y.replica) l.extras
