use Rattle.std.proofs.Common.{◌≡◌, ◌++◌, drop}
use Rattle.std.specs.List.{filter}
use Rattle.orswot_core.proofs.cut.cut_rows.Given as goal

abbrev pub invariant-loop-row : goal.invariant-loop-row
invariant-loop-row g l = l.kept.items ++ filter (λ y. g.T.ReplicaTest.picks l.test y.0.replica) (drop l.row-index l.rows) ≡ filter (λ y. g.T.ReplicaTest.picks l.test y.0.replica) l.rows
