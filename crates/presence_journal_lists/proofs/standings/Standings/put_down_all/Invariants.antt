use Rattle.std.proofs.Common.{◌≡◌, drop}
use Rattle.std.specs.List.{AllByRecursion}
use Rattle.presence_base.specs.declared.dots.Replica.{Replica}
use Rattle.replica_status.specs.declared.standing.Standing.TheVariants.{Gone}
use Rattle.replica_status.specs.Boards.{standing_in}
use Rattle.presence_journal_lists.specs.Standings.{AllStay}
use Rattle.presence_journal_lists.proofs.standings.Standings.put_down_all.Given as goal

abbrev pub invariant-loop-replica : goal.invariant-loop-replica
invariant-loop-replica l = record {
  stay : AllStay l.fn.self l.self;
  rest : AllByRecursion (λ (r : Replica). standing_in l.fn.self r ≡ Gone) (drop l.replica-index l.list);
}
