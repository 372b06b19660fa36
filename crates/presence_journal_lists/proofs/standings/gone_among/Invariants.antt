use Rattle.std.proofs.Common.{◌≡◌, Some}
use Rattle.std.specs.BTreeMap.{get}
use Rattle.std.specs.List.{AllByRecursion}
use Rattle.presence_base.specs.declared.dots.Replica.{Replica}
use Rattle.presence_base.specs.Order.{replica_cmp}
use Rattle.replica_status.specs.declared.standing.Standing.{Standing}
use Rattle.presence_journal_lists.specs.Standings.{IsGoneAt}
use Rattle.presence_journal_lists.proofs.standings.gone_among.Given as goal

abbrev pub invariant-loop-replica : goal.invariant-loop-replica
invariant-loop-replica l = record {
  gone : AllByRecursion (IsGoneAt l.others) l.list.items;
  found : AllByRecursion (λ (e : Replica × Standing). get replica_cmp l.others e.0 ≡ Some e.1) l.replica-iterator;
}
