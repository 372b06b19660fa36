use Rattle.std.proofs.Common.{◌≡◌, length, map}
use Rattle.std.specs.Vec.Iter.{into_iter_items, into_iter_len}
use Rattle.serde_json.specs.View.{members_view}
use Rattle.hook_registry.specs.Extras.{given_member, gathered_into, gathered}
use Rattle.hook_registry.proofs.extra.gather.Given as goal

abbrev pub invariant-loop-name : goal.invariant-loop-name
invariant-loop-name l = record {
  so_far : gathered_into (members_view l.members.entries) (map given_member (into_iter_items l.name-iterator)) ≡ gathered (map given_member l.fn.given.items);
  length_is : into_iter_len l.name-iterator ≡ length (into_iter_items l.name-iterator);
}
