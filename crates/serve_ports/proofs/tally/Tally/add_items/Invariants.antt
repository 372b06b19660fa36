use Rattle.std.proofs.Common.{◌≡◌, drop}
use Rattle.serve_ports.specs.Counting.{with_items}
use Rattle.serve_ports.proofs.tally.Tally.add_items.Given as goal

abbrev pub invariant-loop-item : goal.invariant-loop-item
invariant-loop-item l = with_items l.initial.self l.items ≡ with_items l.self (drop l.item-index l.items)
