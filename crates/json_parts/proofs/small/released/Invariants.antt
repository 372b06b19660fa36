use Rattle.std.proofs.Common.{◌≡◌, ℕ, ◌+◌, ◌≤◌, List, ◌++◌}
use Rattle.serde_json.specs.Data.{Members, members_depth}
use Rattle.serde_json.specs.View.{members_view}
use Rattle.json_parts.specs.Small.{Entry, HoldsAll}
use Rattle.json_parts.proofs.Sizes.{join, total_members}
use Rattle.json_parts.proofs.small.released.Given as goal

abbrev pub invariant-loop-key : goal.invariant-loop-key
invariant-loop-key l =
    (done : List Entry) × (l.fn.held.entries ≡ done ++ l.key-iterator)
    × ((limit : ℕ) (ms : Members) → HoldsAll limit l.fn.held.entries ms → (front : Members) × (rest : Members)
    × (join front rest ≡ ms) × HoldsAll limit done front × HoldsAll limit l.key-iterator rest
    × (members_view l.members.entries ≡ front) × (16384 ≤ l.left + total_members front) × (members_depth front ≤ limit))
    × (l.left ≤ 16384)
