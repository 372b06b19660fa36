use Rattle.std.proofs.Common.{◌≤◌, List, length}
use Rattle.json.specs.Json.{Members}
use Rattle.json.specs.Token.{Token}
use Rattle.json_parts.specs.Places.{AtMembers}
use Rattle.json_parts.proofs.brief.skip_members.Given as goal

abbrev pub invariant-loop-reader : goal.invariant-loop-reader
invariant-loop-reader l =
    ((ms : Members) (rest : List Token) → AtMembers l.initial.reader ms rest → (left : Members) × AtMembers l.reader left rest)
    × (length l.reader ≤ length l.initial.reader)

abbrev pub decreases-loop-reader : goal.decreases-loop-reader
decreases-loop-reader l = length l.reader
