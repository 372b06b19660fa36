use Rattle.std.proofs.Common.{◌≡◌, ◌+◌, ◌-◌, ◌≤◌, length, drop, false, option_map}
use Rattle.number_texts.specs.Changes.{close_at}
use Rattle.number_texts.proofs.pieces.close_of.Given as goal

abbrev pub invariant-loop-at : goal.invariant-loop-at
invariant-loop-at l =
    (close_at false l.bytes ≡ option_map (λ k. l.at + k) (close_at l.is_escaped (drop l.at l.bytes))) × (l.at ≤ length l.bytes)

abbrev pub decreases-loop-at : goal.decreases-loop-at
decreases-loop-at l = length l.bytes - l.at
