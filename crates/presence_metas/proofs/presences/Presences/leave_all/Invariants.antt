use Rattle.std.proofs.Common.{◌≡◌, map}
use Rattle.std.specs.List.{fold}
use Rattle.presence_metas.specs.Listing.{leave_key}
use Rattle.presence_metas.proofs.presences.Presences.leave_all.Given as goal

-- what is left decides
abbrev pub invariant-loop-key : goal.invariant-loop-key
invariant-loop-key l = fold leave_key l.self (map (λ e. (e.0, e.1.items)) l.key-iterator) ≡ fold leave_key l.fn.self l.leaves
