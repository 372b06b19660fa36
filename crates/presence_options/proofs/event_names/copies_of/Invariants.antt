use Rattle.std.proofs.Common.{◌≡◌, ◌++◌, map, drop}
use Rattle.presence_options.proofs.event_names.copies_of.Given as goal

-- the copies so far, followed by the texts that are left
abbrev pub invariant-loop-text : goal.invariant-loop-text
invariant-loop-text l = l.copies.items ++ map (λ t. t.now) (drop l.text-index l.texts) ≡ map (λ t. t.now) l.texts
