use Rattle.std.proofs.Common.{ℕ, List, ◌++◌, drop}
use Rattle.hook_registry.specs.Noted.{Noticed}
use Rattle.hook_registry.proofs.noting.joined_notices.Given as goal

abbrev pub invariant-loop-dot : goal.invariant-loop-dot
invariant-loop-dot g l = (xs : List (List ℕ)) → Noticed (g.H.PresenceHooks.joined l.hooks l.kind l.topic) (drop l.dot-index l.rows) xs → Noticed (g.H.PresenceHooks.joined l.hooks l.kind l.topic) l.rows (l.notices.items ++ xs)
