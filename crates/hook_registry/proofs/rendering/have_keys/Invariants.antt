use Rattle.std.proofs.Common.{drop, IsTrue}
use Rattle.std.specs.List.{AllByRecursion}
use Rattle.presence_base.specs.Names.{is_short_text}
use Rattle.hook_registry.proofs.rendering.have_keys.Given as goal

abbrev pub invariant-loop-dot : goal.invariant-loop-dot
invariant-loop-dot l = AllByRecursion (λ p. IsTrue (is_short_text p.1.key)) (drop l._dot-index l.rows) → AllByRecursion (λ p. IsTrue (is_short_text p.1.key)) l.rows
