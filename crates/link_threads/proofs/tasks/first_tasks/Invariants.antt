use Rattle.std.specs.Prelude.{◌≡◌, ◌∷◌}
use Rattle.link_threads.specs.Tasks.{serving}
use Rattle.link_threads.specs.declared.tasks.LinkTask.TheVariants.{Tick, Attend, Read}
use Rattle.link_threads.proofs.tasks.first_tasks.Given as goal

abbrev pub invariant-loop : goal.invariant-loop
invariant-loop l = l.tasks.items ≡ Tick ∷ Attend l.fn.door ∷ Read 0 ∷ serving l.counter
