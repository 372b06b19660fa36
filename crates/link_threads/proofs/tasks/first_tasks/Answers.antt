use Rattle.std.proofs.Common.{◌≡◌, ◌++◌, ◌∷◌, [], ap, ◌∙◌, arith}
use Rattle.link_threads.specs.Tasks.{serving}
use Rattle.link_threads.specs.declared.tasks.LinkTask.TheVariants.{Tick, Attend, Read, Serve}
use Rattle.link_threads.proofs.MoreTasks.{serving_more}
use Rattle.link_threads.proofs.tasks.first_tasks.Goals as goal

pub loop-preserved : goal.loop-preserved
loop-preserved c =
    c.in_ok-push-4.ensures.items ∙ ap (λ ts. ts ++ Serve ∷ []) c.loop.invariant
    ∙ ap (λ ts. Tick ∷ Attend c.args.door ∷ Read 0 ∷ ts) (serving_more c.loop.counter)

pub returns : goal.returns
returns c =
    let all : c.loop.counter ≡ 32 = omega (arith, c.loop-test.false, c.loop.auto.counter-end) in
    record { door = c.args.door; are = c.loop.invariant ∙ ap (λ n. Tick ∷ Attend c.args.door ∷ Read 0 ∷ serving n) all }
