use Rattle.std.proofs.Common.{◌∷◌, eqb, refl, subst, sym}
use Rattle.dot_context.specs.Runs.{in_run}
use Rattle.dot_context.proofs.LoopFacts.{Filling, fill_begins, fill_more}
use Rattle.dot_context.proofs.runs.fill_from.Goals as goal

pub loop-from-init : goal.loop-from-init
loop-from-init c =
    let old = c.args.runs.now.entries in
    let others = c.args.others.now.entries in
    subst (λ s. Filling old old s others) (sym c.into_iter-from-iterator.ensures.into_iter_gives.0) (fill_begins old others c.requires.apart c.requires.others c.requires.room)

pub loop-from-preserved : goal.loop-from-preserved
loop-from-preserved c =
    let f = c.in-Some.from.now in
    let t = c.in-Some.to.now in
    let others = c.args.others.now.entries in
    let before : Filling c.args.runs.now.entries c.loop-from.runs.entries ((f, t) ∷ c.next.new.self) others = subst (λ s. Filling c.args.runs.now.entries c.loop-from.runs.entries s others) c.in-Some.ensures.steps c.loop-from.invariant in
    fill_more c.args.runs.now.entries c.loop-from.runs.entries c.fill.new.runs.entries ((f, t) ∷ c.next.new.self) c.next.new.self others (in_run (f, t)) (λ g. eqb f g) before c.fill.ensures (λ n. refl) (λ g. refl) before.proper.1
