use Rattle.std.proofs.Common.{ℕ, List, ◌∷◌, ◌∙◌, ◌||◌, ◌&&◌, ap, subst, sym}
use Rattle.presence_base.specs.declared.dots.Replica.{Replica}
use Rattle.presence_base.specs.Order.{same_replica}
use Rattle.dot_context.specs.Runs.{holds, begins, AreLong}
use Rattle.dot_context.specs.Sets.{runs_at, runs_in}
use Rattle.dot_context.proofs.LoopFacts.{Filling, fill_begins, fill_more, fill_done}
use Rattle.dot_context.proofs.OuterFacts.{long_in, long_entry, long_entries, holds_parts, begins_parts, in_entries}
use Rattle.dot_context.proofs.replicas.fill_all.Goals as goal

pub loop-replica-init : goal.loop-replica-init
loop-replica-init c =
    let m = c.args.replicas.now in
    let o = c.args.others.now in
    let gives = c.into_iter-replica-iterator.ensures.into_iter_gives in
    record {
      some = c.requires.some;
      filling = λ q. subst (λ s. Filling (runs_at m q) (runs_at m q) (runs_in s q) (runs_in o.entries q)) (sym gives.0)
          (fill_begins (runs_at m q) (runs_in o.entries q) (c.requires.apart q) (long_in o o.entries q gives.6 c.requires.others.runs) (c.requires.room q));
    }

pub fill_in-requires-clause-long : goal.fill_in-requires-clause-long
fill_in-requires-clause-long c =
    let e : Replica × List (ℕ × ℕ) = (c.in-Some.replica.now, c.in-Some.runs.now) in
    long_entry e c.next.new.self (subst (λ s. AreLong (runs_in s e.0)) c.in-Some.ensures.steps (c.loop-replica.invariant.filling e.0).proper)

pub loop-replica-preserved : goal.loop-replica-preserved
loop-replica-preserved c =
    let m = c.args.replicas.now in
    let cur = c.loop-replica.replicas in
    let new = c.fill_in.new.replicas in
    let o = c.args.others.now in
    let e : Replica × List (ℕ × ℕ) = (c.in-Some.replica.now, c.in-Some.runs.now) in
    let rest = c.next.new.self in
    record {
      some = c.fill_in.ensures.some;
      filling = λ q.
          let before : Filling (runs_at m q) (runs_at cur q) (runs_in (e ∷ rest) q) (runs_in o.entries q) = subst (λ s. Filling (runs_at m q) (runs_at cur q) (runs_in s q) (runs_in o.entries q)) c.in-Some.ensures.steps (c.loop-replica.invariant.filling q) in
          fill_more (runs_at m q) (runs_at cur q) (runs_at new q) (runs_in (e ∷ rest) q) (runs_in rest q) (runs_in o.entries q) (λ n. same_replica q e.0 && holds e.1 n) (λ g. same_replica q e.0 && begins e.1 g)
          before (c.fill_in.ensures.fills q) (holds_parts e rest q) (begins_parts e rest q) (long_entries e rest q before.proper);
    }

pub returns-clause-fills : goal.returns-clause-fills
returns-clause-fills c = λ q.
    let m = c.args.replicas.now in
    let o = c.args.others.now in
    let new = c.loop-replica.replicas in
    let rest = c.loop-replica.replica-iterator in
    let gives = c.into_iter-replica-iterator.ensures.into_iter_gives in
    let f = fill_done (runs_at m q) (runs_at new q) (runs_in rest q) (runs_in o.entries q) (ap (λ s. runs_in s q) c.in-None.ensures.steps.0) (c.loop-replica.invariant.filling q) in
    record {
      apart = f.apart;
      counts = λ n. f.counts n ∙ ap (λ b. holds (runs_at m q) n || b) (in_entries o q n gives.6);
      room = f.room;
      hollow = f.hollow;
      cleared = f.cleared;
    }
