use Rattle.std.proofs.Common.{sym, subst, ◌&&◌, refl}
use Rattle.presence_base.specs.Order.{same_replica}
use Rattle.dot_context.specs.Runs.{begins, Sweeps}
use Rattle.dot_context.specs.Sets.{runs_at}
use Rattle.dot_context.proofs.OuterFacts.{nothing_lost, some_out}
use Rattle.dot_context.proofs.replicas.sweep_in.Goals as goal

pub returns-then-sweep_runs-clause-some : goal.returns-then-sweep_runs-clause-some
returns-then-sweep_runs-clause-some c =
    some_out c.sweep_runs.new.replicas c.take_out.new.replicas c.args.replica.now c.take_out.ensures (λ q other. c.if-sweep_runs.ensures.some q other)

pub returns-then-sweep_runs-clause-sweeps : goal.returns-then-sweep_runs-clause-sweeps
returns-then-sweep_runs-clause-sweeps c = λ q.
    subst (λ s. Sweeps (runs_at c.args.replicas.now q) s (λ g. same_replica q c.args.replica.now && begins c.args.runs.now g))
    (sym (nothing_lost c.sweep_runs.new.replicas c.take_out.new.replicas c.args.replica.now c.take_out.ensures (c.if-sweep_runs.ensures.none refl) q)) (c.if-sweep_runs.ensures.sweeps q)
