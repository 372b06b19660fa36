use Rattle.std.proofs.Common.{sym, subst}
use Rattle.std.specs.Prelude.{All}
use Rattle.shard_pool.specs.Unseated.{IsOf}
use Rattle.shard_pool.proofs.Settled.{put_behind}
use Rattle.shard_pool.proofs.settling.put_if.Goals as goal
use Rattle.shard_pool.proofs.settling.put_if.Goals.{in-Ok, in-Err}

pub returns-clause-all : goal.returns-clause-all
returns-clause-all c = elim c.match-push.branch [
  | in-Ok w ↦ rw w.result-is
      (subst (λ js. All (IsOf c.args.own.now.name) js) (sym w.in-Ok.ensures.items)
      (put_behind c.args.own.now.name c.args.journals.now.items c.args.journal c.requires.before c.requires.one))
  | in-Err w ↦ rw w.result-is (tt {0})
]
