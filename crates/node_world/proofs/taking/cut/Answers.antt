use Rattle.presence_journal_cuts.specs.Cuts.{IsCut}
use Rattle.node_world.proofs.Wholes.{cut_short, cut_full}
use Rattle.node_world.proofs.taking.cut.Goals as goal

pub returns-in_ok-full_journal-in-Err-clause-cut : goal.returns-in_ok-full_journal-in-Err-clause-cut
returns-in_ok-full_journal-in-Err-clause-cut c =
    cut_full c.args.form c.args.shard.now c.cut.new.self c.in-Err.fault c.in_ok-full_journal-in-Err.ensures.full (cut_short (IsCut c.args.shard.now) c.args.shard.now c.cut.new.self c.in-Err.fault c.in-Err.ensures.step c.in-Err.ensures.answer) c.in-Err.ensures.due
