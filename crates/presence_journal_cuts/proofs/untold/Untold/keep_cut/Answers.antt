use Rattle.presence_journal_cuts.proofs.UntoldLemmas.{goes_on, cut_kept, cut_stays}
use Rattle.presence_journal_cuts.proofs.untold.Untold.keep_cut.Goals as goal

pub push-requires : goal.push-requires
push-requires c = goes_on c.args.self.now c.in_ok-delta.delta c.requires c.in_ok-delta.ensures.next

pub returns-clause-ok : goal.returns-clause-ok
returns-clause-ok c = cut_kept c.push.result c.args.self.now c.args.set.now c.push.new.self c.in_ok-delta.delta c.in_ok-delta.ensures.cut c.live-live.ensures.delta c.push.ensures.ok

pub returns-clause-err : goal.returns-clause-err
returns-clause-err c = cut_stays c.push.result c.args.self.now c.push.new.self c.push.ensures.err
