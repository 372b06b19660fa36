use Rattle.std.proofs.lemmas.Result.{on_ok_weaker}
use Rattle.presence_journal_cuts.proofs.UntoldLemmas.{kept_to, one_before, rest_uncut}
use Rattle.presence_journal_cuts.proofs.untold.Untold.apply.Goals as goal

pub keep_cut-requires : goal.keep_cut-requires
keep_cut-requires c = one_before c.args.self.now c.args.entry.now c.requires.follows

pub returns-in-CutAt-clause-ok : goal.returns-in-CutAt-clause-ok
returns-in-CutAt-clause-ok c =
    kept_to c.args.self.now c.keep_cut.new.self c.take_cut.new.self c.args.entry.now c.in-CutAt.field-0 c.in-CutAt.to c.args.set.now c.in-CutAt.is c.in_ok-keep_cut.ensures.ok c.take_cut.ensures

pub commit-requires-clause-other : goal.commit-requires-clause-other
commit-requires-clause-other c = rest_uncut c.args.entry.now.outcome c.in_default.not-CutAt c.requires.plain

pub returns-clause-ok : goal.returns-clause-ok
returns-clause-ok c = on_ok_weaker c.commit.result (λ f. f c.args.set.now) c.commit.ensures.ok
