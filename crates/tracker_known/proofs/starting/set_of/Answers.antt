use Rattle.presence_journal_known.proofs.WalkedLemmas.{kept}
use Rattle.tracker_known.proofs.StartLemmas.{covered_begin}
use Rattle.presence_journal.specs.History.{Begin}
use Rattle.tracker_known.proofs.starting.set_of.Goals as goal

pub returns : goal.returns
returns c =
    covered_begin (Begin c.args.start.now) c.args.others.now c.join.new.self c.forget_gone.new.set c.requires
    (kept c.args.start.now c.new-set.result c.join.new.self c.new-set.ensures c.in_ok-join.ensures.ok) c.forget_gone.ensures
