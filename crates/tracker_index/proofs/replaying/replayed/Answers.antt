use Rattle.presence_journal.specs.History.{Begin}
use Rattle.presence_journal.proofs.HistoryLemmas.{legal_before}
use Rattle.tracker_index.proofs.ReplayLemmas.{kept_none, can_replay, kept_more, kept_all}
use Rattle.tracker_index.proofs.replaying.replayed.Goals as goal

pub kept_of-requires : goal.kept_of-requires
kept_of-requires c = legal_before (Begin c.args.start.now) c.args.entries.now c.requires

pub loop-entry-init : goal.loop-entry-init
loop-entry-init c = kept_none c.args.start.now c.args.entries.now c.in_ok-parts.parts c.in_ok-parts.ensures.stage c.in_ok-parts.ensures.kept

pub go_on-requires : goal.go_on-requires
go_on-requires c =
    let l = c.loop-entry in
    can_replay c.args.start.now c.args.entries.now l.entry-index c.entry-item.result l.parts c.requires c.loop-entry-test.true c.entry-item.is l.invariant

pub loop-entry-preserved : goal.loop-entry-preserved
loop-entry-preserved c =
    let l = c.loop-entry in
    kept_more c.args.start.now c.args.entries.now l.entry-index c.entry-item.result l.parts c.requires c.loop-entry-test.true c.entry-item.is l.invariant
    c.go_on.new.self c.in_ok-go_on.ensures.kept c.in_ok-go_on.ensures.stage

pub returns-clause-kept : goal.returns-clause-kept
returns-clause-kept c =
    let l = c.loop-entry in
    kept_all c.args.start.now c.args.entries.now l.entry-index l.parts c.loop-entry-test.false l.invariant

pub returns-clause-stage : goal.returns-clause-stage
returns-clause-stage c = c.loop-entry.invariant.done
