use Rattle.std.proofs.Common.{◌≡◌, sym, ◌∙◌, ap}
use Rattle.presence_journal.specs.declared.entry.Start.{Start}
use Rattle.presence_journal.specs.History.{start_of, last_cut}
use Rattle.presence_journal.proofs.Walking.{reached_none, reached_more, reached_all}
use Rattle.presence_journal_cuts.proofs.Histories.{last_cut-begin, last_more}
use Rattle.presence_journal_cuts.proofs.last.walk_last_cut.Goals as goal

pub loop-entry-init : goal.loop-entry-init
loop-entry-init c =
    let s = start_of c.args.journal.now in
    reached_none s c.args.journal.now c.entries-entries.result.now (λ h. c.start-start.result.now.last_cut ≡ last_cut h) c.entries-entries.ensures.history
    (ap (λ (b : Start). b.last_cut) c.start-start.ensures ∙ sym (last_cut-begin s))

pub loop-entry-preserved : goal.loop-entry-preserved
loop-entry-preserved c =
    let l = c.loop-entry in
    let e = c.entry-item.result in
    reached_more c.args.journal.now c.entries-entries.result.now l.entry-index e (λ h. l.last ≡ last_cut h) (λ h. c.last_after-last.result ≡ last_cut h) c.entries-entries.ensures.legal c.loop-entry-test.true c.entry-item.is
    (λ h legal before. last_more l.last c.last_after-last.result h e c.last_after-last.ensures before) l.invariant

pub returns : goal.returns
returns c = reached_all c.args.journal.now c.entries-entries.result.now c.loop-entry.entry-index (λ h. c.loop-entry.last ≡ last_cut h) c.loop-entry-test.false c.loop-entry.invariant
