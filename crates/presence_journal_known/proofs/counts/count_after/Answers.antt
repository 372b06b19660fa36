use Rattle.std.proofs.Common.{ℕ, sym, subst, refl}
use Rattle.presence_journal.specs.History.{Begin, Then, onto}
use Rattle.presence_journal.proofs.Walking.{IsCounted, counted_start, counted_more, reached_none, reached_more}
use Rattle.presence_journal.proofs.HistoryLemmas.{legal_before}
use Rattle.presence_journal_known.proofs.counts.count_after.Goals as goal

pub loop-entry-init : goal.loop-entry-init
loop-entry-init c =
    let s = c.args.start.now in
    let es = c.args.entries.now in
    reached_none s (onto (Begin s) es) es (IsCounted s.count) refl (counted_start s (legal_before (Begin s) es c.requires))

pub loop-entry-preserved : goal.loop-entry-preserved
loop-entry-preserved c =
    let l = c.loop-entry in
    let es = c.args.entries.now in
    reached_more (onto (Begin c.args.start.now) es) es l.entry-index c.entry-item.result (IsCounted l.used) (IsCounted c.used_after-used.result) c.requires c.loop-entry-test.true c.entry-item.is
    (λ h legal counted. subst (λ (n : ℕ). IsCounted n (Then h c.entry-item.result)) (sym c.used_after-used.ensures) (counted_more l.used h c.entry-item.result legal counted)) l.invariant
