use Rattle.std.proofs.Common.{ℕ, nat_eq, List, ap, sym, subst, ◌∙◌}
use Rattle.std.specs.Map.{lookup}
use Rattle.presence_journal.specs.declared.entry.Start.{Start}
use Rattle.presence_journal.specs.History.{Begin, start_of}
use Rattle.presence_journal.proofs.Walking.{reached_none, reached_more, reached_all}
use Rattle.presence_journal_cuts.specs.Chains.{AreUpTo}
use Rattle.presence_journal_cuts.proofs.Goings.{Gone, gone_start, gone_then}
use Rattle.presence_journal_cuts.proofs.Keeping.{start_legal}
use Rattle.presence_journal_cuts.proofs.older.walk_older.Goals as goal

abbrev Kept : Type 0
Kept = List (ℕ × List (ℕ × ℕ))

pub loop-entry-init : goal.loop-entry-init
loop-entry-init c =
    let s = start_of c.args.journal.now in
    let m = c.in_ok-chains.chains in
    let rs = c.in_ok-runs.runs.items in
    reached_none s c.args.journal.now c.entries-entries.result.now (Gone c.start-start.result.now.last_cut m rs) c.entries-entries.ensures.history
    (subst (λ (n : ℕ). Gone n m rs (Begin s)) (ap (λ (b : Start). b.last_cut) (sym c.start-start.ensures))
    (gone_start s m rs (start_legal c.args.journal.now c.entries-entries.ensures.legal)
    (λ k. c.in_ok-chains.ensures k ∙ (ap (λ (xs : Kept). lookup (nat_eq k) xs) c.as_slice.ensures ∙ ap (λ (b : Start). lookup (nat_eq k) b.chains) c.start-start.ensures))
    (c.in_ok-runs.ensures ∙ ap (λ (b : Start). b.older) c.start-start.ensures)))

pub loop-entry-preserved : goal.loop-entry-preserved
loop-entry-preserved c =
    let l = c.loop-entry in
    let e = c.entry-item.result in
    reached_more c.args.journal.now c.entries-entries.result.now l.entry-index e (Gone l.last l.chains l.runs.items) (Gone c.last_after-last.result c.hand_on.new.chains c.go_out.new.runs.items) c.entries-entries.ensures.legal c.loop-entry-test.true c.entry-item.is
    (λ h legal. gone_then l.last c.last_after-last.result l.chains c.hand_on.new.chains l.runs.items c.go_out.new.runs.items h e c.last_after-last.ensures c.in_ok-go_out.ensures.counts c.in_ok-go_out.ensures.kept c.in_ok-hand_on.ensures) l.invariant

pub returns-clause-counts : goal.returns-clause-counts
returns-clause-counts c =
    let l = c.loop-entry in
    (reached_all c.args.journal.now c.entries-entries.result.now l.entry-index (Gone l.last l.chains l.runs.items) c.loop-entry-test.false l.invariant).counts

pub returns-clause-kept : goal.returns-clause-kept
returns-clause-kept c =
    let l = c.loop-entry in
    let g = reached_all c.args.journal.now c.entries-entries.result.now l.entry-index (Gone l.last l.chains l.runs.items) c.loop-entry-test.false l.invariant in
    subst (λ (n : ℕ). AreUpTo n l.runs.items) g.cut g.kept
