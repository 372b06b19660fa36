use Rattle.std.proofs.Common.{◌≡◌, ℕ, List, sym, subst, ◌∙◌}
use Rattle.delta_range.specs.Deltas.{IsDelta}
use Rattle.dot_context.specs.Runs.{AreLong}
use Rattle.delta_range.specs.Longest.{longest}
use Rattle.delta_range.proofs.RunFacts.{long_runs, longest_runs}
use Rattle.presence_journal.specs.History.{History}
use Rattle.presence_journal_cuts.specs.Cuts.{IsCut}
use Rattle.presence_journal_cuts.specs.Parting.{AreVacant}
use Rattle.presence_journal_cuts.specs.ToldParts.{row_of_count}
use Rattle.presence_journal_cuts.proofs.Keeping.{cut_keeps, cut_is}
use Rattle.presence_journal_cuts.proofs.cut.walk_cut.Goals as goal

vacant : (h : History) (runs gone free lent : List (ℕ × ℕ)) → lent ≡ gone → gone ≡ longest runs → AreVacant (row_of_count h) lent free → AreVacant (row_of_count h) (longest runs) free
vacant h runs gone free lent e f v = subst (λ (rs : List (ℕ × ℕ)). AreVacant (row_of_count h) rs free) (e ∙ f) v

pub longest-requires : goal.longest-requires
longest-requires c = c.in_ok-runs.ensures.kept.0

pub new-requires : goal.new-requires
new-requires c =
    let h = c.args.journal.now in
    subst IsDelta (λ i. record { owner = sym c.own.ensures i; from = sym c.walk_last_cut-from.ensures i; to = sym c.walk_count-to.ensures.count i; older = c.in_ok-older.older.items; live = c.in_ok-rows.rows.items })
    (cut_keeps h c.entries-entries.ensures.legal (row_of_count h) c.in_ok-runs.runs.items c.in_ok-older.older.items c.in_ok-rows.rows.items c.in_ok-runs.ensures.kept (vacant h c.in_ok-runs.runs.items c.in_ok-gone.gone.items c.in_ok-older.older.items c.deref.result.now c.deref.ensures.value c.in_ok-gone.ensures c.in_ok-older.ensures) c.in_ok-rows.ensures.rows c.in_ok-rows.ensures.ordered)

pub returns : goal.returns
returns c =
    let h = c.args.journal.now in
    subst (IsCut h) (sym c.new.ensures)
    (subst (IsCut h) (λ i. record { owner = sym c.own.ensures i; from = sym c.walk_last_cut-from.ensures i; to = sym c.walk_count-to.ensures.count i; older = c.in_ok-older.older.items; live = c.in_ok-rows.rows.items })
    (cut_is h c.in_ok-runs.runs.items c.in_ok-older.older.items c.in_ok-rows.rows.items c.in_ok-runs.ensures.kept c.in_ok-runs.ensures.counts (vacant h c.in_ok-runs.runs.items c.in_ok-gone.gone.items c.in_ok-older.older.items c.deref.result.now c.deref.ensures.value c.in_ok-gone.ensures c.in_ok-older.ensures) c.in_ok-rows.ensures.rows c.in_ok-rows.ensures.ordered))

pub walk_vacant-requires : goal.walk_vacant-requires
walk_vacant-requires c = subst AreLong (sym (c.deref.ensures.value ∙ c.in_ok-gone.ensures)) (long_runs 0 (longest c.in_ok-runs.runs.items) (longest_runs c.in_ok-runs.runs.items c.in_ok-runs.ensures.kept.0))
