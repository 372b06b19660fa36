use Rattle.std.proofs.Common.{◌≡◌, ℕ, List, ap, sym, subst, ◌∙◌, refl}
use Rattle.dot_context.specs.Runs.{AreLong}
use Rattle.delta_range.specs.Deltas.{GoesOn}
use Rattle.delta_range.specs.Longest.{longest}
use Rattle.delta_range.proofs.RunFacts.{long_runs, longest_runs}
use Rattle.presence_base.specs.declared.dots.Replica.{Replica}
use Rattle.presence_journal_cuts.specs.Cuts.{IsCut}
use Rattle.presence_journal_cuts.specs.Parting.{AreVacant, row_in}
use Rattle.presence_journal_cuts.specs.declared.untold.Untold.{Untold}
use Rattle.presence_journal_cuts.specs.Untold.{IsOfOne}
use Rattle.presence_journal_cuts.proofs.UntoldLemmas.{told_keeps, told_cut}
use Rattle.presence_journal_cuts.proofs.untold.Untold.cut.Goals as goal

long : (u : Untold) (runs gone : List (ℕ × ℕ)) → IsOfOne u → runs ≡ u.older.items → gone ≡ longest runs → AreLong gone
long u runs gone one e f = subst AreLong (sym (f ∙ ap longest e)) (long_runs 0 (longest u.older.items) (longest_runs u.older.items one.kept.low.0))

pub vacant_of-requires : goal.vacant_of-requires
vacant_of-requires c =
    subst AreLong (sym c.deref-2.ensures.value)
    (long c.args.self.now c.in_ok-runs.runs.items c.in_ok-gone.gone.items c.requires (c.in_ok-runs.ensures ∙ c.deref.ensures.value) c.in_ok-gone.ensures)

pub new-requires : goal.new-requires
new-requires c =
    let runs : c.in_ok-runs.runs.items ≡ c.args.self.now.older.items = c.in_ok-runs.ensures ∙ c.deref.ensures.value in
    told_keeps c.args.self.now (row_in c.args.set.now c.args.self.now.own) c.deref-2.result.now c.in_ok-older.older.items c.in_ok-rows.rows.items c.requires (c.deref-2.ensures.value ∙ (c.in_ok-gone.ensures ∙ ap longest runs)) c.in_ok-older.ensures c.in_ok-rows.ensures.rows c.in_ok-rows.ensures.ordered

pub returns-clause-cut : goal.returns-clause-cut
returns-clause-cut c =
    let runs : c.in_ok-runs.runs.items ≡ c.args.self.now.older.items = c.in_ok-runs.ensures ∙ c.deref.ensures.value in
    λ h kept has. subst (IsCut h) (sym c.new.ensures)
    (told_cut h c.args.self.now c.args.set.now c.deref-2.result.now c.in_ok-older.older.items c.in_ok-rows.rows.items kept has (c.deref-2.ensures.value ∙ (c.in_ok-gone.ensures ∙ ap longest runs)) c.in_ok-older.ensures c.in_ok-rows.ensures.rows c.in_ok-rows.ensures.ordered)

pub returns-clause-next : goal.returns-clause-next
returns-clause-next c = subst (GoesOn c.args.self.now.own c.args.self.now.last) (sym c.new.ensures) (record { owned = refl; begins = refl })
