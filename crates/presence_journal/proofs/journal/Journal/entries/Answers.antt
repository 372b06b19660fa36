use Rattle.std.proofs.Common.{◌≡◌, length, arith, sym, ◌∙◌, ap, subst}
use Rattle.presence_journal.specs.Steps.{Start}
use Rattle.presence_journal.specs.History.{Begin, start_of, onto}
use Rattle.presence_journal.specs.Table.{IsLegal, AreWithinLimits}
use Rattle.presence_journal.proofs.HistoryLemmas.{start_of-onto, entries_here}
use Rattle.presence_journal.proofs.journal.Journal.entries.Goals as goal

pub returns-clause-history : goal.returns-clause-history
returns-clause-history c =
    let j = c.self.inside in
    let begins : start_of c.args.self.now ≡ j.start = ap start_of (sym c.self.view_is) ∙ start_of-onto (Begin j.start) j.entries in
    ap (λ (s : Start). onto (Begin s) c.as_slice.result.now) begins ∙ (ap (onto (Begin j.start)) c.as_slice.ensures.value ∙ c.self.view_is)

pub returns-clause-count : goal.returns-clause-count
returns-clause-count c =
    let j = c.self.inside in
    omega (arith, entries_here j.start j.entries c.args.self.now c.self.view_is, ap length c.as_slice.ensures.value)

pub returns-clause-legal : goal.returns-clause-legal
returns-clause-legal c = subst IsLegal c.self.view_is c.self.invariant.legal

pub returns-clause-limits : goal.returns-clause-limits
returns-clause-limits c = subst AreWithinLimits c.self.view_is c.self.invariant.limits
