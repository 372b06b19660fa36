use Rattle.std.proofs.Common.{subst, ◌-◌, List, length, slice_get, ◌∙◌, ap, arith}
use Rattle.presence_journal.specs.Steps.{Entry}
use Rattle.presence_journal.specs.Table.{IsLegal}
use Rattle.presence_journal.proofs.HistoryLemmas.{last_number-some, last_number-none, last_number-limit}
use Rattle.presence_journal.proofs.journal.Journal.last_number.Goals as goal

pub returns-in-Some-clause-number : goal.returns-in-Some-clause-number
returns-in-Some-clause-number c =
    let j = c.self.inside in
    last_number-some j.start j.entries c.args.self.now c.in-Some.entry.now c.self.view_is (c.in-Some.ensures.value ∙ ap (λ (es : List Entry). slice_get es (length es - 1)) c.as_slice.ensures.value)

pub returns-in-None-clause-number : goal.returns-in-None-clause-number
returns-in-None-clause-number c =
    let j = c.self.inside in
    last_number-none j.start j.entries c.args.self.now c.self.view_is (omega (arith, c.in-None.ensures.item.3, ap length c.as_slice.ensures.value))

pub returns-in-Some-clause-limit : goal.returns-in-Some-clause-limit
returns-in-Some-clause-limit c = omega (arith, returns-in-Some-clause-number c, last_number-limit c.args.self.now (subst IsLegal c.self.view_is c.self.invariant.legal))

pub returns-in-None-clause-limit : goal.returns-in-None-clause-limit
returns-in-None-clause-limit c = omega (arith, returns-in-None-clause-number c, last_number-limit c.args.self.now (subst IsLegal c.self.view_is c.self.invariant.legal))
