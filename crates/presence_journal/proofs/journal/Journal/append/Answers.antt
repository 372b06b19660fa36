use Rattle.std.proofs.Common.{◌≡◌, ◌+◌, Result, Ok, Err, List, [], ◌∷◌, ◌++◌, OnOk, OnErr, Some, true, false, sym, ◌∙◌, ap, subst, arith}
use Rattle.presence_journal.specs.Steps.{Entry, Start}
use Rattle.presence_journal.specs.History.{History, Begin, onto, last_number, is_full}
use Rattle.presence_journal.specs.StepLimits.{is_within_limits}
use Rattle.presence_journal.specs.Table.{IsKept, outcome_of, after}
use Rattle.presence_journal.proofs.HistoryLemmas.{room_below, within_step, pushed_legal, pushed_within, pushed_after}
use Rattle.presence_journal.proofs.journal.Journal.append.Goals as goal

-- the entries after a push that may have failed
keeps : {T E : Type 0} (r : Result T E) (s : Start) (es new : List Entry) (e : Entry) (whole : History) → onto (Begin s) es ≡ whole → IsKept whole → outcome_of whole e.step ≡ Some e.outcome → e.number ≡ last_number whole + 1 → is_full whole ≡ false → is_within_limits e.step ≡ true → OnOk r (new ≡ es ++ e ∷ []) → OnErr r (new ≡ es) → IsKept (onto (Begin s) new)
keeps (Ok x) s es new e whole w k o n f i p q = subst (λ xs. IsKept (onto (Begin s) xs)) (sym p) (record { legal = pushed_legal s es e whole w k.legal o n f (within_step e.step i); limits = pushed_within s es e whole w k.limits i })
keeps (Err x) s es new e whole w k o n f i p q = subst (λ xs. IsKept (onto (Begin s) xs)) (sym q) (subst IsKept (sym w) k)

goes_on : {T E : Type 0} (r : Result T E) (s : Start) (es new : List Entry) (e : Entry) (whole : History) → onto (Begin s) es ≡ whole → outcome_of whole e.step ≡ Some e.outcome → e.number ≡ last_number whole + 1 → is_full whole ≡ false → OnOk r (new ≡ es ++ e ∷ []) → OnOk r (onto (Begin s) new ≡ after whole e.step e.seat)
goes_on (Ok x) s es new e whole w o n f p = ap (onto (Begin s)) p ∙ pushed_after s es e whole w o n f
goes_on (Err x) s es new e whole w o n f p = p

pub overflow_add-number : goal.overflow_add-number
overflow_add-number c = omega (arith, c.last_number-number.ensures.number, room_below c.args.self.now c.requires.room)

pub invariant_of-self : goal.invariant_of-self
invariant_of-self c =
    let j = c.self.inside in
    let e : Entry = record { number = c.last_number-number.result + 1; seat = c.args.seat; step = c.args.step; outcome = c.args.outcome } in
    keeps c.push.result j.start j.entries c.push.new.self e c.args.self.now c.self.view_is (subst IsKept c.self.view_is c.self.invariant) c.requires.legal (omega (arith, c.last_number-number.ensures.number)) c.requires.room c.requires.step c.push.ensures.ok c.push.ensures.err

pub returns-clause-ok : goal.returns-clause-ok
returns-clause-ok c =
    let j = c.self.inside in
    let e : Entry = record { number = c.last_number-number.result + 1; seat = c.args.seat; step = c.args.step; outcome = c.args.outcome } in
    goes_on c.push.result j.start j.entries c.push.new.self e c.args.self.now c.self.view_is c.requires.legal (omega (arith, c.last_number-number.ensures.number)) c.requires.room c.push.ensures.ok
