use Rattle.std.proofs.lemmas.Result.{IfOk-weaker}
use Rattle.presence_journal_cuts.specs.Parting.{row_in, AreVacant}
use Rattle.presence_journal_cuts.specs.ToldParts.{row_of_count}
use Rattle.presence_journal_cuts.proofs.Vacating.{vacant_own}
use Rattle.presence_journal_cuts.proofs.cut.walk_vacant.Goals as goal

pub returns : goal.returns
returns c =
    IfOk-weaker c.vacant_of.result
    (λ v. AreVacant (row_in c.in_ok-set.set c.own.result) c.args.runs.now v.items)
    (λ v. AreVacant (row_of_count c.args.journal.now) c.args.runs.now v.items)
    (λ v a. vacant_own c.args.journal.now c.in_ok-set.set c.own.result c.args.runs.now v.items c.own.ensures c.in_ok-set.ensures a)
    c.vacant_of.ensures
