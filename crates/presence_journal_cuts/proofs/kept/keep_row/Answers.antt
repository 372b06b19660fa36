use Rattle.std.proofs.Common.{sym, ◌∙◌}
use Rattle.std.specs.BTreeMap.{get}
use Rattle.std.proofs.lemmas.Result.{on_ok_weaker}
use Rattle.presence_base.specs.Order.{dot_cmp}
use Rattle.presence_journal_cuts.proofs.Starts.{row_stays, row_comes}
use Rattle.presence_journal_cuts.proofs.kept.keep_row.Goals as goal

pub returns-then-contains_key : goal.returns-then-contains_key
returns-then-contains_key c = λ d. row_stays (get dot_cmp c.args.rows.now) c.args.row.now d (sym c.contains_key.ensures ∙ c.if-contains_key.true)

pub returns : goal.returns
returns c =
    on_ok_weaker c.put_row.result
    (λ put d. row_comes (get dot_cmp c.args.rows.now) (get dot_cmp c.put_row.new.rows) c.args.row.now c.in_ok-row.row d (sym c.contains_key.ensures ∙ c.if-contains_key.false) c.in_ok-row.ensures.cases (put d))
    c.put_row.ensures.ok
