use Rattle.std.proofs.Common.{sym, ◌∙◌}
use Rattle.orswot_core.proofs.RowFacts.{had_first, gets_first, on_ok}
use Rattle.orswot_core.proofs.joins.keep_first.Goals as goal

pub returns-then-contains_key : goal.returns-then-contains_key
returns-then-contains_key c = λ q. had_first c.args.live.now c.args.row.now q (sym c.contains_key.ensures ∙ c.if-contains_key.true)

pub returns : goal.returns
returns c = on_ok c.insert_row.result
    (λ e q. gets_first c.args.live.now c.insert_row.new.live c.args.row.now c.in_ok-row.row q (sym c.contains_key.ensures ∙ c.if-contains_key.false) c.in_ok-row.ensures.cases (e q))
    c.insert_row.ensures.ok
