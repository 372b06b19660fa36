use Rattle.std.proofs.Common.{sym, ◌∙◌}
use Rattle.std.specs.BTreeMap.{get}
use Rattle.std.proofs.lemmas.Result.{on_ok_weaker}
use Rattle.presence_base.specs.Order.{dot_cmp}
use Rattle.presence_journal_cuts.proofs.Starts.{recent_stays, recent_comes}
use Rattle.presence_journal_cuts.proofs.kept.keep_recent.Goals as goal

pub returns-then-not-is_recent : goal.returns-then-not-is_recent
returns-then-not-is_recent c = λ d. recent_stays c.args.start.now (get dot_cmp c.args.rows.now) c.args.row.now d (sym c.is_recent.ensures ∙ c.if-not-is_recent.true)

pub returns : goal.returns
returns c =
    on_ok_weaker c.keep_row.result
    (λ put d. recent_comes c.args.start.now (get dot_cmp c.args.rows.now) (get dot_cmp c.keep_row.new.rows) c.args.row.now d (sym c.is_recent.ensures ∙ c.if-not-is_recent.false) (put d))
    c.keep_row.ensures
