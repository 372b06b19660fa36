use Rattle.std.proofs.Common.{◌∙◌, ap}
use Rattle.std.specs.Map.{keys_of}
use Rattle.std.proofs.lemmas.Result.{IfOk-weaker}
use Rattle.presence_journal.specs.History.{Begin, onto}
use Rattle.presence_journal.specs.Table.{reborn_from}
use Rattle.presence_journal_known.proofs.PairsLemmas.{few_own_rows, own_pairs_are}
use Rattle.presence_journal_known.proofs.rebirths.pairs_after.Goals as goal

pub number_dots-requires : goal.number_dots-requires
number_dots-requires c =
    few_own_rows (onto (Begin c.args.start.now) c.args.entries.now) c.in_ok-set.set c.own_of-own.result c.rows_of.result
    c.requires c.in_ok-set.ensures c.own_of-own.ensures c.rows_of.ensures

pub returns : goal.returns
returns c =
    IfOk-weaker c.number_dots.result _ _ (λ ps same.
    own_pairs_are (onto (Begin c.args.start.now) c.args.entries.now) c.in_ok-set.set c.own_of-own.result c.args.incarnation c.rows_of.result ps
    c.in_ok-set.ensures c.own_of-own.ensures c.rows_of.ensures
    (same ∙ ap (λ r. reborn_from r 0 (keys_of c.rows_of.result)) c.life-new.ensures))
    c.number_dots.ensures
