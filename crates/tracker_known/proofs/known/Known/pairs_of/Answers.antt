use Rattle.std.proofs.Common.{◌∙◌, ap}
use Rattle.std.specs.Map.{keys_of}
use Rattle.presence_journal.specs.Table.{reborn_from}
use Rattle.tracker_known.proofs.Results.{if_ok}
use Rattle.tracker_known.proofs.ToldAgainLemmas.{few_rows, pairs_are}
use Rattle.tracker_known.proofs.known.Known.pairs_of.Goals as goal

pub number_dots-requires : goal.number_dots-requires
number_dots-requires c = few_rows c.args.self.now c.rows_of.result c.rows_of.ensures c.requires

pub returns : goal.returns
returns c =
    if_ok _ _ (λ ps same h known.
    pairs_are h c.args.self.now c.args.incarnation c.rows_of.result ps c.rows_of.ensures
    (same ∙ ap (λ r. reborn_from r 0 (keys_of c.rows_of.result)) c.reborn-new.ensures) known)
    c.number_dots.result c.number_dots.ensures
