use Rattle.std.proofs.lemmas.Result.{IfOk-weaker}
use Rattle.tracker_index.proofs.PartLemmas.{rows_live}
use Rattle.tracker_index.proofs.parts.untold_again.Goals as goal

pub reborn-requires : goal.reborn-requires
reborn-requires c = (c.rows_of.ensures c.requires.history c.requires.known).in_order

pub returns : goal.returns
returns c =
    IfOk-weaker c.reborn.result _ _ (λ u begins h e legal again known.
    begins h e legal again (c.own-own.ensures _ known) (c.count.ensures _ known)
    (rows_live _ c.own-own.result c.rows_of.result (c.own-own.ensures _ known) (c.rows_of.ensures _ known)))
    c.reborn.ensures
