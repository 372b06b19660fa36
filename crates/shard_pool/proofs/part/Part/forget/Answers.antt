use Rattle.std.proofs.Common.{rules, List, ap, ◌∙◌}
use Rattle.std.proofs.lemmas.Fn.{filter_same}
use Rattle.shard_pool_settled.specs.declared.receipt.Receipt.{Receipt}
use Rattle.shard_pool.specs.Hands.{Hand, without_receipts}
use Rattle.shard_pool.proofs.part.Part.forget.Goals as goal

pub returns : goal.returns
returns g c =
    let part = c.self.inside in
    let with_receipts : List Receipt → Hand = λ rs. record { seat = part.seat; shard = part.shard; receipts = rs; share = part.share.amount } in
    ap with_receipts (filter_same _ _ _ (λ x b q k. search rules) _ _ c.retain.ensures.filtered)
    ∙ ap (λ (h : Hand). without_receipts h c.args.upto) c.self.view_is
