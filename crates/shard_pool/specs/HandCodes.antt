-- How the logic stores the models of this crate.
use Rattle.std.specs.Coded.{Coded, code_by, coded_list, coded_ℕ, coded×}
use Rattle.std.specs.Prelude.{List, refl, ℕ}
use Rattle.shard_pool_settled.specs.contracts.receipt.Receipt as one_receipt
use Rattle.shard_pool_settled.specs.declared.receipt.Receipt.{Receipt}
use Rattle.shard_pool.specs.Hands.{Hand}

abbrev pub hand_code : Coded Hand
hand_code = code_by (ℕ × (ℕ × (List Receipt × ℕ)))
    (coded× coded_ℕ (coded× coded_ℕ (coded× (coded_list one_receipt.the_row.coded) coded_ℕ)))
    (λ h. (h.seat, (h.shard, (h.receipts, h.share))))
    (λ p. record { seat = p.0; shard = p.1.0; receipts = p.1.1.0; share = p.1.1.1 }) (λ _. refl)
