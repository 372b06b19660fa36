-- One number, one text.
use Rattle.std.proofs.Common.{◌≡◌, ℕ, true, List, ap, is_eq}
use Rattle.std.specs.Ordering.{nat_cmp}
use Rattle.std.specs.Cmp.{nat_cmp_total, Equal-is, tied_itself}
use Rattle.std.specs.FinMap.{nat_cmp-IsAntisymmetric, slice_cmp-IsAntisymmetric}
use Rattle.std.proofs.lemmas.Cmp.{nat_list_cmp_total}
use Rattle.presence_base.specs.Order.{text_cmp, same_text}
use Rattle.serve_rations.specs.Connections.{same_number}

pub same_number-true : (a b : ℕ) → same_number a b ≡ true → a ≡ b
same_number-true a b h = nat_cmp-IsAntisymmetric a b ((Equal-is (nat_cmp a b)).0 h)

pub same_number-refl : (a : ℕ) → same_number a a ≡ true
same_number-refl a = ap is_eq (tied_itself nat_cmp_total a)

pub same_text-true : (a b : List ℕ) → same_text a b ≡ true → a ≡ b
same_text-true a b h = slice_cmp-IsAntisymmetric nat_cmp-IsAntisymmetric a b ((Equal-is (text_cmp a b)).0 h)

pub same_text-refl : (a : List ℕ) → same_text a a ≡ true
same_text-refl a = ap is_eq (tied_itself nat_list_cmp_total a)
